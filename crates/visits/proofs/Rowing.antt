-- Rows: a repetition's visits of itself, each in the place of the one before. What one turn comes to, and what the loop keeps true where nothing is kept.
use mathlib.Core.Path.{◌≡◌, refl, sym, ap, ◌∙◌}
use mathlib.Core.Logic.{◌≢◌, ◌⊎◌, inl, inr}
use mathlib.Core.Bool.{false}
use mathlib.Core.List.{List}
use Prim.Native.Nat.{ℕ, suc, ◌+◌, ◌*◌, ◌<◌, ◌≤◌}
use native.Mathlib.Omega.{arith}
use lib.ListN.{length, set}
use Rattle.meaning.specs.Grammar.{Trees, no_trees, ◌⋈◌, Answer, fail, ok, Note, node}
use Rattle.meaning.specs.Reading.{State, Run, done, after, joined, repeated, apply, way_of, use_rule, visited}
use Rattle.meaning.proofs.Answers.{join_none, join_twice}
use Rattle.cells.specs.Cells.{trees_at}
use Rattle.cells.proofs.Frame.{trees_none}
use Rattle.visits.specs.Given.{Given, kind_in, a_in, nodes_in, keeps_in, grows_in, allowance_in, grammar_in, Fit}
use Rattle.visits.specs.Words.{turns_in, Added, Words, Same}
use Rattle.visits.specs.Says.{Visited, FAILED, STOPPED, Came, reading, uses, applies, opens}
use Rattle.visits.proofs.Frame.{same_none, same_then, same_trees, made_same, made_words, made_stands, written_same, written_words}
use Rattle.visits.proofs.Steps.{came_after, then_match, stopped, came_as, still}
use Rattle.visits.proofs.Nodes.{result, rep_stop, rep_none, rep_empty, rep_on, rep_turn}
use Rattle.visits.proofs.Entering.{enter_effort, enter_open}
use Rattle.visits.proofs.Ready.{node_as}

-- Trees joined to none, and joined twice.
joined_none : (m : Run) → after m (joined no_trees) ≡ m
unfolding after joined
joined_none (Run.effort p s) = refl
joined_none (Run.deep p s) = refl
joined_none (Run.done fail s) = refl
joined_none (Run.done (ok e ts) s) = refl

joined_both : (ts us : Trees) (m : Run) → after m (joined (ts ⋈ us)) ≡ after m (λ q t. after (joined us q t) (joined ts))
unfolding after joined
joined_both ts us (Run.effort p s) = refl
joined_both ts us (Run.deep p s) = refl
joined_both ts us (Run.done fail s) = refl
joined_both ts us (Run.done (ok e vs) s) = ap (λ w. done (ok e w) s) (join_twice ts us vs)

module _ (given : Given) (line : List ℕ) (left i : ℕ) where
  -- The loop where nothing is kept, from the words, position, visits and top with which it began, at those it has now; the trees so far are `list`.
  pub record Row (live : ℕ) (w₀ : List ℕ) (x₀ made₀ top₀ : ℕ) (w : List ℕ) (x list made top : ℕ) : Type 0 where
    pub same : Same given line w₀ w live top₀
    pub words : Words given line w live top
    pub pos_within : x ≤ length line
    pub pos_up : x₀ ≤ x
    pub list_within : list ≤ top
    pub top_up : top₀ ≤ top
    pub made_up : made₀ ≤ made
    pub made_within : made ≤ allowance_in given
    pub cells : top + made₀ ≤ top₀ + made
    pub rest : {w' : List ℕ} {r : Visited} → Came given line w w' live made top r (λ l s. after (applies given line left l i x s) (joined (trees_at w list)))
        → Came given line w₀ w' live made₀ top₀ r (λ l s. applies given line left l i x₀ s)

module _ (given : Given) (line : List ℕ) (fit : Fit given line) (left i : ℕ) (li : i < nodes_in given) (kind : kind_in given i ≡ 6) where
  -- A repetition's application: its child, then itself.
  abbrev row : ℕ → List Note → State → Run
  row x l s = after (reading given line left l (a_in given i) x s) (repeated (reading given line (suc left) l) i x)

  row_is : (x : ℕ) (l : List Note) (s : State) → row x l s ≡ applies given line left l i x s
  unfolding apply
  row_is x l s = ap (apply line (reading given line left l) (reading given line (suc left) l) (uses given line left l) i x s) (sym (node_as given line fit i 6 li kind))

  module _ {w w₁ : List ℕ} {live made top : ℕ} {a : Visited} (x : ℕ) (inside : x ≤ length line) (A : Came given line w w₁ live made top a (λ l s. reading given line left l (a_in given i) x s)) where
    as_row : {w₂ : List ℕ} {r : Visited} → Came given line w w₂ live made top r (row x) → Came given line w w₂ live made top r (λ l s. applies given line left l i x s)
    as_row c = came_as given line fit.short _ c (row_is x)

    -- The child was refused, failed, or matched nothing.
    pub row_stop : a.end ≡ STOPPED → Came given line w w₁ live made top a (λ l s. applies given line left l i x s)
    row_stop h = as_row (rep_stop given line fit (reading given line left) (a_in given i) x A (reading given line (suc left)) i h)

    pub row_none : a.end ≡ FAILED → Came given line w w₁ live made top (result x 0 a.top a.made) (λ l s. applies given line left l i x s)
    row_none h = as_row (rep_none given line fit (reading given line left) (a_in given i) x A (reading given line (suc left)) i h inside)

    pub row_empty : a.end ≡ x → Came given line w w₁ live made top (result x 0 a.top a.made) (λ l s. applies given line left l i x s)
    row_empty h = as_row (rep_empty given line fit (reading given line left) (a_in given i) x A (reading given line (suc left)) i h inside)

    -- It matched: the repetition's own next visit follows, and its trees are joined; then what is done after it.
    pub row_on : a.end < STOPPED → a.end ≢ x → {w₂ : List ℕ} {r : Visited}
        → Came given line w₁ w₂ live a.made a.top r (λ l s. after (reading given line (suc left) l i a.end s) (joined (trees_at w₁ a.list)))
        → Came given line w w₂ live made top r (λ l s. applies given line left l i x s)
    row_on h ne c = as_row (rep_on given line fit (reading given line left) (a_in given i) x A (reading given line (suc left)) i h ne c)

    pub row_turn : a.end < STOPPED → a.end ≢ x → {w₂ : List ℕ} {r : Visited} (k : Answer → State → Run)
        → Came given line w₁ w₂ live a.made a.top r (λ l s. after (reading given line (suc left) l i a.end s) (λ q t. after (joined (trees_at w₁ a.list) q t) k))
        → Came given line w w₂ live made top r (λ l s. after (applies given line left l i x s) k)
    row_turn h ne k c =
        came_as given line fit.short _ (rep_turn given line fit (reading given line left) (a_in given i) x A (reading given line (suc left)) i h ne k c)
        (λ l s. ap (λ m. after m k) (row_is x l s))

  -- The own next visit: none is left for it, or it is counted.
  module _ {w : List ℕ} {live made top : ℕ} (x : ℕ) (k : Answer → State → Run) (words : Words given line w live top) where
    pub turn_effort : made ≤ allowance_in given → x ≤ length line → allowance_in given ≤ made
        → Came given line w w live made top (result STOPPED (11 * 4096 + x) top made) (λ l s. after (reading given line (suc left) l i x s) k)
    turn_effort le inside h = stopped given line fit.short (λ l. k) (enter_effort given line fit (suc left) i x words le inside h) refl

    pub turn_open : made < allowance_in given → live * 3 ≤ 2041 → {w₂ : List ℕ} {r : Visited} → Came given line (set w 2043 (made + 1)) w₂ live (made + 1) top r (λ l s. after (opens given line left l i x s) k)
        → Came given line w w₂ live made top r (λ l s. after (reading given line (suc left) l i x s) k)
    turn_open lt few c = enter_open given line fit (λ m. after m k) (suc left) left i x refl lt few words c

  -- ---- Where nothing is kept.
  module _ (plain : keeps_in given ≡ false) where
    opens_plain : (x : ℕ) (l : List Note) (s : State) → applies given line left l i x s ≡ opens given line left l i x s
    unfolding visited
    opens_plain x l s =
        ap (λ b. apply line (reading given line left l) (reading given line (suc left) l) (use_rule (grammar_in given) line (way_of b (grows_in given)) (reading given line left) l) i x s (node (grammar_in given) i)) plain
        ∙ ap (λ b. visited (grammar_in given) line (way_of b (grows_in given)) (reading given line left) (reading given line (suc left)) l i x s) (sym plain)

    pub row_begins : {live : ℕ} {w : List ℕ} {x made top : ℕ} → Words given line w live top → x ≤ length line → made ≤ allowance_in given → Row given line left i live w x made top w x 0 made top
    row_begins {live} {w} {x} {made} {top} words inside le = record {
      same = same_none given line w live top;
      words = words;
      pos_within = inside;
      pos_up = omega arith;
      list_within = omega arith;
      top_up = omega arith;
      made_up = omega arith;
      made_within = le;
      cells = omega arith;
      rest = λ {w'} {r} c. came_as given line fit.short _ c (λ l s. ap (λ ts. after (applies given line left l i x s) (joined ts)) (trees_none w) ∙ joined_none (applies given line left l i x s));
    }

    module _ {live : ℕ} {w₀ : List ℕ} {x₀ made₀ top₀ : ℕ} {w : List ℕ} {x list made top : ℕ} (g : Row given line left i live w₀ x₀ made₀ top₀ w x list made top) {w₁ : List ℕ} {a : Visited}
        (A : Came given line w w₁ live made top a (λ l s. reading given line left l (a_in given i) x s)) where
      so_far : trees_at w₁ list ≡ trees_at w list
      so_far = same_trees given line A.same list g.list_within

      -- The child was refused: so is the row.
      pub row_refused : a.end ≡ STOPPED → Came given line w₀ w₁ live made₀ top₀ a (λ l s. applies given line left l i x₀ s)
      row_refused h = g.rest (stopped given line fit.short (λ l. joined (trees_at w list)) (row_stop x g.pos_within A h) h)

      -- The row ends here, with the trees so far.
      ended : Came given line w w₁ live made top (result x 0 a.top a.made) (λ l s. applies given line left l i x s)
          → Came given line w₀ w₁ live made₀ top₀ (result x list a.top a.made) (λ l s. applies given line left l i x₀ s)
      unfolding joined
      ended c =
          let sh = fit.short in
          let p = g.pos_within in
          let up = A.top_up in
          g.rest (then_match given line fit.short (λ l. joined (trees_at w list)) c (omega arith)
          (still given line fit.short x list _ A.words A.made_within (omega arith) (λ z. p) (λ z. let m = g.list_within in omega arith)
          (λ l s st. (so_far ∙ sym (ap (λ ts. trees_at w list ⋈ ts) (trees_none w₁) ∙ join_none (trees_at w list)), record { end = refl; inside = p; stands = st }))))

      pub row_ends : (a.end ≡ FAILED) ⊎ (a.end ≡ x) → Came given line w₀ w₁ live made₀ top₀ (result x list a.top a.made) (λ l s. applies given line left l i x₀ s)
      row_ends (inl h) = ended (row_none x g.pos_within A h)
      row_ends (inr h) = ended (row_empty x g.pos_within A h)

      -- Another turn: the trees are joined, and the next visit is refused or counted.
      module _ (h : a.end < STOPPED) (ne : a.end ≢ x) (few : live * 3 ≤ 2041) (low : a.top + turns_in w₁ < allowance_in given) {w₂ : List ℕ} {list₂ top₂ : ℕ}
          (d : Added w₁ w₂ a.top list₂ top₂ (trees_at w₁ list ⋈ trees_at w₁ a.list)) where
        -- A step after the trees were joined.
        joining : {w' : List ℕ} {r : Visited} {m : List Note → State → Run} → Came given line w₂ w' live a.made top₂ r m → Came given line w₁ w' live a.made a.top r m
        joining c = came_after given line fit.short _ (made_same given line {live = live} fit few low d) (omega arith) d.rise c (λ l s st. c.says l s (made_stands given line fit few low d A.words st))

        joined_words : Words given line w₂ live top₂
        joined_words = made_words given line fit few low d A.words

        pub row_effort : allowance_in given ≤ a.made → Came given line w₀ w₂ live made₀ top₀ (result STOPPED (11 * 4096 + a.end) top₂ a.made) (λ l s. applies given line left l i x₀ s)
        row_effort full =
            g.rest (stopped given line fit.short (λ l. joined (trees_at w list))
            (row_on x g.pos_within A h ne (joining (turn_effort a.end (joined (trees_at w₁ a.list)) joined_words A.made_within (A.end_within h) full))) refl)

        abbrev counted : List ℕ
        counted = set w₂ 2043 (a.made + 1)

        trees_now : trees_at counted list₂ ≡ trees_at w list ⋈ trees_at w₁ a.list
        trees_now = same_trees given line (written_same given line 2043 (omega arith) (omega arith) w₂ (a.made + 1) {live = live} {top = top₂} few) list₂ d.within ∙ d.is ∙ ap (λ ts. ts ⋈ trees_at w₁ a.list) so_far

        pub row_turns : a.made < allowance_in given → a.top + made < top + a.made → x ≤ a.end → Row given line left i live w₀ x₀ made₀ top₀ counted a.end list₂ (a.made + 1) top₂
        row_turns lt fewer up =
            let one = d.one in
            let rise = d.rise in
            let c₀ = g.cells in
            let t₀ = g.top_up in
            let t₁ = A.top_up in
            let m₀ = g.made_up in
            let m₁ = A.made_up in
            let p₀ = g.pos_up in
            record {
              same = same_then given line (same_then given line (same_then given line g.same A.same (omega arith) t₀) (made_same given line {live = live} fit few low d) (omega arith) (omega arith))
                  (written_same given line 2043 (omega arith) (omega arith) w₂ (a.made + 1) {live = live} {top = top₂} few) (omega arith) (omega arith);
              words = written_words given line 2043 (omega arith) (omega arith) w₂ (a.made + 1) few joined_words;
              pos_within = A.end_within h;
              pos_up = omega arith;
              list_within = d.within;
              top_up = omega arith;
              made_up = omega arith;
              made_within = omega arith;
              cells = omega arith;
              rest = λ {w'} {r} c. g.rest (row_turn x g.pos_within A h ne (joined (trees_at w list)) (joining
                  (came_as given line fit.short _
                  (turn_open a.end (joined (trees_at counted list₂)) joined_words lt few (came_as given line fit.short _ c (λ l s. ap (λ m. after m (joined (trees_at counted list₂))) (opens_plain a.end l s))))
                  (λ l s. ap (λ ts. after (reading given line (suc left) l i a.end s) (joined ts)) trees_now ∙ joined_both (trees_at w list) (trees_at w₁ a.list) (reading given line (suc left) l i a.end s)))));
            }
