-- One node's application, kind by kind, and a use by whether it becomes live.
use mathlib.Core.Path.{◌≡◌, refl, sym, ap, ◌∙◌}
use mathlib.Core.Logic.{◌≢◌, ◌⊎◌, inl, inr}
use mathlib.Core.Bool.{Bool, true, false}
use mathlib.Core.List.{List}
use Prim.Native.Nat.{ℕ, zero, suc, ◌+◌, ◌*◌, ◌<◌, ◌≤◌, max}
use native.Mathlib.Omega.{arith}
use lib.ListN.{length}
use lib.Dec.{ltb}
use borrow.Author.Tests.{lt-ltb, le-ltb}
use Rattle.meaning.specs.Grammar.{fits}
use Rattle.meaning.specs.Reading.{Run, byte, after, second, otherwise, denied, wrapped, apply, becomes_live, way_of, use_by}
use Rattle.visits.specs.Given.{Given, kind_in, a_in, b_in, root_in, nodes_in, rules_in, keeps_in, grows_in, way_in, allowance_in, grammar_in, left_in, live_in, pos_in, Fit}
use Rattle.visits.specs.Words.{top_in, made_in, furthest_in, reached_in, Words}
use Rattle.visits.specs.Says.{Visited, FAILED, Came, reading, uses, grows, applies, end_of, end_in, list_in, Ranges, Starts, Ends}
use Rattle.visits.proofs.Frame.{written_top, written_words, reach_made}
use Rattle.visits.proofs.Steps.{came_as, came_at}
use Rattle.visits.proofs.Nodes.{result, match_still}
use Rattle.visits.proofs.Entering.{came_reached, range_in, range_out}
use Rattle.visits.proofs.Ready.{root_is, below_as, applied_as, rules_are}

-- Where answers are kept no use becomes live, and none of a rule that doesn't grow does.
once_is : (given : Given) (a : ℕ) → (keeps_in given ≡ true) ⊎ (grows_in given a ≡ false) → becomes_live (way_in given) a ≡ false
once_is given a (inl k) = ap (λ b. becomes_live (way_of b (grows_in given)) a) k
once_is given a (inr g) = either (keeps_in given)
  where
    either : (b : Bool) → becomes_live (way_of b (grows_in given)) a ≡ false
    either true = refl
    either false = g

module _ (given : Given) (line : List ℕ) (fit : Fit given line) where
  -- One byte in a range, where its end is known.
  pub range_came : {w : List ℕ} {live made top : ℕ} (lo hi x end : ℕ) → Words given line w live top → made ≤ allowance_in given → end ≡ end_of (byte x (fits line lo hi x))
      → Came given line w w live made top (result end 0 top made) (λ l s. Run.done (byte x (fits line lo hi x)) s)
  unfolding end_of byte
  range_came {w} {live} {made} {top} lo hi x end words le e = by_test (fits line lo hi x) refl
    where
      by_test : (t : Bool) → fits line lo hi x ≡ t → Came given line w w live made top (result end 0 top made) (λ l s. Run.done (byte x (fits line lo hi x)) s)
      by_test true q =
          let f : end ≡ x + 1 = e ∙ ap (λ b. end_of (byte x b)) q ∙ (let z : suc x ≡ x + 1 = omega arith in z) in
          rw f (range_in given line fit lo hi x words le q)
      by_test false q =
          let f : end ≡ FAILED = e ∙ ap (λ b. end_of (byte x b)) q in
          rw f (range_out given line fit lo hi x words le q)

  module _ {w w' : List ℕ} {live made top : ℕ} {r : Visited} (left i pos : ℕ) (li : i < nodes_in given) where
    pub apply_rule : kind_in given i ≡ 2 → (a : ℕ) → a ≡ a_in given i → Came given line w w' live made top r (λ l s. uses given line left l a pos s) → Came given line w w' live made top r (λ l s. applies given line left l i pos s)
    unfolding apply
    apply_rule k a e c = applied_as given line fit i 2 li k left pos (rw e at c)

    pub apply_sequence : kind_in given i ≡ 3 → (a b : ℕ) → a ≡ a_in given i → b ≡ b_in given i → Came given line w w' live made top r (λ l s. after (reading given line left l a pos s) (second (reading given line left l) b))
        → Came given line w w' live made top r (λ l s. applies given line left l i pos s)
    unfolding apply
    apply_sequence k a b e f c = applied_as given line fit i 3 li k left pos (rw (e, f) at c)

    pub apply_choice : kind_in given i ≡ 4 → (a b : ℕ) → a ≡ a_in given i → b ≡ b_in given i → Came given line w w' live made top r (λ l s. after (reading given line left l a pos s) (otherwise (reading given line left l) b pos))
        → Came given line w w' live made top r (λ l s. applies given line left l i pos s)
    unfolding apply
    apply_choice k a b e f c = applied_as given line fit i 4 li k left pos (rw (e, f) at c)

    pub apply_not : kind_in given i ≡ 5 → (a : ℕ) → a ≡ a_in given i → Came given line w w' live made top r (λ l s. after (reading given line left l a pos s) (denied pos))
        → Came given line w w' live made top r (λ l s. applies given line left l i pos s)
    unfolding apply
    apply_not k a e c = applied_as given line fit i 5 li k left pos (rw e at c)

  module _ {w : List ℕ} {live made top : ℕ} (left i pos : ℕ) (li : i < nodes_in given) (words : Words given line w live top) (le : made ≤ allowance_in given) where
    pub apply_empty : kind_in given i ≡ 0 → pos ≤ length line → Came given line w w live made top (result pos 0 top made) (λ l s. applies given line left l i pos s)
    unfolding apply
    apply_empty k inside = applied_as given line fit i 0 li k left pos (match_still given line fit words le pos inside)

    -- A kind above 6 is in no table that is laid out well; it would be an empty node.
    pub apply_above : (n : ℕ) → kind_in given i ≡ 7 + n → pos ≤ length line → Came given line w w live made top (result pos 0 top made) (λ l s. applies given line left l i pos s)
    unfolding apply
    apply_above n k inside =
        let e : kind_in given i ≡ suc (suc (suc (suc (suc (suc (suc n)))))) = k ∙ (let z : 7 + n ≡ suc (suc (suc (suc (suc (suc (suc n)))))) = omega arith in z) in
        applied_as given line fit i _ li e left pos (match_still given line fit words le pos inside)

    apply_range : live * 3 ≤ 2041 → kind_in given i ≡ 1
        → Came given line w (reached_in w pos) live made top (result (end_of (byte pos (fits line (a_in given i) (b_in given i) pos))) 0 top made) (λ l s. applies given line left l i pos s)
    unfolding apply
    apply_range few k =
        applied_as given line fit i 1 li k left pos
        (came_reached given line fit pos few words (range_came (a_in given i) (b_in given i) pos _ (written_words given line 2044 (omega arith) (omega arith) w (max (furthest_in w) pos) few words) le refl))

  -- A use of a rule that doesn't become live, and of one that does.
  module _ {w w' : List ℕ} {live made top : ℕ} {r : Visited} (left a pos : ℕ) where
    uses_by : (b : Bool) → becomes_live (way_in given) a ≡ b → Came given line w w' live made top r (λ l s. use_by (grammar_in given) line b (reading given line left) l a pos s)
        → Came given line w w' live made top r (λ l s. uses given line left l a pos s)
    uses_by b e c = came_as given line fit.short (λ l s. uses given line left l a pos s) c (λ l s. ap (λ t. use_by (grammar_in given) line t (reading given line left) l a pos s) (sym e))

    pub uses_once : (keeps_in given ≡ true) ⊎ (grows_in given a ≡ false) → (root : ℕ) → a < rules_in given → root ≡ root_in given a
        → Came given line w w' live made top r (λ l s. after (reading given line left l root pos s) (wrapped a pos)) → Came given line w w' live made top r (λ l s. uses given line left l a pos s)
    unfolding use_by
    uses_once h root la e c =
        uses_by false (once_is given a h)
        (came_as given line fit.short (λ l s. use_by (grammar_in given) line false (reading given line left) l a pos s) c
        (λ l s. ap (λ j. after (reading given line left l j pos s) (wrapped a pos)) (e ∙ root_is given line fit a la)))

    pub uses_grows : keeps_in given ≡ false → grows_in given a ≡ true → Came given line w w' live made top r (λ l s. grows given line left l a pos s) → Came given line w w' live made top r (λ l s. uses given line left l a pos s)
    uses_grows k g c = uses_by true (ap (λ b. becomes_live (way_of b (grows_in given)) a) k ∙ g) c

  -- The children of a node, and the rule that it uses.
  module _ (i : ℕ) (li : i < nodes_in given) where
    pub rule_used : kind_in given i ≡ 2 → a_in given i < rules_in given
    rule_used k = let b = below_as given line fit i 2 li k in let n = rules_are given line fit in omega arith

    pub sequence_children : kind_in given i ≡ 3 → (a_in given i < nodes_in given) × (b_in given i < nodes_in given)
    sequence_children k = let b = below_as given line fit i 3 li k in (omega arith, omega arith)

    pub choice_children : kind_in given i ≡ 4 → (a_in given i < nodes_in given) × (b_in given i < nodes_in given)
    choice_children k = let b = below_as given line fit i 4 li k in (omega arith, omega arith)

    pub not_child : kind_in given i ≡ 5 → a_in given i < nodes_in given
    not_child k = let b = below_as given line fit i 5 li k in omega arith

    pub repetition_child : kind_in given i ≡ 6 → a_in given i < nodes_in given
    repetition_child k = let b = below_as given line fit i 6 li k in omega arith

-- A byte in a range ends after its position, and a failure is no position.
byte_ahead : (x : ℕ) (b : Bool) → x ≤ FAILED → x ≤ end_of (byte x b)
unfolding end_of byte
byte_ahead x true h = omega arith
byte_ahead x false h = h

-- A range node is applied where a visit stands.
pub range_ends : (given : Given) (line : List ℕ) {w w₁ : List ℕ} (spot i r : ℕ) → Starts given line w spot i (pos_in spot) → kind_in given i ≡ 1 → Ranges given line i (pos_in spot) r → w₁ ≡ reached_in w (pos_in spot)
    → Ends given line w w₁ spot r (λ l s. applies given line (left_in spot) l i (pos_in spot) s)
range_ends given line {w} spot i r ready kind range is =
    let reached : List ℕ = reached_in w (pos_in spot) in
    let top : top_in reached ≡ top_in w = written_top given line 2044 (omega arith) (omega arith) w (max (furthest_in w) (pos_in spot)) in
    let made : made_in reached ≡ made_in w = reach_made given line w (pos_in spot) in
    let few : live_in spot * 3 ≤ 2041 = let o = ready.open_in in omega arith in
    rw is (record {
      came = came_at given line ready.fit.short (end_in r) (list_in r) (top_in reached) (made_in reached) range.0 range.1 top made
          (apply_range given line ready.fit (left_in spot) i (pos_in spot) ready.node_in ready.words ready.made_within few kind);
      cells = omega (arith, top, made);
      ahead = λ p. rw range.0 (byte_ahead (pos_in spot) _ (omega (arith, ready.pos_within, ready.fit.short)));
    })

-- Whether answers are kept, by the number that says so.
pub keeps_yes : (x : ℕ) → x ≢ 0 → ltb 0 x ≡ true
keeps_yes x n = lt-ltb 0 x (omega arith)

pub keeps_no : (x : ℕ) → x ≡ 0 → ltb 0 x ≡ false
keeps_no x e = le-ltb 0 x (omega arith)

-- A kind that is none of 0 to 6 is above them.
pub above_six : (k : ℕ) → k ≢ 0 → k ≢ 1 → k ≢ 2 → k ≢ 3 → k ≢ 4 → k ≢ 5 → k ≢ 6 → (n : ℕ) × (k ≡ 7 + n)
above_six zero n0 n1 n2 n3 n4 n5 n6 = absurd (n0 refl)
above_six (suc zero) n0 n1 n2 n3 n4 n5 n6 = absurd (n1 refl)
above_six (suc (suc zero)) n0 n1 n2 n3 n4 n5 n6 = absurd (n2 refl)
above_six (suc (suc (suc zero))) n0 n1 n2 n3 n4 n5 n6 = absurd (n3 refl)
above_six (suc (suc (suc (suc zero)))) n0 n1 n2 n3 n4 n5 n6 = absurd (n4 refl)
above_six (suc (suc (suc (suc (suc zero))))) n0 n1 n2 n3 n4 n5 n6 = absurd (n5 refl)
above_six (suc (suc (suc (suc (suc (suc zero)))))) n0 n1 n2 n3 n4 n5 n6 = absurd (n6 refl)
above_six (suc (suc (suc (suc (suc (suc (suc k))))))) n0 n1 n2 n3 n4 n5 n6 = (k, omega arith)
