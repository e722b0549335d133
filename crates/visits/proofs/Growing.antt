-- Growing a use: what the loop keeps true, and what each way out of it says.
use mathlib.Core.Path.{◌≡◌, refl, sym, subst, ap, ◌∙◌}
use mathlib.Core.Logic.{◌≢◌, ◌⊎◌, inl, inr}
use mathlib.Core.List.{List}
use Prim.Native.Nat.{ℕ, zero, suc, ◌+◌, ◌*◌, ◌<◌, ◌≤◌}
use native.Mathlib.Omega.{arith}
use lib.ListN.{length, get_or}
use borrow.Author.Tests.{lt-ltb, le-ltb}
use Rattle.meaning.specs.Grammar.{Trees, no_trees, tree, Answer, fail, ok, wrap, root_of, Note, noted}
use Rattle.meaning.specs.Reading.{State, Run, effort, deep, done, after, Visit, wrapped, longer, attempted, grow, first_attempt, use_live, use_by}
use Rattle.cells.specs.Cells.{trees_at}
use Rattle.visits.specs.Given.{Given, allowance_in, grammar_in, Fit}
use Rattle.visits.specs.Words.{turns_in, Added, key_of, Stands, Words, Same}
use Rattle.visits.specs.Says.{Visited, FAILED, STOPPED, Says, Came}
use Rattle.visits.proofs.Frame.{same_none, same_then, same_trees, made_same, made_words, made_stands}
use Rattle.visits.proofs.Steps.{says_stop, came_after, then_match, unmatched, came_when}
use Rattle.visits.proofs.Nodes.{result}
use Rattle.visits.proofs.Living.{look_none, uses}

-- The children of the first tree.
abbrev pub kids : Trees → Trees
kids no_trees = no_trees
kids (tree a x e cs ts) = cs

module _ (given : Given) (line : List ℕ) (v : List Note → Visit) (root a x : ℕ) where
  -- The root visited while q is held.
  abbrev pub attempt : List Note → Answer → State → Run
  attempt l q s = v (noted a x q l) root x s

  -- Growing on from a held match, and the tree of the use.
  abbrev pub grown : List Note → ℕ → ℕ → Trees → State → Run
  grown l f e ts s = after (grow f (attempt l) x e ts s) (wrapped a x)

  -- The loop, from the words, end, visits and top with which it began, at those it has now. The held match is the list `top`.
  pub record Growing (live : ℕ) (w₀ : List ℕ) (end₀ made₀ top₀ : ℕ) (w : List ℕ) (end made top : ℕ) : Type 0 where
    pub same : Same given line w₀ w live top₀
    pub words : Words given line w live top
    pub end_within : end ≤ length line
    pub end_up : end₀ ≤ end
    pub top_up : top₀ ≤ top
    pub top_within : 0 < top
    pub made_up : made₀ ≤ made
    pub made_within : made ≤ allowance_in given
    pub cells : top + made₀ ≤ top₀ + made
    pub held : trees_at w top ≡ tree a x end (kids (trees_at w top)) no_trees
    pub rest : (l : List Note) (s : State) → Stands given line w₀ live made₀ l s → (w' : List ℕ) (r : Visited)
        → ((f : ℕ) (s' : State) → Stands given line w live made l s' → s'.left ≤ f → Says given line w' live l r (grown l f end (kids (trees_at w top)) s'))
        → Says given line w' live l r (grown l s.left end₀ (kids (trees_at w₀ top₀)) s)

module _ (given : Given) (line : List ℕ) (fit : Fit given line) (v : List Note → Visit) (root a x : ℕ) (out : (l : List Note) (s : State) → s.left ≡ 0 → v l root x s ≡ effort x s) where
  module _ (w : List ℕ) (live : ℕ) (l : List Note) (r : Visited) (e : ℕ) (cs : Trees) where
    grow_stop : (f : ℕ) (s : State) → s.left ≤ f → Says given line w live l r (attempt given line v root a x l (ok e cs) s) → r.end ≡ STOPPED → Says given line w live l r (grown given line v root a x l f e cs s)
    unfolding grow after
    grow_stop zero s le h q = subst (Says given line w live l r) (out (noted a x (ok e cs) l) s (omega arith)) h
    grow_stop (suc f) s le h q =
        says_stop given line fit.short w live l r (wrapped a x) (after (attempt given line v root a x l (ok e cs) s) (attempted (grow f (attempt given line v root a x l) x) e cs))
        (says_stop given line fit.short w live l r (attempted (grow f (attempt given line v root a x l) x) e cs) (attempt given line v root a x l (ok e cs) s) h q) q

    -- An attempt that fails or isn't longer: what is held, as list t, is the answer.
    module _ (t : ℕ) (inside : e ≤ length line) (held : trees_at w t ≡ tree a x e cs no_trees) (k : ℕ → Trees → State → Run) where
      answered : (s : State) → Stands given line w live r.made l s → Says given line w live l (result e t r.top r.made) (after (done (ok e cs) s) (wrapped a x))
      unfolding after wrapped wrap
      answered s h = (held, record { end = refl; inside = inside; stands = h })

      held_run : (m : Run) → Says given line w live l r m → (r.end ≡ FAILED) ⊎ (r.end ≤ e) → Says given line w live l (result e t r.top r.made) (after (after m (attempted k e cs)) (wrapped a x))
      unfolding after attempted longer
      held_run (effort p s) h (inl c) = let z = h.end in absurd (omega arith)
      held_run (effort p s) h (inr c) = let z = h.end in let y = fit.short in absurd (omega arith)
      held_run (deep p s) h (inl c) = let z = h.end in absurd (omega arith)
      held_run (deep p s) h (inr c) = let z = h.end in let y = fit.short in absurd (omega arith)
      held_run (done fail s) h c = answered s h.stands
      held_run (done (ok e' ts') s) h (inl c) = let z = h.1.end in let i = h.1.inside in let y = fit.short in absurd (omega arith)
      held_run (done (ok e' ts') s) h (inr c) =
          let z = h.1.end in
          subst (λ b. Says given line w live l (result e t r.top r.made) (after (longer k e cs e' ts' s b) (wrapped a x))) (sym (le-ltb e e' (omega arith))) (answered s h.1.stands)

    grow_held : (f : ℕ) (s : State) (t : ℕ) → e ≤ length line → trees_at w t ≡ tree a x e cs no_trees → s.left ≤ f → Says given line w live l r (attempt given line v root a x l (ok e cs) s)
        → (r.end ≡ FAILED) ⊎ (r.end ≤ e) → Says given line w live l (result e t r.top r.made) (grown given line v root a x l f e cs s)
    unfolding grow
    grow_held zero s t inside held le h c = none_left c (subst (Says given line w live l r) (out (noted a x (ok e cs) l) s (omega arith)) h).end
      where
        none_left : {A : Type 0} → (r.end ≡ FAILED) ⊎ (r.end ≤ e) → r.end ≡ STOPPED → A
        none_left (inl c) z = absurd (omega arith)
        none_left (inr c) z = let y = fit.short in absurd (omega arith)
    grow_held (suc f) s t inside held le h c = held_run t inside held (grow f (attempt given line v root a x l) x) (attempt given line v root a x l (ok e cs) s) h c

    -- A longer attempt: growing goes on from it.
    module _ (w' : List ℕ) (q : Visited) (lt : e < r.end) (short : r.end < STOPPED) where
      more_run : (f : ℕ) (m : Run) → Says given line w live l r m → ((s : State) → Stands given line w live r.made l s → Says given line w' live l q (grown given line v root a x l f r.end (trees_at w r.list) s))
          → Says given line w' live l q (after (after m (attempted (grow f (attempt given line v root a x l) x) e cs)) (wrapped a x))
      unfolding after attempted longer
      more_run f (effort p s) h k = let z = h.end in absurd (omega arith)
      more_run f (deep p s) h k = let z = h.end in absurd (omega arith)
      more_run f (done fail s) h k = let z = h.end in absurd (omega arith)
      more_run f (done (ok e' ts') s) h k =
          let z = h.1.end in
          subst (λ b. Says given line w' live l q (after (longer (grow f (attempt given line v root a x l) x) e cs e' ts' s b) (wrapped a x))) (sym (lt-ltb e e' (omega arith)))
          (subst (λ y. Says given line w' live l q (grown given line v root a x l f e' y s)) h.0 (subst (λ y. Says given line w' live l q (grown given line v root a x l f y (trees_at w r.list) s)) h.1.end (k s h.1.stands)))

      grow_more : (f made : ℕ) (s : State) → s.left ≤ f → s.left + made ≡ allowance_in given → made < r.made → Says given line w live l r (attempt given line v root a x l (ok e cs) s)
          → ((f' : ℕ) (s' : State) → Stands given line w live r.made l s' → s'.left ≤ f' → Says given line w' live l q (grown given line v root a x l f' r.end (trees_at w r.list) s'))
          → Says given line w' live l q (grown given line v root a x l f e cs s)
      unfolding grow
      grow_more zero made s le st up h k = let z = (subst (Says given line w live l r) (out (noted a x (ok e cs) l) s (omega arith)) h).end in absurd (omega arith)
      grow_more (suc f) made s le st up h k = more_run f (attempt given line v root a x l (ok e cs) s) h (λ s' g. k f s' g (let z = g.left in omega arith))

  pub begins : {live : ℕ} {w : List ℕ} {end made top : ℕ} {ts : Trees} → Words given line w live top → end ≤ length line → 0 < top → made ≤ allowance_in given → trees_at w top ≡ tree a x end ts no_trees
      → Growing given line v root a x live w end made top w end made top
  begins {live} {w} {end} {made} {top} {ts} words inside some le h =
      let k : kids (trees_at w top) ≡ ts = ap kids h in
      record {
        same = same_none given line w live top;
        words = words;
        end_within = inside;
        end_up = omega arith;
        top_up = omega arith;
        top_within = some;
        made_up = omega arith;
        made_within = le;
        cells = omega arith;
        held = h ∙ ap (λ cs. tree a x end cs no_trees) (sym k);
        rest = λ l s st w' r f. f s.left s st (omega arith);
      }

  module _ {live : ℕ} {w₀ : List ℕ} {end₀ made₀ top₀ : ℕ} {w : List ℕ} {end made top : ℕ} (g : Growing given line v root a x live w₀ end₀ made₀ top₀ w end made top) {w₂ : List ℕ} {next : Visited}
      (n : Came given line w w₂ live made top next (λ l s. attempt given line v root a x l (ok end (kids (trees_at w top))) s)) where
    abbrev whole : List Note → State → Run
    whole l s = grown given line v root a x l s.left end₀ (kids (trees_at w₀ top₀)) s

    way_out : {r : Visited} → r.top ≡ next.top → r.made ≡ next.made → r.end ≤ FAILED → (r.end < STOPPED → r.end ≤ length line) → (r.end < STOPPED → r.list ≤ next.top)
        → ((l : List Note) (f : ℕ) (s : State) → Stands given line w live made l s → s.left ≤ f → Says given line w₂ live l r (grown given line v root a x l f end (kids (trees_at w top)) s))
        → Came given line w₀ w₂ live made₀ top₀ r whole
    way_out {r} et em most ei li f =
        let a = g.top_up in
        let b = g.made_up in
        let c = n.top_up in
        let d = n.made_up in
        let m = n.made_within in
        record {
          same = same_then given line g.same n.same (omega arith) a;
          words = rw et n.words;
          end_most = most;
          end_within = ei;
          list_within = λ z. let y = li z in omega arith;
          top_up = omega arith;
          made_up = omega arith;
          made_within = omega arith;
          says = λ l s st. g.rest l s st w₂ r (λ f' s' h le. f l f' s' h le);
        }

    pub out_stop : next.end ≡ STOPPED → Came given line w₀ w₂ live made₀ top₀ next whole
    out_stop e = way_out refl refl n.end_most n.end_within n.list_within (λ l f s st le. grow_stop w₂ live l next end (kids (trees_at w top)) f s le (n.says l s st) e)

    pub out_held : (next.end ≡ FAILED) ⊎ (next.end ≤ end) → Came given line w₀ w₂ live made₀ top₀ (result end top next.top next.made) whole
    out_held c =
        let up = n.top_up in
        let e : trees_at w₂ top ≡ tree a x end (kids (trees_at w top)) no_trees = same_trees given line n.same top (omega arith) ∙ g.held in
        let i = g.end_within in
        let sh = fit.short in
        way_out refl refl (omega arith) (λ z. g.end_within) (λ z. up) (λ l f s st le. grow_held w₂ live l next end (kids (trees_at w top)) f s top g.end_within e le (n.says l s st) c)

    -- Another turn.
    pub turns : end < next.end → next.end < STOPPED → live * 3 ≤ 2041 → next.top + turns_in w₂ < allowance_in given → next.top + made < top + next.made → {w₃ : List ℕ}
        → Added w₂ w₃ next.top (next.top + 1) (next.top + 1) (tree a x next.end (trees_at w₂ next.list) no_trees)
        → Growing given line v root a x live w₀ end₀ made₀ top₀ w₃ next.end next.made (next.top + 1)
    turns lt short few low fewer {w₃} m =
        let s₁ = made_same given line {live = live} fit few low m in
        let a₁ = g.top_up in
        let b₁ = g.made_up in
        let c₁ = n.top_up in
        let d₁ = n.made_up in
        let e₁ = g.cells in
        let k : kids (trees_at w₃ (next.top + 1)) ≡ trees_at w₂ next.list = ap kids m.is in
        record {
          same = same_then given line (same_then given line g.same n.same (omega arith) a₁) s₁ (omega arith) (omega arith);
          words = made_words given line fit few low m n.words;
          end_within = n.end_within short;
          end_up = omega (arith, g.end_up);
          top_up = omega arith;
          top_within = omega arith;
          made_up = omega arith;
          made_within = n.made_within;
          cells = omega arith;
          held = m.is ∙ ap (λ cs. tree a x next.end cs no_trees) (sym k);
          rest = λ l s st w' r f. g.rest l s st w' r
              (λ f₁ s₁ h le. grow_more w₂ live l next end (kids (trees_at w top)) w' r lt short f₁ made s₁ le h.left (omega arith) (n.says l s₁ h)
              (λ f₂ s₂ h₂ le₂. back (trees_at w₂ next.list) (kids (trees_at w₃ (next.top + 1))) k l f₂ s₂ w' r
              (f f₂ s₂ (made_stands given line fit few low m n.words h₂) le₂)));
        }
      where
        back : (ts us : Trees) → us ≡ ts → (l : List Note) (f : ℕ) (s : State) (w' : List ℕ) (r : Visited) → Says given line w' live l r (grown given line v root a x l f next.end us s) → Says given line w' live l r (grown given line v root a x l f next.end ts s)
        back ts us e l f s w' r h = subst (λ y. Says given line w' live l r (grown given line v root a x l f next.end y s)) e h

  -- The whole use: the first attempt, and the loop after it.
  module _ {w₀ w₁ : List ℕ} {live made top : ℕ} {first : Visited} (root_is : root ≡ root_of (grammar_in given) a) (fresh : (i : ℕ) → i < live → get_or w₀ (i * 3) 0 ≢ key_of a x)
      (A : Came given line w₀ w₁ live made top first (λ l s. attempt given line v root a x l fail s)) where
    used : {w' : List ℕ} {r : Visited} → Came given line w₀ w' live made top r (λ l s. after (attempt given line v root a x l fail s) (first_attempt (attempt given line v root a x l) a x)) → Came given line w₀ w' live made top r (uses given line fit v a x)
    unfolding use_by use_live
    used {w'} {r} c =
        came_when given line fit.short (uses given line fit v a x) c
        (λ l s h. ap (λ j. after (v (noted a x fail l) j x s) (first_attempt (λ q. v (noted a x q l) j x) a x)) root_is
        ∙ ap (use_live (λ q. v (noted a x q l) (root_of (grammar_in given) a) x) a x s) (sym (look_none w₀ a x l live h.lives fresh)))

    pub first_out : STOPPED ≤ first.end → Came given line w₀ w₁ live made top first (uses given line fit v a x)
    unfolding first_attempt
    first_out h = used (unmatched given line fit.short (λ l. first_attempt (attempt given line v root a x l) a x) A h (λ l s. refl))

    pub first_grown : first.end < STOPPED → live * 3 ≤ 2041 → first.top + turns_in w₁ < allowance_in given → {w₂ w' : List ℕ} {r : Visited}
        → Added w₁ w₂ first.top (first.top + 1) (first.top + 1) (tree a x first.end (trees_at w₁ first.list) no_trees)
        → Came given line w₂ w' live first.made (first.top + 1) r (λ l s. grown given line v root a x l s.left first.end (kids (trees_at w₂ (first.top + 1))) s)
        → Came given line w₀ w' live made top r (uses given line fit v a x)
    unfolding first_attempt
    first_grown h few low {w₂} {w'} {r} m c =
        let k : kids (trees_at w₂ (first.top + 1)) ≡ trees_at w₁ first.list = ap kids m.is in
        used
        (then_match given line fit.short (λ l. first_attempt (attempt given line v root a x l) a x) A h
        (came_after given line fit.short _ (made_same given line fit few low m) (omega arith) (omega arith) c
        (λ l s st. subst (λ y. Says given line w' live l r (grown given line v root a x l s.left first.end y s)) k (c.says l s (made_stands given line fit few low m A.words st)))))
