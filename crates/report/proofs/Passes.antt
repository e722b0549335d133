-- What the passes over a table leave: of each node what its children's numbers say, and the other numbers as they were.
use mathlib.Core.Path.{◌≡◌, ◌∙◌}
use mathlib.Core.Bool.{Bool, true, false, cond}
use mathlib.Core.List.{List}
use mathlib.Core.Logic.{◌↔◌}
use Prim.Native.Nat.{ℕ, ◌*◌, ◌≤◌, ◌<◌}
use native.Mathlib.Omega.{arith}
use lib.ListN.{length, get_or}
use Rattle.bits.specs.Marks.{marked}
use Rattle.meaning.specs.Grammar.{node}
use Rattle.meaning.specs.Report.{MayBeEmpty}
use Rattle.meaning.proofs.Decided.{node_empty_iff}
use Rattle.layout.specs.Table.{nodes_of, most_nodes, grammar_of}
use Rattle.layout.specs.Layout.{Laid}
use Rattle.layout.proofs.Laying.{well_laid, closed, node_count}
use Rattle.empties.specs.Empties.{EmptyNodes}
use Rattle.sheet.proofs.Searching.{computed}
use Rattle.report.specs.Pass.{starts_at, passed_all, started_all, used_all, every_node, empty_node, Settled}
use Rattle.report.specs.Lent.{Judged, Used}
use Rattle.report.proofs.Words.{passed_length, passed_rest, passed_settled, passed_alike, passed_over}

module _ (t : List ℕ) (laid : Laid t) where
  few : nodes_of t ≤ most_nodes
  few = (well_laid t laid).few_nodes

  -- What the definition computes is what may be empty.
  pub empties_said : (i : ℕ) → i < length (grammar_of t).nodes → (empty_node t i ≡ true) ↔ MayBeEmpty (grammar_of t) (node (grammar_of t) i)
  unfolding empty_node
  empties_said = node_empty_iff (grammar_of t) (closed t laid)

  -- A pass is the same by any test that says the same of the table's nodes: by the marks, or by what the definition computes.
  pub by_another : (e d : ℕ → Bool) → ((k : ℕ) → k < nodes_of t → e k ≡ d k) → (w : List ℕ) → passed_all t e w ≡ passed_all t d w
  by_another e d same w = let n = node_count t in passed_alike (grammar_of t) e w (closed t laid) d (λ k h. same k (rw n at h)) (nodes_of t) (omega arith)

  pub by_marks : (marks : List ℕ) → EmptyNodes (grammar_of t) marks → (w : List ℕ) → passed_all t (marked marks) w ≡ started_all t w
  unfolding empty_node
  by_marks marks m w = by_another (marked marks) (empty_node t) (computed t laid marks m) w

  -- What the working numbers say after a pass.
  pub settled : (e : ℕ → Bool) (w : List ℕ) → 2 * most_nodes ≤ length w → (after : List ℕ) → after ≡ passed_all t e w → Settled (grammar_of t) e (starts_at after)
  settled e w room after is = rw is by
    where
      by : Settled (grammar_of t) e (starts_at (passed_all t e w))
      by i h =
          let n = node_count t in
          let l = few in
          passed_settled (grammar_of t) e w (closed t laid) (nodes_of t) (omega arith) (omega arith) i (omega arith)

  -- The working numbers that a caller lends, in the end.
  module _ (w : List ℕ) (room : 2 * most_nodes ≤ length w) (middle : List ℕ) (passes : middle ≡ started_all t w) where
    middle_length : length middle ≡ length w
    middle_length = rw passes (passed_length (grammar_of t) (empty_node t) w (nodes_of t))

    middle_rest : (i : ℕ) → 2 * nodes_of t ≤ i → get_or middle i 0 ≡ get_or w i 0
    middle_rest = rw passes (passed_rest (grammar_of t) (empty_node t) w (nodes_of t))

    all_used : used_all t middle ≡ used_all t w
    all_used =
        let n = node_count t in
        let l = few in
        passed_over (grammar_of t) every_node (closed t laid) middle w middle_length (nodes_of t) (omega arith) (omega arith) middle_rest

    module _ (after : List ℕ) {answer : Bool} (j : Judged t answer middle after) where
      written : (told : Bool) → after ≡ cond told middle (used_all t middle) → (length after ≡ length w) × ((i : ℕ) → 2 * nodes_of t ≤ i → get_or after i 0 ≡ get_or w i 0)
      written true e = (rw e middle_length, rw e middle_rest)
      written false e = (
        rw e (passed_length (grammar_of t) every_node middle (nodes_of t) ∙ middle_length),
        λ i h. rw e (passed_rest (grammar_of t) every_node middle (nodes_of t) i h ∙ middle_rest i h),
      )

      pub used : Used t w after
      used = record {
        same_length = (written j.told j.written).0;
        rest = (written j.told j.written).1;
        told = j.told;
        tells = j.tells;
        written = j.written ∙ rw (all_used, passes);
      }
