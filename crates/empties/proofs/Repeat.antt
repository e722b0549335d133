-- Passes are repeated while they add a rule; then the rules and the marks are all.
use mathlib.Core.Path.{◌≡◌, sym, ◌∙◌}
use mathlib.Core.Bool.{true, false, false≢true}
use mathlib.Core.List.{List}
use Prim.Native.Nat.{ℕ, ◌^◌, ◌≤◌, ◌<◌}
use native.Mathlib.Omega.{arith}
use lib.Dec.{lit<}
use lib.ListN.{length}
use Rattle.bits.specs.Mask.{has}
use Rattle.bits.specs.Marks.{marked}
use Rattle.bits.proofs.Laws.{has_none}
use Rattle.meaning.specs.Grammar.{Grammar, node, root_of, Closed}
use Rattle.meaning.specs.Report.{MayBeEmpty}
use Rattle.empties.specs.Empties.{EmptyRules, EmptyNodes, Unmarked}
use Rattle.layout.specs.Survey.{FirstOf}
use Rattle.empties.specs.Pass.{empty_of, alone, alone_in, Passed, Gathered}
use Rattle.empties.proofs.Gathering.{nothing_new}
use Rattle.empties.proofs.Empties.{EmptyRule, EmptyNode, inside, marked_sound, more_sound, marked_complete, known_all, none_before, nothing_empty}

-- Before each pass: nothing is known or marked that may not be empty, and the nodes that the pass leaves out can't be found by it.
pub record Begun (g : Grammar) (known from : ℕ) (marks : List ℕ) : Type 0 where
  pub fits : known < 2 ^ 64
  pub words : length marks ≡ 8
  pub there : from ≤ length g.nodes
  pub known_sound : (a : ℕ) → has known a ≡ true → EmptyRule g a
  pub marks_sound : (i : ℕ) → marked marks i ≡ true → EmptyNode g i
  pub left_out : (after : List ℕ) → Passed g known from (length g.nodes) marks after → (i : ℕ) → i < from → empty_of (marked after) known (node g i) ≡ true → marked after i ≡ true

module _ (g : Grammar) (closed : Closed g) where
  pub begun : (first : ℕ) (marks : List ℕ) → Unmarked marks → FirstOf (alone_in g) 0 (length g.nodes) first → Begun g 0 first marks
  begun first marks none f = record {
    fits = lit< tt;
    words = none.0;
    there = f.most;
    known_sound = λ a e. absurd (false≢true (sym (has_none a) ∙ e));
    marks_sound = λ i e. absurd (false≢true (sym (none.1 i) ∙ e));
    left_out = λ after p. none_before g closed (length g.nodes) first f (omega arith) marks after none.1 p;
  }

  module _ (known more from : ℕ) (marks after : List ℕ) (b : Begun g known from marks) (p : Passed g known from (length g.nodes) marks after)
      (gathered : Gathered (λ a. marked after (root_of g a)) known (length g.roots) more) where
    pub again : more < 2 ^ 64 → Begun g more 0 after
    again fits = record {
      fits = fits;
      words = p.same_length ∙ b.words;
      there = omega arith;
      known_sound = more_sound g closed known from marks after p b.known_sound b.marks_sound more gathered;
      marks_sound = marked_sound g closed known from marks after p b.known_sound b.marks_sound;
      left_out = λ next q i h. absurd (omega arith);
    }

    module _ (same : more ≡ known) where
      none_new : (a : ℕ) → a < length g.roots → marked after (root_of g a) ≡ true → has known a ≡ true
      none_new = nothing_new _ known (length g.roots) (rw same at gathered)

      pub all_rules : EmptyRules g known
      all_rules = record { fits = b.fits; sound = b.known_sound; complete = known_all g closed known from marks after p none_new (b.left_out after p) }

      pub all_nodes_lem : EmptyNodes g after
      all_nodes_lem = record {
        words = p.same_length ∙ b.words;
        sound = marked_sound g closed known from marks after p b.known_sound b.marks_sound;
        complete = marked_complete g closed known from marks after p none_new (b.left_out after p);
      }

  -- Where no node is empty by itself: no rule, and no mark.
  module _ (none : (i : ℕ) → i < length g.nodes → alone (node g i) ≡ false) where
    not_one : (i : ℕ) → i < length g.nodes → MayBeEmpty g (node g i) → ⊥
    not_one i h d = nothing_empty g closed none d (inside g closed i h) (none i h)

    pub no_rules : EmptyRules g 0
    no_rules = record { fits = lit< tt; sound = λ a e. absurd (false≢true (sym (has_none a) ∙ e)); complete = λ a h d. absurd (not_one (root_of g a) (closed.roots a h) d) }

    pub no_nodes : (marks : List ℕ) → Unmarked marks → EmptyNodes g marks
    no_nodes marks u = record { words = u.0; sound = λ i e. absurd (false≢true (sym (u.1 i) ∙ e)); complete = λ i h d. absurd (not_one i h d) }
