-- The kind of the code's node, and what a repetition repeats, by the numbers of the table.
use mathlib.Core.Path.{◌≡◌, refl, sym, ap, ◌∙◌}
use mathlib.Core.List.{List}
use mathlib.Core.Logic.{◌≢◌}
use Prim.Native.Nat.{ℕ, zero, suc, ◌≤◌, ◌<◌}
use native.Mathlib.Omega.{arith}
use Rattle.meaning.specs.Grammar.{empty, range, rule, seq, choice, not, rep}
use Rattle.meaning.specs.Grammar as grammar
use Rattle.layout.specs.declared.Node.{Node}
use Rattle.layout.specs.declared.Node.TheVariants.{Empty, Range, Rule, Sequence, Choice, Not, Repetition}
use Rattle.layout.specs.Table.{nodes_of, kind_of, a_of, b_of, decode, node_of}
use Rattle.layout.specs.Layout.{Laid}
use Rattle.layout.specs.Nodes.{meaning_of, IsNode}
use Rattle.layout.proofs.Laying.{well_laid}

kind_number : grammar.Node → ℕ
kind_number empty = 0
kind_number (range lowest highest) = 1
kind_number (rule a) = 2
kind_number (seq a b) = 3
kind_number (choice a b) = 4
kind_number (not a) = 5
kind_number (rep a) = 6

numbered : (k a b : ℕ) → k ≤ 6 → kind_number (decode k a b) ≡ k
unfolding kind_number
numbered zero a b h = refl
numbered (suc zero) a b h = refl
numbered (suc (suc zero)) a b h = refl
numbered (suc (suc (suc zero))) a b h = refl
numbered (suc (suc (suc (suc zero)))) a b h = refl
numbered (suc (suc (suc (suc (suc zero))))) a b h = refl
numbered (suc (suc (suc (suc (suc (suc zero)))))) a b h = refl
numbered (suc (suc (suc (suc (suc (suc (suc k))))))) a b h = absurd (omega arith)

repeated : grammar.Node → ℕ
repeated empty = 0
repeated (range lowest highest) = 0
repeated (rule a) = 0
repeated (seq a b) = 0
repeated (choice a b) = 0
repeated (not a) = 0
repeated (rep a) = a

no_six : (n : Node) → ((a : ℕ) → n ≡ Repetition a → ⊥) → kind_number (meaning_of n) ≢ 6
unfolding kind_number
no_six Empty h e = absurd (omega arith)
no_six (Range a b) h e = absurd (omega arith)
no_six (Rule a) h e = absurd (omega arith)
no_six (Sequence a b) h e = absurd (omega arith)
no_six (Choice a b) h e = absurd (omega arith)
no_six (Not a) h e = absurd (omega arith)
no_six (Repetition a) h e = h a refl

no_one : (n : Node) → ((a b : ℕ) → n ≡ Range a b → ⊥) → kind_number (meaning_of n) ≢ 1
unfolding kind_number
no_one Empty h e = absurd (omega arith)
no_one (Range a b) h e = h a b refl
no_one (Rule a) h e = absurd (omega arith)
no_one (Sequence a b) h e = absurd (omega arith)
no_one (Choice a b) h e = absurd (omega arith)
no_one (Not a) h e = absurd (omega arith)
no_one (Repetition a) h e = absurd (omega arith)

module _ (t : List ℕ) (laid : Laid t) (i : ℕ) (h : i < nodes_of t) (n : Node) (is : IsNode t i n) where
  kind_is : kind_of t i ≡ kind_number (meaning_of n)
  unfolding node_of
  kind_is = sym (numbered (kind_of t i) (a_of t i) (b_of t i) ((well_laid t laid).kinds i h)) ∙ ap kind_number (sym is.node)

  pub is_repetition : (a : ℕ) → n ≡ Repetition a → (kind_of t i ≡ 6) × (a ≡ a_of t i)
  unfolding node_of kind_number repeated
  is_repetition a e =
      let six : kind_of t i ≡ 6 = kind_is ∙ ap (λ (m : Node). kind_number (meaning_of m)) e in
      let same : meaning_of (Repetition a) ≡ decode 6 (a_of t i) (b_of t i) = rw (e, six) at is.node in
      (six, ap repeated same)

  pub no_repetition : ((a : ℕ) → n ≡ Repetition a → ⊥) → kind_of t i ≢ 6
  no_repetition other e = no_six n other (sym kind_is ∙ e)

  pub is_range : (a b : ℕ) → n ≡ Range a b → kind_of t i ≡ 1
  unfolding kind_number
  is_range a b e = kind_is ∙ ap (λ (m : Node). kind_number (meaning_of m)) e

  pub no_range : ((a b : ℕ) → n ≡ Range a b → ⊥) → kind_of t i ≢ 1
  no_range other e = no_one n other (sym kind_is ∙ e)
