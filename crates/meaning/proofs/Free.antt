-- In a free grammar no rule needs to become live: the bounded rules answer there what the plain rules answer, so these answer on every line.
use mathlib.Core.Path.{refl}
use Prim.Native.Nat.{ℕ, ◌<◌, ◌≤◌}
use mathlib.Core.Bool.{Bool, false}
use mathlib.Core.List.{List, []}
use lib.ListN.{length}
use Rattle.meaning.specs.Grammar.{Node, Grammar, node, Closed, Trees, Answer, ok, Note, look}
use Rattle.meaning.specs.Rules.{Plain, Goal, at, inc, Amount, Bounded, every_rule}
use Rattle.meaning.specs.Rules as R
use Rattle.meaning.specs.Report.{Free}
use Rattle.meaning.proofs.Answers.{clash, found}
use Rattle.meaning.proofs.Reached.{Met}
use Rattle.meaning.proofs.Conserve.{lemma_1}
use Rattle.meaning.proofs.Spans.{Span, spans}
use Rattle.meaning.proofs.Answered.{lemma_2}
use Rattle.meaning.proofs.Needed.{Enough, node_turns}

-- A match by the plain rules goes forward, stays inside the line, and is empty only where the node may be.
pub span : (g : Grammar) (line : List ℕ) {p : Node} {x y : ℕ} {ts : Trees} → Plain g line p x (ok y ts) → Span g line p x y
unfolding look
span g line h = spans g line (lemma_1 g line every_rule h).1 (λ b w q e. found refl e)

-- No rule becomes live.
abbrev no_rule : ℕ → Bool
no_rule a = false

module _ (g : Grammar) (line : List ℕ) where
  abbrev Plainly : Goal → ℕ → Answer → Type 0
  Plainly (at p) x r = Plain g line p x r
  Plainly (inc a e ts) x r = Unit {0}

  -- Where no rule does, the bounded rules are the plain ones.
  plainly : {l : List Note} {p : Goal} {x : ℕ} {n : Amount} {r : Answer} → Bounded g line no_rule l p x r n → Plainly p x r
  plainly R.empty1 = R.empty1
  plainly (R.char1 q) = R.char1 q
  plainly (R.char2 q) = R.char2 q
  plainly (R.con1 h k) = R.con1 (plainly h) (plainly k)
  plainly (R.con2 h k) = R.con2 (plainly h) (plainly k)
  plainly (R.con3 h) = R.con3 (plainly h)
  plainly (R.ord1 h) = R.ord1 (plainly h)
  plainly (R.ord2 h k) = R.ord2 (plainly h) (plainly k)
  plainly (R.not1 h) = R.not1 (plainly h)
  plainly (R.not2 h) = R.not2 (plainly h)
  plainly (R.rep1 h) = R.rep1 (plainly h)
  plainly (R.rep2 h q k) = R.rep2 (plainly h) q (plainly k)
  plainly (R.rep3 h) = R.rep3 (plainly h)
  plainly (R.var w h) = R.var (plainly h)
  plainly (R.lvar1 w q h k) = clash w refl
  plainly (R.lvar2 w q h) = clash w refl
  plainly (R.lvar3 w q) = clash w refl
  plainly (R.inc1 h q k) = tt
  plainly (R.inc2 h) = tt
  plainly (R.inc3 h q) = tt

  module _ (good : Closed g) (free : Free g) where
    none_needed : Enough g no_rule
    none_needed = record { needed = λ a la reached recursive. absurd (free.none a la reached recursive) }

    -- Of a node that is reached: what the bounded rules answer with nothing live, the plain rules answer.
    pub becomes_plain : (i x : ℕ) → i < length g.nodes → Met g (node g i) → {r : Answer} {n : Amount} → Bounded g line every_rule [] (at (node g i)) x r n → Plain g line (node g i) x r
    becomes_plain i x li met h = plainly (node_turns g line good no_rule none_needed i x li met h).rules

    -- Every node that is reached has a plain answer everywhere.
    pub total : (i x : ℕ) → i < length g.nodes → Met g (node g i) → x ≤ length line → (r : Answer) × Plain g line (node g i) x r
    unfolding look
    total i x li met inside =
        let h = lemma_2 g line good [] (λ b w q e. found refl e) i x li inside in (h.answer, becomes_plain i x li met h.rules)
