-- How it is worked out: what the contracts of the code's own functions cite. Nobody need believe it; Empties says what comes out.
use Rattle.std.specs.Prelude.{◌≡◌, Bool, true, false, ◌&&◌, ◌||◌, List, ℕ, leb, ltb, length}
use Rattle.bits.specs.Mask.{has}
use Rattle.bits.specs.Marks.{marked}
use Rattle.meaning.specs.Grammar.{Node, empty, range, rule, seq, choice, not, rep, Grammar, node}

-- Whether a node may be empty, by the nodes and the rules that are known to be.
unfoldable pub empty_of : (nodes : ℕ → Bool) (rules : ℕ) → Node → Bool
empty_of e known empty = true
empty_of e known (range lo hi) = false
empty_of e known (rule a) = has known a
empty_of e known (seq a b) = e a && e b
empty_of e known (choice a b) = e a || e b
empty_of e known (not a) = true
empty_of e known (rep a) = true

-- Whether it is empty by itself: where nothing is known.
abbrev pub alone : Node → Bool
alone p = empty_of (λ i. false) 0 p

abbrev pub alone_in : Grammar → ℕ → Bool
alone_in g i = alone (node g i)

-- The marks after a pass over the nodes from one up to another.
pub record Passed (g : Grammar) (known from to : ℕ) (before after : List ℕ) : Type 0 where
  pub same_length : length after ≡ length before
  pub bits : (i : ℕ) → marked after i ≡ (marked before i || (leb from i && ltb i to) && empty_of (marked after) known (node g i))

-- To the set base are added those of the first k rules that pass a test.
unfoldable pub Gathered : (test : ℕ → Bool) → (base k mask : ℕ) → Type 0
Gathered test base k mask = (a : ℕ) → has mask a ≡ (has base a || ltb a k && test a)
