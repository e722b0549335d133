-- How the report is worked out: what the contracts of the code's own functions cite. Nobody need believe it; Report says what comes out.
use Rattle.std.specs.Prelude.{◌≡◌, Bool, true, false, ◌&&◌, ◌||◌, cond, List, [], ◌∷◌, ℕ, zero, suc, ◌+◌, ◌*◌, ◌/◌, ◌%◌, ◌^◌, ◌<◌, length, get_or}
use Rattle.std.specs.Int.Bits.{bit_or}
use Rattle.std.proofs.lemmas.List.Edits.{sets}
use Rattle.bits.specs.Mask.{has}
use Rattle.meaning.specs.Grammar.{Node, empty, range, rule, seq, choice, not, rep, Grammar, node, root_of}
use Rattle.meaning.specs.Decide.{empty_nodes}
use Rattle.layout.specs.Table.{nodes_of, grammar_of}

-- ---- The rules that a node uses at its start, no rule's root gone into.
-- The set that has rule a alone: 1 shifted left by a.
abbrev pub only : ℕ → ℕ
only a = (1 * 2 ^ a) % 2 ^ 64

-- One node, then another: the second is at the start too where the first may be empty.
unfoldable pub in_row : (may_be_empty : Bool) (first second : ℕ) → ℕ
in_row e x y = cond e (bit_or x y) x

-- By the nodes that may be empty and by what is put down for the children.
unfoldable pub starts_of : (may_be_empty : ℕ → Bool) (starts : ℕ → ℕ) → Node → ℕ
starts_of e f empty = 0
starts_of e f (range lo hi) = 0
starts_of e f (rule a) = only a
starts_of e f (seq a b) = in_row (e a) (f a) (f b)
starts_of e f (choice a b) = bit_or (f a) (f b)
starts_of e f (not a) = f a
starts_of e f (rep a) = f a

-- The nodes of a table that may be empty. Every node: then the rules at a node's start are those that it uses anywhere.
unfoldable pub empty_node : (table : List ℕ) → ℕ → Bool
empty_node t i = get_or (empty_nodes (grammar_of t)) i false

abbrev pub every_node : ℕ → Bool
every_node i = true

-- ---- Two working numbers a node: the lower and the higher half of the rules at its start.
unfoldable pub starts_at : List ℕ → ℕ → ℕ
starts_at w i = get_or w (2 * i + 1) 0 * 2 ^ 32 + get_or w (2 * i) 0

abbrev pub halves_of : ℕ → List ℕ
halves_of x = x % 2 ^ 32 ∷ x / 2 ^ 32 ∷ []

unfoldable pub put : List ℕ → ℕ → ℕ → List ℕ
put w i x = sets w (2 * i) (halves_of x)

-- The working numbers after a pass over the first nodes.
unfoldable pub passed : Grammar → (may_be_empty : ℕ → Bool) → List ℕ → ℕ → List ℕ
passed g e w zero = w
passed g e w (suc i) = let v = passed g e w i in put v i (starts_of e (starts_at v) (node g i))

-- After a pass over a table: over its starts, and over all that its nodes use.
abbrev pub passed_all : (table : List ℕ) (may_be_empty : ℕ → Bool) → List ℕ → List ℕ
passed_all t e w = passed (grammar_of t) e w (nodes_of t)

abbrev pub started_all : (table : List ℕ) → List ℕ → List ℕ
started_all t w = passed_all t (empty_node t) w

abbrev pub used_all : (table : List ℕ) → List ℕ → List ℕ
used_all t w = passed_all t every_node w

-- What they say of the root of a rule.
abbrev pub root_starts : (table : List ℕ) → List ℕ → ℕ → ℕ
root_starts t w a = starts_at w (root_of (grammar_of t) a)

-- What they say in the end: of each node what its children's numbers say.
abbrev pub Settled : Grammar → (may_be_empty : ℕ → Bool) → (starts : ℕ → ℕ) → Type 0
Settled g e f = (i : ℕ) → i < length g.nodes → f i ≡ starts_of e f (node g i)

-- ---- Sets of rules.
-- A set for each rule: b is in the set of a.
abbrev pub in_set : List ℕ → ℕ → ℕ → Bool
in_set to a b = has (get_or to a 0) b

-- A rule's set, with that of rule k where it has k.
unfoldable pub widened : (row k set : ℕ) → ℕ
widened row k set = cond (has set k) (bit_or set row) set

-- A chain of steps leads from a to b, by way of the first k rules: by turns through each.
unfoldable pub led : (step : ℕ → ℕ → Bool) → (k a b : ℕ) → Bool
led step zero a b = step a b
led step (suc k) a b = led step k a b || led step k a k && led step k k b

-- To a set are added, for each of the first k rules that it has by then, the rules of that one's row.
unfoldable pub spread : (row : ℕ → ℕ) → (set k : ℕ) → ℕ
spread row set zero = set
spread row set (suc k) = widened (row k) k (spread row set k)
