-- 02, W-201: which table a written sheet is.
use Rattle.std.specs.Prelude.{Bool, true, false, ◌&&◌, cond, List, [], ◌∷◌, ◌++◌, ℕ, suc, ◌/◌, ◌%◌, length, eqb}
use Rattle.meaning.specs.Grammar as g
use Rattle.meaning.specs.Grammar.{Node}
use Rattle.layout.specs.Table.{node_at}
use Rattle.written.specs.Written.{Name, Written, name, range, star, plus, maybe, deny, then, or, Line}

-- "Nodes are numbered as they are finished, left to right": the number of the last node, where the first has number s.
abbrev pub last : ℕ → Written → ℕ
last s (name n) = s
last s (range lowest highest) = s
last s (star e) = suc (last s e)
last s (plus e) = suc (suc (last s e))
last s (maybe e) = suc (suc (last s e))
last s (deny e) = suc (last s e)
last s (then a b) = suc (last (suc (last s a)) b)
last s (or a b) = suc (last (suc (last s a)) b)

-- The nodes, from number s on, where a name stands for the rule that f says. "`e+` means `e e*`, e's nodes made once and used by both, and `e?` means `e / empty`."
unfoldable pub nodes : (f : Name → ℕ) → ℕ → Written → List Node
nodes f s (name n) = g.rule (f n) ∷ []
nodes f s (range lowest highest) = g.range lowest highest ∷ []
nodes f s (star e) = nodes f s e ++ (g.rep (last s e) ∷ [])
nodes f s (plus e) = nodes f s e ++ (g.rep (last s e) ∷ g.seq (last s e) (suc (last s e)) ∷ [])
nodes f s (maybe e) = nodes f s e ++ (g.empty ∷ g.choice (last s e) (suc (last s e)) ∷ [])
nodes f s (deny e) = nodes f s e ++ (g.not (last s e) ∷ [])
nodes f s (then a b) = nodes f s a ++ (nodes f (suc (last s a)) b ++ (g.seq (last s a) (last (suc (last s a)) b) ∷ []))
nodes f s (or a b) = nodes f s a ++ (nodes f (suc (last s a)) b ++ (g.choice (last s a) (last (suc (last s a)) b) ∷ []))

-- Line after line. A rule's root is the last node of its line.
unfoldable pub nodes_from : (f : Name → ℕ) → ℕ → List Line → List Node
nodes_from f s [] = []
nodes_from f s (l ∷ ls) = nodes f s l.alternatives ++ nodes_from f (suc (last s l.alternatives)) ls

unfoldable pub roots_from : ℕ → List Line → List ℕ
roots_from s [] = []
roots_from s (l ∷ ls) = last s l.alternatives ∷ roots_from (suc (last s l.alternatives)) ls

-- Whether two names have the same letters.
unfoldable pub same : List ℕ → List ℕ → Bool
same [] [] = true
same [] (y ∷ ys) = false
same (x ∷ xs) [] = false
same (x ∷ xs) (y ∷ ys) = eqb x y && same xs ys

-- "The first rule is rule 0, the others follow in order of their first line": the first line of that name; as many as there are lines if none has it.
unfoldable pub rule_of : List Line → List ℕ → ℕ
rule_of [] letters = 0
rule_of (l ∷ ls) letters = cond (same l.name.letters letters) 0 (suc (rule_of ls letters))

abbrev pub rule_in : List Line → Name → ℕ
rule_in ls n = rule_of ls n.letters

abbrev pub nodes_of : List Line → List Node
nodes_of ls = nodes_from (rule_in ls) 0 ls

abbrev pub roots_of : List Line → List ℕ
roots_of ls = roots_from 0 ls

-- 01, "The table of a sheet": "Big-endian."
abbrev pub in_two : ℕ → List ℕ
in_two n = n / 256 ∷ n % 256 ∷ []

-- "n nodes of five bytes: kind, field a (two bytes), field b (two bytes)".
abbrev pub in_five : (kind a b : ℕ) → List ℕ
in_five kind a b = kind ∷ in_two a ++ in_two b

abbrev pub node_bytes : Node → List ℕ
node_bytes g.empty = in_five 0 0 0
node_bytes (g.range lowest highest) = in_five 1 lowest highest
node_bytes (g.rule a) = in_five 2 a 0
node_bytes (g.seq a b) = in_five 3 a b
node_bytes (g.choice a b) = in_five 4 a b
node_bytes (g.not a) = in_five 5 a 0
node_bytes (g.rep a) = in_five 6 a 0

unfoldable pub all_nodes : List Node → List ℕ
all_nodes [] = []
all_nodes (n ∷ ns) = node_bytes n ++ all_nodes ns

-- "r two-byte root nodes".
unfoldable pub all_roots : List ℕ → List ℕ
all_roots [] = []
all_roots (a ∷ others) = in_two a ++ all_roots others

-- "Byte 0 is the version, 1. Bytes 1-2: length of the whole table. Bytes 3-4: node count n [..]. Bytes 5-6: rule count r [..]. Then r two-byte root nodes [..]. Then n nodes".
unfoldable pub table_bytes : (roots : List ℕ) → (nodes : List Node) → List ℕ
table_bytes roots ns =
    1 ∷ in_two (node_at (length roots) (length ns)) ++ (in_two (length ns) ++ (in_two (length roots) ++ (all_roots roots ++ all_nodes ns)))

abbrev pub table_of : List Line → List ℕ
table_of ls = table_bytes (roots_of ls) (nodes_of ls)
