-- What the contracts of the code's own functions cite: a sheet's nodes and lines as rows of numbers. Nothing here has to be believed.
use Rattle.std.specs.Prelude.{List, [], ◌∷◌, ◌++◌, ℕ, suc, ◌+◌, ◌*◌, length}
use Rattle.meaning.specs.Grammar as g
use Rattle.meaning.specs.Grammar.{Node}
use Rattle.written.specs.Written.{Name, Line}
use Rattle.written.specs.Numbered.{last}

-- A name in one number: its place, and how many letters it has.
abbrev pub word : Name → ℕ
word n = n.place * 64 + length n.letters

-- A node's kind and its two fields.
abbrev pub three_of : Node → List ℕ
three_of g.empty = 0 ∷ 0 ∷ 0 ∷ []
three_of (g.range lowest highest) = 1 ∷ lowest ∷ highest ∷ []
three_of (g.rule a) = 2 ∷ a ∷ 0 ∷ []
three_of (g.seq a b) = 3 ∷ a ∷ b ∷ []
three_of (g.choice a b) = 4 ∷ a ∷ b ∷ []
three_of (g.not a) = 5 ∷ a ∷ 0 ∷ []
three_of (g.rep a) = 6 ∷ a ∷ 0 ∷ []

unfoldable pub flat : List Node → List ℕ
flat [] = []
flat (n ∷ ns) = three_of n ++ flat ns

-- Of each line its name and its root.
unfoldable pub flat_lines : ℕ → List Line → List ℕ
flat_lines s [] = []
flat_lines s (l ∷ ls) = word l.name ∷ last s l.alternatives ∷ flat_lines (suc (last s l.alternatives)) ls
