-- Trees whose spans nest, as those of a reading do, and trees whose numbers fit into the bytes of a record.
use Rattle.std.specs.Prelude.{ℕ, ◌<◌, ◌≤◌, ◌^◌}
use Rattle.meaning.specs.Grammar.{Trees, no_trees, tree}
use Rattle.stored.specs.Stored.{number_of}

-- The trees of a list lie in order between two positions, without overlap, each one's children inside its span; each rule is below r.
unfoldable pub Nested : ℕ → ℕ → ℕ → Trees → Type 0
Nested r low high no_trees = low ≤ high
Nested r low high (tree a x e cs ts) = (a < r) × ((low ≤ x) × (Nested r x e cs × Nested r e high ts))

-- A rule in one byte, a position in w bytes, a number of children in two.
unfoldable pub Fits : ℕ → Trees → Type 0
Fits w no_trees = Unit {0}
Fits w (tree a x e cs ts) = (a < 256) × ((x < 256 ^ w) × ((e < 256 ^ w) × ((number_of cs < 65536) × (Fits w cs × Fits w ts))))
