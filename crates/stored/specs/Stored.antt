-- 01, "The stored reading", over the width of a position: one byte in version 1; 02, W-212: two bytes in version 2.
use Rattle.std.specs.Prelude.{List, [], ◌∷◌, ◌++◌, ℕ, zero, suc, ◌+◌, ◌*◌, ◌/◌, ◌%◌, drop}
use Rattle.meaning.specs.Grammar.{Trees, no_trees, tree}

-- A record for each tree: those of a list, with all that is below them.
unfoldable pub records_of : Trees → ℕ
records_of no_trees = 0
records_of (tree a x e cs ts) = 1 + records_of cs + records_of ts

-- How many trees stand in a list. 01: "number of children".
unfoldable pub number_of : Trees → ℕ
number_of no_trees = 0
number_of (tree a x e cs ts) = 1 + number_of ts

-- A number in so many bytes, the highest first.
unfoldable pub in_bytes : ℕ → ℕ → List ℕ
in_bytes zero n = []
in_bytes (suc w) n = in_bytes w (n / 256) ++ (n % 256 ∷ [])

-- 01: "five bytes for each record": one for the rule, two for the number of children, and two positions. 02, W-212: "seven bytes a record".
abbrev pub record_size : ℕ → ℕ
record_size w = 3 + 2 * w

-- 01: "rule, start, end, number of children (two bytes)".
unfoldable pub record_bytes : ℕ → ℕ → ℕ → ℕ → ℕ → List ℕ
record_bytes w a x e n = in_bytes 1 a ++ (in_bytes w x ++ (in_bytes w e ++ in_bytes 2 n))

-- 01: "Children come before their parent, in order; the root is last."
unfoldable pub trees_bytes : ℕ → Trees → List ℕ
trees_bytes w no_trees = []
trees_bytes w (tree a x e cs ts) = trees_bytes w cs ++ (record_bytes w a x e (number_of cs) ++ trees_bytes w ts)

-- 01: "Length is 5 + 5 x records." So with the version's record size.
abbrev pub stored_length : ℕ → ℕ → ℕ
stored_length w n = 5 + record_size w * n

-- 01: "Byte 0 version 1, bytes 1-2 total length, bytes 3-4 record count". The version is the width of a position.
unfoldable pub head_bytes : ℕ → ℕ → List ℕ
head_bytes w n = in_bytes 1 w ++ (in_bytes 2 (stored_length w n) ++ in_bytes 2 n)

-- 01: "then five bytes for each record".
unfoldable pub stored_of : ℕ → Trees → List ℕ
stored_of w ts = head_bytes w (records_of ts) ++ trees_bytes w ts

-- 01: "the stored reading at its front, the rest untouched".
abbrev pub with_stored : List ℕ → ℕ → Trees → List ℕ
with_stored room w ts = stored_of w ts ++ drop (stored_length w (records_of ts)) room
