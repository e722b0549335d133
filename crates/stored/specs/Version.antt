-- 02, W-212: how long a line may be, and which version a line of so many bytes gives. The version is the bytes of a position.
use Rattle.std.specs.Prelude.{cond, ℕ, leb}

-- "Lines may have up to 4,000 bytes".
abbrev pub longest_line : ℕ
longest_line = 4000

-- "A line of up to 255 bytes still gives version 1": its positions stand in one byte.
abbrev pub longest_in_one_byte : ℕ
longest_in_one_byte = 255

-- "A longer one gives version 2: start and end take two bytes each".
unfoldable pub version_of : ℕ → ℕ
version_of l = cond (leb l longest_in_one_byte) 1 2
