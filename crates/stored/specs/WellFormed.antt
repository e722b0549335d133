-- 01, "The stored reading": when it is well formed for r rules and a line of l bytes, over the width w of a position.
use Rattle.std.specs.Prelude.{Bool, true, false, ◌&&◌, cond, List, [], ◌∷◌, ℕ, zero, suc, ◌+◌, ◌*◌, length, get_or, leb, ltb, eqb}
use Rattle.stored.specs.Version.{longest_line, version_of}
use Rattle.stored.specs.Stored.{record_size, stored_length}

-- The number in w bytes from p on, the highest first.
unfoldable pub number_at : ℕ → List ℕ → ℕ → ℕ
number_at zero bytes p = 0
number_at (suc w) bytes p = number_at w bytes p * 256 + get_or bytes (p + w) 0

-- 01: "rule, start, end, number of children".
pub record Record : Type 0 where
  pub rule : ℕ
  pub start : ℕ
  pub end : ℕ
  pub number : ℕ

unfoldable pub record_at : ℕ → List ℕ → ℕ → Record
record_at w bytes p = record { rule = get_or bytes p 0; start = number_at w bytes (p + 1); end = number_at w bytes (p + 1 + w); number = number_at 2 bytes (p + 1 + w + w) }

-- n records from p on.
unfoldable pub records_at : ℕ → List ℕ → ℕ → ℕ → List Record
records_at w bytes p zero = []
records_at w bytes p (suc n) = record_at w bytes p ∷ records_at w bytes (p + record_size w) n

-- 01: "each rule is below r and start <= end <= L".
abbrev pub in_range : ℕ → ℕ → Record → Bool
in_range r l x = ltb x.rule r && leb x.start x.end && leb x.end l

unfoldable pub all_in_range : ℕ → ℕ → List Record → Bool
all_in_range r l [] = true
all_in_range r l (x ∷ xs) = in_range r l x && all_in_range r l xs

-- Of a record not yet taken its span is asked.
pub record Span : Type 0 where
  pub start : ℕ
  pub end : ℕ

-- The records not yet taken, the newest first; or a fault.
pub data Untaken : Type 0 where
  fault : Untaken
  untaken : List Span → Untaken

-- 01: "takes its number of children from the newest records not yet taken, there are enough, they lie in order inside its span without overlap":
-- the newest ends at the span's end or before, the next at the newest's start or before, and so on; none starts before the span.
unfoldable pub takes : ℕ → ℕ → ℕ → List Span → Untaken
takes zero start end us = untaken us
takes (suc n) start end [] = fault
takes (suc n) start end (u ∷ us) = cond (leb u.end end && leb start u.start) (takes n start u.start us) fault

abbrev pub after : Untaken → (List Span → Untaken) → Untaken
after fault next = fault
after (untaken us) next = next us

-- 01: "going from the first record to the last": each takes its children, and is then the newest not yet taken.
unfoldable pub goes : List Record → List Span → Untaken
goes [] us = untaken us
goes (x ∷ xs) us = after (takes x.number x.start x.end us) (λ vs. goes xs (record { start = x.start; end = x.end } ∷ vs))

-- 01: "at the end only the last is untaken". The last always is.
unfoldable pub only_last : Untaken → Bool
only_last fault = false
only_last (untaken us) = eqb (length us) 1

-- 01: "the version is 1, slice length, bytes 1-2 and formula agree, it has a record", and what is said of its records. So for version w.
unfoldable pub well_formed_of : ℕ → ℕ → ℕ → List ℕ → Bool
well_formed_of w r l bytes =
    let n = number_at 2 bytes 3 in
    let xs = records_at w bytes 5 n in
    eqb (get_or bytes 0 0) w && eqb (number_at 2 bytes 1) (length bytes) && eqb (stored_length w n) (length bytes) && ltb 0 n && all_in_range r l xs && only_last (goes xs [])

-- 02, W-212: "each version is well formed only for its lines", and for a line that is too long nothing is.
unfoldable pub is_well_formed : ℕ → ℕ → List ℕ → Bool
is_well_formed r l bytes = leb l longest_line && well_formed_of (version_of l) r l bytes
