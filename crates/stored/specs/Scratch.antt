-- What the spans and records that well_formed reads and keeps stand for.
use Rattle.std.specs.Prelude.{Bool, List, ◌≡◌, ℕ, ◌&&◌, length, get_or, map, reverse, take, eqb, ltb, Option, Some, None}
use Rattle.stored.specs.declared.Record as code
use Rattle.stored.specs.declared.Span as code_span
use Rattle.stored.specs.Stored.{stored_length}
use Rattle.stored.specs.WellFormed.{number_at, Record, record_at, Span, Untaken, fault, untaken}

-- What a span and a record of the code stand for.
abbrev pub span_of : code_span.Span → Span
span_of s = record { start = s.start; end = s.end }

abbrev pub record_of : code.Record → Record
record_of x = record { rule = x.rule; start = x.span.start; end = x.span.end; number = x.children }

-- The scratch: spans of records not yet taken, the newest last.
abbrev pub spans_of : List code_span.Span → List Span
spans_of spans = map span_of (reverse spans)

-- How many are left, or none for a fault.
abbrev pub left_of : List code_span.Span → Option ℕ → Untaken
left_of spans None = fault
left_of spans (Some i) = untaken (spans_of (take i spans))

-- A record is that from p on.
abbrev pub IsRecord : ℕ → List ℕ → ℕ → code.Record → Type 0
IsRecord w bytes p x = record_of x ≡ record_at w bytes p

-- Of the head: version, slice length, and the formula agree, and it has a record.
abbrev pub head_agrees : ℕ → List ℕ → Bool
head_agrees w bytes = eqb (get_or bytes 0 0) w && eqb (number_at 2 bytes 1) (length bytes) && eqb (stored_length w (number_at 2 bytes 3)) (length bytes) && ltb 0 (number_at 2 bytes 3)
