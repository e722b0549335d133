-- Which text a code and an answer have.
use mathlib.Core.Path.{◌≡◌}
use mathlib.Core.List.{[]}
use Prim.Native.Nat.{ℕ, ◌≤◌, ◌<◌}
use lib.ListN.{get_or-eq_default}
use borrow.Author.Tests.{lt-ltb, le-ltb}
use Rattle.reader.specs.Answer.{Numbers}
use Rattle.answers.specs.Printed.{names, name_of, refusal_text, read_text, answer_text}

-- past the last code no number has a name
pub unnamed : (code : ℕ) → 18 ≤ code → name_of code ≡ []
unfolding name_of names
unnamed code h = get_or-eq_default names [] {n = code} h

pub answer_refused : (r : Numbers) → 0 < r.code → answer_text r ≡ refusal_text r.code r.place r.visits
unfolding answer_text
answer_refused r h = simp (lt-ltb 0 r.code h)

pub answer_read : (r : Numbers) → r.code ≤ 0 → answer_text r ≡ read_text r.matched r.visits r.records
unfolding answer_text
answer_read r h = simp (le-ltb 0 r.code h)
