-- What the check's acceptance says of a table: it is well formed, so it is laid out well, and its grammar has no repetition of nothing.
use mathlib.Core.Path.{◌≡◌, sym, ap, ◌∙◌}
use mathlib.Core.Logic.{◌≢◌}
use mathlib.Core.List.{List}
use Prim.Native.Nat.{ℕ}
use native.Mathlib.Omega.{arith}
use Rattle.std.proofs.Common.{Ok, Err}
use Rattle.meaning.specs.Report.{Consuming}
use Rattle.layout.specs.Table.{grammar_of}
use Rattle.layout.specs.Layout.{Verdict, READ, Laid}
use Rattle.layout.proofs.Exact.{laid_iff}
use Rattle.layout.proofs.Stops.{refuses}
use Rattle.layout.proofs.Laying.{node_count}
use Rattle.sheet.specs.declared.Refusal.{Refusal}
use Rattle.sheet.specs.declared.Refusal.TheVariants.{Layout, Loop}
use Rattle.sheet.specs.Check.{code_of, verdict_of, check_of, Accepted}
use Rattle.sheet.specs.Given.{WellFormed}
use Rattle.sheet.proofs.Exact.{accepted_iff}

-- What a caller has whom the code answers Ok, and one who is refused.
pub accepted_ok : (t : List ℕ) → verdict_of (Ok tt) ≡ check_of t → Accepted t
unfolding Accepted
accepted_ok t e = sym (ap (λ (v : Verdict). v.code) e)

pub no_read : (refusal : Refusal) → code_of refusal ≢ READ
no_read (Layout refusal) = refuses refusal
no_read (Loop i) = λ e. absurd (omega arith)

pub not_accepted : (t : List ℕ) (refusal : Refusal) → verdict_of (Err refusal) ≡ check_of t → ¬ Accepted t
unfolding Accepted
not_accepted t refusal e a = no_read refusal (ap (λ (v : Verdict). v.code) e ∙ a)

pub well_formed : (t : List ℕ) → Accepted t → WellFormed t
well_formed t = (accepted_iff t).0

pub laid : (t : List ℕ) → Accepted t → Laid t
laid t a = (laid_iff t).1 (well_formed t a).laid

pub consuming : (t : List ℕ) → Accepted t → Consuming (grammar_of t)
consuming t a = record { none = λ i h. (well_formed t a).loops i (rw (node_count t) at h) }
