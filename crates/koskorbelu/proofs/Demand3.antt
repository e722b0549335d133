-- Demand 3: a free sheet is read within 2 x N x (L + 1) + 1 visits, never refused for effort where so many are allowed, and as the plain rules say.
use mathlib.Core.Path.{◌≡◌, refl, ◌∙◌}
use mathlib.Core.Logic.{◌≢◌}
use Prim.Native.Nat.{◌+◌, ◌*◌, ◌≤◌}
use native.Mathlib.Nat.{mul-le-mul}
use native.Mathlib.Omega.{arith}
use lib.ListN.{length}
use Rattle.meaning.specs.Grammar.{rule, Answer}
use Rattle.meaning.specs.Rules.{Plain, furthest_of}
use Rattle.meaning.specs.Report.{Free, bound}
use Rattle.meaning.specs.Reading.{State, made}
use Rattle.meaning.proofs.Runs.{Ends}
use Rattle.meaning.proofs.Claims as claims
use Rattle.layout.proofs.Laying.{node_count}
use Rattle.sheet.specs.Given.{WellFormed}
use Rattle.reader.specs.Answer.{EFFORT, DEEP, longest_line, most_allowance, Outcome}
use Rattle.koskorbelu.specs.Demands.{Call, back, code, visits, furthest, grammar, run, Ended, Came, effort, deep, done, Taken, Demand3}
use Rattle.koskorbelu.proofs.Demand1.{came}
use Rattle.koskorbelu.proofs.Demand2.{ended_visits, ended_furthest, ended_own, is_closed, plain_answer, has_rule, no_effort}

module _ (c : Call) where
  -- No call needs a larger allowance than this.
  pub most_bound : WellFormed c.table → length c.line ≤ longest_line → bound (grammar c) c.line ≤ 4097025
  most_bound w short =
      let n : 2 * length (grammar c).nodes ≤ 1024 = omega (arith, node_count c.table, w.laid.few_nodes) in
      let l : length c.line + 1 ≤ longest_line + 1 = omega arith in
      let p : 2 * length (grammar c).nodes * (length c.line + 1) ≤ 1024 * (longest_line + 1) = mul-le-mul n l in
      omega arith

  -- So an allowance can always be large enough.
  pub large_enough : WellFormed c.table → length c.line ≤ longest_line → bound (grammar c) c.line ≤ most_allowance
  large_enough w short = let m = most_bound w short in omega arith

  module _ (t : Taken c) (free : Free (grammar c)) where
    abbrev Few : State → Type 0
    Few s = made c.allowance s ≤ bound (grammar c) c.line

    at_most : Ends Few Few (λ r. Few) (run c)
    at_most = claims.free_visits (grammar c) c.line c.allowance (is_closed c t.sheet) free (has_rule c t.sheet)

    few : {o : Outcome} → Came c o → visits o ≤ bound (grammar c) c.line
    few (effort {s = s} m) = let z : Few s = rw m at at_most in z
    few (deep {s = s} m) = let z : Few s = rw m at at_most in z
    few (done {s = s} m h) = let z : Few s = rw m at at_most in rw (ended_visits c h) z

    -- Whatever is allowed, and however the reading ends.
    pub few_visits : visits (back c) ≤ bound (grammar c) c.line
    few_visits = few (came c t)

    module _ (enough : bound (grammar c) c.line ≤ c.allowance) where
      never_effort : {o : Outcome} → Came c o → code o ≢ EFFORT
      never_effort (effort m) e =
          rw m at (claims.free_complete (grammar c) c.line c.allowance (is_closed c t.sheet) free (has_rule c t.sheet) enough)
      never_effort (deep m) e = omega arith
      never_effort (done m h) e = no_effort c h e

      plainly : {o : Outcome} → Came c o → code o ≢ DEEP
          → (r : Answer) × Plain (grammar c) c.line (rule 0) 0 r × ((q : Answer) (d : Plain (grammar c) c.line (rule 0) 0 q) → (q ≡ r) × (furthest o ≡ furthest_of d))
          × Ended c (visits o) (furthest o) r o
      plainly (effort m) n = absurd (never_effort (effort m) refl)
      plainly (deep m) n = absurd (n refl)
      plainly (done {r = r} m h) n = let z = plain_answer c t free m in (r, z.0, (λ q d. ((z.1 q d).0, ended_furthest c h ∙ (z.1 q d).1)), ended_own c h)

      pub demand_3 : Demand3 c (back c)
      demand_3 = record { never = never_effort (came c t); few = few_visits; plain = plainly (came c t) }
