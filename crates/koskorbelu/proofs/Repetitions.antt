-- 02, W-209: "in accepted tables a repetition's child never matches without consuming". So rep.3 is used in no reading of one, and 01's corner of the repetition is 003's.
use mathlib.Core.Path.{◌≡◌}
use mathlib.Core.Bool.{Bool}
use mathlib.Core.List.{List}
use Prim.Native.Nat.{ℕ, ◌<◌}
use native.Mathlib.Omega.{arith}
use lib.ListN.{length}
use Rattle.meaning.specs.Grammar.{rule, rep, node, Closed, Answer}
use Rattle.meaning.specs.Rules.{Plain, Amount, Reads}
use Rattle.meaning.specs.Report.{Consuming}
use Rattle.meaning.proofs.Repeating.{Consumes, consumes, WithoutRep3, PlainWithoutRep3, reads_without_rep3, plain_reads_without_rep3}
use Rattle.layout.specs.Table.{nodes_of, grammar_of}
use Rattle.layout.proofs.Exact.{laid_iff}
use Rattle.layout.proofs.Laying.{closed, node_count, rule_count}
use Rattle.sheet.specs.Given.{WellFormed}

module _ (t : List ℕ) (w : WellFormed t) (line : List ℕ) where
  consuming : Consuming (grammar_of t)
  consuming = record { none = λ i h. w.loops i (rw (node_count t) at h) }

  is_closed : Closed (grammar_of t)
  is_closed = closed t ((laid_iff t).1 w.laid)

  has_rule : 0 < length (grammar_of t).roots
  has_rule = omega (arith, rule_count t, w.laid.some_rule)

  -- Whichever rules become live.
  module _ (which : ℕ → Bool) where
    -- By the plain rules, by the bounded rules whatever is live, and in every visit of the limited reading, with answers kept or not.
    pub repetition_consumes : (i a : ℕ) → i < nodes_of t → node (grammar_of t) i ≡ rep a → Consumes (grammar_of t) line which a
    repetition_consumes i a h e = consumes (grammar_of t) line which consuming i a (rw (node_count t) h) e

    -- No reading uses rep.3, by the bounded rules.
    pub no_rep3 : {r : Answer} {n : Amount} (h : Reads (grammar_of t) line which r n) → WithoutRep3 (grammar_of t) line which h.rules
    no_rep3 h = reads_without_rep3 (grammar_of t) line which is_closed consuming has_rule h

  -- Nor by the plain ones.
  pub plain_no_rep3 : {r : Answer} (d : Plain (grammar_of t) line (rule 0) 0 r) → PlainWithoutRep3 (grammar_of t) line d
  plain_no_rep3 d = plain_reads_without_rep3 (grammar_of t) line is_closed consuming has_rule d
