-- On READ the front of the room is a stored reading that is well formed for this table's rules and this line, and the tree that is read back from it is the bounded rules'.
use mathlib.Core.Path.{◌≡◌, refl, sym, ap, subst, ◌∙◌}
use mathlib.Core.Bool.{true}
use mathlib.Core.List.{List}
use Prim.Native.Nat.{ℕ, ◌<◌, ◌≤◌}
use native.Mathlib.Omega.{arith}
use lib.ListN.{length, take}
use lib.Seq.{take_at}
use Rattle.meaning.specs.Grammar.{Trees, no_trees, Answer, ok}
use Rattle.meaning.specs.Rules.{Amount}
use Rattle.meaning.specs.Decide.{left_recursive}
use Rattle.layout.specs.Table.{rules_of}
use Rattle.layout.specs.Layout.{READ}
use Rattle.layout.proofs.Laying.{rule_count}
use Rattle.stored.specs.Stored.{records_of, stored_length, stored_of}
use Rattle.stored.specs.WellFormed.{is_well_formed}
use Rattle.stored.specs.Nested.{Nested}
use Rattle.stored.specs.ReadBack.{tree_of}
use Rattle.meaning.proofs.Answers.{join_none}
use Rattle.stored.proofs.Bytes.{length_stored}
use Rattle.stored.proofs.Nested.{nested_join, nested_fits}
use Rattle.stored.proofs.Versions.{position_fits, few_stored, written_for}
use Rattle.stored.proofs.ReadBack as R
use Rattle.reader.specs.Answer.{Outcome}
use Rattle.koskorbelu.specs.Demands.{Call, back, code, grammar, version, Ended, fails, rest, records, room, reads, Taken, Answers, Published, Demand2}
use Rattle.koskorbelu.proofs.Demand1.{given}
use Rattle.koskorbelu.proofs.Demand2.{is_closed, has_rule, was_taken, demand_2}
use Rattle.koskorbelu.proofs.Nests.{Whole, reading_nests}

-- The front of the room, as long as 01 says of so many records in the line's version.
abbrev pub front : Call → Outcome → List ℕ
front c o = take (stored_length (version c) o.reading.records) o.room

module _ (c : Call) where
  -- What READ says of an outcome.
  record Tree (o : Outcome) (r : Answer) : Type 0 where
    ts : Trees
    answer : r ≡ ok o.reading.matched ts
    few : records_of ts ≤ 1000
    bytes : front c o ≡ stored_of (version c) ts

  of_read : {n f : ℕ} {r : Answer} {o : Outcome} → Ended c n f r o → code o ≡ READ → Tree o r
  of_read fails e = absurd (omega arith)
  of_read (rest h) e = absurd (omega arith)
  of_read (records n h) e = absurd (omega arith)
  of_read (room n h l) e = absurd (omega arith)
  of_read (reads {ts = ts} n h l) e = record { ts = ts; answer = refl; few = h; bytes = take_at (stored_of (version c) ts) _ _ (length_stored (version c) ts) }

  module _ (e : code (back c) ≡ READ) where
    answers : Answers (code (back c))
    answers = subst Answers (sym e) Answers.reads

    by_rules : Demand2 c (back c)
    by_rules = demand_2 c answers

    taken : Taken c
    taken = was_taken c (given c) answers

    the_tree : Tree (back c) by_rules.answer
    the_tree = of_read by_rules.said e

    reading : Published c (ok (back c).reading.matched the_tree.ts) by_rules.amount
    reading = subst (λ (r : Answer). Published c r by_rules.amount) the_tree.answer by_rules.rules

    whole : Whole (grammar c) c.line (left_recursive (grammar c)) (is_closed c taken.sheet) (back c).reading.matched the_tree.ts
    whole = reading_nests (grammar c) c.line (left_recursive (grammar c)) (is_closed c taken.sheet) (has_rule c taken.sheet) reading

    nested : Nested (rules_of c.table) 0 (length c.line) the_tree.ts
    unfolding Nested
    nested =
        let h : Nested (rules_of c.table) 0 (back c).reading.matched the_tree.ts = rw (rule_count c.table) at whole.nested in
        rw (join_none the_tree.ts) at (nested_join (rules_of c.table) 0 (back c).reading.matched (length c.line) the_tree.ts no_trees h whole.inside)

    few_bytes : stored_length (version c) (records_of the_tree.ts) < 65536
    few_bytes = few_stored (length c.line) (records_of the_tree.ts) the_tree.few

    few_rules : rules_of c.table ≤ 256
    few_rules = omega (arith, taken.sheet.laid.few_rules)

    pub well_formed : is_well_formed (rules_of c.table) (length c.line) (front c (back c)) ≡ true
    well_formed = rw the_tree.bytes (written_for (rules_of c.table) (length c.line) the_tree.ts few_rules taken.short few_bytes whole.single nested)

    -- The tree in the room.
    pub read_back : (n : Amount) × Published c (ok (back c).reading.matched (tree_of (version c) (front c (back c)))) n
    read_back =
        let fits = nested_fits (version c) (rules_of c.table) 0 (length c.line) the_tree.ts few_rules (position_fits (length c.line) taken.short) (omega (arith, the_tree.few)) nested in
        let t : tree_of (version c) (front c (back c)) ≡ the_tree.ts = ap (tree_of (version c)) the_tree.bytes ∙ R.read_back (version c) the_tree.ts few_bytes whole.single fits in
        (by_rules.amount, rw t reading)
