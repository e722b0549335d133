-- Passes as long as each adds a rule: the mask grows with every turn, and it fits 64 bits.
use mathlib.Core.Path.{◌≡◌}
use mathlib.Core.List.{List}
use Prim.Native.Nat.{ℕ}
use native.Mathlib.Omega.{arith}
use lib.ListN.{length}
use Rattle.layout.specs.Table.{nodes_of, grammar_of}
use Rattle.layout.proofs.Laying.{laid, node_count, closed}
use Rattle.empties.specs.Pass.{Passed}
use Rattle.empties.proofs.Repeat.{begun, again, all_rules, all_nodes_lem}
use Rattle.empties.proofs.passes.Goals as goal

-- What a pass did, by the number of the grammar's nodes.
by-nodes : (t : List ℕ) {known from : ℕ} {before after : List ℕ} → Passed (grammar_of t) known from (nodes_of t) before after
    → Passed (grammar_of t) known from (length (grammar_of t).nodes) before after
by-nodes t p = rw (node_count t) p

pub loop-known-init : goal.loop-known-init
loop-known-init c = let t = c.args.table.now.bytes.now in begun (grammar_of t) (closed t (laid t c.args.table.now.laid)) _ _ c.requires.0 (rw (node_count t) c.requires.1)

pub pass-requires : goal.pass-requires
pass-requires c =
    let b = c.loop-known.invariant in
    (b.words, omega (arith, node_count c.args.table.now.bytes.now, b.there))

pub loop-known-preserved : goal.loop-known-preserved
loop-known-preserved c =
    let t = c.args.table.now.bytes.now in
    let l = c.loop-known in
    let p = c.pass in
    let m = c.gather-more in
    again (grammar_of t) (closed t (laid t c.args.table.now.laid)) _ _ _ _ _ l.invariant (by-nodes t p.ensures) m.ensures.0 m.type_inv

pub returns-then-more-known : goal.returns-then-more-known
returns-then-more-known c =
    let t = c.args.table.now.bytes.now in
    let l = c.loop-known in
    let p = by-nodes t c.pass.ensures in
    let more = c.gather-more.ensures.0 in
    let none_added : c.gather-more.result ≡ l.known = omega arith in (
      all_rules (grammar_of t) (closed t (laid t c.args.table.now.laid)) _ _ _ _ _ l.invariant p more none_added,
      all_nodes_lem (grammar_of t) (closed t (laid t c.args.table.now.laid)) _ _ _ _ _ l.invariant p more none_added,
    )
