-- Trees whose spans nest: also between wider positions, also joined; and their numbers fit into the bytes of a record.
use native.Mathlib.Omega.{arith}
use Prim.Native.Nat.{ℕ, ◌^◌, ◌<◌, ◌≤◌}
use Rattle.meaning.specs.Grammar.{Trees, no_trees, tree, ◌⋈◌}
use Rattle.stored.specs.Stored.{records_of, number_of}
use Rattle.stored.specs.Nested.{Nested, Fits}
use Rattle.stored.proofs.Bytes.{number_few}

pub nested_order : (r low high : ℕ) (ts : Trees) → Nested r low high ts → low ≤ high
unfolding Nested
nested_order r low high no_trees h = h
nested_order r low high (tree a x e cs ts) h = omega (arith, h.1.0, nested_order r x e cs h.1.1.0, nested_order r e high ts h.1.1.1)

pub nested_low : (r start mid high : ℕ) (ts : Trees) → start ≤ mid → Nested r mid high ts → Nested r start high ts
unfolding Nested
nested_low r start mid high no_trees l h = omega arith
nested_low r start mid high (tree a x e cs ts) l h = let z = h.1.0 in (h.0, (omega arith, h.1.1))

pub nested_join : (r low mid high : ℕ) (ts us : Trees) → Nested r low mid ts → Nested r mid high us → Nested r low high (ts ⋈ us)
unfolding Nested
nested_join r low mid high no_trees us h k = nested_low r low mid high us h k
nested_join r low mid high (tree a x e cs ts) us h k = (h.0, (h.1.0, (h.1.1.0, nested_join r e mid high ts us h.1.1.1 k)))

-- Trees that nest can be stored.
pub nested_fits : (w r low high : ℕ) (ts : Trees) → r ≤ 256 → high < 256 ^ w → records_of ts < 65536 → Nested r low high ts → Fits w ts
unfolding Nested records_of Fits
nested_fits w r low high no_trees hr hm hn h = tt
nested_fits w r low high (tree a x e cs ts) hr hm hn h =
    let o : x ≤ e = nested_order r x e cs h.1.1.0 in
    let b : e ≤ high = nested_order r e high ts h.1.1.1 in
    let c : number_of cs ≤ records_of cs = number_few cs in
    let d = h.0 in
    (omega arith, (omega arith, (omega arith, (omega arith, (nested_fits w r x e cs hr (omega arith) (omega arith) h.1.1.0, nested_fits w r e high ts hr hm (omega arith) h.1.1.1)))))
