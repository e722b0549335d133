-- Well-formed bytes are stored of exactly one tree; its spans nest, and it is read back from them.
use mathlib.Core.Path.{◌≡◌, refl, sym, ap, ◌∙◌}
use mathlib.Core.List.{List, [], ◌∷◌, ◌++◌, append_assoc}
use mathlib.Core.Bool.{true, ◌&&◌, and-eq-true_iff}
use native.Mathlib.Omega.{arith}
use native.Mathlib.Nat.{mul-zero, mul-suc}
use Prim.Native.Nat.{ℕ, zero, suc, ◌+◌, ◌*◌, ◌/◌, ◌%◌, ◌<◌, ◌≤◌}
use lib.ListN.{length, get_or, take, drop, length-drop}
use lib.Seq.{take-suc, take-add, drop-drop, get_or-drop, take_all}
use lib.Dec.{ltb, eqb}
use borrow.Author.Tests.{eqb-true}
use Rattle.meaning.specs.Grammar.{Trees, no_trees, tree}
use Rattle.stored.specs.Stored.{records_of, number_of, in_bytes, record_size, record_bytes, trees_bytes, stored_length, head_bytes, stored_of}
use Rattle.stored.specs.WellFormed.{number_at, Record, record_at, records_at, all_in_range, goes, only_last, well_formed_of}
use Rattle.stored.specs.Nested.{Nested, Fits}
use Rattle.stored.specs.ReadBack.{tree_of}
use Rattle.stored.proofs.Bytes.{length_stored}
use Rattle.stored.proofs.Goes.{number_one}
use Rattle.stored.proofs.Records.{listed, length_listed}
use Rattle.stored.proofs.ReadBack.{tree_back, read_back}
use Rattle.stored.proofs.Taking.{only}

abbrev bytes_of : ℕ → List Record → List ℕ
bytes_of w [] = []
bytes_of w (x ∷ xs) = record_bytes w x.rule x.start x.end x.number ++ bytes_of w xs

bytes_append : (w : ℕ) (xs ys : List Record) → bytes_of w (xs ++ ys) ≡ bytes_of w xs ++ bytes_of w ys
bytes_append w [] ys = refl
bytes_append w (x ∷ xs) ys = rw (bytes_append w xs ys) (sym (append_assoc (record_bytes w x.rule x.start x.end x.number) (bytes_of w xs) (bytes_of w ys)))

bytes_listed : (w : ℕ) (ts : Trees) → bytes_of w (listed ts) ≡ trees_bytes w ts
unfolding trees_bytes
bytes_listed w no_trees = refl
bytes_listed w (tree a x e cs ts) = bytes_append w (listed cs) _ ∙ rw (bytes_listed w cs, bytes_listed w ts)

length_records : (w : ℕ) (bytes : List ℕ) (at n : ℕ) → length (records_at w bytes at n) ≡ n
unfolding records_at
length_records w bytes at zero = refl
length_records w bytes at (suc n) = ap suc (length_records w bytes (at + record_size w) n)

-- 01: "slice length, bytes 1-2 and formula agree", and the rest of what is said of well-formed bytes.
pub record Parts (w r l : ℕ) (bytes : List ℕ) : Type 0 where
  pub version : get_or bytes 0 0 ≡ w
  long : number_at 2 bytes 1 ≡ length bytes
  formula : stored_length w (number_at 2 bytes 3) ≡ length bytes
  range : all_in_range r l (records_at w bytes 5 (number_at 2 bytes 3)) ≡ true
  last : only_last (goes (records_at w bytes 5 (number_at 2 bytes 3)) []) ≡ true

pub parts : (w r l : ℕ) (bytes : List ℕ) → well_formed_of w r l bytes ≡ true → Parts w r l bytes
unfolding well_formed_of
parts w r l bytes e =
    let n = number_at 2 bytes 3 in
    let v = eqb (get_or bytes 0 0) w in
    let m = eqb (number_at 2 bytes 1) (length bytes) in
    let f = eqb (stored_length w n) (length bytes) in
    let e₁ = (and-eq-true_iff (v && m && f && ltb 0 n && all_in_range r l (records_at w bytes 5 n)) (only_last (goes (records_at w bytes 5 n) []))).0 e in
    let e₂ = (and-eq-true_iff (v && m && f && ltb 0 n) (all_in_range r l (records_at w bytes 5 n))).0 e₁.0 in
    let e₃ = (and-eq-true_iff (v && m && f) (ltb 0 n)).0 e₂.0 in
    let e₄ = (and-eq-true_iff (v && m) f).0 e₃.0 in
    let e₅ = (and-eq-true_iff v m).0 e₄.0 in
    record { version = eqb-true _ _ e₅.0; long = eqb-true _ _ e₅.1; formula = eqb-true _ _ e₄.1; range = e₂.1; last = e₁.1 }

-- The tree, and that there is no other.
pub record OneTree (w r l : ℕ) (bytes : List ℕ) : Type 0 where
  pub single : number_of (tree_of w bytes) ≡ 1
  pub nested : Nested r 0 l (tree_of w bytes)
  pub stored : stored_of w (tree_of w bytes) ≡ bytes
  pub only : (us : Trees) → number_of us ≡ 1 → Fits w us → stored_of w us ≡ bytes → us ≡ tree_of w bytes

-- Bytes as they are read.
module _ (bytes : List ℕ) (low : (i : ℕ) → get_or bytes i 0 < 256) where
  number_bytes : (w at : ℕ) → at + w ≤ length bytes → in_bytes w (number_at w bytes at) ≡ take w (drop at bytes)
  unfolding in_bytes number_at
  number_bytes zero at h = refl
  number_bytes (suc w) at h =
      let b = low (at + w) in
      let d : (number_at w bytes at * 256 + get_or bytes (at + w) 0) / 256 ≡ number_at w bytes at = omega arith in
      let m : (number_at w bytes at * 256 + get_or bytes (at + w) 0) % 256 ≡ get_or bytes (at + w) 0 = omega arith in
      rw (d, m) (rw (number_bytes w at (omega arith)) (sym (take-suc (drop at bytes) w 0 (omega (arith, length-drop at bytes)) ∙ rw (get_or-drop at bytes w 0))))

  -- Two parts that adjoin.
  adjoin : (m n at : ℕ) → take m (drop at bytes) ++ take n (drop (at + m) bytes) ≡ take (m + n) (drop at bytes)
  adjoin m n at = sym (take-add m n (drop at bytes) ∙ rw (drop-drop m at bytes))

  record_bytes_lem : (w at : ℕ) → at + record_size w ≤ length bytes
      → record_bytes w (record_at w bytes at).rule (record_at w bytes at).start (record_at w bytes at).end (record_at w bytes at).number ≡ take (record_size w) (drop at bytes)
  unfolding record_bytes record_at
  record_bytes_lem w at h =
      let s : 1 + (w + (w + 2)) ≡ record_size w = omega arith in
      rw (number_one bytes at 1 refl, number_bytes 1 at (omega arith), number_bytes w (at + 1) (omega arith), number_bytes w (at + 1 + w) (omega arith), number_bytes 2 (at + 1 + w + w) (omega arith))
      (rw (adjoin w 2 (at + 1 + w), adjoin w (w + 2) (at + 1), adjoin 1 (w + (w + 2)) at, s))

  records_bytes : (w at n : ℕ) → at + record_size w * n ≤ length bytes → bytes_of w (records_at w bytes at n) ≡ take (record_size w * n) (drop at bytes)
  unfolding records_at
  records_bytes w at zero h = rw (mul-zero (record_size w))
  records_bytes w at (suc n) h =
      let e : record_size w * suc n ≡ record_size w + record_size w * n = omega (arith, mul-suc (record_size w) n) in
      rw (record_bytes_lem w at (omega arith), records_bytes w (at + record_size w) n (omega arith), e) (adjoin (record_size w) (record_size w * n) at)

  whole : (w r l n : ℕ) → Parts w r l bytes → n ≡ number_at 2 bytes 3 → head_bytes w n ++ bytes_of w (records_at w bytes 5 n) ≡ bytes
  unfolding head_bytes
  whole w r l n p en =
      let f : stored_length w n ≡ length bytes = ap (stored_length w) en ∙ p.formula in
      let v : w ≡ number_at 1 bytes 0 = sym p.version ∙ number_one bytes 0 1 refl in
      let g : stored_length w n ≡ number_at 2 bytes 1 = f ∙ sym p.long in
      let h₁ : in_bytes 1 w ≡ take 1 (drop 0 bytes) = ap (in_bytes 1) v ∙ number_bytes 1 0 (omega arith) in
      let h₂ : in_bytes 2 (stored_length w n) ≡ take 2 (drop (0 + 1) bytes) = ap (in_bytes 2) g ∙ number_bytes 2 1 (omega arith) in
      let h₃ : in_bytes 2 n ≡ take 2 (drop (1 + 2) bytes) = ap (in_bytes 2) en ∙ number_bytes 2 3 (omega arith) in
      let h₄ : bytes_of w (records_at w bytes 5 n) ≡ take (record_size w * n) (drop (0 + 5) bytes) = records_bytes w 5 n (omega arith) in
      rw (h₁, h₂, h₃, h₄) (rw (adjoin 2 2 1, adjoin 1 4 0, adjoin 5 (record_size w * n) 0) (take_all (5 + record_size w * n) bytes (omega arith)))

  pub one_tree : (w r l : ℕ) → well_formed_of w r l bytes ≡ true → OneTree w r l bytes
  unfolding stored_of number_at
  one_tree w r l e =
      let p = parts w r l bytes e in
      let n = number_at 2 bytes 3 in
      let o = only r l (records_at w bytes 5 n) p.range p.last in
      let t : tree_of w bytes ≡ o.ts = tree_back w bytes o.ts o.single (sym o.records) in
      let k : records_of o.ts ≡ n = sym (length_listed o.ts) ∙ ap length o.records ∙ length_records w bytes 5 n in
      let y : trees_bytes w o.ts ≡ bytes_of w (records_at w bytes 5 n) = sym (bytes_listed w o.ts) ∙ ap (bytes_of w) o.records in
      let small : length bytes < 65536 = omega (arith, p.long, low (1 + 0), low (1 + 1)) in
      record {
        single = rw t o.single;
        nested = rw t o.nested;
        stored = rw t (rw (k, y) (whole w r l n p refl));
        only = λ us su fu eu. sym (ap (tree_of w) (sym eu) ∙ read_back w us (omega (arith, length_stored w us, ap length eu)) su fu);
      }
