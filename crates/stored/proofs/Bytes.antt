-- The bytes of what is stored: how many, of joined lists, and written number after number.
use mathlib.Core.Path.{◌≡◌, refl, sym, ◌∙◌}
use mathlib.Core.List.{List, [], ◌∷◌, ◌++◌, append_assoc}
use native.Mathlib.Omega.{arith}
use native.Mathlib.Nat.{mul-add, mul-one, mul-zero, mul-le-mul}
use Prim.Native.Nat.{ℕ, zero, suc, ◌+◌, ◌*◌, ◌/◌, ◌%◌, ◌<◌, ◌≤◌}
use lib.ListN.{length, set, length-append}
use lib.Seq.{sets}
use Rattle.meaning.specs.Grammar.{Trees, no_trees, tree, ◌⋈◌}
use Rattle.meaning.proofs.Sets.{sets_on, one_by_one}
use Rattle.stored.specs.Stored.{records_of, number_of, in_bytes, record_size, record_bytes, trees_bytes, stored_length, head_bytes, stored_of}

pub length_in_bytes : (w n : ℕ) → length (in_bytes w n) ≡ w
unfolding in_bytes
length_in_bytes zero n = refl
length_in_bytes (suc w) n = omega (arith, length-append (in_bytes w (n / 256)) (n % 256 ∷ []), length_in_bytes w (n / 256))

pub length_record : (w a x e n : ℕ) → length (record_bytes w a x e n) ≡ record_size w
unfolding record_bytes
length_record w a x e n = simp (length-append, length_in_bytes) (omega arith)

pub length_head : (w n : ℕ) → length (head_bytes w n) ≡ 5
unfolding head_bytes
length_head w n = simp (length-append, length_in_bytes)

pub length_trees : (w : ℕ) (ts : Trees) → length (trees_bytes w ts) ≡ record_size w * records_of ts
unfolding trees_bytes records_of
length_trees w no_trees = sym (mul-zero (record_size w))
length_trees w (tree a x e cs ts) =
    simp (length-append, length_record, length_trees w cs, length_trees w ts)
    (omega (arith, mul-add (record_size w) (1 + records_of cs) (records_of ts), mul-add (record_size w) 1 (records_of cs), mul-one (record_size w)))

pub length_stored : (w : ℕ) (ts : Trees) → length (stored_of w ts) ≡ stored_length w (records_of ts)
unfolding stored_of
length_stored w ts = length-append (head_bytes w (records_of ts)) _ ∙ rw (length_head w (records_of ts), length_trees w ts)

pub bytes_join : (w : ℕ) (ts us : Trees) → trees_bytes w (ts ⋈ us) ≡ trees_bytes w ts ++ trees_bytes w us
unfolding trees_bytes
bytes_join w no_trees us = refl
bytes_join w (tree a x e cs ts) us = rw (bytes_join w ts us) (simp append_assoc)

pub records_join : (ts us : Trees) → records_of (ts ⋈ us) ≡ records_of ts + records_of us
unfolding records_of
records_join no_trees us = omega arith
records_join (tree a x e cs ts) us = omega (arith, records_join ts us)

pub number_join : (ts us : Trees) → number_of (ts ⋈ us) ≡ number_of ts + number_of us
unfolding number_of
number_join no_trees us = omega arith
number_join (tree a x e cs ts) us = omega (arith, number_join ts us)

pub records_tree : (a x e : ℕ) (cs : Trees) → records_of (tree a x e cs no_trees) ≡ 1 + records_of cs
unfolding records_of
records_tree a x e cs = omega arith

-- A list has no more trees than records.
pub number_few : (ts : Trees) → number_of ts ≤ records_of ts
unfolding number_of records_of
number_few no_trees = omega arith
number_few (tree a x e cs ts) = omega (arith, number_few ts)

-- A number written in one byte, or in two.
pub put_one : (room : List ℕ) (at w n b : ℕ) → w ≡ 1 → b ≡ n % 256 → set room at b ≡ sets room at (in_bytes w n)
unfolding in_bytes
put_one room at w n b ew eb = rw (ew, eb)

pub put_two : (room : List ℕ) (at w n b d : ℕ) → w ≡ 2 → b ≡ n / 256 % 256 → d ≡ n % 256 → set (set room at b) (at + 1) d ≡ sets room at (in_bytes w n)
unfolding in_bytes
put_two room at w n b d ew eb ed = rw (ew, eb, ed) (one_by_one room at (n / 256 % 256) (n % 256 ∷ []))

-- A record, and the head, written number after number.
pub record_put : (room : List ℕ) (w at a x e n : ℕ) (r₁ r₂ r₃ r₄ : List ℕ) → r₁ ≡ sets room at (in_bytes 1 a) → r₂ ≡ sets r₁ (at + 1) (in_bytes w x)
    → r₃ ≡ sets r₂ (at + 1 + w) (in_bytes w e) → r₄ ≡ sets r₃ (at + 1 + w + w) (in_bytes 2 n) → r₄ ≡ sets room at (record_bytes w a x e n)
unfolding record_bytes
record_put room w at a x e n r₁ r₂ r₃ r₄ e₁ e₂ e₃ e₄ =
    let l₁ : at + 1 ≡ at + length (in_bytes 1 a) = rw (length_in_bytes 1 a) in
    let l₂ : at + 1 + w ≡ at + 1 + length (in_bytes w x) = rw (length_in_bytes w x) in
    let l₃ : at + 1 + w + w ≡ at + 1 + w + length (in_bytes w e) = rw (length_in_bytes w e) in
    sets_on room at (at + 1) (in_bytes 1 a) _ r₁ r₄ l₁ e₁
    (sets_on r₁ (at + 1) (at + 1 + w) (in_bytes w x) _ r₂ r₄ l₂ e₂ (sets_on r₂ (at + 1 + w) (at + 1 + w + w) (in_bytes w e) (in_bytes 2 n) r₃ r₄ l₃ e₃ e₄))

pub head_put : (room : List ℕ) (w n : ℕ) (r₁ r₂ r₃ : List ℕ) → r₁ ≡ sets room 0 (in_bytes 1 w) → r₂ ≡ sets r₁ 1 (in_bytes 2 (5 + (3 + 2 * w) * n))
    → r₃ ≡ sets r₂ 3 (in_bytes 2 n) → r₃ ≡ sets room 0 (head_bytes w n)
unfolding head_bytes
head_put room w n r₁ r₂ r₃ e₁ e₂ e₃ =
    let l₁ : 1 ≡ 0 + length (in_bytes 1 w) = rw (length_in_bytes 1 w) in
    let l₂ : 3 ≡ 1 + length (in_bytes 2 (stored_length w n)) = rw (length_in_bytes 2 (stored_length w n)) in
    sets_on room 0 1 (in_bytes 1 w) _ r₁ r₃ l₁ e₁ (sets_on r₁ 1 3 (in_bytes 2 (stored_length w n)) (in_bytes 2 n) r₂ r₃ l₂ e₂ e₃)

-- The length of what is stored fits in 32 bits.
pub small_length : (w n : ℕ) → w ≤ 2 → n < 65536 → (3 + 2 * w) * n ≤ 458745
small_length w n hw hn = let k : 3 + 2 * w ≤ 7 = omega arith in let j : n ≤ 65535 = omega arith in let z : (3 + 2 * w) * n ≤ 7 * 65535 = mul-le-mul k j in omega arith
