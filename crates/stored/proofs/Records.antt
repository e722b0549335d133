-- The records of what is stored, read from its bytes.
use mathlib.Core.Path.{◌≡◌, refl, sym, ap, ◌∙◌}
use mathlib.Core.List.{List, [], ◌∷◌, ◌++◌, append_assoc, append-nil}
use native.Mathlib.Omega.{arith}
use native.Mathlib.Nat.{add-zero, zero-add, mul-add, mul-one, mul-zero, mul-le-mul_right}
use Prim.Native.Nat.{ℕ, zero, suc, ◌+◌, ◌*◌, ◌/◌, ◌%◌, ◌^◌, ◌<◌, ◌≤◌}
use lib.ListN.{length, get_or, length-append}
use lib.Seq.{get_or-append-add, get_or_at}
use Rattle.meaning.specs.Grammar.{Trees, no_trees, tree}
use Rattle.stored.specs.Stored.{records_of, number_of, in_bytes, record_size, record_bytes, trees_bytes, stored_length, head_bytes, stored_of}
use Rattle.stored.specs.WellFormed.{number_at, Record, record_at, records_at}
use Rattle.stored.specs.Nested.{Fits}
use Rattle.stored.proofs.Bytes.{length_in_bytes, length_record, length_head, length_trees}
use Rattle.stored.proofs.Goes.{number_one}

number_back : (w x at : ℕ) (before after : List ℕ) → length before ≡ at → x < 256 ^ w → number_at w (before ++ (in_bytes w x ++ after)) at ≡ x
unfolding number_at in_bytes
number_back zero x at before after e h = omega arith
number_back (suc w) x at before after e h =
    let high = in_bytes w (x / 256) in
    let i : number_at w (before ++ (high ++ ((x % 256 ∷ []) ++ after))) at ≡ x / 256 = number_back w (x / 256) at before ((x % 256 ∷ []) ++ after) e (omega arith) in
    let g : get_or (before ++ (high ++ ((x % 256 ∷ []) ++ after))) (at + w) 0 ≡ x % 256 =
    ap (λ (n : ℕ). get_or (before ++ (high ++ ((x % 256 ∷ []) ++ after))) (n + w) 0) (sym e) ∙ get_or-append-add before _ w 0 ∙ get_or_at high (x % 256) after 0 w (length_in_bytes w (x / 256)) in
    rw (append_assoc high (x % 256 ∷ []) after) (rw (i, g) (omega arith))

record_back : (w a x e n at : ℕ) (before after bytes : List ℕ) → length before ≡ at → bytes ≡ before ++ (record_bytes w a x e n ++ after) → a < 256 → x < 256 ^ w → e < 256 ^ w → n < 65536
    → record_at w bytes at ≡ record { rule = a; start = x; end = e; number = n }
unfolding record_at record_bytes
record_back w a x e n at before after bytes l eb ha hx he hn =
    let b₁ : bytes ≡ before ++ (in_bytes 1 a ++ (in_bytes w x ++ (in_bytes w e ++ (in_bytes 2 n ++ after)))) = eb ∙ simp append_assoc in
    let b₂ : bytes ≡ (before ++ in_bytes 1 a) ++ (in_bytes w x ++ (in_bytes w e ++ (in_bytes 2 n ++ after))) = b₁ ∙ simp append_assoc in
    let b₃ : bytes ≡ ((before ++ in_bytes 1 a) ++ in_bytes w x) ++ (in_bytes w e ++ (in_bytes 2 n ++ after)) = b₁ ∙ simp append_assoc in
    let b₄ : bytes ≡ (((before ++ in_bytes 1 a) ++ in_bytes w x) ++ in_bytes w e) ++ (in_bytes 2 n ++ after) = b₁ ∙ simp append_assoc in
    let l₂ : length (before ++ in_bytes 1 a) ≡ at + 1 = omega (arith, length-append before (in_bytes 1 a), length_in_bytes 1 a) in
    let l₃ : length ((before ++ in_bytes 1 a) ++ in_bytes w x) ≡ at + 1 + w = omega (arith, length-append (before ++ in_bytes 1 a) (in_bytes w x), length_in_bytes w x) in
    let l₄ : length (((before ++ in_bytes 1 a) ++ in_bytes w x) ++ in_bytes w e) ≡ at + 1 + w + w =
    omega (arith, length-append ((before ++ in_bytes 1 a) ++ in_bytes w x) (in_bytes w e), length_in_bytes w e) in
    let r : get_or bytes at 0 ≡ a = number_one bytes at 1 refl ∙ ap (λ (b : List ℕ). number_at 1 b at) b₁ ∙ number_back 1 a at before _ l (omega arith) in
    let s : number_at w bytes (at + 1) ≡ x = ap (λ (b : List ℕ). number_at w b (at + 1)) b₂ ∙ number_back w x (at + 1) (before ++ in_bytes 1 a) _ l₂ hx in
    let t : number_at w bytes (at + 1 + w) ≡ e = ap (λ (b : List ℕ). number_at w b (at + 1 + w)) b₃ ∙ number_back w e (at + 1 + w) ((before ++ in_bytes 1 a) ++ in_bytes w x) _ l₃ he in
    let u : number_at 2 bytes (at + 1 + w + w) ≡ n =
    ap (λ (b : List ℕ). number_at 2 b (at + 1 + w + w)) b₄ ∙ number_back 2 n (at + 1 + w + w) (((before ++ in_bytes 1 a) ++ in_bytes w x) ++ in_bytes w e) _ l₄ (omega arith) in
    rw (r, s, t, u)

-- The records of a list of trees, in the order in which they are stored.
abbrev pub listed : Trees → List Record
listed no_trees = []
listed (tree a x e cs ts) = listed cs ++ (record { rule = a; start = x; end = e; number = number_of cs } ∷ listed ts)

pub length_listed : (ts : Trees) → length (listed ts) ≡ records_of ts
unfolding records_of
length_listed no_trees = refl
length_listed (tree a x e cs ts) = length-append (listed cs) _ ∙ omega (arith, length_listed cs, length_listed ts)

records_back : (w : ℕ) (ts : Trees) (m at : ℕ) (before after bytes : List ℕ) → length before ≡ at → bytes ≡ before ++ (trees_bytes w ts ++ after) → Fits w ts
    → records_at w bytes at (records_of ts + m) ≡ listed ts ++ records_at w bytes (at + record_size w * records_of ts) m
unfolding records_at trees_bytes records_of Fits
records_back w no_trees m at before after bytes l eb h = rw (zero-add m, mul-zero (record_size w), add-zero at)
records_back w (tree a x e cs ts) m at before after bytes l eb h =
    let S = record_size w in
    let own = record_bytes w a x e (number_of cs) in
    let c₁ : 1 + records_of cs + records_of ts + m ≡ records_of cs + suc (records_of ts + m) = omega arith in
    let c₂ : at + S * records_of cs + S + S * records_of ts ≡ at + S * (1 + records_of cs + records_of ts) =
    omega (arith, mul-add S (1 + records_of cs) (records_of ts), mul-add S 1 (records_of cs), mul-one S) in
    let b₁ : bytes ≡ before ++ (trees_bytes w cs ++ ((own ++ trees_bytes w ts) ++ after)) = eb ∙ simp append_assoc in
    let b₂ : bytes ≡ (before ++ trees_bytes w cs) ++ (own ++ (trees_bytes w ts ++ after)) = b₁ ∙ simp append_assoc in
    let b₃ : bytes ≡ ((before ++ trees_bytes w cs) ++ own) ++ (trees_bytes w ts ++ after) = b₁ ∙ simp append_assoc in
    let l₂ : length (before ++ trees_bytes w cs) ≡ at + S * records_of cs = omega (arith, length-append before (trees_bytes w cs), length_trees w cs) in
    let l₃ : length ((before ++ trees_bytes w cs) ++ own) ≡ at + S * records_of cs + S = omega (arith, length-append (before ++ trees_bytes w cs) own, length_record w a x e (number_of cs)) in
    let i₁ = records_back w cs (suc (records_of ts + m)) at before ((own ++ trees_bytes w ts) ++ after) bytes l b₁ h.1.1.1.1.0 in
    let r = record_back w a x e (number_of cs) (at + S * records_of cs) (before ++ trees_bytes w cs) (trees_bytes w ts ++ after) bytes l₂ b₂ h.0 h.1.0 h.1.1.0 h.1.1.1.0 in
    let i₂ = records_back w ts m (at + S * records_of cs + S) ((before ++ trees_bytes w cs) ++ own) after bytes l₃ b₃ h.1.1.1.1.1 in
    rw (c₁, i₁, r, i₂, c₂) (simp append_assoc)

-- The head and the records of what is stored.
module _ (w : ℕ) (ts : Trees) (hn : stored_length w (records_of ts) < 65536) where
  pub few_records : records_of ts < 65536
  few_records = let k : 3 ≤ record_size w = omega arith in let z : 3 * records_of ts ≤ record_size w * records_of ts = mul-le-mul_right (records_of ts) k in omega arith

  opened : stored_of w ts ≡ in_bytes 1 w ++ (in_bytes 2 (stored_length w (records_of ts)) ++ (in_bytes 2 (records_of ts) ++ trees_bytes w ts))
  unfolding stored_of head_bytes
  opened = simp append_assoc

  pub version_back : w < 256 → get_or (stored_of w ts) 0 0 ≡ w
  version_back hw = number_one (stored_of w ts) 0 1 refl ∙ ap (λ (b : List ℕ). number_at 1 b 0) opened ∙ number_back 1 w 0 [] _ refl (omega arith)

  pub length_back : number_at 2 (stored_of w ts) 1 ≡ stored_length w (records_of ts)
  length_back = ap (λ (b : List ℕ). number_at 2 b 1) opened ∙ number_back 2 (stored_length w (records_of ts)) 1 (in_bytes 1 w) _ (length_in_bytes 1 w) (omega arith)

  pub count_back : number_at 2 (stored_of w ts) 3 ≡ records_of ts
  count_back =
      let L = in_bytes 2 (stored_length w (records_of ts)) in
      let b : stored_of w ts ≡ (in_bytes 1 w ++ L) ++ (in_bytes 2 (records_of ts) ++ trees_bytes w ts) = opened ∙ simp append_assoc in
      let l : length (in_bytes 1 w ++ L) ≡ 3 = omega (arith, length-append (in_bytes 1 w) L, length_in_bytes 1 w, length_in_bytes 2 (stored_length w (records_of ts))) in
      ap (λ (b : List ℕ). number_at 2 b 3) b ∙ number_back 2 (records_of ts) 3 (in_bytes 1 w ++ L) _ l (omega (arith, few_records))

  pub all_back : Fits w ts → records_at w (stored_of w ts) 5 (records_of ts) ≡ listed ts
  unfolding stored_of records_at
  all_back h =
      let b : stored_of w ts ≡ head_bytes w (records_of ts) ++ (trees_bytes w ts ++ []) = rw append-nil in
      ap (records_at w (stored_of w ts) 5) (sym (add-zero (records_of ts)))
      ∙ records_back w ts 0 5 (head_bytes w (records_of ts)) [] (stored_of w ts) (length_head w (records_of ts)) b h
      ∙ append-nil (listed ts)
