-- The tree that is read back from what is stored is the tree that was stored.
use mathlib.Core.Path.{◌≡◌, refl, sym, ap, ◌∙◌}
use mathlib.Core.List.{List, [], ◌∷◌, ◌++◌, append_assoc, append-nil}
use native.Mathlib.Omega.{arith}
use native.Mathlib.Nat.{add-zero, zero-add}
use Prim.Native.Nat.{ℕ, suc, ◌+◌, ◌<◌}
use Rattle.meaning.specs.Grammar.{Trees, no_trees, tree, ◌⋈◌}
use Rattle.stored.specs.Stored.{records_of, number_of, stored_length, stored_of}
use Rattle.stored.specs.WellFormed.{number_at, Record, records_at}
use Rattle.stored.specs.Nested.{Fits}
use Rattle.stored.specs.ReadBack.{newest, older, build, tree_of}
use Rattle.meaning.proofs.Answers.{join_none}
use Rattle.stored.proofs.Records.{listed, count_back, all_back}

-- The trees of a list, the newest first, on those before them.
abbrev reversed : Trees → Trees → Trees
reversed no_trees us = us
reversed (tree a x e cs ts) us = reversed ts (tree a x e cs us)

newest_back : (cs us ts : Trees) (k : ℕ) → newest (number_of cs + k) (reversed cs us) ts ≡ newest k us (cs ⋈ ts)
unfolding number_of newest
newest_back no_trees us ts k = rw (zero-add k)
newest_back (tree a x e ds cs) us ts k = let c : 1 + number_of cs + k ≡ number_of cs + suc k = omega arith in rw c (newest_back cs (tree a x e ds us) ts (suc k))

older_back : (cs us : Trees) (k : ℕ) → older (number_of cs + k) (reversed cs us) ≡ older k us
unfolding number_of older
older_back no_trees us k = rw (zero-add k)
older_back (tree a x e ds cs) us k = let c : 1 + number_of cs + k ≡ number_of cs + suc k = omega arith in rw c (older_back cs (tree a x e ds us) (suc k))

built : (ts : Trees) (xs : List Record) (us : Trees) → build (listed ts ++ xs) us ≡ build xs (reversed ts us)
unfolding build newest older
built no_trees xs us = refl
built (tree a x e cs ts) xs us =
    let k : newest (number_of cs) (reversed cs us) no_trees ≡ cs = ap (λ (n : ℕ). newest n (reversed cs us) no_trees) (sym (add-zero (number_of cs))) ∙ newest_back cs us no_trees 0 ∙ join_none cs in
    let r : older (number_of cs) (reversed cs us) ≡ us = ap (λ (n : ℕ). older n (reversed cs us)) (sym (add-zero (number_of cs))) ∙ older_back cs us 0 in
    let m : build (listed ts ++ xs) (tree a x e (newest (number_of cs) (reversed cs us) no_trees) (older (number_of cs) (reversed cs us))) ≡ build (listed ts ++ xs) (tree a x e cs us) = rw (k, r) in
    rw (append_assoc (listed cs) (record { rule = a; start = x; end = e; number = number_of cs } ∷ listed ts) xs) (built cs _ us ∙ m ∙ built ts xs (tree a x e cs us))

single_reversed : (ts : Trees) → number_of ts ≡ 1 → reversed ts no_trees ≡ ts
unfolding number_of
single_reversed no_trees e = absurd (omega arith)
single_reversed (tree a x e cs no_trees) h = refl
single_reversed (tree a x e cs (tree b y f ds ts)) h = absurd (omega arith)

pub tree_back : (w : ℕ) (bytes : List ℕ) (ts : Trees) → number_of ts ≡ 1 → records_at w bytes 5 (number_at 2 bytes 3) ≡ listed ts → tree_of w bytes ≡ ts
unfolding tree_of build
tree_back w bytes ts h e = rw e (ap (λ (l : List Record). build l no_trees) (sym (append-nil (listed ts))) ∙ built ts [] no_trees ∙ single_reversed ts h)

pub read_back : (w : ℕ) (ts : Trees) → stored_length w (records_of ts) < 65536 → number_of ts ≡ 1 → Fits w ts → tree_of w (stored_of w ts) ≡ ts
read_back w ts hn single h = tree_back w (stored_of w ts) ts single (ap (records_at w (stored_of w ts) 5) (count_back w ts hn) ∙ all_back w ts hn h)
