-- Which version a line gives, and that what is stored by it is well formed for its lines and for no others.
use mathlib.Core.Path.{◌≡◌, refl, sym, ◌∙◌}
use mathlib.Core.Bool.{Bool, true, false, and-eq-true_iff}
use mathlib.Core.List.{List}
use native.Mathlib.Omega.{arith}
use Prim.Native.Nat.{ℕ, ◌<◌, ◌≤◌, ◌^◌}
use lib.ListN.{get_or}
use lib.Dec.{leb}
use borrow.Author.Tests.{le-leb, lt-leb, leb-true, leb-false}
use Rattle.meaning.specs.Grammar.{Trees}
use Rattle.stored.specs.Version.{longest_line, longest_in_one_byte, version_of}
use Rattle.stored.specs.Stored.{records_of, number_of, stored_length, stored_of}
use Rattle.stored.specs.WellFormed.{well_formed_of, is_well_formed}
use Rattle.stored.specs.Nested.{Nested}
use Rattle.stored.proofs.Judged.{judged_version}
use Rattle.stored.proofs.Written.{written}
use Rattle.stored.proofs.OneTree.{parts, OneTree, one_tree}

pub one_byte : (l : ℕ) → l ≤ longest_in_one_byte → version_of l ≡ 1
unfolding version_of
one_byte l h = rw (le-leb l longest_in_one_byte h)

pub two_bytes : (l : ℕ) → longest_in_one_byte < l → version_of l ≡ 2
unfolding version_of
two_bytes l h = rw (lt-leb l longest_in_one_byte h)

-- The two versions, for what is to be shown of both.
by_version : (P : ℕ → Type 0) (l : ℕ) → (l ≤ longest_in_one_byte → P 1) → (longest_in_one_byte < l → P 2) → P (version_of l)
by_version P l one two = by (leb l longest_in_one_byte) refl
  where
    by : (b : Bool) → leb l longest_in_one_byte ≡ b → P (version_of l)
    by true e = let h = leb-true l longest_in_one_byte e in rw (one_byte l h) (one h)
    by false e = let h = leb-false l longest_in_one_byte e in rw (two_bytes l h) (two h)

pub widths : (l : ℕ) → (0 < version_of l) × (version_of l ≤ 2)
widths l = by_version (λ w. (0 < w) × (w ≤ 2)) l (λ h. (omega arith, omega arith)) (λ h. (omega arith, omega arith))

-- Every position of a line stands in the bytes that its version gives it.
pub position_fits : (l : ℕ) → l ≤ longest_line → l < 256 ^ version_of l
position_fits l short = by_version (λ w. l < 256 ^ w) l (λ h. omega arith) (λ h. omega arith)

-- The length of a thousand records stands in two bytes, in either version.
pub few_stored : (l n : ℕ) → n ≤ 1000 → stored_length (version_of l) n < 65536
few_stored l n few = by_version (λ w. stored_length w n < 65536) l (λ h. omega arith) (λ h. omega arith)

-- What is stored of a tree by the line's version is well formed for that line.
pub written_for : (r l : ℕ) (ts : Trees) → r ≤ 256 → l ≤ longest_line → stored_length (version_of l) (records_of ts) < 65536 → number_of ts ≡ 1 → Nested r 0 l ts → is_well_formed r l (stored_of (version_of l) ts) ≡ true
unfolding is_well_formed
written_for r l ts few short small single nested =
    let w = widths l in
    rw (le-leb l longest_line short, written (version_of l) r l ts (omega arith) few (position_fits l short) small single nested)

module _ (bytes : List ℕ) (r l : ℕ) (formed : is_well_formed r l bytes ≡ true) where
  both : (leb l longest_line ≡ true) × (well_formed_of (version_of l) r l bytes ≡ true)
  unfolding is_well_formed
  both = (and-eq-true_iff (leb l longest_line) (well_formed_of (version_of l) r l bytes)).0 formed

  -- 02, W-212: "each version is well formed only for its lines".
  pub only_its_lines : (l ≤ longest_line) × (get_or bytes 0 0 ≡ version_of l)
  only_its_lines = (leb-true l longest_line both.0, (parts (version_of l) r l bytes both.1).version)

  -- Well-formed bytes are stored of one tree, by that version.
  pub one_tree_for : ((i : ℕ) → get_or bytes i 0 < 256) → OneTree (version_of l) r l bytes
  one_tree_for low = one_tree bytes low (version_of l) r l both.1

  -- 02, W-212: "Older readers refuse them by version": they know version 1 alone.
  pub older_refuses : longest_in_one_byte < l → (r' l' : ℕ) → well_formed_of 1 r' l' bytes ≡ false
  older_refuses h r' l' =
      let v : get_or bytes 0 0 ≡ 2 = only_its_lines.1 ∙ two_bytes l h in
      sym (judged_version 1 r' l' bytes 2 (sym v) (λ q. omega arith))

-- What the code tests.
pub too_long : (r l : ℕ) (bytes : List ℕ) → longest_line < l → false ≡ is_well_formed r l bytes
unfolding is_well_formed
too_long r l bytes h = rw (lt-leb l longest_line h)

pub not_too_long : (r l : ℕ) (bytes : List ℕ) (w : ℕ) → l ≤ longest_line → w ≡ version_of l → well_formed_of w r l bytes ≡ is_well_formed r l bytes
unfolding is_well_formed
not_too_long r l bytes w h e = rw (le-leb l longest_line h, e)
