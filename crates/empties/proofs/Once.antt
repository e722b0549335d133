-- One answer: the rules and the marks that meet the contract are one.
use mathlib.Core.Path.{◌≡◌, refl, sym, ◌∙◌}
use mathlib.Core.Bool.{Bool, true, false}
use mathlib.Core.List.{List}
use Prim.Native.Nat.{ℕ, ◌^◌, ◌<◌}
use lib.ListN.{get_or}
use Rattle.bits.specs.Mask.{has}
use Rattle.bits.specs.Marks.{marked}
use Rattle.bits.proofs.Laws.{same_mask}
use Rattle.bits.proofs.Marks.{same_marks}
use Rattle.meaning.specs.Grammar.{Grammar}
use Rattle.empties.specs.Empties.{MaskOf, EmptyNodes}

-- Two tests that pass together are one.
pub together : (p q : Bool) → (p ≡ true → q ≡ true) → (q ≡ true → p ≡ true) → p ≡ q
together true q f g = sym (f refl)
together false true f g = g refl
together false false f g = refl

pub one_mask : {r : ℕ} {P : ℕ → Type 0} {m m' : ℕ} → MaskOf r P m → MaskOf r P m' → m ≡ m'
one_mask {m = m} {m' = m'} a b =
    same_mask 64 m m' a.fits b.fits
    (λ i h. together (has m i) (has m' i) (λ e. let s = a.sound i e in b.complete i s.0 s.1) (λ e. let s = b.sound i e in a.complete i s.0 s.1))

-- Of words that have 64 bits.
abbrev pub Words : List ℕ → Type 0
Words ms = (k : ℕ) → get_or ms k 0 < 2 ^ 64

pub one_marking : (g : Grammar) (ms ns : List ℕ) → Words ms → Words ns → EmptyNodes g ms → EmptyNodes g ns → ms ≡ ns
one_marking g ms ns fits fits' a b =
    same_marks ms ns (a.words ∙ sym b.words) fits fits'
    (λ i. together (marked ms i) (marked ns i) (λ e. let s = a.sound i e in b.complete i s.0 s.1) (λ e. let s = b.sound i e in a.complete i s.0 s.1))
