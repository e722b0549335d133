-- Small laws of answers: what equal answers have in common, and which answers are never equal.
use mathlib.Core.Path.{◌≡◌, refl, sym, ap, ap₂}
use Prim.Native.Nat.{ℕ}
use mathlib.Core.Bool.{Bool, true, false}
use mathlib.Core.Option.{Option, none, some}
use native.Mathlib.Omega.{arith}
use Rattle.meaning.specs.Grammar.{Trees, no_trees, tree, ◌⋈◌, Answer, fail, ok}

-- Two derivations have one answer, and one count (what they amount to, or a height).
pub record Same {C : Type 0} (r s : Answer) (n m : C) : Type 0 where
  pub answer : r ≡ s
  pub count : n ≡ m

pub ends : {e f : ℕ} {ts us : Trees} → ok e ts ≡ ok f us → e ≡ f
ends p = cc

pub trees : {e f : ℕ} {ts us : Trees} → ok e ts ≡ ok f us → ts ≡ us
trees p = cc

pub never : {A : Type 0} {e : ℕ} {ts : Trees} → ok e ts ≡ fail → A
never p = let z : ◌≡◌ {A = ℕ} 0 1 = cc in absurd (omega arith)

pub never' : {A : Type 0} {e : ℕ} {ts : Trees} → fail ≡ ok e ts → A
never' p = never (sym p)

-- A test has one result, and a table holds one answer for a pair.
pub clash : {A : Type 0} {t : Bool} → t ≡ true → t ≡ false → A
clash p q = let z : ◌≡◌ {A = ℕ} 0 1 = cc in absurd (omega arith)

pub found : {A : Type 0} {l : Option Answer} {r : Answer} → l ≡ none → l ≡ some r → A
found p q = let z : ◌≡◌ {A = ℕ} 0 1 = cc in absurd (omega arith)

pub held : {l : Option Answer} {r s : Answer} → l ≡ some r → l ≡ some s → r ≡ s
held p q = cc

pub joined : {e f y z : ℕ} {ts us vs ws : Trees} → ok y ts ≡ ok z us → ok e vs ≡ ok f ws → ok e (ts ⋈ vs) ≡ ok f (us ⋈ ws)
joined p q = cc

-- Lists of trees joined.
pub join_none : (ts : Trees) → ts ⋈ no_trees ≡ ts
join_none no_trees = refl
join_none (tree a x e cs ts) = rw (join_none ts)

pub join_twice : (ts us vs : Trees) → (ts ⋈ us) ⋈ vs ≡ ts ⋈ (us ⋈ vs)
join_twice no_trees us vs = refl
join_twice (tree a x e cs ts) us vs = rw (join_twice ts us vs)

-- A rule with one premise, and with two; f makes its count of theirs.
pub step : {C : Type 0} (f : C → C) {r s t u : Answer} {n m : C} → r ≡ s → Same t u n m → Same r s (f n) (f m)
step f e i = record { answer = e; count = ap f i.count }

pub steps : {C : Type 0} (f : C → C → C) {r s t u v w : Answer} {n m k l : C} → r ≡ s → Same t u n m → Same v w k l → Same r s (f n k) (f m l)
steps f e i j = record { answer = e; count = ap₂ f i.count j.count }
