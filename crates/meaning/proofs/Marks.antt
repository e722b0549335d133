-- Marks, as Decide has them: what is marked where they are joined, and chains of steps of one kind, by rows of marks.
use mathlib.Core.Path.{◌≡◌, refl, sym, ap, ◌∙◌}
use mathlib.Core.Logic.{◌⊎◌, ⊎_elim}
use Prim.Native.Nat.{ℕ, zero, suc, ◌<◌}
use mathlib.Core.Bool.{Bool, true, false, ◌&&◌, ◌||◌, cond, or-false, false≢true}
use mathlib.Core.List.{List, [], ◌∷◌, map}
use mathlib.Mathlib.Data.Bool.Basic.{or_inl, or_inr}
use lib.ListN.{length, get_or, get_or-map}
use native.Mathlib.Omega.{arith}
use Rattle.meaning.specs.Grammar.{Node, empty, range, rule, seq, choice, not, rep, Grammar, node}
use Rattle.meaning.specs.Report.{Chain, here, on}
use Rattle.meaning.specs.Decide.{either, only, through, through_all, use_of, used}
use Rattle.meaning.proofs.Chains.{then}
use Rattle.meaning.proofs.Choose.{or_split}
use Rattle.meaning.proofs.Through.{from_start, joins, all_chains}

pub either_at : (xs ys : List Bool) (j : ℕ) → get_or (either xs ys) j false ≡ (get_or xs j false || get_or ys j false)
either_at [] ys j = refl
either_at (x ∷ xs) [] j = sym (or-false (get_or (x ∷ xs) j false))
either_at (x ∷ xs) (y ∷ ys) zero = refl
either_at (x ∷ xs) (y ∷ ys) (suc j) = either_at xs ys j

pub in_either : (xs ys : List Bool) (j : ℕ) → get_or (either xs ys) j false ≡ true → (get_or xs j false ≡ true) ⊎ (get_or ys j false ≡ true)
in_either xs ys j e = or_split (get_or xs j false) (get_or ys j false) (sym (either_at xs ys j) ∙ e)

pub either_first : (xs ys : List Bool) (j : ℕ) → get_or xs j false ≡ true → get_or (either xs ys) j false ≡ true
either_first xs ys j e = either_at xs ys j ∙ or_inl _ _ e

pub either_second : (xs ys : List Bool) (j : ℕ) → get_or ys j false ≡ true → get_or (either xs ys) j false ≡ true
either_second xs ys j e = either_at xs ys j ∙ or_inr (get_or xs j false) _ e

pub only_self : (i : ℕ) → get_or (only i) i false ≡ true
only_self zero = refl
only_self (suc i) = only_self i

pub only_is : (i j : ℕ) → get_or (only i) j false ≡ true → j ≡ i
only_is zero zero e = refl
only_is zero (suc j) e = absurd (false≢true e)
only_is (suc i) zero e = absurd (false≢true e)
only_is (suc i) (suc j) e = ap suc (only_is i j e)

pub in_cond : (t : Bool) (xs : List Bool) (j : ℕ) → get_or (cond t xs []) j false ≡ true → (t ≡ true) × (get_or xs j false ≡ true)
in_cond true xs j e = (refl, e)
in_cond false xs j e = absurd (false≢true e)

pub map_at : (f : ℕ → Bool) (l : List ℕ) (a : ℕ) → a < length l → get_or (map f l) a false ≡ f (get_or l a 0)
map_at f [] a lt = absurd (omega arith)
map_at f (x ∷ l) zero lt = refl
map_at f (x ∷ l) (suc a) lt = map_at f l a (omega arith)

-- Whether row i marks j.
abbrev is_in_row : List (List Bool) → ℕ → ℕ → Bool
is_in_row rows i j = get_or (get_or rows i []) j false

joined_at : (t : Bool) (r row : List Bool) (j : ℕ) → get_or (cond t (either r row) r) j false ≡ (get_or r j false || (t && get_or row j false))
joined_at true r row j = either_at r row j
joined_at false r row j = sym (or-false (get_or r j false))

through_at : (k : ℕ) (rows : List (List Bool)) (i j : ℕ) → is_in_row (through k rows) i j ≡ (is_in_row rows i j || (is_in_row rows i k && is_in_row rows k j))
through_at k rows i j =
    ap (λ r. get_or r j false) (get_or-map (λ r. cond (get_or r k false) (either r (get_or rows k [])) r) rows i [])
    ∙ joined_at (is_in_row rows i k) (get_or rows i []) (get_or rows k []) j

-- A marked node that is a use of rule c.
pub record Use (ps : List Node) (ms : List Bool) (c : ℕ) : Type 0 where
  pub number : ℕ
  pub at : get_or ms number false ≡ true
  pub is : get_or ps number empty ≡ rule c

use_of_lem : (p : Node) (c : ℕ) → get_or (use_of p) c false ≡ true → p ≡ rule c
use_of_lem empty c e = absurd (false≢true e)
use_of_lem (range lo hi) c e = absurd (false≢true e)
use_of_lem (rule a) c e = ap rule (sym (only_is a c e))
use_of_lem (seq a b) c e = absurd (false≢true e)
use_of_lem (choice a b) c e = absurd (false≢true e)
use_of_lem (not a) c e = absurd (false≢true e)
use_of_lem (rep a) c e = absurd (false≢true e)

pub used_use : (ps : List Node) (ms : List Bool) (c : ℕ) → get_or (used ps ms) c false ≡ true → Use ps ms c
used_use ps [] c e = absurd (false≢true e)
used_use [] (m ∷ ms) c e = absurd (false≢true e)
used_use (p ∷ ps) (m ∷ ms) c e =
    ⊎_elim (λ h. let z = in_cond m (use_of p) c h in record { number = 0; at = z.0; is = use_of_lem p c z.1 })
    (λ h. let u = used_use ps ms c h in record { number = suc u.number; at = u.at; is = u.is })
    (in_either (cond m (use_of p) []) (used ps ms) c e)

pub use_used : (ps : List Node) (ms : List Bool) (c j : ℕ) → get_or ms j false ≡ true → get_or ps j empty ≡ rule c → get_or (used ps ms) c false ≡ true
use_used ps [] c j e q = absurd (false≢true e)
use_used [] (m ∷ ms) c j e q = let z : ◌≡◌ {A = ℕ} 0 1 = cc in absurd (omega arith)
use_used (p ∷ ps) (m ∷ ms) c zero e q = either_first (cond m (use_of p) []) (used ps ms) c (rw (e, q) (only_self c))
use_used (p ∷ ps) (m ∷ ms) c (suc j) e q = either_second (cond m (use_of p) []) (used ps ms) c (use_used ps ms c j e q)

-- ---- Chains. Row i marks at first the nodes to which one step leads from node i.
module _ (g : Grammar) (steps : Node → List Bool) (no_steps : steps empty ≡ []) where
  -- Whether node i leads to node j through the nodes below k.
  abbrev leads : ℕ → ℕ → ℕ → Bool
  leads k = is_in_row (through_all k (map steps g.nodes))

  turn : (k i j : ℕ) → leads (suc k) i j ≡ (leads k i j || (leads k i k && leads k k j))
  turn k = through_at k (through_all k (map steps g.nodes))

  row_at : (i : ℕ) → get_or (map steps g.nodes) i [] ≡ steps (node g i)
  row_at i = rw no_steps at (get_or-map steps g.nodes i empty)

  -- A node that row i marks in the end.
  pub record Led (i : ℕ) (w : Node) : Type 0 where
    pub number : ℕ
    pub small : number < length g.nodes
    pub is : node g number ≡ w
    pub way : leads (length g.nodes) i number ≡ true

  pub led : {q : Node} (i j : ℕ) → node g i ≡ q → j < length g.nodes → get_or (steps q) j false ≡ true → Led i (node g j)
  led i j e lj h =
      let row = ap (λ r. get_or r j false) (row_at i ∙ ap steps e) in
      record { number = j; small = lj; is = refl; way = from_start leads turn (length g.nodes) i j (row ∙ h) }

  module _ (Step : Node → Node → Type 0) where
    -- Where what is marked at first is a step, what is marked in the end is a chain.
    pub leads_sound : ((p : Node) (j : ℕ) → get_or (steps p) j false ≡ true → Step p (node g j)) → (i j : ℕ) → leads (length g.nodes) i j ≡ true
        → Chain Step (node g i) (node g j)
    leads_sound sound =
        all_chains leads turn (λ i j. Chain Step (node g i) (node g j)) (λ i j w. on here (sound (node g i) j (sym (ap (λ r. get_or r j false) (row_at i)) ∙ w)))
        (λ i k j h l. then h l) (length g.nodes)

    -- Where every step is marked, every chain is.
    module _ (complete : (q w : Node) → Step q w → (i : ℕ) → i < length g.nodes → node g i ≡ q → Led i w) where
      pub led_then : {q w : Node} (i : ℕ) → Led i q → Step q w → Led i w
      led_then i m s =
          let l = complete _ _ s m.number m.small m.is in
          record {
            number = l.number;
            small = l.small;
            is = l.is;
            way = joins leads turn (length g.nodes) m.number m.small i l.number m.way l.way;
          }

      pub led_on : {p q w : Node} → Chain Step p q → Step q w → (i : ℕ) → i < length g.nodes → node g i ≡ p → Led i w
      led_on here s i li e = complete _ _ s i li e
      led_on (on h k) s i li e = led_then i (led_on h k i li e) s
