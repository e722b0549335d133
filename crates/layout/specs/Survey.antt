-- What the check says beside code and place, and what the contracts of the code's own functions cite: the search over the nodes stops at a fault or at a repetition.
use Rattle.std.specs.Prelude.{◌≡◌, ◌-◌, Bool, true, false, ◌&&◌, cond, List, ℕ, ◌≤◌, ◌<◌, eqb, Result, Ok, Err}
use Rattle.std.proofs.Math.Bool as B
use Rattle.layout.specs.declared.Refusal.{Refusal}
use Rattle.layout.specs.Table.{nodes_of, rules_of, kind_of, a_of, b_of}
use Rattle.layout.specs.Layout.{READ, verdict, verdict_of, code_of, place_of, first_fault, fields_fit, fault_of, node_fault, layout_of, Laid}

-- No code of 01's: nothing is wrong with the node, and it is a repetition.
abbrev pub REPETITION : ℕ
REPETITION = 8

unfoldable pub stop_of : (r i kind a b : ℕ) → ℕ
stop_of r i kind a b = cond (eqb kind 6 && fields_fit r i kind a b) REPETITION (fault_of r i kind a b)

unfoldable pub node_stop : List ℕ → ℕ → ℕ
node_stop t i = stop_of (rules_of t) i (kind_of t i) (a_of t i) (b_of t i)

-- Whether it stops there.
unfoldable pub stops : List ℕ → ℕ → Bool
stops t i = B.not (eqb (node_stop t i) READ)

-- What the code says of one node: whether it is a repetition, or what is wrong with it, at its place.
abbrev pub StopsAt : List ℕ → ℕ → Result Bool Refusal → Type 0
StopsAt t i (Ok repetition) = node_stop t i ≡ cond repetition REPETITION READ
StopsAt t i (Err refusal) = (node_stop t i ≡ code_of refusal) × (place_of refusal ≡ i)

abbrev pub is_repetition : List ℕ → ℕ → Bool
is_repetition t i = eqb (kind_of t i) 6

-- The first number, from one up to another, that passes a test; the other if none does.
pub record FirstOf (test : ℕ → Bool) (from to p : ℕ) : Type 0 where
  pub least : from ≤ p
  pub most : p ≤ to
  pub before : (i : ℕ) → from ≤ i → i < p → test i ≡ false
  pub there : p < to → test p ≡ true

-- What the code says of all nodes: where the search stops, and that nothing is wrong from there on; or what is wrong first.
abbrev pub NodesSaid : List ℕ → ℕ → Result ℕ Refusal → Type 0
NodesSaid t n (Ok p) = FirstOf (stops t) 0 n p × (first_fault (node_fault t) p (n - p) ≡ verdict READ 0)
NodesSaid t n (Err refusal) = first_fault (node_fault t) 0 n ≡ verdict_of refusal

-- What the check of the layout says: code and place, and where the first repetition stands, as many as there are nodes if there is none; 0 on a refusal.
pub record Survey : Type 0 where
  pub code : ℕ
  pub place : ℕ
  pub repetition : ℕ

abbrev pub survey_of : Result ℕ Refusal → Survey
survey_of (Ok repetition) = record { code = READ; place = 0; repetition = repetition }
survey_of (Err refusal) = record { code = code_of refusal; place = place_of refusal; repetition = 0 }

-- The first row that refuses, and, where none does, the first repetition.
pub record Surveyed (t : List ℕ) (v : Survey) : Type 0 where
  pub code : v.code ≡ (layout_of t).code
  pub place : v.place ≡ (layout_of t).place
  pub repetition : Laid t → FirstOf (is_repetition t) 0 (nodes_of t) v.repetition
  pub refused : ¬ Laid t → v.repetition ≡ 0
