-- 01, "What comes back", and 02's W-209: when each code of the check is given, and at which place. A row's condition holds, and no earlier row's does.
use Rattle.std.specs.Prelude.{◌≢◌, List, ℕ, ◌<◌}
use Rattle.meaning.specs.Grammar.{node}
use Rattle.meaning.specs.Report.{RepeatsNothing}
use Rattle.layout.specs.Table.{nodes_of, grammar_of, WellLaid}
use Rattle.layout.specs.Layout.{READ}
use Rattle.layout.specs.Given as layout
use Rattle.sheet.specs.Check.{LOOP}

-- W-209: node i is "a repetition whose child may be empty".
abbrev pub Loops : List ℕ → ℕ → Type 0
Loops t i = RepeatsNothing (grammar_of t) (node (grammar_of t) i)

-- No node before node i is one.
abbrev pub NoLoop : List ℕ → ℕ → Type 0
NoLoop t i = (j : ℕ) → j < i → Loops t j → ⊥

-- A table that is accepted: laid out as 01 describes it, and every repetition repeats something.
pub record WellFormed (t : List ℕ) : Type 0 where
  pub laid : WellLaid t
  pub loops : NoLoop t (nodes_of t)

pub data Given (t : List ℕ) : (code place : ℕ) → Type 0 where
  laid_out : {code place : ℕ} → layout.Given t code place → code ≢ READ → Given t code place
  loop : WellLaid t → {i : ℕ} → i < nodes_of t → NoLoop t i → Loops t i → Given t LOOP i
  read : WellFormed t → Given t READ 0
