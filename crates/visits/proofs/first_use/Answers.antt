-- The use of rule 0 at position 0 is a use like any other: its root is visited once where answers are kept.
use native.Mathlib.Omega.{arith}
use mathlib.Core.Logic.{inl}
use mathlib.Core.Path.{refl}
use Rattle.visits.proofs.ByKind.{uses_once, keeps_yes, keeps_no}
use Rattle.visits.proofs.first_use.Goals as goal

pub returns-then-basis-ne0 : goal.returns-then-basis-ne0
returns-then-basis-ne0 c =
    let at-if1 = c.if-basis-ne0 in record {
      says = record {
        came = uses_once _ _ c.requires.ready.fit _ _ _ (inl (keeps_yes _ at-if1.true)) _ c.requires.some refl c.use_once.ensures.says.came;
        cells = c.use_once.ensures.says.cells;
        ahead = c.use_once.ensures.says.ahead;
      };
      lent = c.use_once.ensures.lent;
    }

pub use_fresh-requires : goal.use_fresh-requires
use_fresh-requires c =
    record { ready = c.requires.ready; «open» = (omega arith, c.requires.some); plain = keeps_no _ c.if-basis-ne0.false; fresh = λ grows i h. absurd (omega (arith, h)) }

pub returns : goal.returns
returns c =
    record { says = c.use_fresh.ensures.says; lent = c.use_fresh.ensures.lent }
