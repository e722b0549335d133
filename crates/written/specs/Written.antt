-- 02, W-201, "Sheets written as text": what a written sheet is.
use Rattle.std.specs.Prelude.{List, ℕ}

-- A name: where it stands in the text, and its letters.
pub record Name : Type 0 where
  pub place : ℕ
  pub letters : List ℕ

-- What stands on the right of `<-`. A quote is "read as a sequence" of its bytes and a class "as a choice" of its ranges; a byte is a range from itself to itself.
-- "Sequences and choices of more than two nest to the right". Brackets leave no trace.
pub data Written : Type 0 where
  name : Name → Written
  range : (lowest highest : ℕ) → Written
  star : Written → Written
  plus : Written → Written
  maybe : Written → Written
  deny : Written → Written
  then : Written → Written → Written
  or : Written → Written → Written

-- "Each of one or more lines is name, `<-`, alternatives". A sheet is its lines.
pub record Line : Type 0 where
  pub name : Name
  pub alternatives : Written
