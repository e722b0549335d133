-- The program's exit status.
use Rattle.std.specs.Prelude.{◌≡◌, Bool, cond, ◌⊎◌, List, ℕ, ltb, Result, Ok, Err}
use Rattle.lesson.specs.declared.Status.{Status}
use Rattle.lesson.specs.declared.Status.TheVariants.{Done, Refused}
use Rattle.lesson.specs.declared.Failure.{Failure}
use Rattle.lesson.specs.declared.Failure.TheVariants.{Output}
use Rattle.sheet.specs.Check.{check_of}

-- All was read and printed.
abbrev pub done : ℕ
done = 0

-- There was no sheet to read by.
abbrev pub refused : ℕ
refused = 1

-- Reading or writing failed.
abbrev pub failed : ℕ
failed = 2

abbrev pub exit_status_of : Result Status Failure → ℕ
exit_status_of (Ok Done) = done
exit_status_of (Ok Refused) = refused
exit_status_of (Err failure) = failed

-- The exit status after a part of the run that, where it doesn't fail, goes on to this one.
abbrev pub status_after : (status : ℕ) → Result Unit Failure → ℕ
status_after status (Ok _) = status
status_after status (Err failure) = failed

-- What a write gives, by whether it failed.
abbrev pub written_unless : (fails : Bool) → Result Unit Failure
written_unless fails = cond fails (Err Output) (Ok tt)

abbrev pub status_of : (table : List ℕ) → ℕ
status_of table = cond (ltb 0 (check_of table).code) refused done

-- The status is this one, unless reading or writing failed.
abbrev pub Ends : (status r : ℕ) → Type 0
Ends status r = (r ≡ status) ⊎ (r ≡ failed)
