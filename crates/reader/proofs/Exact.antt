-- The numbers that come back are those of one result alone.
use mathlib.Core.Path.{◌≡◌, refl, sym, ap, ◌∙◌}
use mathlib.Core.Bool.{cond}
use Rattle.std.proofs.Common.{Result, Ok, Err}
use Prim.Native.Nat.{ℕ}
use lib.Dec.{leb, eqb}
use Rattle.layout.specs.declared.Refusal.TheVariants.{Short, Version, Count, Length, Root, Kind, Field}
use Rattle.layout.specs.Layout.{SHORT, VERSION, COUNT, LENGTH, ROOT, KIND, FIELD}
use Rattle.sheet.specs.declared.Refusal.TheVariants.{Layout, Loop}
use Rattle.sheet.specs.Check.{LOOP}
use Rattle.reader.specs.declared.Refusal.{Refusal}
use Rattle.reader.specs.declared.Refusal.TheVariants.{Sheet, Line, Allowance, Work}
use Rattle.reader.specs.declared.Ending.{Ending}
use Rattle.reader.specs.declared.Ending.TheVariants.{Read, Effort, Deep, Fail, Rest, Records, Room}
use Rattle.reader.specs.declared.Reading.{Reading}
use Rattle.reader.specs.Answer.{LINE, ALLOW, WORK, EFFORT, DEEP, FAIL, REST, RECORDS, Numbers, numbers_of}

-- The result of these numbers, by their code.
turned_away : (code place : ℕ) → Refusal
turned_away c p =
    cond (eqb c SHORT) (Sheet (Layout Short)) (cond (eqb c VERSION) (Sheet (Layout Version)) (cond (eqb c COUNT) (Sheet (Layout Count)) (cond (eqb c LENGTH) (Sheet (Layout Length))
    (cond (eqb c ROOT) (Sheet (Layout (Root p))) (cond (eqb c KIND) (Sheet (Layout (Kind p))) (cond (eqb c FIELD) (Sheet (Layout (Field p)))
    (cond (eqb c LINE) Line (cond (eqb c ALLOW) Allowance (cond (eqb c WORK) Work (Sheet (Loop p)))))))))))

ended : (code place matched records : ℕ) → Ending
ended c p m r =
    cond (eqb c 0) (Read m r) (cond (eqb c EFFORT) (Effort p) (cond (eqb c DEEP) (Deep p) (cond (eqb c FAIL) Fail (cond (eqb c REST) (Rest m) (cond (eqb c RECORDS) (Records m) (Room m r))))))

of_reading : (code place matched visits records furthest : ℕ) → Result Reading Refusal
of_reading c p m v r f = Ok (record { ending = ended c p m r; visits = v; furthest = f })

result_of : Numbers → Result Reading Refusal
result_of n =
    cond (eqb n.code 0) (of_reading n.code n.place n.matched n.visits n.records n.furthest)
    (cond (leb n.code WORK) (Err (turned_away n.code n.place)) (cond (eqb n.code LOOP) (Err (turned_away n.code n.place))
    (of_reading n.code n.place n.matched n.visits n.records n.furthest)))

reading : (e : Ending) (visits furthest : ℕ) → Result Reading Refusal
reading e v f = Ok (record { ending = e; visits = v; furthest = f })

read_back : (e : Ending) (visits furthest : ℕ) → result_of (numbers_of (reading e visits furthest)) ≡ reading e visits furthest
unfolding ended of_reading result_of reading
read_back (Read m r) v f = refl
read_back (Effort p) v f = refl
read_back (Deep p) v f = refl
read_back Fail v f = refl
read_back (Rest m) v f = refl
read_back (Records m) v f = refl
read_back (Room m r) v f = refl

answered : (x : Result Reading Refusal) → result_of (numbers_of x) ≡ x
unfolding turned_away result_of reading
answered (Ok r) = read_back r.ending r.visits r.furthest
answered (Err (Sheet (Layout Short))) = refl
answered (Err (Sheet (Layout Version))) = refl
answered (Err (Sheet (Layout Count))) = refl
answered (Err (Sheet (Layout Length))) = refl
answered (Err (Sheet (Layout (Root a)))) = refl
answered (Err (Sheet (Layout (Kind i)))) = refl
answered (Err (Sheet (Layout (Field i)))) = refl
answered (Err (Sheet (Loop i))) = refl
answered (Err Line) = refl
answered (Err Allowance) = refl
answered (Err Work) = refl

pub one_result : (x y : Result Reading Refusal) → numbers_of x ≡ numbers_of y → x ≡ y
one_result x y e = sym (answered x) ∙ ap result_of e ∙ answered y
