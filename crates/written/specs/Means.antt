-- 02, W-201: what each sign means. 01's plain rules (Figure 1 of document 003 with 01's repetition), said of what is written, without nodes.
use Rattle.std.specs.Prelude.{◌≡◌, ◌≢◌, true, false, List, ℕ, suc}
use Rattle.meaning.specs.Grammar.{Grammar, Trees, no_trees, ◌⋈◌, Answer, fail, ok, wrap, fits}
use Rattle.written.specs.Written.{Name, Written, name, range, star, plus, maybe, deny, then, or, Line}
use Rattle.written.specs.Numbered.{rule_in, nodes_of, roots_of}
use Rattle.written.specs.Tabulated.{LineAt}

-- The grammar whose nodes and roots the sheet's table has.
abbrev pub sheet_grammar : List Line → Grammar
sheet_grammar ls = record { nodes = nodes_of ls; roots = roots_of ls }

-- In the sheet ls, what is written answers r at position x of the line. The rules have the paper's names. A name answers as the alternatives of the line that has it.
pub data Means (ls : List Line) (line : List ℕ) : Written → ℕ → Answer → Type 0 where
  char1 : {lowest highest x : ℕ} → fits line lowest highest x ≡ true → Means ls line (range lowest highest) x (ok (suc x) no_trees)
  char2 : {lowest highest x : ℕ} → fits line lowest highest x ≡ false → Means ls line (range lowest highest) x fail
  var : {n : Name} {l : Line} {x : ℕ} {r : Answer} → LineAt ls (rule_in ls n) l → Means ls line l.alternatives x r
      → Means ls line (name n) x (wrap (rule_in ls n) x r)
  con1 : {a b : Written} {x y z : ℕ} {ts us : Trees} → Means ls line a x (ok y ts) → Means ls line b y (ok z us) → Means ls line (then a b) x (ok z (ts ⋈ us))
  con2 : {a b : Written} {x y : ℕ} {ts : Trees} → Means ls line a x (ok y ts) → Means ls line b y fail → Means ls line (then a b) x fail
  con3 : {a b : Written} {x : ℕ} → Means ls line a x fail → Means ls line (then a b) x fail
  ord1 : {a b : Written} {x y : ℕ} {ts : Trees} → Means ls line a x (ok y ts) → Means ls line (or a b) x (ok y ts)
  ord2 : {a b : Written} {x : ℕ} {r : Answer} → Means ls line a x fail → Means ls line b x r → Means ls line (or a b) x r
  not1 : {e : Written} {x : ℕ} → Means ls line e x fail → Means ls line (deny e) x (ok x no_trees)
  not2 : {e : Written} {x y : ℕ} {ts : Trees} → Means ls line e x (ok y ts) → Means ls line (deny e) x fail
  rep1 : {e : Written} {x : ℕ} → Means ls line e x fail → Means ls line (star e) x (ok x no_trees)
  rep2 : {e : Written} {x y z : ℕ} {ts us : Trees} → Means ls line e x (ok y ts) → x ≢ y → Means ls line (star e) y (ok z us)
      → Means ls line (star e) x (ok z (ts ⋈ us))
  rep3 : {e : Written} {x : ℕ} {ts : Trees} → Means ls line e x (ok x ts) → Means ls line (star e) x (ok x no_trees)
  -- "`e+` means `e e*`".
  plus_is : {e : Written} {x : ℕ} {r : Answer} → Means ls line (then e (star e)) x r → Means ls line (plus e) x r
  -- "`e?` means `e / empty`".
  maybe1 : {e : Written} {x y : ℕ} {ts : Trees} → Means ls line e x (ok y ts) → Means ls line (maybe e) x (ok y ts)
  maybe2 : {e : Written} {x : ℕ} → Means ls line e x fail → Means ls line (maybe e) x (ok x no_trees)
