-- 01, "How a line is read": the limited reading, visit by visit.
use Rattle.std.specs.Prelude.{ℕ, zero, suc, ◌-◌, max, Bool, true, false, List, [], ltb, eqb}
use Rattle.std.proofs.Math.Option.{Option, none, some}
use Rattle.meaning.specs.Grammar.{Node, empty, range, rule, seq, choice, not, rep, Grammar, node, root_of, Trees, no_trees, ◌⋈◌, Answer, fail, ok, wrap, fits, Note, noted, look}
use Rattle.meaning.specs.Decide.{left_recursive, is_free}

-- What a visit hands on: the visits left of the allowance, the kept answers of (node, position), and, by 02's W-203, "the largest position at which a range node
-- was visited, 0 if none was".
pub record State : Type 0 where
  pub left : ℕ
  pub kept : List Note
  pub furthest : ℕ

-- Where a reading begins, with so many visits allowed.
abbrev pub starting : ℕ → State
starting allowance = record { left = allowance; kept = []; furthest = 0 }

-- So many visits are left; a finished pair is kept; a range is visited at x.
abbrev pub spent : ℕ → State → State
spent l s = record { left = l; kept = s.kept; furthest = s.furthest }

abbrev pub keeping : ℕ → ℕ → Answer → State → State
keeping i x r s = record { left = s.left; kept = noted i x r s.kept; furthest = s.furthest }

abbrev pub asked : ℕ → State → State
asked x s = record { left = s.left; kept = s.kept; furthest = max s.furthest x }

-- The visits made, of those allowed.
abbrev pub made : ℕ → State → ℕ
made allowance s = allowance - s.left

-- How a visit ends: refused for effort or depth, with "position of the refused visit"; or done with its answer.
pub data Run : Type 0 where
  effort : ℕ → State → Run
  deep : ℕ → State → Run
  done : Answer → State → Run

-- 01's codes of a refused visit.
abbrev pub EFFORT : ℕ
EFFORT = 11

abbrev pub DEEP : ℕ
DEEP = 12

-- A visit of a node at a position.
abbrev pub Visit : Type 0
Visit = ℕ → ℕ → State → Run

-- A refusal refuses all that is open.
unfoldable pub after : Run → (Answer → State → Run) → Run
after (effort p s) k = effort p s
after (deep p s) k = deep p s
after (done r s) k = k r s

-- 01: "one byte in range, else fails".
unfoldable pub byte : ℕ → Bool → Answer
byte x true = ok (suc x) no_trees
byte x false = fail

-- 01: "trees joined. Fails when either fails."
unfoldable pub joined : Trees → Answer → State → Run
joined ts fail s = done fail s
joined ts (ok e us) s = done (ok e (ts ⋈ us)) s

-- 01: "first child, then second at the first's end".
unfoldable pub second : Visit → ℕ → Answer → State → Run
second v b fail s = done fail s
second v b (ok e ts) s = after (v b e s) (joined ts)

-- 01: "first child; the second only if the first fails, at the same position".
unfoldable pub otherwise : Visit → ℕ → ℕ → Answer → State → Run
otherwise v b x fail s = v b x s
otherwise v b x (ok e ts) s = done (ok e ts) s

-- 01: "fails if its child matches; else matches nothing, with no trees".
unfoldable pub denied : ℕ → Answer → State → Run
denied x fail s = done (ok x no_trees) s
denied x (ok e ts) s = done fail s

-- 01: "If that fails or matches nothing, it matches nothing, with no trees. Else it visits itself at the child's end; trees joined." w makes that visit.
unfoldable pub repeat_from : Visit → ℕ → ℕ → ℕ → Trees → State → Bool → Run
repeat_from w i x e ts s true = done (ok x no_trees) s
repeat_from w i x e ts s false = after (w i e s) (joined ts)

unfoldable pub repeated : Visit → ℕ → ℕ → Answer → State → Run
repeated w i x fail s = done (ok x no_trees) s
repeated w i x (ok e ts) s = repeat_from w i x e ts s (eqb x e)

-- 01: "A successful rule use is one tree".
unfoldable pub wrapped : ℕ → ℕ → Answer → State → Run
wrapped a x r s = done (wrap a x r) s

-- One node's application at x: v visits its children while it is open, u uses a rule, and w visits in place of this visit. 02, W-208: "A repetition's next visit
-- of itself shall take the place of the one before"; no other visit is made so.
unfoldable pub apply : List ℕ → Visit → Visit → Visit → ℕ → ℕ → State → Node → Run
apply line v w u i x s empty = done (ok x no_trees) s
apply line v w u i x s (range lo hi) = done (byte x (fits line lo hi x)) (asked x s)
apply line v w u i x s (rule a) = u a x s
apply line v w u i x s (seq a b) = after (v a x s) (second v b)
apply line v w u i x s (choice a b) = after (v a x s) (otherwise v b x)
apply line v w u i x s (not a) = after (v a x s) (denied x)
apply line v w u i x s (rep a) = after (v a x s) (repeated w i x)

-- 01: "as long as each attempt is strictly longer than what is held"; k grows on from a longer one.
unfoldable pub longer : (ℕ → Trees → State → Run) → ℕ → Trees → ℕ → Trees → State → Bool → Run
longer k e ts e' ts' s true = k e' ts' s
longer k e ts e' ts' s false = done (ok e ts) s

-- 01: "Growing stops at the first attempt that fails or isn't longer; what was held is the answer".
unfoldable pub attempted : (ℕ → Trees → State → Run) → ℕ → Trees → Answer → State → Run
attempted k e ts fail s = done (ok e ts) s
attempted k e ts (ok e' ts') s = longer k e ts e' ts' s (ltb e e')

-- 01: "the match is held and the root visited again": v visits it with an answer held. The first number bounds the attempts: each makes a visit,
-- so as many as there are visits left are enough, and there is no visit left where they are used up.
unfoldable pub grow : ℕ → (Answer → State → Run) → ℕ → ℕ → Trees → State → Run
grow zero v x e ts s = effort x s
grow (suc f) v x e ts s = after (v (ok e ts) s) (attempted (grow f v x) e ts)

-- 01: "If that fails, the use fails, after one attempt."
unfoldable pub first_attempt : (Answer → State → Run) → ℕ → ℕ → Answer → State → Run
first_attempt v a x fail s = done fail s
first_attempt v a x (ok e ts) s = after (grow s.left v x e ts s) (wrapped a x)

-- 01: "A use of rule A at position x that isn't live becomes live with failure held"; "A visit of a live pair gives what is held".
unfoldable pub use_live : (Answer → State → Run) → ℕ → ℕ → State → Option Answer → Run
use_live v a x s none = after (v fail s) (first_attempt v a x)
use_live v a x s (some r) = done (wrap a x r) s

-- 01: "Each finished pair (node, position) is kept".
unfoldable pub keep : ℕ → ℕ → Answer → State → Run
keep i x r s = done r (keeping i x r s)

-- 01: "Before each visit: if the visits made already equal the allowance, EFFORT". The first number is the visits left; k makes the visit.
unfoldable pub counted : ℕ → ℕ → State → (State → Run) → Run
counted zero x s k = effort x s
counted (suc l) x s k = k (spent l s)

-- 01's two ways of reading. "Free grammars": each finished pair is kept, and a use of a rule visits its root. "All others": nothing is kept, and uses become live
-- and grow; of which rules, is a parameter.
pub data Way : Type 0 where
  keeps : Way
  grows : (ℕ → Bool) → Way

-- Whether a use of rule a becomes live.
abbrev pub becomes_live : Way → ℕ → Bool
becomes_live keeps a = false
becomes_live (grows live) a = live a

-- The way of a grammar that is free, and of one that isn't.
abbrev pub way_of : Bool → (ℕ → Bool) → Way
way_of true live = keeps
way_of false live = grows live

module _ (g : Grammar) (line : List ℕ) where
  -- A use of a rule that doesn't become live, and of one that does (003's var and lvar); v visits, given the live uses.
  unfoldable pub use_by : Bool → (List Note → Visit) → List Note → Visit
  use_by false v l a x s = after (v l (root_of g a) x s) (wrapped a x)
  use_by true v l a x s = use_live (λ r. v (noted a x r l) (root_of g a) x) a x s (look l a x)

  abbrev pub use_rule : Way → (List Note → Visit) → List Note → Visit
  use_rule way v l a x s = use_by (becomes_live way a) v l a x s

  -- 01: "a later visit of that pair counts as one visit, works nothing and gives the kept answer".
  unfoldable pub recall : (v w : List Note → Visit) → List Note → ℕ → ℕ → State → Option Answer → Run
  recall v w l i x s (some r) = done r s
  recall v w l i x s none = after (apply line (v l) (w l) (use_rule keeps v l) i x s (node g i)) (keep i x)

  -- A visit that may be made. 01: "All others. Nothing is kept but this."
  unfoldable pub visited : Way → (v w : List Note → Visit) → List Note → Visit
  visited keeps v w l i x s = recall v w l i x s (look s.kept i x)
  visited (grows live) v w l i x s = apply line (v l) (w l) (use_rule (grows live) v l) i x s (node g i)

  -- A visit in its place among the open ones, and those that take this place after it; v visits while it is open. 02, W-208: "it still counts as a visit, but the
  -- number of open visits doesn't rise". The first number bounds the visits made in one place: each counts, so as many as there are visits left are enough, and where
  -- they are used up none is left, so that v refuses it. (proofs/InPlace has the equation without this number.)
  unfoldable pub in_place : Way → ℕ → (List Note → Visit) → List Note → Visit
  in_place way zero v l i x s = v l i x s
  in_place way (suc f) v l i x s = counted s.left x s (visited way v (in_place way f v) l i x)

  -- 01: "else if 512 visits are open, DEEP". The number is how many more visits may be open.
  unfoldable pub visit : Way → ℕ → List Note → Visit
  visit way zero l i x s = counted s.left x s (λ t. deep x s)
  visit way (suc d) l i x s = in_place way s.left (visit way d) l i x s

  -- 01: "The reading is a use of rule 0 at position 0; that use is not itself a visit."
  unfoldable pub read_by : Way → ℕ → Run
  read_by way allowance = use_rule way (visit way 512) [] 0 0 (starting allowance)

  -- 02, W-205: "From now on only left-recursive rules become live; another rule's use visits its root once. [..] Free sheets don't change."
  unfoldable pub read : ℕ → Run
  read allowance = read_by (way_of (is_free g) (left_recursive g)) allowance
