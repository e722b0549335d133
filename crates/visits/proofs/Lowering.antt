-- The number of turns that wait is lowered in its word: what the words stand for else does not change, and a step that leaves the turns that waited leaves those that wait then.
use mathlib.Core.Path.{◌≡◌, sym, subst, ◌∙◌}
use mathlib.Core.List.{List}
use Prim.Native.Nat.{ℕ, ◌*◌, ◌<◌, ◌≤◌}
use native.Mathlib.Omega.{arith}
use lib.ListN.{length, set}
use lib.Seq.{get_or-set_same, get_or-set_other, set-set, set-get_or}
use Rattle.meaning.specs.Grammar.{fail, ok, Note}
use Rattle.meaning.specs.Reading.{State, Run, effort, deep, done}
use Rattle.visits.specs.Given.{Given, longest_line, Fit}
use Rattle.visits.specs.Words.{turns_in, top_in, made_in, Stands, Words, Same}
use Rattle.visits.specs.Says.{Visited, Says, Came}
use Rattle.visits.proofs.Frame.{alike_trees, alike_stands, written_kept, written_alike, written_words}

-- So many turns wait.
abbrev pub lowered : List ℕ → ℕ → List ℕ
lowered w n = set w 2041 n

pub lowered_top : (w : List ℕ) (n : ℕ) → top_in (lowered w n) ≡ top_in w
lowered_top w n = get_or-set_other w 2041 2042 n 0 (omega arith)

pub lowered_made : (w : List ℕ) (n : ℕ) → made_in (lowered w n) ≡ made_in w
lowered_made w n = get_or-set_other w 2041 2043 n 0 (omega arith)

-- Lowered to what it was.
pub raised : (w : List ℕ) (n : ℕ) → lowered (lowered w n) (turns_in w) ≡ w
raised w n = set-set w 2041 n (turns_in w) ∙ set-get_or w 2041 0

pub stands_low : (given : Given) (line : List ℕ) (n : ℕ) {live : ℕ} → live * 3 ≤ 2041 → {w : List ℕ} {top made : ℕ} {l : List Note} {s : State} → Words given line w live top → Stands given line w live made l s
    → Stands given line (lowered w n) live made l s
stands_low given line n few {w} words h = alike_stands given line (written_alike given line 2041 (omega arith) (omega arith) w n few) (written_kept given line 2041 (omega arith) (omega arith) w n) words (get_or-set_other w 2041 2044 n 0 (omega arith)) h

module _ (given : Given) (line : List ℕ) (n : ℕ) {live : ℕ} (few : live * 3 ≤ 2041) where
  pub low_words : {w : List ℕ} {top : ℕ} → Words given line w live top → Words given line (lowered w n) live top
  low_words {w} words = written_words given line 2041 (omega arith) (omega arith) w n few words

  low_says : {w : List ℕ} (l : List Note) (r : Visited) (m : Run) → Words given line w live r.top → (r.end < 65534 → r.list ≤ r.top) → (r.end < 65534 → r.end ≤ length line) → length line ≤ longest_line
      → Says given line w live l r m → Says given line (lowered w n) live l r m
  low_says {w} l r (effort p s) words le inside short h =
      record { end = h.end; list = h.list; small = h.small; left = h.left; furthest = h.furthest ∙ sym (get_or-set_other w 2041 2044 n 0 (omega arith)) }
  low_says {w} l r (deep p s) words le inside short h =
      record { end = h.end; list = h.list; small = h.small; left = h.left; furthest = h.furthest ∙ sym (get_or-set_other w 2041 2044 n 0 (omega arith)) }
  low_says l r (done fail s) words le inside short h = record { end = h.end; stands = stands_low given line n few words h.stands }
  low_says {w} l r (done (ok e ts) s) words le inside short h =
      let at = h.1.end in
      let i = h.1.inside in (
        alike_trees given line (written_alike given line 2041 (omega arith) (omega arith) w n {live = live} few) r.list (le (omega arith)) ∙ h.0,
        record { end = h.1.end; inside = h.1.inside; stands = stands_low given line n few words h.1.stands },
      )

  -- The same words are left, by those that wait then.
  pub low_same : {old new : List ℕ} {top : ℕ} → 2048 ≤ length old → 2048 ≤ length new → n ≤ turns_in old → Same given line old new live top → Same given line (lowered old n) (lowered new n) live top
  low_same {old} {new} {top} long more le s =
      let a : turns_in (lowered old n) ≡ n = get_or-set_same old 2041 n 0 (omega arith) in
      let b : turns_in (lowered new n) ≡ n = get_or-set_same new 2041 n 0 (omega arith) in
      record {
        uses = λ i h. get_or-set_other new 2041 i n 0 (omega arith) ∙ s.uses i h ∙ sym (get_or-set_other old 2041 i n 0 (omega arith));
        cells = λ i p q. get_or-set_other new 2041 i n 0 (omega arith) ∙ s.cells i p q ∙ sym (get_or-set_other old 2041 i n 0 (omega arith));
        turns = b ∙ sym a;
        waiting = λ i low p q. get_or-set_other new 2041 i n 0 (omega arith) ∙ s.waiting i low (omega arith) q ∙ sym (get_or-set_other old 2041 i n 0 (omega arith));
        past = λ i h. get_or-set_other new 2041 i n 0 (omega arith) ∙ s.past i h ∙ sym (get_or-set_other old 2041 i n 0 (omega arith));
      }

  -- A step, over lowered words.
  pub low_came : {w w₁ : List ℕ} {made top : ℕ} {a : Visited} {m : List Note → State → Run} → Fit given line → Words given line w live top → n ≤ turns_in w → Came given line w w₁ live made top a m
      → Came given line (lowered w n) (lowered w₁ n) live made top a m
  low_came {w} {w₁} {made} {top} {a} {m} fit words le c = record {
    same = low_same (omega (arith, words.room)) (omega (arith, c.words.room)) le c.same;
    words = low_words c.words;
    end_most = c.end_most;
    end_within = c.end_within;
    list_within = c.list_within;
    top_up = c.top_up;
    made_up = c.made_up;
    made_within = c.made_within;
    says = λ l s st. low_says l a (m l s) c.words c.list_within c.end_within fit.short (c.says l s (raise l s st));
  }
    where
      raise : (l : List Note) (s : State) → Stands given line (lowered w n) live made l s → Stands given line w live made l s
      raise l s st = subst (λ u. Stands given line u live made l s) (raised w n) (stands_low given line (turns_in w) few (low_words words) st)
