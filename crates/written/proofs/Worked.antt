-- Worked texts: one for each construct, with its table's bytes, and for each refusal, with its place: a single table, under one claim, by computation.
use mathlib.Core.Path.{◌≡◌, refl, sym, ap, subst, ◌∙◌}
use mathlib.Core.Bool.{Bool, true, false, ◌&&◌, cond, false≢true, and-eq-true_iff}
use mathlib.Core.List.{List, [], ◌∷◌, ◌++◌, reverse, map, head-eq_of_cons-eq, tail-eq_of_cons-eq}
use mathlib.Core.Logic.{◌↔◌, ◌≢◌, ◌⊎◌, inl, inr, ⊎_elim}
use mathlib.Core.Option.{Option, none, some}
use Prim.Native.Char.{code}
use Prim.Native.String as quoted
use Prim.Native.String.{String}
use Prim.Native.Nat.{ℕ, zero, suc, ◌+◌, ◌/◌, ◌%◌, ◌≤◌, ◌<◌}
use native.Mathlib.Omega.{arith}
use borrow.Author.Tests.{le-leb, leb-true, leb-false, ltb-true, ltb-false}
use lib.Dec.{leb, ltb, eqb}
use lib.ListN.{length, drop, replicate}
use Rattle.meaning.specs.Decide.{empty_nodes}
use Rattle.meaning.proofs.Choose.{by_test}
use Rattle.layout.specs.Layout.{Verdict}
use Rattle.layout.specs.Table.{most_nodes, most_rules, length_of, nodes_of, rules_of, root_of, formula, kind_of, field_of, node_of, grammar_of}
use Rattle.layout.specs.Layout.{READ, verdict, first_fault, root_fault, fields_fit, fault_of, node_fault, layout_of}
use Rattle.sheet.specs.Check.{LOOP, loop_fault, check_of}
use Rattle.written.specs.Written.{Name, Written, name, range, star, plus, maybe, deny, then, or, Line}
use Rattle.written.specs.Shown.{is_letter, is_part, is_quotable, ShowsSheet}
use Rattle.written.specs.Numbered as numbered
use Rattle.written.specs.Numbered.{nodes, nodes_from, roots_from, same, rule_of, all_nodes, all_roots, table_bytes, table_of}
use Rattle.written.specs.Tabulated.{ROOM, LONG, TEXT, NAME, BIG, longest_text, FitsIn, Sheet, NamesRight, Tabulated}
use Rattle.written.specs.Tabulated.{Uses, here, in_star, in_plus, in_maybe, in_deny, then_first, then_second, or_first, or_second}
use Rattle.written.specs.Tabulated.{LineAt, first, later, Wrong, again, unknown}
use Rattle.written.specs.Machine.{between, refused, read, Outcome, step, step_after, step_defined, begin_item, finish, run}
use Rattle.written.proofs.Trees.{gather, trees, bare}
use Rattle.written.proofs.Complete.{complete}
use Rattle.written.proofs.Sound.{sound_read}
use Rattle.written.proofs.Alive.{longest}
use Rattle.written.proofs.Laying.{same_iff, length_lines, after, checked}

-- ---- The first wrong name of a sheet, by computation.
abbrev earlier : Option ℕ → Option ℕ → Option ℕ
earlier none q = q
earlier (some p) none = some p
earlier (some p) (some q) = cond (leb p q) (some p) (some q)

-- The first place of a name of this kind, or that there is none.
abbrev First : (Name → Type 0) → Option ℕ → Type 0
First P none = (n : Name) → P n → ⊥
First P (some p) = (n : Name) × P n × (n.place ≡ p) × ((m : Name) → P m → p ≤ m.place)

-- Of another kind of the same names.
first_same : (P Q : Name → Type 0) (a : Option ℕ) → ((n : Name) → P n ↔ Q n) → First P a → First Q a
first_same P Q none alike h = λ n q. h n ((alike n).1 q)
first_same P Q (some p) alike h = (h.0, (alike h.0).0 h.1, h.2, λ n q. h.3 n ((alike n).1 q))

-- Of two kinds.
first_of : (P Q R : Name → Type 0) (a b : Option ℕ) → ((n : Name) → (P n ⊎ Q n) ↔ R n) → First P a → First Q b → First R (earlier a b)
first_of P Q R none none alike h k = λ n r. ⊎_elim (h n) (k n) ((alike n).1 r)
first_of P Q R none (some q) alike h k = (k.0, (alike k.0).0 (inr k.1), k.2, λ n r. ⊎_elim (λ x. absurd (h n x)) (k.3 n) ((alike n).1 r))
first_of P Q R (some p) none alike h k = (h.0, (alike h.0).0 (inl h.1), h.2, λ n r. ⊎_elim (h.3 n) (λ x. absurd (k n x)) ((alike n).1 r))
first_of P Q R (some p) (some q) alike h k =
    by_test (First R) (leb p q) _ _
    (λ e. (h.0, (alike h.0).0 (inl h.1), h.2, λ n r. ⊎_elim (h.3 n) (λ x. omega (arith, leb-true p q e, k.3 n x)) ((alike n).1 r)))
    (λ e. (k.0, (alike k.0).0 (inr k.1), k.2, λ n r. ⊎_elim (λ x. omega (arith, leb-false p q e, h.3 n x)) (k.3 n) ((alike n).1 r)))

abbrev Unknown : List Line → List ℕ → Type 0
Unknown ls letters = (j : ℕ) (l : Line) → LineAt ls j l → l.name.letters ≢ letters

-- Whether no line has these letters.
abbrev lacks : List Line → List ℕ → Bool
lacks [] letters = true
lacks (l ∷ ls) letters = cond (same l.name.letters letters) false (lacks ls letters)

abbrev Lacks : List Line → List ℕ → Bool → Type 0
Lacks ls letters true = Unknown ls letters
Lacks ls letters false = (j : ℕ) × (l : Line) × LineAt ls j l × (l.name.letters ≡ letters)

none_lacks : (letters : List ℕ) → Unknown [] letters
none_lacks letters = λ j l. elim [ ]

lacks_more : (l : Line) (ls : List Line) (letters : List ℕ) (b : Bool) → l.name.letters ≢ letters → Lacks ls letters b → Lacks (l ∷ ls) letters b
lacks_more l ls letters true other h = not_there
  where
    not_there : Unknown (l ∷ ls) letters
    not_there j k first = other
    not_there j k (later {k = i} at) = h i k at
lacks_more l ls letters false other h = (1 + h.0, h.1, later h.2, h.3)

lacks_says : (ls : List Line) (letters : List ℕ) → Lacks ls letters (lacks ls letters)
lacks_says [] letters = none_lacks letters
lacks_says (l ∷ ls) letters =
    by_test (Lacks (l ∷ ls) letters) (same l.name.letters letters) _ _ (λ e. (0, l, first, (same_iff _ _).0 e))
    (λ e. lacks_more l ls letters (lacks ls letters) (λ d. false≢true (sym e ∙ (same_iff _ _).1 d)) (lacks_says ls letters))

-- The first name in what is written that no line has.
abbrev unknown_in : List Line → Written → Option ℕ
unknown_in ls (name n) = cond (lacks ls n.letters) (some n.place) none
unknown_in ls (range lowest highest) = none
unknown_in ls (star e) = unknown_in ls e
unknown_in ls (plus e) = unknown_in ls e
unknown_in ls (maybe e) = unknown_in ls e
unknown_in ls (deny e) = unknown_in ls e
unknown_in ls (then a b) = earlier (unknown_in ls a) (unknown_in ls b)
unknown_in ls (or a b) = earlier (unknown_in ls a) (unknown_in ls b)

module _ (ls : List Line) where
  abbrev UnknownIn : Written → Name → Type 0
  UnknownIn w n = Uses n w × Unknown ls n.letters

  in_one : (e w : Written) → ((n : Name) → Uses n e ↔ Uses n w) → First (UnknownIn e) (unknown_in ls e) → First (UnknownIn w) (unknown_in ls e)
  in_one e w alike = first_same (UnknownIn e) (UnknownIn w) (unknown_in ls e) (λ n. (λ u. ((alike n).0 u.0, u.1), λ u. ((alike n).1 u.0, u.1)))

  in_two_lem : (a b w : Written) → ((n : Name) → (Uses n a ⊎ Uses n b) ↔ Uses n w) → First (UnknownIn a) (unknown_in ls a) → First (UnknownIn b) (unknown_in ls b)
      → First (UnknownIn w) (earlier (unknown_in ls a) (unknown_in ls b))
  in_two_lem a b w alike =
      first_of (UnknownIn a) (UnknownIn b) (UnknownIn w) (unknown_in ls a) (unknown_in ls b)
      (λ n. (⊎_elim (λ u. ((alike n).0 (inl u.0), u.1)) (λ u. ((alike n).0 (inr u.0), u.1)), λ u. ⊎_elim (λ x. inl (x, u.1)) (λ x. inr (x, u.1)) ((alike n).1 u.0)))

  only_name : {n m : Name} → Uses m (name n) → m ≡ n
  only_name here = refl

  by_lacks : (n : Name) (b : Bool) → Lacks ls n.letters b → First (UnknownIn (name n)) (cond b (some n.place) none)
  by_lacks n true h = (n, (here, h), refl, λ m u. let e : m.place ≡ n.place = ap (λ (x : Name). x.place) (only_name u.0) in omega arith)
  by_lacks n false h = λ m u. u.1 h.0 h.1 h.2 (h.3 ∙ ap (λ (x : Name). x.letters) (sym (only_name u.0)))

  first_unknown : (w : Written) → First (UnknownIn w) (unknown_in ls w)
  first_unknown (name n) = by_lacks n (lacks ls n.letters) (lacks_says ls n.letters)
  first_unknown (range lowest highest) = λ n u. elim u.0 [ ]
  first_unknown (star e) = in_one e (star e) (λ n. (in_star, elim [ in_star u ↦ u ])) (first_unknown e)
  first_unknown (plus e) = in_one e (plus e) (λ n. (in_plus, elim [ in_plus u ↦ u ])) (first_unknown e)
  first_unknown (maybe e) = in_one e (maybe e) (λ n. (in_maybe, elim [ in_maybe u ↦ u ])) (first_unknown e)
  first_unknown (deny e) = in_one e (deny e) (λ n. (in_deny, elim [ in_deny u ↦ u ])) (first_unknown e)
  first_unknown (then a b) =
      in_two_lem a b (then a b) (λ n. (⊎_elim then_first then_second, elim [ then_first u ↦ inl u | then_second u ↦ inr u ])) (first_unknown a) (first_unknown b)
  first_unknown (or a b) =
      in_two_lem a b (or a b) (λ n. (⊎_elim or_first or_second, elim [ or_first u ↦ inl u | or_second u ↦ inr u ])) (first_unknown a) (first_unknown b)

-- The first such name in lines.
abbrev first_in : (Line → Option ℕ) → List Line → Option ℕ
first_in f [] = none
first_in f (m ∷ ms) = earlier (f m) (first_in f ms)

abbrev InLines : (Line → Name → Type 0) → List Line → Name → Type 0
InLines P ms n = (k : ℕ) × (m : Line) × LineAt ms k m × P m n

module _ (P : Line → Name → Type 0) where
  at_first : (m : Line) (ms : List Line) (n : Name) → P m n ⊎ InLines P ms n → InLines P (m ∷ ms) n
  at_first m ms n (inl h) = (0, m, first, h)
  at_first m ms n (inr (k, l, at, h)) = (1 + k, l, later at, h)

  there : {m l : Line} {ms : List Line} {k : ℕ} (n : Name) → LineAt (m ∷ ms) k l → P l n → P m n ⊎ InLines P ms n
  there n first h = inl h
  there n (later {l = l} {k = k} at) h = inr (k, l, at, h)

  first_in_lem : (f : Line → Option ℕ) → ((m : Line) → First (P m) (f m)) → (ms : List Line) → First (InLines P ms) (first_in f ms)
  first_in_lem f say [] = λ n h. elim h.2 [ ]
  first_in_lem f say (m ∷ ms) =
      first_of (P m) (InLines P ms) (InLines P (m ∷ ms)) (f m) (first_in f ms) (λ n. (at_first m ms n, λ h. there n h.2 h.3)) (say m) (first_in_lem f say ms)

-- A line's name, where it has these letters.
abbrev named_so : List ℕ → Line → Option ℕ
named_so letters m = cond (same letters m.name.letters) (some m.name.place) none

abbrev NamedSo : List ℕ → Line → Name → Type 0
NamedSo letters m n = (letters ≡ m.name.letters) × (n ≡ m.name)

first_named : (letters : List ℕ) (m : Line) → First (NamedSo letters m) (named_so letters m)
first_named letters m =
    by_test (First (NamedSo letters m)) (same letters m.name.letters) _ _
    (λ e. (m.name, ((same_iff _ _).0 e, refl), refl, λ n h. let d : n.place ≡ m.name.place = ap (λ (x : Name). x.place) h.1 in omega arith))
    (λ e n h. false≢true (sym e ∙ (same_iff _ _).1 h.0))

-- The first name of a line that an earlier line has.
abbrev again_in : List Line → Option ℕ
again_in [] = none
again_in (l ∷ ls) = earlier (first_in (named_so l.name.letters) ls) (again_in ls)

data Again (ls : List Line) (n : Name) : Type 0 where
  twice : {j k : ℕ} {l m : Line} → LineAt ls j l → LineAt ls k m → j < k → l.name.letters ≡ m.name.letters → n ≡ m.name → Again ls n

again_later : (l : Line) (ls : List Line) (n : Name) → InLines (NamedSo l.name.letters) ls n ⊎ Again ls n → Again (l ∷ ls) n
again_later l ls n (inl (k, m, at, h)) = twice first (later at) (omega arith) h.0 h.1
again_later l ls n (inr (twice a b less e d)) = twice (later a) (later b) (omega arith) e d

again_split : (l : Line) (ls : List Line) (n : Name) → Again (l ∷ ls) n → InLines (NamedSo l.name.letters) ls n ⊎ Again ls n
again_split l ls n (twice first first less e d) = absurd (omega arith)
again_split l ls n (twice first (later {l = m} {k = k} b) less e d) = inl (k, m, b, (e, d))
again_split l ls n (twice (later a) first less e d) = absurd (omega arith)
again_split l ls n (twice (later a) (later b) less e d) = inr (twice a b (omega arith) e d)

first_again : (ls : List Line) → First (Again ls) (again_in ls)
first_again [] = λ n. elim [ twice a b less e d ↦ elim a [ ] ]
first_again (l ∷ ls) =
    first_of (InLines (NamedSo l.name.letters) ls) (Again ls) (Again (l ∷ ls)) (first_in (named_so l.name.letters) ls) (again_in ls)
    (λ n. (again_later l ls n, again_split l ls n)) (first_in_lem (NamedSo l.name.letters) (named_so l.name.letters) (first_named l.name.letters) ls) (first_again ls)

-- The first wrong name of a sheet.
abbrev wrong_at : List Line → Option ℕ
wrong_at ls = earlier (again_in ls) (first_in (λ m. unknown_in ls m.alternatives) ls)

abbrev LineUnknown : List Line → Line → Name → Type 0
LineUnknown ls m = UnknownIn ls m.alternatives

wrong_if : (ls : List Line) (n : Name) → Again ls n ⊎ InLines (LineUnknown ls) ls n → Wrong ls n
wrong_if ls n (inl (twice a b less e d)) = rw d (again a b less e)
wrong_if ls n (inr (k, m, at, h)) = unknown at h.0 h.1

wrong_split : (ls : List Line) (n : Name) → Wrong ls n → Again ls n ⊎ InLines (LineUnknown ls) ls n
wrong_split ls n (again a b less e) = inl (twice a b less e refl)
wrong_split ls n (unknown {k = k} {m = m} at u none_has) = inr (k, m, at, (u, none_has))

first_wrong : (ls : List Line) → First (Wrong ls) (wrong_at ls)
first_wrong ls =
    first_of (Again ls) (InLines (LineUnknown ls) ls) (Wrong ls) (again_in ls) (first_in (λ m. unknown_in ls m.alternatives) ls)
    (λ n. (wrong_if ls n, wrong_split ls n)) (first_again ls) (first_in_lem (LineUnknown ls) (λ m. unknown_in ls m.alternatives) (λ m. first_unknown ls m.alternatives) ls)

-- ---- What comes back of a text and a room, by computation.
record Back : Type 0 where
  code : ℕ
  place : ℕ
  size : ℕ
  left : List ℕ

abbrev refusing : (room : List ℕ) (code place : ℕ) → Back
refusing room code place = record { code = code; place = place; size = 0; left = room }

abbrev of_room : Bool → (room table : List ℕ) → Back
of_room true room table = refusing room ROOM 0
of_room false room table = record { code = READ; place = 0; size = length table; left = table ++ drop (length table) room }

abbrev of_check : Bool → (room table : List ℕ) (place : ℕ) → Back
of_check true room table place = refusing room LOOP place
of_check false room table place = of_room (ltb (length room) (length table)) room table

abbrev of_verdict : (room table : List ℕ) → Verdict → Back
of_verdict room table v = of_check (eqb v.code LOOP) room table v.place

-- There are as many nodes as the number after the last says.
abbrev fitting : List Line → Bool
fitting ls = leb (after 0 ls) most_nodes && leb (length ls) most_rules

abbrev of_limits : Bool → (room : List ℕ) → List Line → Back
of_limits true room ls = of_verdict room (table_of ls) (check_of (table_of ls))
of_limits false room ls = refusing room BIG 0

abbrev of_names : Option ℕ → (room : List ℕ) → List Line → Back
of_names none room ls = of_limits (fitting ls) room ls
of_names (some p) room ls = refusing room NAME p

abbrev of_outcome : (room : List ℕ) → Outcome trees → Back
of_outcome room (refused p) = refusing room TEXT p
of_outcome room (read t) = of_names (wrong_at (reverse t.done)) room (reverse t.done)

abbrev of_length : Bool → (text room : List ℕ) → Back
of_length true text room = refusing room LONG 0
of_length false text room = of_outcome room (run trees (between bare) 0 text)

abbrev back : (text room : List ℕ) → Back
back text room = of_length (ltb longest_text (length text)) text room

is_fitting : (ls : List Line) → fitting ls ≡ true → FitsIn ls
is_fitting ls e =
    let h = (and-eq-true_iff (leb (after 0 ls) most_nodes) (leb (length ls) most_rules)).0 e in
    let d = length_lines (numbered.rule_in ls) 0 ls in
    record { nodes = omega (arith, leb-true (after 0 ls) most_nodes h.0, d); rules = leb-true _ _ h.1 }

not_fitting : (ls : List Line) → fitting ls ≡ false → FitsIn ls → ⊥
not_fitting ls e h =
    let d = length_lines (numbered.rule_in ls) 0 ls in
    let n : after 0 ls ≤ most_nodes = omega (arith, h.nodes, d) in
    false≢true (sym e ∙ (and-eq-true_iff (leb (after 0 ls) most_nodes) (leb (length ls) most_rules)).1 (le-leb _ _ n, le-leb _ _ h.rules))

module _ (text room : List ℕ) where
  abbrev Is : Back → Type 0
  Is b = Tabulated text room b.code b.place b.size b.left

  by_room : (ls : List Line) → Sheet text ls → check_of (table_of ls) ≡ verdict READ 0 → (b : Bool) → ltb (length room) (length (table_of ls)) ≡ b → Is (of_room b room (table_of ls))
  by_room ls h e true l = Tabulated.no_room h e (ltb-true _ _ l)
  by_room ls h e false l = Tabulated.read h e (ltb-false _ _ l)

  by_check : (ls : List Line) → Sheet text ls → (check_of (table_of ls) ≡ verdict READ 0) ⊎ ((p : ℕ) × (check_of (table_of ls) ≡ verdict LOOP p))
      → Is (of_verdict room (table_of ls) (check_of (table_of ls)))
  by_check ls h (inl e) = subst (λ (v : Verdict). Is (of_verdict room (table_of ls) v)) (sym e) (by_room ls h e (ltb (length room) (length (table_of ls))) refl)
  by_check ls h (inr (p, e)) = subst (λ (v : Verdict). Is (of_verdict room (table_of ls) v)) (sym e) (Tabulated.loop h e)

  module _ (short : length text ≤ longest_text) where
    by_limits : (ls : List Line) → ShowsSheet ls text → NamesRight ls → (b : Bool) → fitting ls ≡ b → Is (of_limits b room ls)
    by_limits ls h right true e =
        let s : Sheet text ls = record { short = short; shown = h; right = right; fits = is_fitting ls e } in by_check ls s (checked s)
    by_limits ls h right false e = Tabulated.big short h right (not_fitting ls e)

    by_names : (ls : List Line) → ShowsSheet ls text → (o : Option ℕ) → First (Wrong ls) o → Is (of_names o room ls)
    by_names ls h none right = by_limits ls h right (fitting ls) refl
    by_names ls h (some p) k = Tabulated.bad_name short h (record { wrong = k.0; is_wrong = k.1; there = k.2; first = k.3 })

    by_outcome : (o : Outcome trees) → run trees (between bare) 0 text ≡ o → Is (of_outcome room o)
    by_outcome (refused p) e = let h = longest sound_read (λ ls t s. complete s) text p e in Tabulated.no_text short h.0 h.1
    by_outcome (read t) e = by_names (reverse t.done) (sound_read text t e) (wrong_at (reverse t.done)) (first_wrong (reverse t.done))

  by_length : (b : Bool) → ltb longest_text (length text) ≡ b → Is (of_length b text room)
  by_length true e = Tabulated.long (ltb-true _ _ e)
  by_length false e = by_outcome (ltb-false _ _ e) (run trees (between bare) 0 text) refl

  -- What is computed is what comes back.
  is_back : Is (back text room)
  is_back = by_length (ltb longest_text (length text)) refl

-- ---- The table.
-- A text, the room that is lent for its table; the code, the place and the table's length that come back; and what the room is left with.
pub record Case : Type 0 where
  pub text : List ℕ
  pub room : List ℕ
  pub code : ℕ
  pub place : ℕ
  pub size : ℕ
  pub left : List ℕ

abbrev pub Holds : Case → Type 0
Holds c = Tabulated c.text c.room c.code c.place c.size c.left

abbrev pub AllHold : List Case → Type 0
AllHold [] = Unit {0}
AllHold (c ∷ cs) = Holds c × AllHold cs

-- The bytes of a quoted text.
abbrev pub bytes : String → List ℕ
bytes quoted.[] = []
bytes (quoted.◌∷◌ c s) = code c ∷ bytes s

-- A text that is read: its table fills the front of a room that has two bytes more, which stay.
abbrev reads : (text table : List ℕ) → Case
reads text table = record { text = text; room = replicate (length table) 0 ++ (8 ∷ 9 ∷ []); code = READ; place = 0; size = length table; left = table ++ (8 ∷ 9 ∷ []) }

-- A text that is refused: the room stays.
abbrev refuses_in : (room text : List ℕ) (code place : ℕ) → Case
refuses_in room text code place = record { text = text; room = room; code = code; place = place; size = 0; left = room }

abbrev refuses : (text : List ℕ) (code place : ℕ) → Case
refuses text code place = refuses_in (8 ∷ 9 ∷ []) text code place

-- Lines with different names of two letters.
abbrev pub many_lines : ℕ → List ℕ
many_lines zero = []
many_lines (suc k) = (65 + k / 26) ∷ (65 + k % 26) ∷ bytes "<-'x'\n" ++ many_lines k

unfoldable pub texts : List Case
texts =
    -- A name, used before its line.
    reads (bytes "A<-B\nB<-'x'\n")
    (1 ∷ 0 ∷ 21 ∷ 0 ∷ 2 ∷ 0 ∷ 2 ∷ 0 ∷ 0 ∷ 0 ∷ 1 ∷ 2 ∷ 0 ∷ 1 ∷ 0 ∷ 0 ∷ 1 ∷ 0 ∷ 120 ∷ 0 ∷ 120 ∷ [])
    -- A quote of one byte, of three, and of the lowest and the highest.
    ∷ reads (bytes "A<-'x'\n")
    (1 ∷ 0 ∷ 14 ∷ 0 ∷ 1 ∷ 0 ∷ 1 ∷ 0 ∷ 0 ∷ 1 ∷ 0 ∷ 120 ∷ 0 ∷ 120 ∷ [])
    ∷ reads (bytes "A<-'abc'\n")
    (1 ∷ 0 ∷ 34 ∷ 0 ∷ 5 ∷ 0 ∷ 1 ∷ 0 ∷ 4 ∷ 1 ∷ 0 ∷ 97 ∷ 0 ∷ 97 ∷ 1 ∷ 0 ∷ 98 ∷ 0 ∷ 98 ∷ 1 ∷ 0 ∷ 99 ∷ 0 ∷ 99 ∷ 3 ∷ 0 ∷ 1 ∷ 0 ∷ 2 ∷ 3 ∷ 0 ∷ 0 ∷ 0 ∷ 3 ∷ [])
    ∷ reads (bytes "A<-'!~'\n")
    (1 ∷ 0 ∷ 24 ∷ 0 ∷ 3 ∷ 0 ∷ 1 ∷ 0 ∷ 2 ∷ 1 ∷ 0 ∷ 33 ∷ 0 ∷ 33 ∷ 1 ∷ 0 ∷ 126 ∷ 0 ∷ 126 ∷ 3 ∷ 0 ∷ 0 ∷ 0 ∷ 1 ∷ [])
    -- A class of one letter, of a range and a digit, and of a range from a digit to a letter.
    ∷ reads (bytes "A<-[a]\n")
    (1 ∷ 0 ∷ 14 ∷ 0 ∷ 1 ∷ 0 ∷ 1 ∷ 0 ∷ 0 ∷ 1 ∷ 0 ∷ 97 ∷ 0 ∷ 97 ∷ [])
    ∷ reads (bytes "A<-[a-z0]\n")
    (1 ∷ 0 ∷ 24 ∷ 0 ∷ 3 ∷ 0 ∷ 1 ∷ 0 ∷ 2 ∷ 1 ∷ 0 ∷ 97 ∷ 0 ∷ 122 ∷ 1 ∷ 0 ∷ 48 ∷ 0 ∷ 48 ∷ 4 ∷ 0 ∷ 0 ∷ 0 ∷ 1 ∷ [])
    ∷ reads (bytes "A<-[9-A]\n")
    (1 ∷ 0 ∷ 14 ∷ 0 ∷ 1 ∷ 0 ∷ 1 ∷ 0 ∷ 0 ∷ 1 ∷ 0 ∷ 57 ∷ 0 ∷ 65 ∷ [])
    -- Brackets, where they matter and where they don't.
    ∷ reads (bytes "A<-('x'/'y')'z'\n")
    (1 ∷ 0 ∷ 34 ∷ 0 ∷ 5 ∷ 0 ∷ 1 ∷ 0 ∷ 4 ∷ 1 ∷ 0 ∷ 120 ∷ 0 ∷ 120 ∷ 1 ∷ 0 ∷ 121 ∷ 0 ∷ 121 ∷ 4 ∷ 0 ∷ 0 ∷ 0 ∷ 1 ∷ 1 ∷ 0 ∷ 122 ∷ 0 ∷ 122 ∷ 3 ∷ 0 ∷ 2 ∷ 0 ∷ 3 ∷ [])
    ∷ reads (bytes "A<-(('x'))\n")
    (1 ∷ 0 ∷ 14 ∷ 0 ∷ 1 ∷ 0 ∷ 1 ∷ 0 ∷ 0 ∷ 1 ∷ 0 ∷ 120 ∷ 0 ∷ 120 ∷ [])
    -- The signs. A repeated item's nodes are made once.
    ∷ reads (bytes "A<-'x'*\n")
    (1 ∷ 0 ∷ 19 ∷ 0 ∷ 2 ∷ 0 ∷ 1 ∷ 0 ∷ 1 ∷ 1 ∷ 0 ∷ 120 ∷ 0 ∷ 120 ∷ 6 ∷ 0 ∷ 0 ∷ 0 ∷ 0 ∷ [])
    ∷ reads (bytes "A<-'x'+\n")
    (1 ∷ 0 ∷ 24 ∷ 0 ∷ 3 ∷ 0 ∷ 1 ∷ 0 ∷ 2 ∷ 1 ∷ 0 ∷ 120 ∷ 0 ∷ 120 ∷ 6 ∷ 0 ∷ 0 ∷ 0 ∷ 0 ∷ 3 ∷ 0 ∷ 0 ∷ 0 ∷ 1 ∷ [])
    ∷ reads (bytes "A<-'x'?\n")
    (1 ∷ 0 ∷ 24 ∷ 0 ∷ 3 ∷ 0 ∷ 1 ∷ 0 ∷ 2 ∷ 1 ∷ 0 ∷ 120 ∷ 0 ∷ 120 ∷ 0 ∷ 0 ∷ 0 ∷ 0 ∷ 0 ∷ 4 ∷ 0 ∷ 0 ∷ 0 ∷ 1 ∷ [])
    ∷ reads (bytes "A<-'x'+?\n")
    (1 ∷ 0 ∷ 34 ∷ 0 ∷ 5 ∷ 0 ∷ 1 ∷ 0 ∷ 4 ∷ 1 ∷ 0 ∷ 120 ∷ 0 ∷ 120 ∷ 6 ∷ 0 ∷ 0 ∷ 0 ∷ 0 ∷ 3 ∷ 0 ∷ 0 ∷ 0 ∷ 1 ∷ 0 ∷ 0 ∷ 0 ∷ 0 ∷ 0 ∷ 4 ∷ 0 ∷ 2 ∷ 0 ∷ 3 ∷ [])
    -- `!`. The signs bind tighter, and a row does not.
    ∷ reads (bytes "A<-!'a'\n")
    (1 ∷ 0 ∷ 19 ∷ 0 ∷ 2 ∷ 0 ∷ 1 ∷ 0 ∷ 1 ∷ 1 ∷ 0 ∷ 97 ∷ 0 ∷ 97 ∷ 5 ∷ 0 ∷ 0 ∷ 0 ∷ 0 ∷ [])
    ∷ reads (bytes "A<-!'a'*\n")
    (1 ∷ 0 ∷ 24 ∷ 0 ∷ 3 ∷ 0 ∷ 1 ∷ 0 ∷ 2 ∷ 1 ∷ 0 ∷ 97 ∷ 0 ∷ 97 ∷ 6 ∷ 0 ∷ 0 ∷ 0 ∷ 0 ∷ 5 ∷ 0 ∷ 1 ∷ 0 ∷ 0 ∷ [])
    ∷ reads (bytes "A<-!!'a''b'\n")
    (1 ∷ 0 ∷ 34 ∷ 0 ∷ 5 ∷ 0 ∷ 1 ∷ 0 ∷ 4 ∷ 1 ∷ 0 ∷ 97 ∷ 0 ∷ 97 ∷ 5 ∷ 0 ∷ 0 ∷ 0 ∷ 0 ∷ 5 ∷ 0 ∷ 1 ∷ 0 ∷ 0 ∷ 1 ∷ 0 ∷ 98 ∷ 0 ∷ 98 ∷ 3 ∷ 0 ∷ 2 ∷ 0 ∷ 3 ∷ [])
    -- A row of three items, a choice of three, and one of three rows.
    ∷ reads (bytes "A<-'x''y''z'\n")
    (1 ∷ 0 ∷ 34 ∷ 0 ∷ 5 ∷ 0 ∷ 1 ∷ 0 ∷ 4 ∷ 1 ∷ 0 ∷ 120 ∷ 0 ∷ 120 ∷ 1 ∷ 0 ∷ 121 ∷ 0 ∷ 121 ∷ 1 ∷ 0 ∷ 122 ∷ 0 ∷ 122 ∷ 3 ∷ 0 ∷ 1 ∷ 0 ∷ 2 ∷ 3 ∷ 0 ∷ 0 ∷ 0 ∷ 3 ∷ [])
    ∷ reads (bytes "A<-'x'/'y'/'z'\n")
    (1 ∷ 0 ∷ 34 ∷ 0 ∷ 5 ∷ 0 ∷ 1 ∷ 0 ∷ 4 ∷ 1 ∷ 0 ∷ 120 ∷ 0 ∷ 120 ∷ 1 ∷ 0 ∷ 121 ∷ 0 ∷ 121 ∷ 1 ∷ 0 ∷ 122 ∷ 0 ∷ 122 ∷ 4 ∷ 0 ∷ 1 ∷ 0 ∷ 2 ∷ 4 ∷ 0 ∷ 0 ∷ 0 ∷ 3 ∷ [])
    ∷ reads (bytes "A<-'a''b'/'c'/'d''e'\n")
    (1 ∷ 0 ∷ 54 ∷ 0 ∷ 9 ∷ 0 ∷ 1 ∷ 0 ∷ 8 ∷ 1 ∷ 0 ∷ 97 ∷ 0 ∷ 97 ∷ 1 ∷ 0 ∷ 98 ∷ 0 ∷ 98 ∷ 3 ∷ 0 ∷ 0 ∷ 0 ∷ 1 ∷ 1 ∷ 0 ∷ 99 ∷ 0 ∷ 99 ∷ 1 ∷ 0 ∷ 100 ∷ 0 ∷ 100 ∷ 1 ∷ 0 ∷ 101 ∷ 0
    ∷ 101 ∷ 3 ∷ 0 ∷ 4 ∷ 0 ∷ 5 ∷ 4 ∷ 0 ∷ 3 ∷ 0 ∷ 6 ∷ 4 ∷ 0 ∷ 2 ∷ 0 ∷ 7 ∷ [])
    -- Two lines. Names differ by the case of a letter.
    ∷ reads (bytes "Ab<-'x'\naB<-'y'\n")
    (1 ∷ 0 ∷ 21 ∷ 0 ∷ 2 ∷ 0 ∷ 2 ∷ 0 ∷ 0 ∷ 0 ∷ 1 ∷ 1 ∷ 0 ∷ 120 ∷ 0 ∷ 120 ∷ 1 ∷ 0 ∷ 121 ∷ 0 ∷ 121 ∷ [])
    -- Spaces wherever they may stand.
    ∷ reads (bytes "  A  <-  B  ( 'x'  /  [a-c]  *  )  /  !  !  'y'  \n  B  <-  'z'  +  ?  \n  ")
    (1 ∷ 0 ∷ 86 ∷ 0 ∷ 15 ∷ 0 ∷ 2 ∷ 0 ∷ 9 ∷ 0 ∷ 14 ∷ 2 ∷ 0 ∷ 1 ∷ 0 ∷ 0 ∷ 1 ∷ 0 ∷ 120 ∷ 0 ∷ 120 ∷ 1 ∷ 0 ∷ 97 ∷ 0 ∷ 99 ∷ 6 ∷ 0 ∷ 2 ∷ 0 ∷ 0 ∷ 4 ∷ 0 ∷ 1 ∷ 0 ∷ 3 ∷ 3 ∷ 0 ∷ 0
    ∷ 0 ∷ 4 ∷ 1 ∷ 0 ∷ 121 ∷ 0 ∷ 121 ∷ 5 ∷ 0 ∷ 6 ∷ 0 ∷ 0 ∷ 5 ∷ 0 ∷ 7 ∷ 0 ∷ 0 ∷ 4 ∷ 0 ∷ 5 ∷ 0 ∷ 8 ∷ 1 ∷ 0 ∷ 122 ∷ 0 ∷ 122 ∷ 6 ∷ 0 ∷ 10 ∷ 0 ∷ 0 ∷ 3 ∷ 0 ∷ 10 ∷ 0 ∷ 11 ∷ 0 ∷ 0
    ∷ 0 ∷ 0 ∷ 0 ∷ 4 ∷ 0 ∷ 12 ∷ 0 ∷ 13 ∷ [])
    -- Left recursion.
    ∷ reads (bytes "Sum <- Sum '-' Term / Term\nTerm <- [0-9]\n")
    (1 ∷ 0 ∷ 51 ∷ 0 ∷ 8 ∷ 0 ∷ 2 ∷ 0 ∷ 6 ∷ 0 ∷ 7 ∷ 2 ∷ 0 ∷ 0 ∷ 0 ∷ 0 ∷ 1 ∷ 0 ∷ 45 ∷ 0 ∷ 45 ∷ 2 ∷ 0 ∷ 1 ∷ 0 ∷ 0 ∷ 3 ∷ 0 ∷ 1 ∷ 0 ∷ 2 ∷ 3 ∷ 0 ∷ 0 ∷ 0 ∷ 3 ∷ 2 ∷ 0 ∷ 1 ∷ 0 ∷ 0
    ∷ 4 ∷ 0 ∷ 4 ∷ 0 ∷ 5 ∷ 1 ∷ 0 ∷ 48 ∷ 0 ∷ 57 ∷ [])
    -- A name of 32 letters.
    ∷ reads (replicate 32 65 ++ bytes "<-'x'\n") (1 ∷ 0 ∷ 14 ∷ 0 ∷ 1 ∷ 0 ∷ 1 ∷ 0 ∷ 0 ∷ 1 ∷ 0 ∷ 120 ∷ 0 ∷ 120 ∷ [])
    -- A room that the table fills.
    ∷ record { text = bytes "A<-'x'\n"; room = replicate 14 9; code = READ; place = 0; size = 14; left = 1 ∷ 0 ∷ 14 ∷ 0 ∷ 1 ∷ 0 ∷ 1 ∷ 0 ∷ 0 ∷ 1 ∷ 0 ∷ 120 ∷ 0 ∷ 120 ∷ [] }
    -- No line, and a line that ends too early: in its name, before an item, after one, in a quote.
    ∷ refuses (bytes "") TEXT 0
    ∷ refuses (bytes "  ") TEXT 2
    ∷ refuses (bytes "Ab") TEXT 2
    ∷ refuses (bytes "A<-") TEXT 3
    ∷ refuses (bytes "A<-'x'") TEXT 6
    ∷ refuses (bytes "A<-'x") TEXT 5
    -- A space in `<-`, and a line without alternatives, or with an empty one.
    ∷ refuses (bytes "A< -'x'\n") TEXT 2
    ∷ refuses (bytes "A<-\n") TEXT 3
    ∷ refuses (bytes "A<-'x'/\n") TEXT 7
    ∷ refuses (bytes "A<-()\n") TEXT 4
    -- A quote of nothing, with a space, with LF, and a byte that no item begins with.
    ∷ refuses (bytes "A<-''\n") TEXT 4
    ∷ refuses (bytes "A<-'a b'\n") TEXT 5
    ∷ refuses (bytes "A<-'a\n'\n") TEXT 5
    ∷ refuses (bytes "A<-\"x\"\n") TEXT 3
    -- Classes: of nothing, from the highest letter on, down, from a letter to itself, and with another sign.
    ∷ refuses (bytes "A<-[]\n") TEXT 4
    ∷ refuses (bytes "A<-[z-a]\n") TEXT 5
    ∷ refuses (bytes "A<-[b-a]\n") TEXT 6
    ∷ refuses (bytes "A<-[a-a]\n") TEXT 6
    ∷ refuses (bytes "A<-[a_]\n") TEXT 5
    -- A bracket that none opens, one that none closes, an empty line, and a digit in a name.
    ∷ refuses (bytes "A<-'x')\n") TEXT 6
    ∷ refuses (bytes "A<-('x'\n") TEXT 7
    ∷ refuses (bytes "A<-'x'\n\n") TEXT 7
    ∷ refuses (bytes "A1<-'x'\n") TEXT 1
    -- Names of 33 letters, of a line and used.
    ∷ refuses (replicate 33 65 ++ bytes "<-'x'\n") TEXT 32
    ∷ refuses (bytes "A<-" ++ (replicate 33 65 ++ bytes "\n")) TEXT 35
    -- A name that is defined again, one that is not defined, and the earlier one of two.
    ∷ refuses (bytes "A<-'x'\nA<-'y'\n") NAME 7
    ∷ refuses (bytes "A<-B\n") NAME 3
    ∷ refuses (bytes "A<-B\nA<-'x'\n") NAME 3
    ∷ refuses (bytes "A<-'x'\nA<-B\n") NAME 7
    ∷ refuses (bytes "A<-(C/'x')*B\n") NAME 4
    -- A node too many, by a quote of 257 bytes; and a rule too many.
    ∷ refuses (bytes "A<-'" ++ (replicate 257 97 ++ bytes "'\n")) BIG 0
    ∷ refuses (many_lines 65) BIG 0
    -- A repetition of nothing.
    ∷ refuses_in (replicate 64 9) (bytes "A<-('kW'?)*\n") LOOP 5
    -- A room that is one byte short.
    ∷ refuses_in (replicate 13 9) (bytes "A<-'x'\n") ROOM 0
    -- A byte too many, and as many as a text may have.
    ∷ refuses (replicate 8001 32) LONG 0
    ∷ refuses (replicate 8000 32) TEXT 8000
    -- Two conditions at once: the earlier row goes first.
    ∷ refuses (bytes "A<-B\n)") TEXT 5
    ∷ refuses (bytes "A<-B'" ++ (replicate 257 97 ++ bytes "'\n")) NAME 3
    ∷ refuses (bytes "A<-('x'?)*'" ++ (replicate 257 97 ++ bytes "'\n")) BIG 0
    ∷ refuses_in [] (bytes "A<-('kW'?)*\n") LOOP 5
    ∷ []

-- ---- The claim, from what computes.
abbrev computed : Case → Back
computed c = back c.text c.room

abbrev wanted : Case → Back
wanted c = record { code = c.code; place = c.place; size = c.size; left = c.left }

all_hold : (cs : List Case) → map computed cs ≡ map wanted cs → AllHold cs
all_hold [] e = tt
all_hold (c ∷ cs) e = (subst (Is c.text c.room) (head-eq_of_cons-eq e) (is_back c.text c.room), all_hold cs (tail-eq_of_cons-eq e))

all_computed : map computed texts ≡ map wanted texts
unfolding texts run step step_after step_defined begin_item finish gather is_letter is_part is_quotable same rule_of nodes nodes_from roots_from all_nodes all_roots table_bytes
    check_of loop_fault empty_nodes layout_of first_fault root_fault node_fault fault_of fields_fit grammar_of node_of kind_of field_of root_of length_of nodes_of rules_of formula
all_computed = refl

-- Each text of the table gives back what stands there.
pub worked : AllHold texts
worked = all_hold texts all_computed
