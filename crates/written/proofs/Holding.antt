-- What the numbers hold of the lines that are done: in the text's order their nodes, in which a name stands for itself, and of each line its name and its root.
use mathlib.Core.Path.{◌≡◌, refl, sym, ap, ◌∙◌}
use mathlib.Core.List.{List, [], ◌∷◌, ◌++◌, reverse, reverse_aux, append_assoc, reverse_aux-append}
use Prim.Native.Nat.{ℕ, suc, ◌+◌}
use native.Mathlib.Omega.{arith}
use lib.ListN.{length, length-append, length-reverse}
use Rattle.meaning.specs.Grammar as g
use Rattle.meaning.specs.Grammar.{Node}
use Rattle.written.specs.Written.{Name, Written, name, range, star, plus, maybe, deny, then, or, Line}
use Rattle.written.specs.Numbered.{last, nodes, nodes_from}
use Rattle.written.specs.Machine.{between, read, run}
use Rattle.written.specs.Draft.{Draft, drafts, blank}
use Rattle.written.proofs.Trees.{Tree, trees, bare}
use Rattle.written.specs.Flat.{word, three_of, flat, flat_lines}
use Rattle.written.proofs.Laying.{length_nodes}
use Rattle.written.proofs.Drafting.{onto, done_count, done_nodes, done_words, held_count, held_nodes, held_words, draft_of, from_draft, no_frames}

pub flat_append : (xs ys : List Node) → flat (xs ++ ys) ≡ flat xs ++ flat ys
unfolding flat
flat_append [] ys = refl
flat_append (x ∷ xs) ys = ap (λ zs. three_of x ++ zs) (flat_append xs ys) ∙ sym (append_assoc (three_of x) (flat xs) (flat ys))

-- Nodes after nodes, newest first.
turned : (xs ys : List Node) (ns : List ℕ) → reverse_aux (flat (xs ++ ys)) ns ≡ reverse_aux (flat ys) (reverse_aux (flat xs) ns)
turned xs ys ns = ap (λ zs. reverse_aux zs ns) (flat_append xs ys) ∙ reverse_aux-append (flat xs) (flat ys) ns

turned_twice : (xs ys zs : List Node) (ns : List ℕ)
    → reverse_aux (flat (xs ++ (ys ++ zs))) ns ≡ reverse_aux (flat zs) (reverse_aux (flat ys) (reverse_aux (flat xs) ns))
turned_twice xs ys zs ns = turned xs (ys ++ zs) ns ∙ turned ys zs (reverse_aux (flat xs) ns)

-- What one line's nodes put on those before.
puts : (s : ℕ) (w : Written) (ns : List ℕ) → reverse_aux (flat (nodes word s w)) ns ≡ onto s w ns
unfolding nodes onto flat
puts s (name n) ns = refl
puts s (range lowest highest) ns = refl
puts s (star e) ns = rw (turned (nodes word s e) (g.rep (last s e) ∷ []) ns, puts s e ns) refl
puts s (plus e) ns = rw (turned (nodes word s e) (g.rep (last s e) ∷ g.seq (last s e) (suc (last s e)) ∷ []) ns, puts s e ns) refl
puts s (maybe e) ns = rw (turned (nodes word s e) (g.empty ∷ g.choice (last s e) (suc (last s e)) ∷ []) ns, puts s e ns) refl
puts s (deny e) ns = rw (turned (nodes word s e) (g.not (last s e) ∷ []) ns, puts s e ns) refl
puts s (then a b) ns =
    let k = last s a in
    rw (turned_twice (nodes word s a) (nodes word (suc k) b) (g.seq k (last (suc k) b) ∷ []) ns, puts s a ns, puts (suc k) b (onto s a ns)) refl
puts s (or a b) ns =
    let k = last s a in
    rw (turned_twice (nodes word s a) (nodes word (suc k) b) (g.choice k (last (suc k) b) ∷ []) ns, puts s a ns, puts (suc k) b (onto s a ns)) refl

-- Where the lines ds are done, newest first, and ls are to come, in order.
nodes_so_far : (ds ls : List Line) → reverse (flat (nodes_from word 0 (reverse_aux ds ls))) ≡ reverse_aux (flat (nodes_from word (done_count ds) ls)) (done_nodes ds)
unfolding done_count done_nodes nodes_from
nodes_so_far [] ls = refl
nodes_so_far (d ∷ ds) ls =
    nodes_so_far ds (d ∷ ls)
    ∙ turned (nodes word (done_count ds) d.alternatives) (nodes_from word (done_count (d ∷ ds)) ls) (done_nodes ds)
    ∙ ap (λ ns. reverse_aux (flat (nodes_from word (done_count (d ∷ ds)) ls)) ns) (puts (done_count ds) d.alternatives (done_nodes ds))

count_so_far : (f : Name → ℕ) (ds ls : List Line) → length (nodes_from f 0 (reverse_aux ds ls)) ≡ done_count ds + length (nodes_from f (done_count ds) ls)
unfolding done_count nodes_from
count_so_far f [] ls = omega arith
count_so_far f (d ∷ ds) ls =
    let s = done_count ds in
    let w = d.alternatives in
    omega (arith, count_so_far f ds (d ∷ ls), length-append (nodes f s w) (nodes_from f (suc (last s w)) ls), length_nodes f s w)

words_so_far : (ds ls : List Line) → reverse (flat_lines 0 (reverse_aux ds ls)) ≡ reverse_aux (flat_lines (done_count ds) ls) (done_words ds)
unfolding done_count done_words flat_lines
words_so_far [] ls = refl
words_so_far (d ∷ ds) ls = words_so_far ds (d ∷ ls)

-- The lines that are done, in order, and what is held of them.
pub holds_nodes : (ds : List Line) → done_nodes ds ≡ reverse (flat (nodes_from word 0 (reverse ds)))
unfolding nodes_from flat
holds_nodes ds = sym (nodes_so_far ds [])

pub holds_count : (f : Name → ℕ) (ds : List Line) → done_count ds ≡ length (nodes_from f 0 (reverse ds))
unfolding nodes_from
holds_count f ds = omega (arith, count_so_far f ds [])

pub holds_words : (ds : List Line) → done_words ds ≡ reverse (flat_lines 0 (reverse ds))
unfolding flat_lines
holds_words ds = sym (words_so_far ds [])

-- The draft of a sheet's lines, read to the end; the name is that of the last.
abbrev pub draft_of_lines : Name → List Line → Draft
draft_of_lines n ls = record {
  line = word n;
  held = [];
  made = length (nodes_from word 0 ls);
  nodes = reverse (flat (nodes_from word 0 ls));
  done = reverse (flat_lines 0 ls);
  count = length ls;
}

pub holds : (t : Tree) → t.frames ≡ [] → draft_of t ≡ draft_of_lines t.name (reverse t.done)
unfolding held_count held_nodes held_words
holds t e =
    rw (← holds_count word t.done, ← holds_nodes t.done, ← holds_words t.done, length-reverse t.done, e) refl

-- So what the numbers of a text hold, if it is read, are the lines that are written in it.
pub read_holds : (text : List ℕ) (d : Draft) → run drafts (between blank) 0 text ≡ read d
    → (t : Tree) × (run trees (between bare) 0 text ≡ read t) × (d ≡ draft_of_lines t.name (reverse t.done))
read_holds text d e =
    let found = from_draft text d e in
    (found.0, found.1, sym found.2 ∙ holds found.0 (no_frames text found.0 found.1))
