-- Which rules are reachable: what a node uses anywhere is what is put down for it, and rounds from rule 0 on find every rule that a reachable rule's root uses.
use mathlib.Core.Path.{◌≡◌, refl, sym, ◌∙◌}
use mathlib.Core.Bool.{true}
use Prim.Native.Nat.{ℕ, ◌^◌, ◌≤◌, ◌<◌}
use native.Mathlib.Omega.{arith}
use lib.ListN.{length}
use Rattle.bits.specs.Mask.{has}
use Rattle.meaning.specs.Grammar.{Node, rule, Grammar, node, root_of, Closed}
use Rattle.meaning.specs.Report.{Chain, here, on, Child, to_first, to_second, to_one, to_other, to_denied, to_repeated, Reachable, start, used}
use Rattle.meaning.proofs.Chains.{first}
use Rattle.meaning.proofs.Reached.{met_root, met_rule, met_leads}
use Rattle.report.specs.Pass.{every_node, Settled, spread}
use Rattle.report.specs.Report.{ReachableRules}
use Rattle.report.specs.Lent.{AtStart, itself, StartRules}
use Rattle.report.proofs.Sets.{spread_keeps, spread_sound, spread_fixed}
use Rattle.report.proofs.Standing.{Counts, in_not, in_rep, in_choice, in_other, in_first, in_second, put_sound, Within, within, within_child, within_rule}

-- What stands at the start of rule 0 is reachable.
pub start_reachable : (g : Grammar) {a : ℕ} → AtStart g a → Reachable g a
start_reachable g itself = start
start_reachable g (AtStart.led l) = met_rule g (met_leads g l (met_root g start))

-- Before each round: rule 0 is among the rules found, and each of these is reachable.
pub record Begun (g : Grammar) (reached : ℕ) : Type 0 where
  pub fits : reached < 2 ^ 64
  pub first : has reached 0 ≡ true
  pub sound : (b : ℕ) → has reached b ≡ true → (b < length g.roots) × Reachable g b

pub begun : (g : Grammar) (some : ℕ) → 0 < length g.roots → StartRules g some → Begun g some
begun g some rules m = record { fits = m.fits; first = m.complete 0 rules itself; sound = λ b e. let w = m.sound b e in (w.0, start_reachable g w.1) }

module _ (g : Grammar) (closed : Closed g) (few_rules : length g.roots ≤ 64) (f : ℕ → ℕ) (s : Settled g every_node f) where
  -- ---- What is put down for a node, it uses.
  abbrev Use : Node → ℕ → Type 0
  Use p b = (b < length g.roots) × Chain (Child g) p (rule b)

  child_of : (p : Node) (k : ℕ) → Counts every_node p k → Child g p (node g k)
  child_of p k in_not = to_denied
  child_of p k in_rep = to_repeated
  child_of p k in_choice = to_one
  child_of p k in_other = to_other
  child_of p k in_first = to_first
  child_of p k (in_second e) = to_second

  node_uses : (i : ℕ) → i < length g.nodes → (b : ℕ) → has (f i) b ≡ true → Use (node g i) b
  node_uses = put_sound g closed few_rules every_node f s Use (λ b l. (l, here)) (λ p k b w c u. (u.0, first (child_of p k c) u.1))

  -- ---- What a node uses is put down for it.
  module _ (set : ℕ) where
    abbrev Inside : Node → Type 0
    Inside = Within g closed few_rules every_node f s (λ b. has set b ≡ true)

    counted : {p : Node} {k : ℕ} → Counts every_node p k → Inside p → Inside (node g k)
    counted = within_child g closed few_rules every_node f s

    inside_child : {p q : Node} → Child g p q → Inside p → Inside q
    inside_child to_first w = counted in_first w
    inside_child to_second w = counted (in_second refl) w
    inside_child to_one w = counted in_choice w
    inside_child to_other w = counted in_other w
    inside_child to_denied w = counted in_not w
    inside_child to_repeated w = counted in_rep w

    inside_all : {p q : Node} → Chain (Child g) p q → Inside p → Inside q
    inside_all here w = w
    inside_all (on h k) w = inside_child k (inside_all h w)

  uses_found : (i b : ℕ) → i < length g.nodes → Chain (Child g) (node g i) (rule b) → has (f i) b ≡ true
  uses_found i b h c =
      within_rule g closed few_rules every_node f s b
      (inside_all (f i) c (within g closed few_rules every_node f s (λ b. has (f i) b ≡ true) i h (λ b e. e)))

  -- ---- Rounds from the start of rule 0 on.
  abbrev r : ℕ
  r = length g.roots

  -- The rules that the root of a rule uses.
  abbrev row : ℕ → ℕ
  row a = f (root_of g a)

  next_reached : (a b : ℕ) → a < r → (a < r) × Reachable g a → has (row a) b ≡ true → (b < r) × Reachable g b
  next_reached a b l h e = let u = node_uses (root_of g a) (closed.roots a l) b e in (u.0, used h.1 u.1)

  module _ (reached more : ℕ) (b : Begun g reached) (is : more ≡ spread row reached r) where
    pub again : more < 2 ^ 64 → Begun g more
    again fits = record {
      fits = fits;
      first = rw is (spread_keeps row reached r 0 b.first);
      sound = rw is (spread_sound row reached (λ b. (b < r) × Reachable g b) r next_reached b.sound r (omega arith));
    }

    pub all_reached : more ≡ reached → ReachableRules g reached
    all_reached same = record { fits = b.fits; sound = b.sound; complete = λ a l h. complete h }
      where
        closed_up : (a : ℕ) → a < r → has reached a ≡ true → (c : ℕ) → has (row a) c ≡ true → has reached c ≡ true
        closed_up = spread_fixed row reached r (sym is ∙ same)

        complete : {a : ℕ} → Reachable g a → has reached a ≡ true
        complete start = b.first
        complete (used {a = a} {b = c} h k) =
            let known = complete h in
            let l = (b.sound a known).0 in
            closed_up a l known c (uses_found (root_of g a) c (closed.roots a l) k)
