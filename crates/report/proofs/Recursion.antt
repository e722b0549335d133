-- Which rules are left-recursive: those from whose root the rules used at a node's start lead back to the same rule. And where they lead from rule 0.
use mathlib.Core.Path.{◌≡◌, refl, sym, ap, ◌∙◌}
use mathlib.Core.Bool.{Bool, true, ◌&&◌, ◌||◌, or-true, and-eq-true_iff}
use mathlib.Core.Logic.{◌↔◌, ⊎_elim}
use mathlib.Mathlib.Data.Bool.Basic.{or_inl}
use Prim.Native.Nat.{ℕ, suc, ◌^◌, ◌≤◌, ◌<◌}
use borrow.Author.Tests.{ltb-true, lt-ltb, eqb-true}
use lib.Dec.{eqb, ltb}
use lib.ListN.{length}
use Rattle.bits.specs.Mask.{has}
use Rattle.bits.proofs.Laws.{has_none}
use Rattle.meaning.specs.Grammar.{Node, rule, Grammar, node, root_of, root, Below, Closed}
use Rattle.meaning.specs.Report.{MayBeEmpty, Starts, by_not, by_rep, by_choice, by_other, by_first, by_second, by_rule, Leads, here, on}
use Rattle.meaning.proofs.Chains.{first, then, round}
use Rattle.meaning.proofs.Choose.{or_split}
use Rattle.meaning.proofs.Through.{from_start, joins, all_chains}
use Rattle.report.specs.Pass.{led, Settled}
use Rattle.empties.specs.Pass.{Gathered}
use Rattle.report.specs.Report.{LeftRules}
use Rattle.report.specs.Lent.{AtStart, itself, StartRules}
use Rattle.report.proofs.Standing.{Counts, in_not, in_rep, in_choice, in_other, in_first, in_second, put_sound, Within, within, within_child, within_rule}

module _ (g : Grammar) (closed : Closed g) (few_rules : length g.roots ≤ 64) (may : ℕ → Bool)
    (right : (i : ℕ) → i < length g.nodes → (may i ≡ true) ↔ MayBeEmpty g (node g i)) (f : ℕ → ℕ) (s : Settled g may f) where
  -- ---- What stands at a node's start is led to.
  abbrev Use : Node → ℕ → Type 0
  Use p b = (b < length g.roots) × Leads g p (rule b)

  start_of : (p : Node) (k : ℕ) → Below g (length g.nodes) p → Counts may p k → Starts g p (node g k)
  start_of p k w in_not = by_not
  start_of p k w in_rep = by_rep
  start_of p k w in_choice = by_choice
  start_of p k w in_other = by_other
  start_of p k w in_first = by_first
  start_of p k w (in_second {a = a} e) = by_second ((right a w.0).0 e)

  node_leads : (i : ℕ) → i < length g.nodes → (b : ℕ) → has (f i) b ≡ true → Use (node g i) b
  node_leads = put_sound g closed few_rules may f s Use (λ b l. (l, here)) (λ p k b w c u. (u.0, first (start_of p k w c) u.1))

  -- ---- From rule to rule: a step from a to b where a use of b stands at the start of the root of a.
  module _ (step : ℕ → ℕ → Bool) (is-step : (a b : ℕ) → a < length g.roots → step a b ≡ has (f (root_of g a)) b) where
    abbrev r : ℕ
    r = length g.roots

    turn : (k a b : ℕ) → led step (suc k) a b ≡ (led step k a b || led step k a k && led step k k b)
    unfolding led
    turn k a b = refl

    -- What a chain leads to is used.
    abbrev Reached : ℕ → ℕ → Type 0
    Reached a b = a < r → Use (root g a) b

    from_step : (a b : ℕ) → led step 0 a b ≡ true → Reached a b
    unfolding led
    from_step a b e h = node_leads (root_of g a) (closed.roots a h) b (sym (is-step a b h) ∙ e)

    link : (a c b : ℕ) → Reached a c → Reached c b → Reached a b
    link a c b x y h = let u = x h in let v = y u.0 in (v.0, then u.1 (first by_rule v.1))

    chain_leads : (a b : ℕ) → led step r a b ≡ true → Reached a b
    chain_leads = all_chains (led step) turn Reached from_step link r

    -- What is used is led to.
    starts_with : (a b : ℕ) → a < r → has (f (root_of g a)) b ≡ true → led step r a b ≡ true
    unfolding led
    starts_with a b h e = from_start (led step) turn r a b (is-step a b h ∙ e)

    module _ (a : ℕ) (a-there : a < r) where
      -- At the node's start stands nothing but what a chain leads to.
      abbrev Seen : Node → Type 0
      Seen = Within g closed few_rules may f s (λ b. led step r a b ≡ true)

      counted : {p : Node} {k : ℕ} → Counts may p k → Seen p → Seen (node g k)
      counted = within_child g closed few_rules may f s

      root_seen : (c : ℕ) → c < r → ((b : ℕ) → has (f (root_of g c)) b ≡ true → led step r a b ≡ true) → Seen (root g c)
      root_seen c h = within g closed few_rules may f s (λ b. led step r a b ≡ true) (root_of g c) (closed.roots c h)

      used : (c : ℕ) → Seen (rule c) → led step r a c ≡ true
      used = within_rule g closed few_rules may f s

      seen_next : {p q : Node} → Starts g p q → Seen p → Seen q
      seen_next by_not seen = counted in_not seen
      seen_next by_rep seen = counted in_rep seen
      seen_next by_choice seen = counted in_choice seen
      seen_next by_other seen = counted in_other seen
      seen_next by_first seen = counted in_first seen
      seen_next (by_second {a = i} d) seen = counted (in_second ((right i seen.there.0).1 d)) seen
      seen_next (by_rule {a = c}) seen =
          let h = seen.there in root_seen c h (λ b e. joins (led step) turn r c h a b (used c seen) (starts_with c b h e))

      seen_all : {p q : Node} → Leads g p q → Seen p → Seen q
      seen_all here seen = seen
      seen_all (on l k) seen = seen_next k (seen_all l seen)

      leads_to : {b : ℕ} → Leads g (root g a) (rule b) → led step r a b ≡ true
      leads_to {b} l = used b (seen_all l (root_seen a a-there (λ b e. starts_with a b a-there e)))

    -- ---- The mask of the rules from which a chain leads back.
    pub left_found : (chain : ℕ → ℕ → Bool) → ((a b : ℕ) → a < r → chain a b ≡ led step r a b)
        → (found : ℕ) → found < 2 ^ 64 → Gathered (λ a. chain a a) 0 r found → LeftRules g found
    unfolding Gathered
    left_found chain is-chain found fits gathered = record {
      fits = fits;
      sound = λ a e.
          let w = (and-eq-true_iff (ltb a r) (chain a a)).0 (sym (gathered a ∙ ap (λ x. x || ltb a r && chain a a) (has_none a)) ∙ e) in
          let h = ltb-true a r w.0 in
          (h, round g a (chain_leads a a (sym (is-chain a a h) ∙ w.1) h).1);
      complete = λ a h d.
          let back : chain a a ≡ true = is-chain a a h ∙ leads_to a h (on d.chain d.last) in
          gathered a ∙ rw (lt-ltb a r h, back) (or-true (has 0 a));
    }

    -- ---- The mask of the rules at the start of rule 0: its row, and itself.
    pub start_found : (chain : ℕ → ℕ → Bool) → ((a b : ℕ) → a < r → chain a b ≡ led step r a b) → 0 < r
        → (found : ℕ) → found < 2 ^ 64 → ((b : ℕ) → has found b ≡ (chain 0 b || eqb b 0)) → StartRules g found
    start_found chain is-chain rules found fits bits = record {
      fits = fits;
      sound = λ b e.
          ⊎_elim (λ u. let w = chain_leads 0 b (sym (is-chain 0 b rules) ∙ u) rules in (w.0, AtStart.led w.1))
          (λ u. rw (eqb-true b 0 u) (rules, itself)) (or_split (chain 0 b) (eqb b 0) (sym (bits b) ∙ e));
      complete = λ b h d. bits b ∙ at_start b d;
    }
      where
        at_start : (b : ℕ) → AtStart g b → (chain 0 b || eqb b 0) ≡ true
        at_start b itself = or-true (chain 0 0)
        at_start b (AtStart.led l) = or_inl (chain 0 b) (eqb b 0) (is-chain 0 b rules ∙ leads_to 0 rules l)
