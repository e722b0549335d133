-- When a visit may start: after another one, with one use more live, at a child of a node.
use mathlib.Core.Path.{◌≡◌, sym, subst, ap}
use mathlib.Core.Bool.{false}
use mathlib.Core.Logic.{◌≢◌}
use mathlib.Core.List.{List}
use Prim.Native.Nat.{ℕ, suc, ◌+◌, ◌*◌, ◌<◌, ◌≤◌}
use native.Mathlib.Omega.{arith}
use lib.ListN.{length, get_or}
use Rattle.meaning.specs.Grammar.{node, root_of, Below, Note}
use Rattle.meaning.specs.Reading.{State, Run, Visit, apply}
use Rattle.layout.specs.Table.{node_at, decode}
use Rattle.layout.specs.Layout.{Laid}
use Rattle.layout.proofs.Laying.{well_laid, node_count, rule_count, closed}
use Rattle.layout.proofs.Laying.{root_is as root-of-grammar, node_as as node-of-table}
use Rattle.visits.specs.Given.{Given, kind_in, a_in, b_in, root_in, nodes_in, rules_in, keeps_in, grammar_in, Fit}
use Rattle.visits.specs.Words.{key_of, turns_in, InOrder}
use Rattle.visits.specs.Says.{Visited, Ready, Came, reading, uses, applies}
use Rattle.visits.proofs.Steps.{came_as}
use Rattle.visits.proofs.Living.{use_put, live_same, live_words, order_same, live_order}
use Rattle.visits.proofs.Growing.{Growing}

module _ {given : Given} {line : List ℕ} where
  pub ready_next : {w w' : List ℕ} {left live made top x pos : ℕ} {a : Visited} {m : List Note → State → Run} (y end : ℕ) → Ready given line w left live made top x pos → Came given line w w' live made top a m
      → a.top + made ≤ top + a.made → y < nodes_in given → end ≤ length line → (keeps_in given ≡ false → pos ≤ end) → Ready given line w' left live a.made a.top y end
  ready_next y end r c cells ly inside up =
      let t = r.top_within in
      let u = c.same.turns in
      record { fit = r.fit; words = c.words; node_in = ly; pos_within = inside; open_in = r.open_in; made_within = c.made_within; top_within = omega arith; order = λ p. order_same given line c.same (up p) (r.order p) }

  pub ready_live : {w w' : List ℕ} {left live made top root pos : ℕ} (rule end list : ℕ) → Ready given line w left live made top root pos → live + left ≤ 512 → end ≤ length line → list ≤ top
      → rule < 64 → (keeps_in given ≡ false → list ≢ 0 → pos ≤ end) → w' ≡ use_put w (live * 3) (key_of rule pos) end list → Ready given line w' left (live + 1) made top root pos
  ready_live {left = left} {live = live} {pos = pos} rule end list r few inside below small up e = rw e (record {
    fit = r.fit;
    words = live_words given line r.fit rule pos end list r.words (omega arith) inside below;
    node_in = r.node_in;
    pos_within = r.pos_within;
    open_in = omega arith;
    made_within = r.made_within;
    top_within = let t = r.top_within in let u = (live_same given line r.fit rule pos end list r.words (omega arith) inside below).turns in omega arith;
    order = λ p. live_order given line r.fit rule pos end list r.words (omega arith) inside below small (up p) (r.order p);
  })

  -- Another attempt of the growing loop.
  pub ready_loop : {w₀ : List ℕ} {left live made top root pos : ℕ} {v : List Note → Visit} {a x end₀ made₀ top₀ : ℕ} {w₁ w : List ℕ} {end made' top' : ℕ} → Ready given line w₀ left live made top root pos → top₀ + turns_in w₁ ≤ made₀ → (keeps_in given ≡ false → InOrder w live pos)
      → Growing given line v root a x live w₁ end₀ made₀ top₀ w end made' top' → Ready given line w left live made' top' root pos
  ready_loop r le order g =
      let c = g.cells in
      let u = g.same.turns in
      record { fit = r.fit; words = g.words; node_in = r.node_in; pos_within = r.pos_within; open_in = r.open_in; made_within = g.made_within; top_within = omega arith; order = order }

  -- What is asked for a node's kind and fields.
  pub node_known : {w : List ℕ} {left live made top i pos : ℕ} → Ready given line w left live made top i pos → Laid given.table × ((i < nodes_in given) × (get_or given.numbers 2 0 ≡ node_at (rules_in given) 0))
  node_known r = (r.fit.laid, (r.node_in, r.fit.first))

  -- Another node at the same position.
  pub ready_at : {w : List ℕ} {left live made top i pos : ℕ} (j : ℕ) → Ready given line w left live made top i pos → j < nodes_in given → Ready given line w left live made top j pos
  ready_at j r lj = record { fit = r.fit; words = r.words; node_in = lj; pos_within = r.pos_within; open_in = r.open_in; made_within = r.made_within; top_within = r.top_within; order = r.order }

module _ (given : Given) (line : List ℕ) (fit : Fit given line) where
  pub rules_are : length (grammar_in given).roots ≡ rules_in given
  rules_are = rule_count given.table

  pub root_is : (a : ℕ) → a < rules_in given → root_in given a ≡ root_of (grammar_in given) a
  root_is a h = sym (root-of-grammar given.table a h)

  pub root_within : (a : ℕ) → a < rules_in given → root_in given a < nodes_in given
  root_within a h = (well_laid given.table fit.laid).roots a h

  module _ (i k : ℕ) (li : i < nodes_in given) (is : kind_in given i ≡ k) where
    pub node_as : node (grammar_in given) i ≡ decode k (a_in given i) (b_in given i)
    node_as = node-of-table given.table i li k is

    pub below_as : Below (grammar_in given) i (decode k (a_in given i) (b_in given i))
    below_as = subst (Below (grammar_in given) i) node_as ((closed given.table fit.laid).nodes i (rw (node_count given.table) li))

    -- What its application is.
    pub applied_as : {w w' : List ℕ} {live made top : ℕ} {r : Visited} (left pos : ℕ)
        → Came given line w w' live made top r (λ l s. apply line (reading given line left l) (reading given line (suc left) l) (uses given line left l) i pos s (decode k (a_in given i) (b_in given i)))
        → Came given line w w' live made top r (λ l s. applies given line left l i pos s)
    applied_as left pos c = came_as given line fit.short _ c (λ l s. ap (apply line (reading given line left l) (reading given line (suc left) l) (uses given line left l) i pos s) (sym node_as))
