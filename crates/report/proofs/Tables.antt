-- What is read at a rule's root.
use mathlib.Core.Path.{◌≡◌, sym, ap, ◌∙◌}
use mathlib.Core.List.{List}
use Prim.Native.Nat.{ℕ, ◌<◌}
use Rattle.layout.specs.Table.{rules_of, root_of}
use Rattle.layout.proofs.Laying.{root_is}
use Rattle.report.specs.Pass.{starts_at, root_starts}

pub root_starts_lem : (t w : List ℕ) (a k x : ℕ) → a < rules_of t → k ≡ root_of t a → x ≡ starts_at w k → x ≡ root_starts t w a
root_starts_lem t w a k x h is-root e = e ∙ ap (starts_at w) (is-root ∙ sym (root_is t a h))
