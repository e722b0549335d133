-- The tree of a stored reading, read back from its bytes.
use Rattle.std.specs.Prelude.{List, [], ◌∷◌, ℕ, zero, suc}
use Rattle.meaning.specs.Grammar.{Trees, no_trees, tree}
use Rattle.stored.specs.WellFormed.{number_at, Record, records_at}

-- Of the trees not yet taken, the newest first: the n newest, in order, before those in hand; and those that are left.
unfoldable pub newest : ℕ → Trees → Trees → Trees
newest zero us ts = ts
newest (suc n) no_trees ts = ts
newest (suc n) (tree a x e cs us) ts = newest n us (tree a x e cs ts)

unfoldable pub older : ℕ → Trees → Trees
older zero us = us
older (suc n) no_trees = no_trees
older (suc n) (tree a x e cs us) = older n us

-- Each record takes its children, and is then the newest not yet taken.
unfoldable pub build : List Record → Trees → Trees
build [] us = us
build (x ∷ xs) us = build xs (tree x.rule x.start x.end (newest x.number us no_trees) (older x.number us))

unfoldable pub tree_of : ℕ → List ℕ → Trees
tree_of w bytes = build (records_at w bytes 5 (number_at 2 bytes 3)) no_trees
