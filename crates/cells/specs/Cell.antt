-- What a cell of the code stands for, over the words that it was read from.
use Rattle.std.specs.Prelude.{List, ℕ, ◌<◌}
use Rattle.meaning.specs.Grammar.{Trees, no_trees, tree, ◌⋈◌}
use Rattle.cells.specs.declared.Cell.{Cell}
use Rattle.cells.specs.declared.Cell.TheVariants.{Tree, Join}
use Rattle.cells.specs.Cells.{trees_at}

abbrev pub stands_for : List ℕ → Cell → Trees
stands_for words (Tree rule start end children) = tree rule start end (trees_at words children) no_trees
stands_for words (Join left right) = trees_at words left ⋈ trees_at words right

-- The lists that a list's cell is made of are below it.
abbrev pub IsBelow : ℕ → Cell → Type 0
IsBelow list (Tree rule start end children) = children < list
IsBelow list (Join left right) = (left < list) × (right < list)
