-- The shapes of trees, from those of their parts.
use Rattle.std.proofs.Common.{◌≡◌, List, [], ◌∷◌, map, refl, ap}
use Rattle.tree_core.specs.Formula.{tree_of}
use Rattle.tree_core.specs.Tree.{forest}
use Rattle.tree_core.specs.declared.node.Node.{Node}
use Rattle.kind_table.specs.Table.{Table}
use Rattle.shape_core.specs.Shape.{shape, shapes}

pub shapes-forest : (table : Table) (args : List Node) → shapes table (forest (map tree_of args)) ≡ map (λ arg. shape table (tree_of arg)) args
shapes-forest table [] = refl
shapes-forest table (arg ∷ args) = ap (λ rest. shape table (tree_of arg) ∷ rest) (shapes-forest table args)

pub ruleset shaped = (shapes-forest)
