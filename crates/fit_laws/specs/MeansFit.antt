-- The value of a formula is no larger than its shape says.
--   MeanFits   of one formula in a setting; where the shape is one value, the value has at most one row and one column, and a
--              value is a rectangle of at least one
--   MeansFit   of every formula, by every lawful table
use Rattle.rectangle_core.specs.Rectangle.{height, width}
use Rattle.kind_table.specs.Fit.{SizeFits}
use Rattle.kind_table.specs.Table.{IsLawful}
use Rattle.tree_core.specs.Tree.{Tree}
use Rattle.shape_core.specs.Shape.{shape}
use Rattle.eval_core.specs.Meaning.{mean}
use Rattle.eval_core.specs.Setting.{Setting}

abbrev pub MeanFits : Setting → Tree → Type 0
MeanFits here t = SizeFits (shape here.table t) (height (mean here t)) (width (mean here t))

abbrev pub MeansFit : Type 0
MeansFit = (here : Setting) → IsLawful here.table → (t : Tree) → MeanFits here t
