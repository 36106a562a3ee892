-- A value and a shape, as they are found of one formula, fit.
use Rattle.std.proofs.Common.{◌≡◌, List}
use Rattle.value_core.specs.declared.array.ArrayNode.{ArrayNode}
use Rattle.rectangle_core.specs.Rectangle.{height, width}
use Rattle.kind_table.specs.Fit.{SizeFits}
use Rattle.kind_table.specs.Table.{IsLawful}
use Rattle.kind_table.specs.declared.static_result.StaticResult.{StaticResult}
use Rattle.tree_core.specs.Tree.{Tree}
use Rattle.shape_core.specs.Shape.{shape}
use Rattle.eval_core.specs.Meaning.{mean}
use Rattle.eval_core.specs.Setting.{Setting}
use Rattle.fit_laws.proofs.Law.{means-fit}

pub value-fits : (here : Setting) (formula : Tree) (found : StaticResult) (value : List (List ArrayNode)) → value ≡ mean here formula
    → found ≡ shape here.table formula → IsLawful here.table → SizeFits found (height value) (width value)
value-fits here formula found value is fits lawful = rw (fits, is) (means-fit here lawful formula)
