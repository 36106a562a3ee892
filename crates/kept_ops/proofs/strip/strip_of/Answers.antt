use Rattle.std.proofs.Common.{List, if◌then◌else◌, map, get_or, sym, ap, ◌∙◌, Bor}
use Rattle.std.proofs.lemmas.List.{length-map}
use Rattle.value_core.specs.declared.array.ArrayNode.{ArrayNode}
use Rattle.value_core.specs.declared.array.ArrayNode.TheVariants.{Empty}
use Rattle.rectangle_core.specs.Rectangle.{rectangle}
use Rattle.kept_ops.proofs.Listed.{strip-whole}
use Rattle.kept_ops.proofs.strip.strip_of.Goals as goal

pub returns : goal.returns
returns c =
    let elements : List ArrayNode = map (λ (e : Bor ArrayNode). e.now) c.args.elements.now in
    let as_column = c.args.as_column in
    c.in_ok-made.ensures.value
    ∙ ap (λ n. rectangle (if as_column then n else 1) (if as_column then 1 else n) (λ i j. get_or elements (if as_column then i else j) Empty))
    (sym (length-map c.args.elements.now (λ (e : Bor ArrayNode). e.now)))
    ∙ strip-whole as_column elements
