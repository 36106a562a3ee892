-- Arrays as texts.
--   element_text   an element: a number's text, a truth value's word, an error's name, nothing for a blank; a text as it is or, in the strict
--                  form, in quotes
--   joined         some texts, with one between each two
--   loose_text     all elements, one row after another
--   strict_text    an array literal
--   array_text     the one or the other
use Rattle.std.specs.Prelude.{ℕ, Bool, true, false, if◌then◌else◌, List, [], ◌∷◌, ◌++◌, map, codes}
use Rattle.std.specs.List.{flat_map}
use Rattle.value_core.specs.ErrorName.{error_name}
use Rattle.value_core.specs.declared.array.ArrayNode.{ArrayNode}
use Rattle.value_core.specs.declared.array.ArrayNode.TheVariants.{Number, Boolean, String, Error, Empty}
use Rattle.number_core.specs.NumberText.{number_text}
use Rattle.operand_core.specs.Cast.{truth_text}
use Rattle.quote_core.specs.Quoted.{quoted}

abbrev pub element_text : Bool → ArrayNode → List ℕ
element_text strict (Number number) = number_text number
element_text strict (Boolean value) = truth_text value
element_text strict (String text) = if strict then quoted 34 text else text
element_text strict (Error error) = error_name error
element_text strict Empty = []

abbrev pub joined : List ℕ → List (List ℕ) → List ℕ
joined between [] = []
joined between (text ∷ texts) = text ++ flat_map (λ other. between ++ other) texts

abbrev pub loose_text : List (List ArrayNode) → List ℕ
loose_text rows = joined (codes ", ") (map (element_text false) (flat_map (λ row. row) rows))

abbrev pub row_text : List ArrayNode → List ℕ
row_text row = joined (codes ",") (map (element_text true) row)

abbrev pub strict_text : List (List ArrayNode) → List ℕ
strict_text rows = codes "{" ++ joined (codes ";") (map row_text rows) ++ codes "}"

abbrev pub array_text : Bool → List (List ArrayNode) → List ℕ
array_text strict rows = if strict then strict_text rows else loose_text rows
