-- Values and rows of them are read back.
--   error_named-error_name, value_in-value_data, rows_in-rows_data
use Rattle.std.proofs.Common.{◌≡◌, List, [], ◌∷◌, map, Some, All, refl}
use Rattle.std.proofs.lemmas.List.Elements.{All-head, All-tail}
use Rattle.value_core.specs.ErrorName.{error_name}
use Rattle.value_core.specs.declared.array.ArrayNode.{ArrayNode}
use Rattle.value_core.specs.declared.array.ArrayNode.TheVariants.{Number, Boolean, String, Error, Empty}
use Rattle.value_core.specs.declared.error.Error as error
use Rattle.value_core.specs.declared.error.Error.TheVariants.{REF, NAME, VALUE, DIV, NA, NUM, ERROR, NIMPL, SPILL, CALC, CIRC, NULL}
use Rattle.value_json.specs.Traverse.{traverse}
use Rattle.value_json.specs.ErrorValues.{error_named}
use Rattle.value_json.specs.InRange.{value_in_range, rows_in_range}
use Rattle.value_json.specs.Objects.{has_only}
use Rattle.value_json.specs.Values.{error_in, value_in, row_in, rows_in, value_data, row_data, rows_data}
use Rattle.value_json.proofs.Numbers.{as_i64-of_integer}
use Rattle.value_json.proofs.Places.{places_in-list}

pub error_named-error_name : (e : error.Error) → error_named (error_name e) ≡ Some e
error_named-error_name REF = refl
error_named-error_name NAME = refl
error_named-error_name VALUE = refl
error_named-error_name DIV = refl
error_named-error_name NA = refl
error_named-error_name NUM = refl
error_named-error_name ERROR = refl
error_named-error_name NIMPL = refl
error_named-error_name SPILL = refl
error_named-error_name CALC = refl
error_named-error_name CIRC = refl
error_named-error_name NULL = refl

pub value_in-value_data : (value : ArrayNode) → value_in_range value → value_in (value_data value) ≡ Some value
unfolding value_in error_in has_only
value_in-value_data (Number n) fits = rw (as_i64-of_integer n fits)
value_in-value_data (Boolean b) fits = refl
value_in-value_data (String text) fits = refl
value_in-value_data (Error e) fits = rw (error_named-error_name e)
value_in-value_data Empty fits = refl

values : (row : List ArrayNode) → All value_in_range row → traverse value_in (map value_data row) ≡ Some row
values [] fits = refl
values (value ∷ row) fits = rw (value_in-value_data value (All-head value_in_range value row fits), values row (All-tail value_in_range value row fits))

row_in-row_data : (row : List ArrayNode) → All value_in_range row → row_in (row_data row) ≡ Some row
unfolding row_in
row_in-row_data row fits = rw (places_in-list (map value_data row)) (values row fits)

abbrev row_in_range : List ArrayNode → Type 0
row_in_range row = All value_in_range row

each_row : (rows : List (List ArrayNode)) → All row_in_range rows → traverse row_in (map row_data rows) ≡ Some rows
each_row [] fits = refl
each_row (row ∷ rows) fits = rw (row_in-row_data row (All-head row_in_range row rows fits), each_row rows (All-tail row_in_range row rows fits))

pub rows_in-rows_data : (rows : List (List ArrayNode)) → rows_in_range rows → rows_in (rows_data rows) ≡ Some rows
unfolding rows_in
rows_in-rows_data rows fits = rw (places_in-list (map row_data rows)) (each_row rows fits)
