-- The nodes without children are read back.
--   corner_at-is   an end of a reference
--   leaf_of-own    a node without children, by its tag
use Rattle.std.proofs.Common.{◌≡◌, ℕ, ◌+◌, pos, List, [], ◌∷◌, ◌++◌, slice_get, Some, refl}
use Rattle.serde_json.specs.Data.{Data, boolean, string}
use Rattle.value_core.specs.ErrorName.{error_name}
use Rattle.tree_core.specs.Label as label
use Rattle.tree_core.specs.declared.corner.Corner.{Corner}
use Rattle.value_json.specs.ErrorValues.{error_at}
use Rattle.value_json.specs.Piece.{whole, text_or_null, number_or_null}
use Rattle.value_json.proofs.Places.{u32_at-is, id_at-is, i64_at-is, i32_at-is, truth_at-is, text_at-is, name_at-is}
use Rattle.value_json.proofs.ReadBack.{error_named-error_name, rows_in-rows_data}
use Rattle.formula_json.specs.Leaves.{corner_at, corner_data, leaf_of, leaf_own, boolean_of, number_of, text_of, error_of, empty_of, reference_of, range_of, wrong_reference_of, wrong_range_of, array_of, defined_name_of, table_of, variable_of, parse_error_of}
use Rattle.formula_json.specs.Tags.{leaf_sort}
use Rattle.json_laws.specs.InRange.{corner_in_range, leaf_in_range}

corner_at-is : (place : ℕ) (places : List Data) (corner : Corner) → corner_in_range corner → slice_get places place ≡ Some (boolean corner.absolute_row)
    → slice_get places (place + 1) ≡ Some (boolean corner.absolute_column) → slice_get places (place + 2) ≡ Some (whole corner.row) → slice_get places (place + 3) ≡ Some (whole corner.column)
    → corner_at place places ≡ Some corner
unfolding corner_at
corner_at-is place places corner fits absolute_row absolute_column row column =
    rw (
      truth_at-is place places corner.absolute_row absolute_row,
      truth_at-is (place + 1) places corner.absolute_column absolute_column,
      i32_at-is (place + 2) places corner.row row fits.0,
      i32_at-is (place + 3) places corner.column column fits.1,
    )

pub leaf_of-own : (name : List ℕ) (l : label.Leaf) → leaf_in_range l → leaf_of (leaf_sort l) (string name ∷ leaf_own l) ≡ Some l
unfolding leaf_of boolean_of number_of text_of error_of error_at empty_of reference_of range_of wrong_reference_of wrong_range_of array_of defined_name_of table_of variable_of parse_error_of
leaf_of-own name (label.boolean b) fits = rw (truth_at-is 1 (string name ∷ boolean b ∷ []) b refl)
leaf_of-own name (label.number n) fits = rw (i64_at-is 1 (string name ∷ whole n ∷ []) n refl fits)
leaf_of-own name (label.string text) fits = rw (text_at-is 1 (string name ∷ string text ∷ []) text refl)
leaf_of-own name (label.error e) fits = rw (text_at-is 1 (string name ∷ string (error_name e) ∷ []) (error_name e) refl, error_named-error_name e)
leaf_of-own name label.empty fits = refl
leaf_of-own name (label.reference sheet corner) fits =
    let places : List Data = string name ∷ whole (pos sheet.index) ∷ text_or_null sheet.name ∷ corner_data corner in
    rw (u32_at-is 1 places sheet.index refl fits.0, name_at-is 2 places sheet.name refl, corner_at-is 3 places corner fits.1 refl refl refl refl)
leaf_of-own name (label.range sheet left right) fits =
    let places : List Data = string name ∷ whole (pos sheet.index) ∷ text_or_null sheet.name ∷ corner_data left ++ corner_data right in
    rw (
      u32_at-is 1 places sheet.index refl fits.0,
      name_at-is 2 places sheet.name refl,
      corner_at-is 3 places left fits.1 refl refl refl refl,
      corner_at-is 7 places right fits.2 refl refl refl refl,
    )
leaf_of-own name (label.wrong_reference sheet corner) fits =
    let places : List Data = string name ∷ text_or_null sheet ∷ corner_data corner in
    rw (name_at-is 1 places sheet refl, corner_at-is 2 places corner fits refl refl refl refl)
leaf_of-own name (label.wrong_range sheet left right) fits =
    let places : List Data = string name ∷ text_or_null sheet ∷ corner_data left ++ corner_data right in
    rw (name_at-is 1 places sheet refl, corner_at-is 2 places left fits.0 refl refl refl refl, corner_at-is 6 places right fits.1 refl refl refl refl)
leaf_of-own name (label.array rows) fits = rw (rows_in-rows_data rows fits)
leaf_of-own name (label.defined_name defined scope formula) fits =
    let places : List Data = string name ∷ string defined ∷ number_or_null scope ∷ string formula ∷ [] in
    rw (text_at-is 1 places defined refl, id_at-is 2 places scope refl fits, text_at-is 3 places formula refl)
leaf_of-own name (label.table_name table) fits = rw (text_at-is 1 (string name ∷ string table ∷ []) table refl)
leaf_of-own name (label.named_variable variable id) fits =
    let places : List Data = string name ∷ string variable ∷ number_or_null id ∷ [] in
    rw (text_at-is 1 places variable refl, id_at-is 2 places id refl fits)
leaf_of-own name (label.parse_error formula message position) fits =
    let places : List Data = string name ∷ string formula ∷ string message ∷ whole (pos position) ∷ [] in
    rw (text_at-is 1 places formula refl, text_at-is 2 places message refl, u32_at-is 3 places position refl fits)
