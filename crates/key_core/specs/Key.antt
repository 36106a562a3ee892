-- By what elements and rows are told apart.
--   folded      a text without case
--   key_of      the key of an element: two elements have one key where they are of one kind and equal, texts but for case
--   row_key_of  the key of a row: those of its elements, in their order
--   key_input   what a key gives to a hasher
use Rattle.std.specs.Prelude.{ℕ, List, ◌++◌, chars, encode_utf8_all, map}
use Rattle.std.specs.Hash as fed
use Rattle.caseless.specs.Caseless.{default_case_fold}
use Rattle.value_core.specs.ErrorName.{error_name}
use Rattle.value_core.specs.declared.array.ArrayNode.{ArrayNode}
use Rattle.value_core.specs.declared.array.ArrayNode.TheVariants as element
use Rattle.key_core.specs.declared.key.CellKey.{CellKey}
use Rattle.key_core.specs.declared.key.CellKey.TheVariants.{Number, Boolean, Str, Error, Empty}

abbrev pub folded : List ℕ → List ℕ
folded text = encode_utf8_all (default_case_fold (chars text))

abbrev pub key_of : ArrayNode → CellKey
key_of (element.Number n) = Number n
key_of (element.Boolean b) = Boolean b
key_of (element.String text) = Str (folded text)
key_of (element.Error e) = Error e
key_of element.Empty = Empty

abbrev pub row_key_of : List ArrayNode → List CellKey
row_key_of row = map key_of row

abbrev pub key_input : CellKey → List (List ℕ)
key_input (Number n) = fed.u8 0 ++ fed.i64 n
key_input (Boolean b) = fed.u8 1 ++ fed.bool b
key_input (Str text) = fed.u8 2 ++ fed.str text
key_input (Error e) = fed.u8 3 ++ fed.str (error_name e)
key_input Empty = fed.u8 4
