-- The order of elements.
--   folded          a text without case
--   text_order      texts without case, by their bytes
--   error_place     the errors in their order
--   kind_place      the kinds in their order: numbers, texts, truth values, errors; a blank that counts as none of them is first
--   counted         what an element counts as beside another: a blank is 0, the empty text or FALSE
--   compare_values  -1, 0 or 1
use Rattle.std.specs.Prelude.{ℕ, ℤ, pos, negsuc, false, List, [], chars, encode_utf8_all}
use Rattle.std.specs.declared.cmp.Ordering.{Ordering}
use Rattle.std.specs.declared.cmp.Ordering.TheVariants.{Less, Equal, Greater}
use Rattle.std.specs.Ordering.{nat_cmp, int_cmp, bool_cmp}
use Rattle.std.specs.Cmp.Lexicographic.{slice_cmp}
use Rattle.caseless.specs.Caseless.{default_case_fold}
use Rattle.value_core.specs.declared.array.ArrayNode.{ArrayNode}
use Rattle.value_core.specs.declared.array.ArrayNode.TheVariants.{Number, Boolean, String, Error as Wrong, Empty}
use Rattle.value_core.specs.declared.error.Error.{Error}
use Rattle.value_core.specs.declared.error.Error.TheVariants.{REF, NAME, VALUE, DIV, NA, NUM, ERROR, NIMPL, SPILL, CALC, CIRC, NULL}

abbrev pub folded : List ℕ → List ℕ
folded text = encode_utf8_all (default_case_fold (chars text))

abbrev pub text_order : List ℕ → List ℕ → Ordering
text_order left right = slice_cmp nat_cmp (folded left) (folded right)

abbrev pub error_place : Error → ℕ
error_place REF = 0
error_place NAME = 1
error_place VALUE = 2
error_place DIV = 3
error_place NA = 4
error_place NUM = 5
error_place ERROR = 6
error_place NIMPL = 7
error_place SPILL = 8
error_place CALC = 9
error_place CIRC = 10
error_place NULL = 11

abbrev pub kind_place : ArrayNode → ℕ
kind_place Empty = 0
kind_place (Number n) = 1
kind_place (String text) = 2
kind_place (Boolean b) = 3
kind_place (Wrong e) = 4

abbrev pub counted : ArrayNode → ArrayNode → ArrayNode
counted Empty (Number n) = Number (pos 0)
counted Empty (String text) = String []
counted Empty (Boolean b) = Boolean false
counted element other = element

abbrev pub ordered : ArrayNode → ArrayNode → Ordering
ordered (Number m) (Number n) = int_cmp m n
ordered (String s) (String t) = text_order s t
ordered (Boolean a) (Boolean b) = bool_cmp a b
ordered (Wrong d) (Wrong e) = nat_cmp (error_place d) (error_place e)
ordered left right = nat_cmp (kind_place left) (kind_place right)

abbrev pub sign_of : Ordering → ℤ
sign_of Less = negsuc 0
sign_of Equal = pos 0
sign_of Greater = pos 1

abbrev pub compare_values : ArrayNode → ArrayNode → ℤ
compare_values left right = sign_of (ordered (counted left right) (counted right left))
