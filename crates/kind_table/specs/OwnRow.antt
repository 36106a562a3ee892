-- The shapes of calls of the own kinds, by the shapes of the arguments and by what the arguments show of themselves.
--   unless_varied  one value where it is known, else nothing is known
--   same_row, same_column  whether a bare range stays in one row, in one column; none for what isn't a bare range
--   line_row       ROW and COLUMN: by whether a bare range stays on the axis, else by the first argument's shape
--   is_one, is_reference  the bare number 1, a bare reference
--   is_one_if_given  an argument that isn't there, or the bare number 1
--   stays_single   a bare reference moved, with no size or only sizes of 1, by what the first, the fourth and the fifth argument show
--   offset_by      OFFSET by the count of arguments and by what these three show
--   offset_row     OFFSET: one value where it stays single, or where arguments are missing
--   own_row_of     the shape of a call of an own kind, by what a row asks of the arguments
--   shows_of       what is asked of arguments that show this
--   own_row        the shape by what all arguments show
--   OwnRowsNeverRise  the shape never rises when argument shapes fall, where the arguments show the same
--   OwnRowsAreWellFormed  from well-formed argument shapes comes a well-formed shape
use Rattle.std.specs.Prelude.{ℕ, Bool, true, false, ◌&&◌, if◌then◌else◌, nat_lt, List, [], ◌∷◌, length, slice_get, Option, Some, None, option_and_then, All}
use Rattle.std.specs.List.{AllZip}
use Rattle.std.specs.Option.{option_map_or}
use Rattle.call_core.specs.declared.function.Function.{Function}
use Rattle.call_core.specs.declared.function.Function.TheVariants.{Choose, Row, Rows, Column, Columns, Address, Areas, Formulatext, Arraytotext, Offset}
use Rattle.kind_table.specs.declared.own_shapes.Shows.{Shows}
use Rattle.kind_table.specs.declared.shown.Shown.{Shown}
use Rattle.kind_table.specs.declared.shown.Shown.TheVariants as shown
use Rattle.kind_table.specs.declared.static_result.StaticResult.{StaticResult}
use Rattle.kind_table.specs.declared.static_result.StaticResult.TheVariants.{Scalar, Unknown}
use Rattle.kind_table.specs.Shape.{IsAtMost, IsWellFormed, as_range, scalar_arguments}

abbrev pub unless_varied : Bool → StaticResult
unless_varied single = if single then Scalar else Unknown

abbrev pub same_row : Shown → Option Bool
same_row (shown.Range row column) = Some row
same_row other = None

abbrev pub same_column : Shown → Option Bool
same_column (shown.Range row column) = Some column
same_column other = None

abbrev pub line_row : Option Bool → List StaticResult → StaticResult
line_row same [] = Scalar
line_row (Some same) (shape ∷ shapes) = unless_varied same
line_row None (Scalar ∷ shapes) = Scalar
line_row None (shape ∷ shapes) = Unknown

abbrev pub is_one : Shown → Bool
is_one shown.One = true
is_one other = false

abbrev pub is_reference : Shown → Bool
is_reference shown.Reference = true
is_reference other = false

abbrev pub is_one_if_given : Option Shown → Bool
is_one_if_given shows = option_map_or is_one shows true

abbrev pub stays_single : Option Shown → Option Shown → Option Shown → Bool
stays_single first height width = option_map_or is_reference first false && is_one_if_given height && is_one_if_given width

abbrev pub offset_by : ℕ → Option Shown → Option Shown → Option Shown → StaticResult
offset_by count first height width = if nat_lt count 3 then Scalar else unless_varied (stays_single first height width)

abbrev pub offset_row : Shows → StaticResult
offset_row shows = offset_by shows.count shows.first shows.fourth shows.fifth

abbrev pub own_row_of : Function → Shows → List StaticResult → StaticResult
own_row_of Choose shows shapes = as_range (scalar_arguments shapes)
own_row_of Row shows shapes = line_row (option_and_then same_row shows.first) shapes
own_row_of Column shows shapes = line_row (option_and_then same_column shows.first) shapes
own_row_of Offset shows shapes = offset_row shows
own_row_of Rows shows shapes = Scalar
own_row_of Columns shows shapes = Scalar
own_row_of Areas shows shapes = Scalar
own_row_of Address shows shapes = Scalar
own_row_of Formulatext shows shapes = Scalar
own_row_of Arraytotext shows shapes = Scalar
own_row_of kind shows shapes = Unknown

abbrev pub shows_of : List Shown → Shows
shows_of shows = record { count = length shows; first = slice_get shows 0; fourth = slice_get shows 3; fifth = slice_get shows 4 }

abbrev pub own_row : Function → List Shown → List StaticResult → StaticResult
own_row kind shows = own_row_of kind (shows_of shows)

abbrev pub OwnRowsNeverRise : Type 0
OwnRowsNeverRise = (kind : Function) (shows : List Shown) (lower upper : List StaticResult) → AllZip IsAtMost lower upper → IsAtMost (own_row kind shows lower) (own_row kind shows upper)

abbrev pub OwnRowsAreWellFormed : Type 0
OwnRowsAreWellFormed = (kind : Function) (shows : List Shown) (shapes : List StaticResult) → All IsWellFormed shapes → IsWellFormed (own_row kind shows shapes)
