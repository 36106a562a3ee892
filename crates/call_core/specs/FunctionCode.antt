-- Kinds of functions as numbers.
--   function_code  a number of its own for each kind
use Rattle.std.specs.Prelude.{ℕ, ◌+◌}
use Rattle.call_core.specs.declared.function.Function.{Function}
use Rattle.call_core.specs.declared.function.Function.TheVariants.{Unique, Filter, Take, Drop, Expand, Hstack, Vstack, Choosecols, Chooserows, Tocol, Torow, Transpose, Trimrange, Wrapcols, Wraprows, Sequence, Index, Offset, Choose, Row, Rows, Column, Columns, Indirect, Address, Areas, Formulatext, Arraytotext, Textsplit, Sort, Sortby, Let, Lambda, Map, Reduce, Scan, Byrow, Bycol, Makearray, Other}

abbrev pub function_code : Function → ℕ
function_code Unique = 0
function_code Filter = 1
function_code Take = 2
function_code Drop = 3
function_code Expand = 4
function_code Hstack = 5
function_code Vstack = 6
function_code Choosecols = 7
function_code Chooserows = 8
function_code Tocol = 9
function_code Torow = 10
function_code Transpose = 11
function_code Trimrange = 12
function_code Wrapcols = 13
function_code Wraprows = 14
function_code Sequence = 15
function_code Index = 16
function_code Offset = 17
function_code Choose = 18
function_code Row = 19
function_code Rows = 20
function_code Column = 21
function_code Columns = 22
function_code Indirect = 23
function_code Address = 24
function_code Areas = 25
function_code Formulatext = 26
function_code Arraytotext = 27
function_code Textsplit = 28
function_code Sort = 29
function_code Sortby = 30
function_code Let = 31
function_code Lambda = 32
function_code Map = 33
function_code Reduce = 34
function_code Scan = 35
function_code Byrow = 36
function_code Bycol = 37
function_code Makearray = 38
function_code (Other number) = 39 + number
