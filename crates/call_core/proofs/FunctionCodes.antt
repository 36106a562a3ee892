-- No two kinds of functions have one number.
--   function_code-one_to_one
use Rattle.std.proofs.Common.{◌≡◌, ℕ, ◌+◌, ◌-◌, List, [], ◌∷◌, get_or, refl, sym, ap, ◌∙◌, arith}
use Rattle.std.proofs.Math.ListN.{get_or-eq_default}
use Rattle.call_core.specs.FunctionCode.{function_code}
use Rattle.call_core.specs.declared.function.Function.{Function}
use Rattle.call_core.specs.declared.function.Function.TheVariants.{Unique, Filter, Take, Drop, Expand, Hstack, Vstack, Choosecols, Chooserows, Tocol, Torow, Transpose, Trimrange, Wrapcols, Wraprows, Sequence, Index, Offset, Choose, Row, Rows, Column, Columns, Indirect, Address, Areas, Formulatext, Arraytotext, Textsplit, Sort, Sortby, Let, Lambda, Map, Reduce, Scan, Byrow, Bycol, Makearray, Other}

-- the kinds with rules of their own, by their numbers
abbrev own_kinds : List Function
own_kinds = Unique ∷ Filter ∷ Take ∷ Drop ∷ Expand ∷ Hstack ∷ Vstack ∷ Choosecols ∷ Chooserows ∷ Tocol ∷ Torow ∷ Transpose ∷ Trimrange ∷ Wrapcols ∷ Wraprows ∷ Sequence ∷ Index ∷ Offset ∷ Choose ∷ Row ∷ Rows ∷ Column ∷ Columns ∷ Indirect ∷ Address ∷ Areas ∷ Formulatext ∷ Arraytotext ∷ Textsplit ∷ Sort ∷ Sortby ∷ Let ∷ Lambda ∷ Map ∷ Reduce ∷ Scan ∷ Byrow ∷ Bycol ∷ Makearray ∷ []

-- the kind of a number: where there is none of its own, `Other`
abbrev kind_of : ℕ → Function
kind_of code = get_or own_kinds code (Other (code - 39))

kind_of-function_code : (kind : Function) → kind_of (function_code kind) ≡ kind
kind_of-function_code Unique = refl
kind_of-function_code Filter = refl
kind_of-function_code Take = refl
kind_of-function_code Drop = refl
kind_of-function_code Expand = refl
kind_of-function_code Hstack = refl
kind_of-function_code Vstack = refl
kind_of-function_code Choosecols = refl
kind_of-function_code Chooserows = refl
kind_of-function_code Tocol = refl
kind_of-function_code Torow = refl
kind_of-function_code Transpose = refl
kind_of-function_code Trimrange = refl
kind_of-function_code Wrapcols = refl
kind_of-function_code Wraprows = refl
kind_of-function_code Sequence = refl
kind_of-function_code Index = refl
kind_of-function_code Offset = refl
kind_of-function_code Choose = refl
kind_of-function_code Row = refl
kind_of-function_code Rows = refl
kind_of-function_code Column = refl
kind_of-function_code Columns = refl
kind_of-function_code Indirect = refl
kind_of-function_code Address = refl
kind_of-function_code Areas = refl
kind_of-function_code Formulatext = refl
kind_of-function_code Arraytotext = refl
kind_of-function_code Textsplit = refl
kind_of-function_code Sort = refl
kind_of-function_code Sortby = refl
kind_of-function_code Let = refl
kind_of-function_code Lambda = refl
kind_of-function_code Map = refl
kind_of-function_code Reduce = refl
kind_of-function_code Scan = refl
kind_of-function_code Byrow = refl
kind_of-function_code Bycol = refl
kind_of-function_code Makearray = refl
kind_of-function_code (Other number) = get_or-eq_default own_kinds (Other (39 + number - 39)) {n = 39 + number} (omega arith) ∙ ap Other (omega arith)

pub function_code-one_to_one : (a b : Function) → function_code a ≡ function_code b → a ≡ b
function_code-one_to_one a b e = sym (kind_of-function_code a) ∙ ap kind_of e ∙ kind_of-function_code b
