-- The names of the kinds.
--   own_names      the names of the own kinds by their numbers, as the rows of the program's table in src/own_table.rt say
--   own_name       the name of an own kind
--   names          the names of the numbered kinds in their order, as the rows of the program's table in src/table.rt say
--   crate_name     the name of a numbered kind
--   function_name  the name of a kind of either sort
--   own_in, number_in  of a kind that was found: the own kind, the number of a numbered one
--   in_order       all kinds, as the program searches them
use Rattle.std.specs.Prelude.{ℕ, List, map, slice_get, Option, Some, None}
use Rattle.call_core.specs.declared.function.Function.{Function}
use Rattle.call_core.specs.declared.function.Function.TheVariants.{Other}
use Rattle.call_core.specs.FunctionCode.{function_code}
use Rattle.kind_table.specs.declared.own_table.TheConstants.{OWN_NAMES}
use Rattle.kind_table.specs.declared.table.TheConstants.{NAMES}
use Rattle.kind_table.specs.declared.name_order.TheConstants.{IN_ORDER}

unfoldable pub own_names : List (List ℕ)
own_names = map (λ name. name.now) OWN_NAMES

abbrev pub own_name : Function → Option (List ℕ)
own_name kind = slice_get own_names (function_code kind)

unfoldable pub names : List (List ℕ)
names = map (λ name. name.now) NAMES

abbrev pub crate_name : ℕ → Option (List ℕ)
crate_name id = slice_get names id

abbrev pub function_name : Function → Option (List ℕ)
function_name (Other id) = crate_name id
function_name kind = own_name kind

abbrev pub own_in : Option Function → Option Function
own_in None = None
own_in (Some (Other id)) = None
own_in (Some kind) = Some kind

abbrev pub number_in : Option Function → Option ℕ
number_in (Some (Other id)) = Some id
number_in kind = None

unfoldable pub in_order : List Function
in_order = IN_ORDER
