-- What a call of a nest's kinds comes to, over nests and other arguments that read no cell.
--   is_constant_result, is_constant   a result that reads no cell: no range; what came to one: neither a single cell nor a range
--   array_found   a nest as what an argument came to: an array
--   Shows         a call comes to the array that a nest is, or to an error, which comes from the formula's cell
--   held_in, size_of_nest   a nest as it is compiled, and its size, over any book
--   moved_nest    the nest of the elements of some nests, moved as a call asks; or the error of the first check of their sizes that isn't passed
--   nest_asked    the nest that a call asks for, or the error of the first check that isn't passed
use Rattle.std.specs.Prelude.{◌≡◌, ℕ, Bool, true, false, if◌then◌else◌, List, map, Result, Ok, Err, ⊤}
use Rattle.call_core.specs.declared.function.Function.{Function}
use Rattle.value_core.specs.declared.error.Error.{Error}
use Rattle.value_core.specs.declared.position.CellReferenceIndex.{CellReferenceIndex}
use Rattle.book_core.specs.Contents.{Contents, no_contents}
use Rattle.grid_core.specs.declared.calc_result.CalcResult.{CalcResult}
use Rattle.grid_core.specs.declared.calc_result.CalcResult.TheVariants as calc
use Rattle.result_core.specs.Finding.{wrong}
use Rattle.result_core.specs.declared.found.Found.{Found}
use Rattle.result_core.specs.declared.found.Found.TheVariants.{Cell, Same}
use Rattle.position_core.specs.Check.{refused}
use Rattle.position_core.specs.Sized.{reshaped}
use Rattle.position_core.specs.declared.reshape.Size.{Size}
use Rattle.argument_core.specs.Check.{after}
use Rattle.argument_core.specs.declared.stop.Stop.{Stop}
use Rattle.argument_core.specs.declared.stop.Stop.TheVariants.{Wrong, Memory}
use Rattle.array_functions.specs.Progression.{unless_refused}
use Rattle.nest_core.specs.Asked.{asked_of, sequence_asked}
use Rattle.nest_core.specs.Plain.{is_sequence}
use Rattle.nest_core.specs.Rows.{rows_in}
use Rattle.nest_core.specs.Shown.{size_in}
use Rattle.nest_core.specs.declared.asked.Asked.{Asked}
use Rattle.nest_core.specs.declared.nest.Nest.{Nest}
use Rattle.nest_core.specs.declared.nest.Nest.TheVariants.{Reshaped}
use Rattle.nest_core.specs.declared.plain_nest.PlainNest.{PlainNest}

abbrev pub is_constant_result : CalcResult → Bool
is_constant_result (calc.Range left right) = false
is_constant_result other = true

abbrev pub is_constant : Found → Bool
is_constant (Cell at) = false
is_constant (Same result) = is_constant_result result

abbrev pub array_found : Contents → PlainNest → Found
array_found book nest = Same (calc.Array (rows_in book nest))

abbrev pub Shows : Contents → CellReferenceIndex → Result PlainNest Stop → CalcResult → Type 0
Shows book cell (Ok nest) wanted = wanted ≡ calc.Array (rows_in book nest)
Shows book cell (Err (Wrong e)) wanted = wanted ≡ wrong cell e
Shows book cell (Err Memory) wanted = ⊤

abbrev pub held_in : PlainNest → Nest
held_in nest = nest.held

abbrev pub size_of_nest : PlainNest → Size
size_of_nest nest = size_in nest.held

abbrev pub moved_nest : ℕ → List Size → List Nest → Asked → Result Nest Error
moved_nest limit sizes parts asked =
    unless_refused (refused asked.reshape sizes limit) (Reshaped asked.reshape (reshaped asked.reshape sizes) sizes parts asked.pad)

abbrev pub nest_asked : ℕ → CellReferenceIndex → Function → List PlainNest → List Found → Result Nest Error
nest_asked limit cell kind parts args =
    if is_sequence kind then sequence_asked no_contents limit cell args
    else after (asked_of no_contents cell kind (map size_of_nest parts) args) (moved_nest limit (map size_of_nest parts) (map held_in parts))
