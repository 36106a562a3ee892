-- Arrays beside or below each other: HSTACK, VSTACK.
--   stack_call   each argument is an array; a place without an element is #N/A
use Rattle.std.specs.Prelude.{List, Result, Ok}
use Rattle.value_core.specs.declared.error.Error.{Error}
use Rattle.value_core.specs.declared.position.CellReferenceIndex.{CellReferenceIndex}
use Rattle.book_core.specs.Contents.{Contents}
use Rattle.grid_core.specs.declared.calc_result.CalcResult.{CalcResult}
use Rattle.grid_core.specs.declared.calc_result.CalcResult.TheVariants.{Array}
use Rattle.result_core.specs.declared.found.Found.{Found}
use Rattle.position_core.specs.declared.reshape.Reshape.{Reshape}
use Rattle.position_core.specs.declared.reshape.Reshape.TheVariants.{Hstack, Vstack}
use Rattle.array_ops.specs.Reshaped.{not_available, reshaped_grid}
use Rattle.argument_core.specs.Check.{after, each}
use Rattle.argument_core.specs.Count.{at_least_one}
use Rattle.argument_core.specs.Argument.{array_in}

abbrev pub stack_call : Reshape → Contents → CellReferenceIndex → List Found → Result CalcResult Error
stack_call stack book cell args =
    after (at_least_one args) (λ asked.
    after (each (array_in book cell) asked) (λ arrays.
    Ok (Array (reshaped_grid stack arrays not_available))))

abbrev pub hstack_call : Contents → CellReferenceIndex → List Found → Result CalcResult Error
hstack_call = stack_call Hstack

abbrev pub vstack_call : Contents → CellReferenceIndex → List Found → Result CalcResult Error
vstack_call = stack_call Vstack
