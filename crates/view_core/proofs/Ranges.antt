-- Calls of a nest's kinds come to no range.
--   NoRange       an answer that is no range (IsOther)
--   own-no-range  such a call has one
--   call-own      such a call goes by the rules of the own kinds
use Rattle.std.proofs.Common.{◌≡◌, ℕ, ℤ, true, List, [], ◌∷◌, map, Option, Some, None, Result, Ok, Err, refl}
use Rattle.std.specs.Prelude.{unsigned_abs}
use Rattle.call_core.specs.declared.function.Function.{Function}
use Rattle.call_core.specs.declared.function.Function.TheVariants as kind
use Rattle.value_core.specs.declared.array.ArrayNode.{ArrayNode}
use Rattle.value_core.specs.declared.error.Error.{Error}
use Rattle.value_core.specs.declared.position.CellReferenceIndex.{CellReferenceIndex}
use Rattle.book_core.specs.Contents.{Contents}
use Rattle.grid_core.specs.declared.calc_result.CalcResult.{CalcResult}
use Rattle.grid_core.specs.declared.calc_result.CalcResult.TheVariants as calc
use Rattle.result_core.specs.declared.found.Found.{Found}
use Rattle.result_core.specs.declared.found.Found.TheVariants.{Same}
use Rattle.rectangle_core.specs.Rectangle.{height, width}
use Rattle.position_core.specs.Check.{refused}
use Rattle.position_core.specs.declared.reshape.Reshape.{Reshape}
use Rattle.position_core.specs.declared.reshape.Reshape.TheVariants as move
use Rattle.array_ops.specs.Reshaped.{answered, not_available, reshaped_answer, reshaped_grid, size_of}
use Rattle.array_ops.specs.Sequence.{sequence_grid, sequence_refused}
use Rattle.argument_core.specs.Argument.{array_in, given_if, given_or, int_in, or_one, pad_in, size_in}
use Rattle.argument_core.specs.Check.{after, each}
use Rattle.argument_core.specs.Count.{at_least_one, at_least_two, one, one_to_four, two_or_three, two_to_four}
use Rattle.array_functions.specs.Parts.{choice_in, choose_call, count_in}
use Rattle.array_functions.specs.Progression.{size_of_sequence}
use Rattle.array_functions.specs.Sizes.{line_in, wrap_call}
use Rattle.array_functions.specs.Stacks.{stack_call}
use Rattle.own_functions.specs.Own.{own_call, own_result}
use Rattle.eval_core.specs.Meaning.{call_found}
use Rattle.eval_core.specs.Setting.{Setting}
use Rattle.nest_core.specs.Plain.{is_nest_kind}

abbrev pub IsOther : Result CalcResult Error → Type 0
IsOther (Ok (calc.Range left right)) = ⊥
IsOther (Ok other) = Unit {0}
IsOther (Err e) = Unit {0}

pub record NoRange (made : Result CalcResult Error) : Type 0 where
  pub other : IsOther made

then-none : {X : Type 0} (r : Result X Error) (f : X → Result CalcResult Error) → ((x : X) → NoRange (f x)) → NoRange (after r f)
then-none (Ok x) f h = h x
then-none (Err e) f h = record { other = tt }

answered-none : (o : Option Error) (cell : CellReferenceIndex) (array : List (List ArrayNode)) → NoRange (Ok (answered o cell array))
answered-none (Some e) cell array = record { other = tt }
answered-none None cell array = record { other = tt }

reshaped-none : (reshape : Reshape) (arrays : List (List (List ArrayNode))) (pad : ArrayNode) (limit : ℕ) (cell : CellReferenceIndex) → NoRange (Ok (reshaped_answer reshape arrays pad limit cell))
reshaped-none reshape arrays pad limit cell = answered-none (refused reshape (map size_of arrays) limit) cell (reshaped_grid reshape arrays pad)

module _ (book : Contents) (limit : ℕ) (cell : CellReferenceIndex) (args : List Found) where
  sequence-none : NoRange (own_call book limit cell kind.Sequence args)
  sequence-none = then-none (one_to_four args) _ (λ asked. then-none (size_of_sequence book limit cell (Some asked.first) asked.second) _ (λ s.
      then-none (or_one book cell asked.third) _ (λ start. then-none (or_one book cell asked.fourth) _ (λ step.
      answered-none (sequence_refused s.0 s.1 limit) cell (sequence_grid (unsigned_abs s.0) (unsigned_abs s.1) start step)))))

  take-none : NoRange (own_call book limit cell kind.Take args)
  take-none = then-none (two_or_three args) _ (λ asked. then-none (array_in book cell asked.first) _ (λ array.
      then-none (count_in book cell asked.second) _ (λ rows. then-none (given_if (count_in book cell) asked.third) _ (λ columns.
      reshaped-none (move.Take rows columns) (array ∷ []) not_available 16777216 cell))))

  drop-none : NoRange (own_call book limit cell kind.Drop args)
  drop-none = then-none (two_or_three args) _ (λ asked. then-none (array_in book cell asked.first) _ (λ array.
      then-none (int_in book cell asked.second) _ (λ rows. then-none (given_if (int_in book cell) asked.third) _ (λ columns.
      reshaped-none (move.DropOff rows columns) (array ∷ []) not_available 16777216 cell))))

  transpose-none : NoRange (own_call book limit cell kind.Transpose args)
  transpose-none = then-none (one args) _ (λ asked. then-none (array_in book cell asked) _ (λ array. record { other = tt }))

  expand-none : NoRange (own_call book limit cell kind.Expand args)
  expand-none = then-none (two_to_four args) _ (λ asked. then-none (array_in book cell asked.first) _ (λ array.
      then-none (size_in book cell asked.second) _ (λ rows. then-none (given_or (size_in book cell) (width array) asked.third) _ (λ columns.
      reshaped-none (move.Expand rows columns) (array ∷ []) (pad_in book cell asked.fourth) limit cell))))

  stack-none : (stack : Reshape) → NoRange (stack_call stack book cell args)
  stack-none stack = then-none (at_least_one args) _ (λ asked. then-none (each (array_in book cell) asked) _ (λ arrays. record { other = tt }))

  choose-none : (total : List (List ArrayNode) → ℕ) (chooser : List ℤ → Reshape) → NoRange (choose_call total chooser book cell args)
  choose-none total chooser = then-none (at_least_two args) _ (λ asked. then-none (array_in book cell asked.0) _ (λ array.
      then-none (each (choice_in book cell (total array)) asked.1) _ (λ numbers.
      reshaped-none (chooser numbers) (array ∷ []) not_available 16777216 cell)))

  wrap-none : (wrapper : ℕ → Reshape) → NoRange (wrap_call wrapper book limit cell args)
  wrap-none wrapper = then-none (two_or_three args) _ (λ asked. then-none (line_in book cell asked.first) _ (λ array.
      then-none (size_in book cell asked.second) _ (λ count.
      reshaped-none (wrapper count) (array ∷ []) (pad_in book cell asked.third) limit cell)))

  pub own-no-range : (k : Function) → is_nest_kind k ≡ true → NoRange (own_call book limit cell k args)
  own-no-range kind.Sequence h = sequence-none
  own-no-range kind.Take h = take-none
  own-no-range kind.Drop h = drop-none
  own-no-range kind.Transpose h = transpose-none
  own-no-range kind.Expand h = expand-none
  own-no-range kind.Hstack h = stack-none move.Hstack
  own-no-range kind.Vstack h = stack-none move.Vstack
  own-no-range kind.Choosecols h = choose-none width move.ChooseColumns
  own-no-range kind.Chooserows h = choose-none height move.ChooseRows
  own-no-range kind.Wrapcols h = wrap-none move.WrapColumns
  own-no-range kind.Wraprows h = wrap-none move.WrapRows
  own-no-range other h = cc

pub call-own : (k : Function) → is_nest_kind k ≡ true → (here : Setting) (args : List Found) → call_found here k args ≡ Same (own_result here.book here.limit here.cell k args)
call-own (kind.Other id) h here args = cc
call-own other h here args = refl
