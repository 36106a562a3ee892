-- What a call asks of arrays whose sizes are known: the checks behind those of its arrays, in their order. No element is looked at.
--   is_counted      whether a call has so many arguments
--   arguments_refused  the error of a call that has another count of them, and of a kind that no plain nest calls
--   asked           a reshaping, and what fills its places without an element
--   take_asked .. wrap_asked   of each kind
--   wrapping, wrap_parts       how many elements a line has, and what fills the last one
--   of_counts, size_asked, sequence_asked   SEQUENCE: its size, and the whole
--   asked_of        of a call by its kind, the sizes of its arrays, and its other arguments
use Rattle.std.specs.Prelude.{ℕ, ℤ, nat_le, Bool, false, ◌&&◌, if◌then◌else◌, List, Option, Some, None, Result, Ok, Err, unsigned_abs}
use Rattle.call_core.specs.declared.function.Function.{Function}
use Rattle.call_core.specs.declared.function.Function.TheVariants as kind
use Rattle.value_core.specs.declared.array.ArrayNode.{ArrayNode}
use Rattle.value_core.specs.declared.error.Error.{Error}
use Rattle.value_core.specs.declared.error.Error.TheVariants.{ERROR, NIMPL, VALUE}
use Rattle.value_core.specs.declared.position.CellReferenceIndex.{CellReferenceIndex}
use Rattle.book_core.specs.Contents.{Contents}
use Rattle.result_core.specs.declared.found.Found.{Found}
use Rattle.position_core.specs.Check.{is_line}
use Rattle.position_core.specs.Sized.{size, the}
use Rattle.position_core.specs.declared.reshape.Size.{Size}
use Rattle.position_core.specs.declared.reshape.Reshape.{Reshape}
use Rattle.position_core.specs.declared.reshape.Reshape.TheVariants as move
use Rattle.array_ops.specs.Reshaped.{not_available}
use Rattle.argument_core.specs.Check.{after, each}
use Rattle.argument_core.specs.Count.{at_least_one, one_or_two, one_to_four, one_to_three}
use Rattle.argument_core.specs.Argument.{given_if, given_or, int_in, or_one, pad_in, size_in}
use Rattle.array_functions.specs.Parts.{choice_in, count_in}
use Rattle.array_functions.specs.Progression.{size_of_sequence}
use Rattle.nest_core.specs.Plain.{is_nest_kind}
use Rattle.nest_core.specs.declared.nest.Nest.{Nest}
use Rattle.nest_core.specs.declared.nest.Nest.TheVariants.{Sequence}
use Rattle.nest_core.specs.declared.asked.Asked.{Asked}
use Rattle.nest_core.specs.declared.asked.Wrapping.{Wrapping}

abbrev pub is_between : ℕ → ℕ → ℕ → Bool
is_between least most count = nat_le least count && nat_le count most

abbrev pub is_counted : Function → ℕ → Bool
is_counted kind.Sequence count = is_between 1 4 count
is_counted kind.Take count = is_between 2 3 count
is_counted kind.Drop count = is_between 2 3 count
is_counted kind.Transpose count = is_between 1 1 count
is_counted kind.Expand count = is_between 2 4 count
is_counted kind.Hstack count = nat_le 1 count
is_counted kind.Vstack count = nat_le 1 count
is_counted kind.Choosecols count = nat_le 2 count
is_counted kind.Chooserows count = nat_le 2 count
is_counted kind.Wrapcols count = is_between 2 3 count
is_counted kind.Wraprows count = is_between 2 3 count
is_counted other count = false

abbrev pub arguments_refused : Function → ℕ → Option Error
arguments_refused k count = if is_nest_kind k then (if is_counted k count then None else Some ERROR) else Some NIMPL

abbrev pub asked : Reshape → ArrayNode → Asked
asked reshape pad = record { reshape = reshape; pad = pad }

abbrev pub plainly : Reshape → Result Asked Error
plainly reshape = Ok (asked reshape not_available)

abbrev pub take_asked : Contents → CellReferenceIndex → List Found → Result Asked Error
take_asked book cell args =
    after (one_or_two args) (λ found.
    after (count_in book cell found.first) (λ rows.
    after (given_if (count_in book cell) found.second) (λ columns.
    plainly (move.Take rows columns))))

abbrev pub drop_asked : Contents → CellReferenceIndex → List Found → Result Asked Error
drop_asked book cell args =
    after (one_or_two args) (λ found.
    after (int_in book cell found.first) (λ rows.
    after (given_if (int_in book cell) found.second) (λ columns.
    plainly (move.DropOff rows columns))))

abbrev pub expand_asked : Contents → CellReferenceIndex → ℕ → List Found → Result Asked Error
expand_asked book cell width args =
    after (one_to_three args) (λ found.
    after (size_in book cell found.first) (λ rows.
    after (given_or (size_in book cell) width found.second) (λ columns.
    Ok (asked (move.Expand rows columns) (pad_in book cell found.third)))))

abbrev pub choice_asked : (List ℤ → Reshape) → Contents → CellReferenceIndex → ℕ → List Found → Result Asked Error
choice_asked chooser book cell total args =
    after (at_least_one args) (λ found.
    after (each (choice_in book cell total) found) (λ numbers.
    plainly (chooser numbers)))

abbrev pub unless_block : Size → Result Size Error
unless_block s = if is_line s then Ok s else Err VALUE

abbrev pub wrapping : ℕ → ArrayNode → Wrapping
wrapping count pad = record { count = count; pad = pad }

abbrev pub wrap_parts : Contents → CellReferenceIndex → Size → List Found → Result Wrapping Error
wrap_parts book cell s args =
    after (unless_block s) (λ line.
    after (one_or_two args) (λ found.
    after (size_in book cell found.first) (λ count.
    Ok (wrapping count (pad_in book cell found.second)))))

abbrev pub wrap_asked : (ℕ → Reshape) → Contents → CellReferenceIndex → Size → List Found → Result Asked Error
wrap_asked wrapper book cell s args = after (wrap_parts book cell s args) (λ parts. Ok (asked (wrapper parts.count) parts.pad))

abbrev pub of_counts : ℤ × ℤ → Result Size Error
of_counts counts = Ok (size (unsigned_abs counts.0) (unsigned_abs counts.1))

abbrev pub size_asked : Contents → ℕ → CellReferenceIndex → Option Found → Option Found → Result Size Error
size_asked book limit cell first second = after (size_of_sequence book limit cell first second) of_counts

abbrev pub sequence_asked : Contents → ℕ → CellReferenceIndex → List Found → Result Nest Error
sequence_asked book limit cell args =
    after (one_to_four args) (λ found.
    after (size_asked book limit cell (Some found.first) found.second) (λ s.
    after (or_one book cell found.third) (λ start.
    after (or_one book cell found.fourth) (λ step.
    Ok (Sequence s start step)))))

abbrev pub asked_of : Contents → CellReferenceIndex → Function → List Size → List Found → Result Asked Error
asked_of book cell kind.Take sizes args = take_asked book cell args
asked_of book cell kind.Drop sizes args = drop_asked book cell args
asked_of book cell kind.Transpose sizes args = plainly move.Transpose
asked_of book cell kind.Expand sizes args = expand_asked book cell (the sizes).columns args
asked_of book cell kind.Hstack sizes args = plainly move.Hstack
asked_of book cell kind.Vstack sizes args = plainly move.Vstack
asked_of book cell kind.Choosecols sizes args = choice_asked move.ChooseColumns book cell (the sizes).columns args
asked_of book cell kind.Chooserows sizes args = choice_asked move.ChooseRows book cell (the sizes).rows args
asked_of book cell kind.Wrapcols sizes args = wrap_asked move.WrapColumns book cell (the sizes) args
asked_of book cell kind.Wraprows sizes args = wrap_asked move.WrapRows book cell (the sizes) args
asked_of book cell other sizes args = Err NIMPL
