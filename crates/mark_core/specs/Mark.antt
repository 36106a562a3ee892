-- What is known of a formula, part by part.
--   known_of, parts_of, mark_of  of its root, and its parts; what is known of it, from both
--   face          what a node shows of itself: nothing under an `@`
--   seen          what is seen of a node from above
--   bare_shape    the shape of a bare node over what its parts show and over their shapes
--   same_shape, same_shown, same_seen  whether two shapes are the same, what two nodes show, and what is seen of them
--   calls_in      how many calls there are, `calls_here` of them at one node
--   ats_in        over how many nodes an `@` stands
use Rattle.std.specs.Prelude.{ℕ, ◌+◌, Bool, true, false, ◌&&◌, if◌then◌else◌, List, sum}
use Rattle.std.specs.Ordering.{int_eq}
use Rattle.kind_table.specs.declared.shown.Shown.{Shown}
use Rattle.kind_table.specs.declared.shown.Shown.TheVariants as shown
use Rattle.kind_table.specs.declared.static_result.StaticResult.{StaticResult}
use Rattle.kind_table.specs.declared.static_result.StaticResult.TheVariants.{Scalar, Array, Range, Unknown}
use Rattle.kind_table.specs.Table.{Table}
use Rattle.shape_core.specs.Shape.{call_shape, passed, same_flag}
use Rattle.mark_core.specs.declared.mark.Form.{Form}
use Rattle.mark_core.specs.declared.mark.Form.TheVariants.{Whole, Passing, Spill, Call}
use Rattle.mark_core.specs.declared.mark.Known.{Known}
use Rattle.mark_core.specs.declared.mark.Seen.{Seen}
use Rattle.mark_core.specs.declared.mark.Mark.{Mark, out-Mark, roll-Mark, fold-Mark}

abbrev pub known_of : Mark → Known
known_of mark = (out-Mark mark).known

abbrev pub parts_of : Mark → List Mark
parts_of mark = (out-Mark mark).parts

abbrev pub mark_of : Known → List Mark → Mark
mark_of known parts = roll-Mark (record { known = known; parts = parts })

abbrev pub face : Known → Shown
face known = if known.bare then known.alone else shown.Nothing

abbrev pub seen : Known → Seen
seen known = record { shape = known.shape; shows = face known }

abbrev pub bare_shape : Table → Form → List Shown → List StaticResult → StaticResult
bare_shape table (Whole shape) shows shapes = shape
bare_shape table Passing shows shapes = passed shapes
bare_shape table Spill shows shapes = Unknown
bare_shape table (Call kind) shows shapes = call_shape table kind shows shapes

abbrev pub same_shape : StaticResult → StaticResult → Bool
same_shape Scalar Scalar = true
same_shape Unknown Unknown = true
same_shape (Array rows columns) (Array other_rows other_columns) = int_eq rows other_rows && int_eq columns other_columns
same_shape (Range rows columns) (Range other_rows other_columns) = int_eq rows other_rows && int_eq columns other_columns
same_shape left right = false

abbrev pub same_shown : Shown → Shown → Bool
same_shown shown.Nothing shown.Nothing = true
same_shown shown.One shown.One = true
same_shown shown.Reference shown.Reference = true
same_shown (shown.Range row column) (shown.Range other_row other_column) = same_flag row other_row && same_flag column other_column
same_shown left right = false

abbrev pub same_seen : Seen → Seen → Bool
same_seen left right = same_shape left.shape right.shape && same_shown left.shows right.shows

abbrev pub calls_here : Form → ℕ
calls_here (Whole shape) = 0
calls_here Passing = 0
calls_here Spill = 0
calls_here (Call kind) = 1

abbrev pub calls_in : Mark → ℕ
calls_in = fold-Mark ℕ (λ layer. calls_here layer.known.form + sum layer.parts)

abbrev pub ats_here : Bool → ℕ
ats_here bare = if bare then 0 else 1

abbrev pub ats_in : Mark → ℕ
ats_in = fold-Mark ℕ (λ layer. ats_here layer.known.bare + sum layer.parts)
