use Rattle.std.proofs.Common.{◌≡◌, ◌<◌, Some, length, slice_get, map, sym, ap, ◌∙◌, arith, rules, w64}
use Rattle.std.proofs.lemmas.Int.{to_z-of_z}
use mir.Val.{SFits}
use Rattle.array_ops.specs.Reshaped.{picked}
use Rattle.position_core.specs.Position.{position}
use Rattle.position_core.specs.declared.position.Position.TheVariants.{Part, Pad, NotAvailable}
use Rattle.nest_core.specs.Shown.{shown}
use Rattle.nest_core.specs.declared.nest.Nest.{size-Nest}
use Rattle.nest_core.proofs.Elements.{cells-element, drawn-element, Draws, drawn-part, moved, moved-element, part-falls, part-there, sequence-element}
use Rattle.nest_core.proofs.element.+element_of.Goals as goal

pub part_at-part-requires : goal.part_at-part-requires
part_at-part-requires g t c =
    let m = moved c.args.nest.now c.in-Reshaped.reshape c.in-Reshaped.size c.in-Reshaped.sizes c.in-Reshaped.parts c.in-Reshaped.pad c.in-Reshaped.is c.requires.sound in
    let inside = rw (c.in-Part.is, c.as_slice.ensures) at c.position_in.ensures.within in
    let there : c.in-Part.index < length c.in-Reshaped.parts = part-there c.in-Reshaped.sizes c.in-Reshaped.parts c.in-Part.index m.sizes_known inside.0 in
    omega (arith, there, ap length c.as_slice-in-Part.ensures)

pub element_of-requires : goal.element_of-requires
element_of-requires g t c κs within =
    let m = moved c.args.nest.now c.in-Reshaped.reshape c.in-Reshaped.size c.in-Reshaped.sizes c.in-Reshaped.parts c.in-Reshaped.pad c.in-Reshaped.is c.requires.sound in
    let inside = rw (c.in-Part.is, c.as_slice.ensures) at c.position_in.ensures.within in
    let e : Some c.part_at-part.result.now ≡ slice_get c.in-Reshaped.parts c.in-Part.index = rw c.as_slice-in-Part.ensures at c.part_at-part.ensures in
    let d : Draws c.part_at-part.result.now c.in-Part.row c.in-Part.column =
    drawn-part c.in-Reshaped.sizes c.in-Reshaped.parts c.in-Part.index c.in-Part.row c.in-Part.column c.part_at-part.result.now m.sizes_known e inside in
    let falls : size-Nest c.part_at-part.result.now < size-Nest c.args.nest.now =
    part-falls c.args.nest.now c.in-Reshaped.reshape c.in-Reshaped.size c.in-Reshaped.sizes c.in-Reshaped.parts c.in-Reshaped.pad c.in-Part.index c.part_at-part.result.now c.in-Reshaped.is e in
    (omega (arith, falls), (within.0, (within.1, (d.sound, (d.row_within, d.column_within)))))

pub returns-in_ok-element-in-Cells-clause-value : goal.returns-in_ok-element-in-Cells-clause-value
returns-in_ok-element-in-Cells-clause-value g t c =
    c.in_ok-element-in-Cells.ensures ∙ c.value.ensures.value ∙ ap (g.B.Book.contents c.args.book.now).value c.cell_of_range-cell.ensures
    ∙ cells-element (g.B.Book.contents c.args.book.now) c.args.nest.now c.in-Cells.range c.args.row c.args.column c.in-Cells.is c.requires.row c.requires.column

pub returns-in-Sequence-clause-value : goal.returns-in-Sequence-clause-value
returns-in-Sequence-clause-value g t c =
    let start_fits : SFits w64 c.in-Sequence.start = search rules in
    let step_fits : SFits w64 c.in-Sequence.step = search rules in
    (simp to_z-of_z at c.sequence_element.ensures)
    ∙ sequence-element (g.B.Book.contents c.args.book.now) c.args.nest.now c.in-Sequence.size c.in-Sequence.start c.in-Sequence.step c.args.row c.args.column c.in-Sequence.is c.requires.row c.requires.column

pub returns-in_ok-element-in-Part-clause-value : goal.returns-in_ok-element-in-Part-clause-value
returns-in_ok-element-in-Part-clause-value g t c =
    let book = g.B.Book.contents c.args.book.now in
    let e : Some c.part_at-part.result.now ≡ slice_get c.in-Reshaped.parts c.in-Part.index = rw c.as_slice-in-Part.ensures at c.part_at-part.ensures in
    let place : position c.in-Reshaped.reshape c.in-Reshaped.sizes c.args.row c.args.column ≡ Part c.in-Part.index c.in-Part.row c.in-Part.column =
    sym (rw c.as_slice.ensures at c.position_in.ensures.value) ∙ c.in-Part.is in
    c.in_ok-element-in-Part.ensures.value
    ∙ drawn-element book c.in-Reshaped.parts c.in-Reshaped.pad c.in-Part.index c.in-Part.row c.in-Part.column c.part_at-part.result.now e
    ∙ ap (picked (map (shown book) c.in-Reshaped.parts) c.in-Reshaped.pad) (sym place)
    ∙ moved-element book c.args.nest.now c.in-Reshaped.reshape c.in-Reshaped.size c.in-Reshaped.sizes c.in-Reshaped.parts c.in-Reshaped.pad c.args.row c.args.column c.in-Reshaped.is c.requires.sound c.requires.row c.requires.column

pub returns-in_ok-element-in-Pad-clause-value : goal.returns-in_ok-element-in-Pad-clause-value
returns-in_ok-element-in-Pad-clause-value g t c =
    let book = g.B.Book.contents c.args.book.now in
    let place : position c.in-Reshaped.reshape c.in-Reshaped.sizes c.args.row c.args.column ≡ Pad =
    sym (rw c.as_slice.ensures at c.position_in.ensures.value) ∙ c.in-Pad.is in
    c.in_ok-element-in-Pad.ensures
    ∙ ap (picked (map (shown book) c.in-Reshaped.parts) c.in-Reshaped.pad) (sym place)
    ∙ moved-element book c.args.nest.now c.in-Reshaped.reshape c.in-Reshaped.size c.in-Reshaped.sizes c.in-Reshaped.parts c.in-Reshaped.pad c.args.row c.args.column c.in-Reshaped.is c.requires.sound c.requires.row c.requires.column

pub returns-in-NotAvailable-clause-value : goal.returns-in-NotAvailable-clause-value
returns-in-NotAvailable-clause-value g t c =
    let book = g.B.Book.contents c.args.book.now in
    let place : position c.in-Reshaped.reshape c.in-Reshaped.sizes c.args.row c.args.column ≡ NotAvailable =
    sym (rw c.as_slice.ensures at c.position_in.ensures.value) ∙ c.in-NotAvailable.is in
    ap (picked (map (shown book) c.in-Reshaped.parts) c.in-Reshaped.pad) (sym place)
    ∙ moved-element book c.args.nest.now c.in-Reshaped.reshape c.in-Reshaped.size c.in-Reshaped.sizes c.in-Reshaped.parts c.in-Reshaped.pad c.args.row c.args.column c.in-Reshaped.is c.requires.sound c.requires.row c.requires.column
