-- How a text is read from its front, for whether it ends as a reference to a range does.
--   row_or_other    behind the column's letters: a digit of the row, or something else
--   goes_on         what was read, with one more byte
--   ends_reference  nothing stands behind the last colon but letters and then digits
use Rattle.std.specs.Prelude.{ℕ, ◌==◌, Bool, true, false, if◌then◌else◌}
use Rattle.import_core.specs.declared.range_text.Ending.{Ending}
use Rattle.import_core.specs.declared.range_text.Ending.TheVariants.{Before, Column, Row, Other}
use Rattle.import_core.specs.RangeText.{is_capital, is_digit}

abbrev pub row_or_other : ℕ → Ending
row_or_other byte = if is_digit byte then Row else Other

abbrev pub within : Ending → ℕ → Ending
within Before byte = Before
within Column byte = if is_capital byte then Column else row_or_other byte
within Row byte = row_or_other byte
within Other byte = Other

abbrev pub goes_on : Ending → ℕ → Ending
goes_on ending byte = if byte == 58 then Column else within ending byte

abbrev pub ends_reference : Ending → Bool
ends_reference Before = false
ends_reference Column = true
ends_reference Row = true
ends_reference Other = false
