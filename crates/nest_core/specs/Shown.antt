-- What a compiled nest shows: a rectangle, over what a book holds. None of its sizes depends on the book.
--   rows_layer    a nest by the rectangles of its parts
--   shown         the rectangle of a nest
--   same_size, are_sizes   whether two sizes are one; whether parts have these sizes, and are sound
--   has_places    at least one row and one column
--   known_layer   a nest by the sizes of its parts: its size, and whether what it keeps of sizes is so
--   size_in       the size of a nest
--   is_sound      whether what it keeps of sizes is so, at each of its parts too
use Rattle.std.specs.Prelude.{Bool, true, false, ◌&&◌, ◌==◌, nat_le, List, [], ◌∷◌, length}
use Rattle.std.specs.Option.{is_none}
use Rattle.value_core.specs.declared.array.ArrayNode.{ArrayNode}
use Rattle.book_core.specs.Contents.{Contents, line_count, read}
use Rattle.validity_core.specs.Good.{is_array}
use Rattle.position_core.specs.Sized.{size, reshaped}
use Rattle.position_core.specs.Check.{refused}
use Rattle.position_core.specs.declared.reshape.Size.{Size}
use Rattle.array_ops.specs.Reshaped.{reshaped_grid, size_of}
use Rattle.array_ops.specs.Sequence.{sequence_grid}
use Rattle.nest_core.specs.declared.nest.Nest.{Nest}
use Rattle.nest_core.specs.declared.nest.Nest.TheOpen.{Nest-F}
use Rattle.nest_core.specs.declared.nest.Nest.TheFolds.{fold-Nest}

abbrev pub rows_layer : Contents → Nest-F (List (List ArrayNode)) → List (List ArrayNode)
rows_layer book (Nest-F.Cells range) = read book range.left range.right
rows_layer book (Nest-F.Literal rows) = rows
rows_layer book (Nest-F.Sequence s start step) = sequence_grid s.rows s.columns start step
rows_layer book (Nest-F.Reshaped reshape s sizes parts pad) = reshaped_grid reshape parts pad

abbrev pub shown : Contents → Nest → List (List ArrayNode)
shown book = fold-Nest (List (List ArrayNode)) (rows_layer book)

abbrev pub same_size : Size → Size → Bool
same_size s t = (s.rows == t.rows) && (s.columns == t.columns)

abbrev pub are_sizes : List Size → List (Size × Bool) → Bool
are_sizes [] [] = true
are_sizes [] (part ∷ parts) = false
are_sizes (s ∷ ss) [] = false
are_sizes (s ∷ ss) (part ∷ parts) = same_size s part.0 && part.1 && are_sizes ss parts

abbrev pub has_places : Size → Bool
has_places s = nat_le 1 s.rows && nat_le 1 s.columns

abbrev pub is_sheet_size : Size → Bool
is_sheet_size s = nat_le s.rows 1048576 && nat_le s.columns 16384

abbrev pub known_layer : Nest-F (Size × Bool) → Size × Bool
known_layer (Nest-F.Cells range) = (size (line_count range.left.row range.right.row) (line_count range.left.column range.right.column), true)
known_layer (Nest-F.Literal rows) = (size_of rows, is_array rows)
known_layer (Nest-F.Sequence s start step) = (s, has_places s && is_sheet_size s)
known_layer (Nest-F.Reshaped reshape s sizes parts pad) =
    (s, are_sizes sizes parts && nat_le 1 (length sizes) && is_none (refused reshape sizes 16777216) && same_size s (reshaped reshape sizes) && has_places s)

abbrev pub known : Nest → Size × Bool
known = fold-Nest (Size × Bool) known_layer

abbrev pub size_in : Nest → Size
size_in nest = (known nest).0

abbrev pub is_sound : Nest → Bool
is_sound nest = (known nest).1
