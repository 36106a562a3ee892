-- A text as a rectangle of pieces.
--   stays          whether a piece stays, of which the empty ones may be left out
--   kept_pieces    the pieces that stay
--   rows_of_pieces   the pieces of each row, where rows are pieces by the delimiters of rows
--   longest        how many pieces the longest row has
--   piece_at       the piece at a place, or the pad
--   split_text     those rows, padded to the longest; none where no row has a piece
use Rattle.std.specs.Prelude.{ℕ, ◌==◌, max, Bool, ◌&&◌, not, if◌then◌else◌, Option, Some, None, option_and_then, List, [], ◌∷◌, length, map, slice_get}
use Rattle.std.specs.List.{filter}
use Rattle.value_core.specs.declared.array.ArrayNode.{ArrayNode}
use Rattle.value_core.specs.declared.array.ArrayNode.TheVariants.{String}
use Rattle.rectangle_core.specs.Rectangle.{rectangle}
use Rattle.split_core.specs.Pieces.{pieces}

abbrev pub stays : Bool → List ℕ → Bool
stays ignore_empty piece = not (ignore_empty && length piece == 0)

abbrev pub kept_pieces : Bool → Bool → List (List ℕ) → List ℕ → List (List ℕ)
kept_pieces ignore_empty blind delimiters text = filter (stays ignore_empty) (pieces blind delimiters text)

abbrev pub rows_of_pieces : Bool → Bool → List (List ℕ) → List (List ℕ) → List ℕ → List (List (List ℕ))
rows_of_pieces ignore_empty blind column_delimiters row_delimiters text = map (kept_pieces ignore_empty blind column_delimiters) (kept_pieces ignore_empty blind row_delimiters text)

abbrev pub longest : List (List (List ℕ)) → ℕ
longest [] = 0
longest (row ∷ rows) = max (length row) (longest rows)

abbrev pub piece_or : ArrayNode → Option (List ℕ) → ArrayNode
piece_or pad (Some piece) = String piece
piece_or pad None = pad

abbrev pub piece_at : ArrayNode → List (List (List ℕ)) → ℕ → ℕ → ArrayNode
piece_at pad rows i j = piece_or pad (option_and_then (λ row. slice_get row j) (slice_get rows i))

abbrev pub padded : ArrayNode → List (List (List ℕ)) → Option (List (List ArrayNode))
padded pad rows = if longest rows == 0 then None else Some (rectangle (length rows) (longest rows) (piece_at pad rows))

abbrev pub split_text : List ℕ → List (List ℕ) → List (List ℕ) → Bool → Bool → ArrayNode → Option (List (List ArrayNode))
split_text text column_delimiters row_delimiters ignore_empty blind pad = padded pad (rows_of_pieces ignore_empty blind column_delimiters row_delimiters text)
