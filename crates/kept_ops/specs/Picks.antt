-- Which rows, or which columns, are taken.
--   pick_count  how many of so many
--   pick_at     the number of one of them
use Rattle.std.specs.Prelude.{ℕ, ◌+◌, ◌-◌, length, slice_index}
use Rattle.kept_ops.specs.declared.part.Picks.{Picks}
use Rattle.kept_ops.specs.declared.part.Picks.TheVariants.{All, Kept, Span}

abbrev pub pick_count : Picks → ℕ → ℕ
pick_count All count = count
pick_count (Kept kept) count = length kept.now
pick_count (Span start stop) count = stop - start

abbrev pub pick_at : Picks → ℕ → ℕ
pick_at All index = index
pick_at (Kept kept) index = slice_index kept.now index
pick_at (Span start stop) index = start + index
