-- Where the element at a place of the answer comes from. Places and indices count from 0.
--   wrapped         an element of one row or one column by its index, or the pad past its end
--   beside, below   a place in the arrays beside or below each other, of which the first has this index
--   position        where the element at row i and column j comes from
--   IsWithin        a part lies in its array
use Rattle.std.specs.Prelude.{ℕ, pos, ◌+◌, ◌-◌, ◌*◌, ◌<◌, ◌&&◌, if◌then◌else◌, nat_lt, nat_eq, List, [], ◌∷◌, length, slice_index_or, ⊤}
use Rattle.position_core.specs.Axis.{taken_from, taken_from_if, dropped_from, dropped_from_if, chosen}
use Rattle.position_core.specs.Sized.{size, the, cells}
use Rattle.position_core.specs.declared.reshape.Size.{Size}
use Rattle.position_core.specs.declared.position.Position.{Position}
use Rattle.position_core.specs.declared.position.Position.TheVariants.{Part, Pad, NotAvailable}
use Rattle.position_core.specs.declared.reshape.Reshape.{Reshape}
use Rattle.position_core.specs.declared.reshape.Reshape.TheVariants.{Take, DropOff, Expand, Transpose, WrapRows, WrapColumns, ChooseColumns, ChooseRows, Hstack, Vstack}

abbrev pub wrapped : Size → ℕ → Position
wrapped s n = if nat_lt n (cells s) then if nat_eq s.rows 1 then Part 0 0 n else Part 0 n 0 else Pad

abbrev pub beside : List Size → ℕ → ℕ → ℕ → Position
beside [] index i j = NotAvailable
beside (s ∷ ss) index i j = if nat_lt j s.columns then if nat_lt i s.rows then Part index i j else NotAvailable else beside ss (index + 1) i (j - s.columns)

abbrev pub below : List Size → ℕ → ℕ → ℕ → Position
below [] index i j = NotAvailable
below (s ∷ ss) index i j = if nat_lt i s.rows then if nat_lt j s.columns then Part index i j else NotAvailable else below ss (index + 1) (i - s.rows) j

abbrev pub position : Reshape → List Size → ℕ → ℕ → Position
position (Take rows columns) sizes i j = Part 0 (i + taken_from rows (the sizes).rows) (j + taken_from_if columns (the sizes).columns)
position (DropOff rows columns) sizes i j = Part 0 (i + dropped_from rows (the sizes).rows) (j + dropped_from_if columns (the sizes).columns)
position (Expand rows columns) sizes i j = if nat_lt i (the sizes).rows && nat_lt j (the sizes).columns then Part 0 i j else Pad
position Transpose sizes i j = Part 0 j i
position (WrapRows count) sizes i j = wrapped (the sizes) (i * count + j)
position (WrapColumns count) sizes i j = wrapped (the sizes) (j * count + i)
position (ChooseColumns numbers) sizes i j = Part 0 i (chosen (slice_index_or numbers j (pos 0)) (the sizes).columns)
position (ChooseRows numbers) sizes i j = Part 0 (chosen (slice_index_or numbers i (pos 0)) (the sizes).rows) j
position Hstack sizes i j = beside sizes 0 i j
position Vstack sizes i j = below sizes 0 i j

abbrev pub IsWithin : Position → List Size → Type 0
IsWithin (Part index row column) sizes = (index < length sizes) × (row < (slice_index_or sizes index (size 0 0)).rows) × (column < (slice_index_or sizes index (size 0 0)).columns)
IsWithin Pad sizes = ⊤
IsWithin NotAvailable sizes = ⊤
