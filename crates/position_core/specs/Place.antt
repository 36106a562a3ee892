-- The places of an answer.
--   HasPlaces      at least one row and one column
--   HasNumbers     a call that goes by numbers has one
--   IsAsked        a call with arrays that all have places, and with numbers
--   IsSizeOf       what is fitted, where it is a size, is that of an answer which the call gives under the greatest limit
--   HasPlacesIfAny what is fitted, where it is a size, has places
--   IsPlace        the call gives an array, and a place lies in it
use Rattle.std.specs.Prelude.{◌≡◌, ℕ, ◌<◌, ◌≤◌, List, length, None, All, ⊤}
use Rattle.position_core.specs.Sized.{reshaped}
use Rattle.position_core.specs.Check.{refused}
use Rattle.position_core.specs.declared.reshape.Size.{Size}
use Rattle.position_core.specs.declared.reshape.Fitted.{Fitted}
use Rattle.position_core.specs.declared.reshape.Fitted.TheVariants.{Size as Fits, Wrong, TooLong}
use Rattle.position_core.specs.declared.reshape.Reshape.{Reshape}
use Rattle.position_core.specs.declared.reshape.Reshape.TheVariants.{ChooseColumns, ChooseRows}

abbrev pub HasPlaces : Size → Type 0
HasPlaces s = (1 ≤ s.rows) × (1 ≤ s.columns)

abbrev pub HasNumbers : Reshape → Type 0
HasNumbers (ChooseColumns numbers) = 0 < length numbers
HasNumbers (ChooseRows numbers) = 0 < length numbers
HasNumbers reshape = ⊤

pub record IsAsked (reshape : Reshape) (sizes : List Size) : Type 0 where
  pub places : All HasPlaces sizes
  pub numbers : HasNumbers reshape

abbrev pub IsSizeOf : Reshape → List Size → Fitted → Type 0
IsSizeOf reshape sizes (Fits s) = (refused reshape sizes 16777216 ≡ None) × (s ≡ reshaped reshape sizes)
IsSizeOf reshape sizes (Wrong _) = ⊤
IsSizeOf reshape sizes TooLong = ⊤

abbrev pub HasPlacesIfAny : Fitted → Type 0
HasPlacesIfAny (Fits s) = HasPlaces s
HasPlacesIfAny (Wrong _) = ⊤
HasPlacesIfAny TooLong = ⊤

pub record IsPlace (reshape : Reshape) (sizes : List Size) (row column : ℕ) : Type 0 where
  pub some : 0 < length sizes
  pub fits : refused reshape sizes 16777216 ≡ None
  pub row_within : row < (reshaped reshape sizes).rows
  pub column_within : column < (reshaped reshape sizes).columns
