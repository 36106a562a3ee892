-- What stands at the places of an array. Place 0 is the first.
--
-- `◌>>=◌`      goes on with what was found
-- `elements_of`  the elements of an array, in order
-- `places_in`  the elements of a value that is an array
-- `if_long`    what is found, if the array has that many elements
-- `u32_in`     the whole number from 0 to 2^32 - 1 that a value is
-- `u32_at`     a whole number from 0 to 2^32 - 1
-- `id_at`      a whole number from 0 to 2^32 - 1, or null, which is no number
-- `i32_at`     a whole number from -2^31 to 2^31 - 1
-- `i64_at`     a whole number from -2^63 to 2^63 - 1
-- `truth_at`   a truth value
-- `text_at`    a text
-- `name_at`    a text, or null, which is no name
use Rattle.std.specs.Prelude.{ℕ, ◌^◌, ◌==◌, ◌&&◌, ℤ, pos, negsuc, List, [], ◌∷◌, length, slice_get, Bool, nat_lt, int_le, is_some, if◌then◌else◌, Option, Some, None, option_map, option_and_then}
use Rattle.serde_json.specs.Data.{Data, Items, no_items, item}
use Rattle.serde_json.specs.Find.{as_array, as_null, as_bool, as_number, as_str, as_u64, as_i64}

infixl 10 ◌>>=◌
abbrev pub ◌>>=◌ : {A B : Type 0} → Option A → (A → Option B) → Option B
found >>= more = option_and_then more found

abbrev pub elements_of : Items → List Data
elements_of no_items = []
elements_of (item datum items) = datum ∷ elements_of items

unfoldable pub places_in : Data → Option (List Data)
places_in datum = option_map elements_of (as_array datum)

abbrev pub if_long : {A : Type 0} → ℕ → List Data → Option A → Option A
if_long count places found = if length places == count then found else None

unfoldable pub u32_in : Data → Option ℕ
u32_in datum = do
  number ← as_number datum
  whole ← as_u64 number
  if nat_lt whole (2 ^ 32) then Some whole else None

unfoldable pub u32_at : ℕ → List Data → Option ℕ
u32_at place places = do
  datum ← slice_get places place
  u32_in datum

unfoldable pub id_at : ℕ → List Data → Option (Option ℕ)
id_at place places = do
  datum ← slice_get places place
  if is_some (as_null datum) then Some None else option_map Some (u32_in datum)

unfoldable pub i64_at : ℕ → List Data → Option ℤ
i64_at place places = do
  datum ← slice_get places place
  number ← as_number datum
  as_i64 number

unfoldable pub i32_at : ℕ → List Data → Option ℤ
i32_at place places = do
  whole ← i64_at place places
  if int_le (negsuc 2147483647) whole && int_le whole (pos 2147483647) then Some whole else None

unfoldable pub truth_at : ℕ → List Data → Option Bool
truth_at place places = do
  datum ← slice_get places place
  as_bool datum

unfoldable pub text_at : ℕ → List Data → Option (List ℕ)
text_at place places = do
  datum ← slice_get places place
  as_str datum

unfoldable pub name_at : ℕ → List Data → Option (Option (List ℕ))
name_at place places = do
  datum ← slice_get places place
  if is_some (as_null datum) then Some None else option_map Some (as_str datum)
