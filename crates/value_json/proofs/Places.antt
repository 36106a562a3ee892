-- What is written at a place is read there.
--   elements_of-items_of, places_in-list   the elements of a written array
--   u32_at-is, id_at-is, i64_at-is, i32_at-is, truth_at-is, text_at-is, name_at-is   by the reader of the place
--   texts_in-texts_data   a list of texts
use Rattle.std.proofs.Common.{◌≡◌, ℕ, ◌<◌, ◌^◌, ℤ, pos, Bool, List, [], ◌∷◌, map, slice_get, Option, Some, None, IfSome, SFits, w32, w64, refl, ap}
use Rattle.serde_json.specs.Data.{Data, boolean, string}
use Rattle.serde_json.specs.Find.{as_str}
use Rattle.serde_json.specs.View.{items_of}
use Rattle.value_json.specs.Traverse.{traverse}
use Rattle.value_json.specs.Fields.{elements_of, places_in, u32_at, id_at, i64_at, i32_at, truth_at, text_at, name_at}
use Rattle.value_json.specs.Texts.{texts_in, texts_data}
use Rattle.value_json.specs.Piece.{list_data, whole, text_or_null, number_or_null}
use Rattle.value_json.proofs.Numbers.{as_i64-of_integer, u32_in-whole, as_i64-of_i32, is_i32}

pub elements_of-items_of : (values : List Data) → elements_of (items_of values) ≡ values
elements_of-items_of [] = refl
elements_of-items_of (value ∷ values) = ap (λ later. value ∷ later) (elements_of-items_of values)

pub places_in-list : (values : List Data) → places_in (list_data values) ≡ Some values
unfolding places_in
places_in-list values = ap Some (elements_of-items_of values)

module _ (place : ℕ) (places : List Data) where
  pub u32_at-is : (n : ℕ) → slice_get places place ≡ Some (whole (pos n)) → n < 2 ^ 32 → u32_at place places ≡ Some n
  unfolding u32_at
  u32_at-is n is below = rw is (u32_in-whole n below)

  pub id_at-is : (id : Option ℕ) → slice_get places place ≡ Some (number_or_null id) → IfSome id (λ n. n < 2 ^ 32) → id_at place places ≡ Some id
  unfolding id_at
  id_at-is None is below = rw is
  id_at-is (Some n) is below = rw (is, u32_in-whole n below)

  pub i64_at-is : (n : ℤ) → slice_get places place ≡ Some (whole n) → SFits w64 n → i64_at place places ≡ Some n
  unfolding i64_at
  i64_at-is n is fits = rw is (as_i64-of_integer n fits)

  pub i32_at-is : (n : ℤ) → slice_get places place ≡ Some (whole n) → SFits w32 n → i32_at place places ≡ Some n
  unfolding i64_at i32_at
  i32_at-is n is fits = rw (is, as_i64-of_i32 n fits, is_i32 n fits)

  pub truth_at-is : (b : Bool) → slice_get places place ≡ Some (boolean b) → truth_at place places ≡ Some b
  unfolding truth_at
  truth_at-is b is = rw is

  pub text_at-is : (text : List ℕ) → slice_get places place ≡ Some (string text) → text_at place places ≡ Some text
  unfolding text_at
  text_at-is text is = rw is

  pub name_at-is : (name : Option (List ℕ)) → slice_get places place ≡ Some (text_or_null name) → name_at place places ≡ Some name
  unfolding name_at
  name_at-is None is = rw is
  name_at-is (Some text) is = rw is

pub traverse-strings : (texts : List (List ℕ)) → traverse as_str (map string texts) ≡ Some texts
traverse-strings [] = refl
traverse-strings (text ∷ texts) = rw (traverse-strings texts)

pub texts_in-texts_data : (texts : List (List ℕ)) → texts_in (texts_data texts) ≡ Some texts
unfolding texts_in
texts_in-texts_data texts = rw (places_in-list (map string texts)) (traverse-strings texts)
