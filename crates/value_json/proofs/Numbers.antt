-- Whole numbers read back, where they lie in the ranges of their types.
--   as_i64-of_integer, u32_in-whole, i32_in-whole
use Rattle.std.proofs.Common.{◌≡◌, ℕ, ◌<◌, ◌≤◌, ◌^◌, ℤ, pos, negsuc, true, ◌&&◌, int_le, SFits, w32, w64, Some, refl, arith, lt-ltb, le-leb}
use Rattle.serde_json.specs.Find.{of_integer, as_i64}
use Rattle.value_json.specs.Fields.{u32_in}
use Rattle.value_json.specs.Piece.{whole}

pub as_i64-of_integer : (n : ℤ) → SFits w64 n → as_i64 (of_integer n) ≡ Some n
as_i64-of_integer (pos n) fits = let below : n < 2 ^ 63 = fits.sfits in rw (lt-ltb _ _ below)
as_i64-of_integer (negsuc n) fits = refl

pub u32_in-whole : (n : ℕ) → n < 2 ^ 32 → u32_in (whole (pos n)) ≡ Some n
unfolding u32_in
u32_in-whole n below = rw (lt-ltb _ _ below)

-- an i32 is an i64, and passes the test for one
pub as_i64-of_i32 : (n : ℤ) → SFits w32 n → as_i64 (of_integer n) ≡ Some n
as_i64-of_i32 (pos n) fits = let small : n < 2 ^ 31 = fits.sfits in let below : n < 2 ^ 63 = omega arith in rw (lt-ltb _ _ below)
as_i64-of_i32 (negsuc n) fits = refl

pub is_i32 : (n : ℤ) → SFits w32 n → (int_le (negsuc 2147483647) n && int_le n (pos 2147483647)) ≡ true
is_i32 (pos n) fits = let small : n < 2 ^ 31 = fits.sfits in let most : n ≤ 2147483647 = omega arith in rw (le-leb _ _ most)
is_i32 (negsuc n) fits = let small : n < 2 ^ 31 = fits.sfits in let most : n ≤ 2147483647 = omega arith in rw (le-leb _ _ most)
