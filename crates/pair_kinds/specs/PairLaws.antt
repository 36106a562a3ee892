-- The second table is lawful: as shapes rise, no fewer of them are large.
--   size                  1 for a large shape, else 0
--   pair_table_is_lawful  the second table is lawful
use Rattle.std.proofs.Common.{◌≡◌, ℕ, ◌≤◌, nat_lt, nat_le, Bool, true, false, cond, List, [], ◌∷◌, count_by, sum_by, refl, arith}
use Rattle.std.specs.List.{AllZip}
use Rattle.std.proofs.lemmas.Bool.Decides.{nat_tests}
use Rattle.std.proofs.lemmas.List.Sums.{sum_by-cons}
use Rattle.kind_table.specs.declared.signature.Signature.TheVariants as signature
use Rattle.kind_table.specs.declared.static_result.StaticResult.{StaticResult}
use Rattle.kind_table.specs.declared.static_result.StaticResult.TheVariants.{Scalar, Array, Range, Unknown}
use Rattle.kind_table.specs.Shape.{IsAtMost, IsWellFormed}
use Rattle.kind_table.specs.ShapeLaws.{large_monotone}
use Rattle.kind_table.specs.Table.{IsLawful}
use Rattle.pair_kinds.specs.PairTable.{is_large, pair_table}

is_large_monotone : (lower upper : StaticResult) → IsAtMost lower upper → is_large lower ≡ true → is_large upper ≡ true
is_large_monotone lower Unknown h large = refl
is_large_monotone Scalar Scalar h large = large
is_large_monotone Scalar (Array c d) h large = cc
is_large_monotone Scalar (Range c d) h large = cc
is_large_monotone (Array a b) Scalar h large = absurd h
is_large_monotone (Array a b) (Array c d) h large = large_monotone a b c d h.0 h.1 large
is_large_monotone (Array a b) (Range c d) h large = large_monotone a b c d h.0 h.1 large
is_large_monotone (Range a b) Scalar h large = absurd h
is_large_monotone (Range a b) (Array c d) h large = absurd h
is_large_monotone (Range a b) (Range c d) h large = large_monotone a b c d h.0 h.1 large
is_large_monotone Unknown Scalar h large = absurd h
is_large_monotone Unknown (Array c d) h large = absurd h
is_large_monotone Unknown (Range c d) h large = absurd h

one_of_monotone : (low high : Bool) → (low ≡ true → high ≡ true) → cond low 1 0 ≤ cond high 1 0
one_of_monotone false high grows = omega arith
one_of_monotone true true grows = omega arith
one_of_monotone true false grows = let e = grows refl in cc

abbrev size : StaticResult → ℕ
size shape = cond (is_large shape) 1 0

larges_monotone : (lower upper : List StaticResult) → AllZip IsAtMost lower upper → sum_by size lower ≤ sum_by size upper
larges_monotone [] upper each = omega arith
larges_monotone (s ∷ ss) [] each = absurd each
larges_monotone (s ∷ ss) (t ∷ ts) each =
    omega (arith, sum_by-cons size s ss, sum_by-cons size t ts, one_of_monotone (is_large s) (is_large t) (is_large_monotone s t each.0), larges_monotone ss ts each.1)

unknown_monotone : (low high : Bool) → (low ≡ true → high ≡ true) → IsAtMost (cond low Unknown Scalar) (cond high Unknown Scalar)
unknown_monotone false high grows = tt
unknown_monotone true true grows = tt
unknown_monotone true false grows = let e = grows refl in cc

unknown_well_formed : (low : Bool) → IsWellFormed (cond low Unknown Scalar)
unknown_well_formed false = tt
unknown_well_formed true = tt

two_monotone : (few more : ℕ) → few ≤ more → nat_le 2 few ≡ true → nat_le 2 more ≡ true
two_monotone few more h two = grind (arith, nat_tests)

past : (count index : ℕ) → count ≤ index → cond (nat_lt index count) signature.Scalar signature.Error ≡ signature.Error
past count index h = let beyond : nat_lt index count ≡ false = grind (arith, nat_tests) in rw beyond

pub pair_table_is_lawful : IsLawful pair_table
pair_table_is_lawful = record {
  well_formed = λ id shapes each. unknown_well_formed (nat_le 2 (count_by is_large shapes));
  monotone = λ id lower upper each.
      unknown_monotone (nat_le 2 (count_by is_large lower)) (nat_le 2 (count_by is_large upper))
      (two_monotone (count_by is_large lower) (count_by is_large upper) (larges_monotone lower upper each));
  past_count = λ id count index h. past count index h;
  value_fits = λ id shapes values each fit. record { is_result = tt; fits = tt };
}
