-- Values that fit shapes.
--   size_fits             a value that fits has a size that fits
--   combined_fits         the greater size fits the shape of both side by side
--   scalar_arguments_fit  the greatest size among some values fits the shape over all of theirs
use Rattle.std.proofs.Common.{◌≡◌, ℕ, ◌≤◌, max, ℤ, pos, ◌≤ℤ◌, int_lt, Bool, true, false, ◌||◌, cond, List, [], ◌∷◌, map, fold, All, refl, arith}
use Rattle.std.specs.List.{AllZip}
use Rattle.std.proofs.lemmas.Int.{ints, clamps}
use Rattle.std.proofs.lemmas.List.Elements.{All-head, All-tail}
use Rattle.rectangle_core.specs.Rectangle.{height, width}
use Rattle.rectangle_core.specs.declared.value.Value.{Value}
use Rattle.rectangle_core.specs.declared.value.Value.TheVariants.{One, Missing, Grid}
use Rattle.kind_values.specs.Size.{rows_of, columns_of, greatest}
use Rattle.kind_table.specs.declared.static_result.StaticResult.{StaticResult}
use Rattle.kind_table.specs.declared.static_result.StaticResult.TheVariants.{Scalar, Array, Range, Unknown}
use Rattle.kind_table.specs.Fit.{SizeFits, Fits}
use Rattle.kind_table.specs.Shape.{IsWellFormed, combined, reduced, scalar_arguments}
use Rattle.kind_table.specs.ShapeLaws.{combined_well_formed}

pub one_fits : (shape : StaticResult) → IsWellFormed shape → SizeFits shape 1 1
one_fits Scalar p = (omega arith, omega arith)
one_fits (Array a b) p = p
one_fits (Range a b) p = p
one_fits Unknown p = tt

pub size_fits : (shape : StaticResult) (value : Value) → IsWellFormed shape → Fits shape value → SizeFits shape (rows_of value) (columns_of value)
size_fits shape (One element) p fit = one_fits shape p
size_fits shape Missing p fit = one_fits shape p
size_fits shape (Grid rows) p fit = fit

pub combined_fits : (s t : StaticResult) (h w k v : ℕ) → IsWellFormed s → IsWellFormed t → SizeFits s h w → SizeFits t k v → SizeFits (combined s t) (max h k) (max w v)
combined_fits Unknown t h w k v p q e f = tt
combined_fits Scalar Unknown h w k v p q e f = tt
combined_fits (Array a b) Unknown h w k v p q e f = tt
combined_fits (Range a b) Unknown h w k v p q e f = tt
combined_fits Scalar Scalar h w k v p q e f = (omega arith, omega arith)
combined_fits Scalar (Array c d) h w k v p q e f = (omega (arith, ints), omega (arith, ints))
combined_fits Scalar (Range c d) h w k v p q e f = (omega (arith, ints), omega (arith, ints))
combined_fits (Array a b) Scalar h w k v p q e f = (omega (arith, ints), omega (arith, ints))
combined_fits (Range a b) Scalar h w k v p q e f = (omega (arith, ints), omega (arith, ints))
combined_fits (Array a b) (Array c d) h w k v p q e f = (omega (arith, ints, clamps), omega (arith, ints, clamps))
combined_fits (Array a b) (Range c d) h w k v p q e f = (omega (arith, ints, clamps), omega (arith, ints, clamps))
combined_fits (Range a b) (Array c d) h w k v p q e f = (omega (arith, ints, clamps), omega (arith, ints, clamps))
combined_fits (Range a b) (Range c d) h w k v p q e f = (omega (arith, ints, clamps), omega (arith, ints, clamps))

fold_fits : (s : StaticResult) (ss : List StaticResult) (vs : List Value) (h w : ℕ) → IsWellFormed s → SizeFits s h w → All IsWellFormed ss → AllZip Fits ss vs
    → SizeFits (fold combined s ss) (fold max h (map rows_of vs)) (fold max w (map columns_of vs))
fold_fits s [] [] h w p e each fit = e
fold_fits s [] (v ∷ vs) h w p e each fit = absurd fit
fold_fits s (t ∷ ts) [] h w p e each fit = absurd fit
fold_fits s (t ∷ ts) (v ∷ vs) h w p e each fit =
    let q = All-head IsWellFormed t ts each in
    fold_fits (combined s t) ts vs (max h (rows_of v)) (max w (columns_of v)) (combined_well_formed s t p q)
    (combined_fits s t h w (rows_of v) (columns_of v) p q e (size_fits t v q fit.0)) (All-tail IsWellFormed t ts each) fit.1

reduced_by : (a b : ℤ) (h w : ℕ) (test : Bool) → (int_lt (pos 1) a || int_lt (pos 1) b) ≡ test → SizeFits (Array a b) h w → SizeFits (cond test (Array a b) Scalar) h w
reduced_by a b h w true t e = e
reduced_by a b h w false t e = (grind (arith, ints), grind (arith, ints))

reduced_fits : (s : StaticResult) (h w : ℕ) → SizeFits s h w → SizeFits (reduced s) h w
reduced_fits Scalar h w e = e
reduced_fits (Array a b) h w e = reduced_by a b h w _ refl e
reduced_fits (Range a b) h w e = e
reduced_fits Unknown h w e = e

pub scalar_arguments_fit : (ss : List StaticResult) (vs : List Value) → All IsWellFormed ss → AllZip Fits ss vs
    → SizeFits (scalar_arguments ss) (greatest (map rows_of vs)) (greatest (map columns_of vs))
scalar_arguments_fit ss vs each fit = reduced_fits (fold combined Scalar ss) _ _ (fold_fits Scalar ss vs 1 1 tt (omega arith, omega arith) each fit)
