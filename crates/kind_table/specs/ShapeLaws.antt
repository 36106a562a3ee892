-- Laws of shapes: their order, and what keeps it and well-formedness.
--   IsAtMost-refl, IsAtMost-unknown   every shape is at most itself, and at most Unknown
--   .._monotone     at most from arguments that are at most
--   .._well_formed  well formed from well-formed arguments
use Rattle.std.proofs.Common.{◌≡◌, ℤ, pos, ◌≤ℤ◌, int_lt, Bool, true, false, ◌||◌, cond, List, [], ◌∷◌, All, fold, refl, sym, subst, arith}
use Rattle.std.specs.Int.{int_max}
use Rattle.std.specs.List.{AllZip}
use Rattle.std.proofs.lemmas.Int.{ints, clamps}
use Rattle.std.proofs.lemmas.List.Elements.{All-head, All-tail}
use Rattle.kind_table.specs.declared.static_result.StaticResult.{StaticResult}
use Rattle.kind_table.specs.declared.static_result.StaticResult.TheVariants.{Scalar, Array, Range, Unknown}
use Rattle.kind_table.specs.Shape.{IsAtMost, IsWellFormed, as_array, as_range, combined, reduced, scalar_arguments}

pub IsAtMost-refl : (shape : StaticResult) → IsAtMost shape shape
IsAtMost-refl Scalar = tt
IsAtMost-refl (Array rows columns) = (omega (arith, ints), omega (arith, ints))
IsAtMost-refl (Range rows columns) = (omega (arith, ints), omega (arith, ints))
IsAtMost-refl Unknown = tt

pub IsAtMost-unknown : (shape : StaticResult) → IsAtMost shape Unknown
IsAtMost-unknown Scalar = tt
IsAtMost-unknown (Array rows columns) = tt
IsAtMost-unknown (Range rows columns) = tt
IsAtMost-unknown Unknown = tt

pub IsAtMost-trans : (a b c : StaticResult) → IsAtMost a b → IsAtMost b c → IsAtMost a c
IsAtMost-trans a b Unknown h k = IsAtMost-unknown a
IsAtMost-trans Scalar b c h k = tt
IsAtMost-trans (Array r s) Scalar c h k = absurd h
IsAtMost-trans (Array r s) (Array t u) Scalar h k = absurd k
IsAtMost-trans (Array r s) (Array t u) (Array v w) h k = (omega (arith, ints), omega (arith, ints))
IsAtMost-trans (Array r s) (Array t u) (Range v w) h k = (omega (arith, ints), omega (arith, ints))
IsAtMost-trans (Array r s) (Range t u) Scalar h k = absurd k
IsAtMost-trans (Array r s) (Range t u) (Array v w) h k = absurd k
IsAtMost-trans (Array r s) (Range t u) (Range v w) h k = (omega (arith, ints), omega (arith, ints))
IsAtMost-trans (Array r s) Unknown c h k = absurd k
IsAtMost-trans (Range r s) Scalar c h k = absurd h
IsAtMost-trans (Range r s) (Array t u) c h k = absurd h
IsAtMost-trans (Range r s) (Range t u) Scalar h k = absurd k
IsAtMost-trans (Range r s) (Range t u) (Array v w) h k = absurd k
IsAtMost-trans (Range r s) (Range t u) (Range v w) h k = (omega (arith, ints), omega (arith, ints))
IsAtMost-trans (Range r s) Unknown c h k = absurd k
IsAtMost-trans Unknown Scalar c h k = absurd h
IsAtMost-trans Unknown (Array t u) c h k = absurd h
IsAtMost-trans Unknown (Range t u) c h k = absurd h
IsAtMost-trans Unknown Unknown c h k = absurd k

-- ---- the greater of two dimensions

max_comm : (a b : ℤ) → int_max a b ≡ int_max b a
max_comm a b = omega (arith, ints, clamps)

max_left : (a b : ℤ) → a ≤ℤ int_max a b
max_left a b = omega (arith, ints, clamps)

max_right : (a b : ℤ) → b ≤ℤ int_max a b
max_right a b = omega (arith, ints, clamps)

max_monotone : (a b c : ℤ) → a ≤ℤ b → int_max a c ≤ℤ int_max b c
max_monotone a b c h = omega (arith, ints, clamps)

max_positive : (a b : ℤ) → pos 1 ≤ℤ a → pos 1 ≤ℤ int_max a b
max_positive a b h = omega (arith, ints, clamps)

-- ---- arrays as ranges, and back

pub as_array_monotone : (lower upper : StaticResult) → IsAtMost lower upper → IsAtMost (as_array lower) (as_array upper)
as_array_monotone Scalar upper h = tt
as_array_monotone (Array a b) Scalar h = absurd h
as_array_monotone (Array a b) (Array c d) h = h
as_array_monotone (Array a b) (Range c d) h = h
as_array_monotone (Array a b) Unknown h = tt
as_array_monotone (Range a b) Scalar h = absurd h
as_array_monotone (Range a b) (Array c d) h = absurd h
as_array_monotone (Range a b) (Range c d) h = h
as_array_monotone (Range a b) Unknown h = tt
as_array_monotone Unknown Unknown h = tt
as_array_monotone Unknown upper h = absurd h

pub as_range_monotone : (lower upper : StaticResult) → IsAtMost lower upper → IsAtMost (as_range lower) (as_range upper)
as_range_monotone Scalar upper h = tt
as_range_monotone (Array a b) Scalar h = absurd h
as_range_monotone (Array a b) (Array c d) h = h
as_range_monotone (Array a b) (Range c d) h = h
as_range_monotone (Array a b) Unknown h = tt
as_range_monotone (Range a b) Scalar h = absurd h
as_range_monotone (Range a b) (Array c d) h = absurd h
as_range_monotone (Range a b) (Range c d) h = h
as_range_monotone (Range a b) Unknown h = tt
as_range_monotone Unknown Unknown h = tt
as_range_monotone Unknown upper h = absurd h

pub as_array_well_formed : (shape : StaticResult) → IsWellFormed shape → IsWellFormed (as_array shape)
as_array_well_formed Scalar h = tt
as_array_well_formed (Array a b) h = h
as_array_well_formed (Range a b) h = h
as_array_well_formed Unknown h = tt

pub as_range_well_formed : (shape : StaticResult) → IsWellFormed shape → IsWellFormed (as_range shape)
as_range_well_formed Scalar h = tt
as_range_well_formed (Array a b) h = h
as_range_well_formed (Range a b) h = h
as_range_well_formed Unknown h = tt

-- ---- two shapes combined

pub combined_comm : (shape other : StaticResult) → combined shape other ≡ combined other shape
combined_comm Scalar Scalar = refl
combined_comm Scalar (Array c d) = refl
combined_comm Scalar (Range c d) = refl
combined_comm Scalar Unknown = refl
combined_comm (Array a b) Scalar = refl
combined_comm (Array a b) (Array c d) = rw (max_comm a c, max_comm b d)
combined_comm (Array a b) (Range c d) = rw (max_comm a c, max_comm b d)
combined_comm (Array a b) Unknown = refl
combined_comm (Range a b) Scalar = refl
combined_comm (Range a b) (Array c d) = rw (max_comm a c, max_comm b d)
combined_comm (Range a b) (Range c d) = rw (max_comm a c, max_comm b d)
combined_comm (Range a b) Unknown = refl
combined_comm Unknown Scalar = refl
combined_comm Unknown (Array c d) = refl
combined_comm Unknown (Range c d) = refl
combined_comm Unknown Unknown = refl

combined-scalar : (shape : StaticResult) → combined shape Scalar ≡ as_array shape
combined-scalar Scalar = refl
combined-scalar (Array a b) = refl
combined-scalar (Range a b) = refl
combined-scalar Unknown = refl

combined-range : (shape : StaticResult) (rows columns : ℤ) → combined shape (Range rows columns) ≡ combined shape (Array rows columns)
combined-range Scalar rows columns = refl
combined-range (Array a b) rows columns = refl
combined-range (Range a b) rows columns = refl
combined-range Unknown rows columns = refl

combined-unknown : (shape : StaticResult) → combined shape Unknown ≡ Unknown
combined-unknown Scalar = refl
combined-unknown (Array a b) = refl
combined-unknown (Range a b) = refl
combined-unknown Unknown = refl

combined_array_monotone : (lower upper : StaticResult) (rows columns : ℤ) → IsAtMost lower upper → IsAtMost (combined lower (Array rows columns)) (combined upper (Array rows columns))
combined_array_monotone lower Unknown rows columns h = IsAtMost-unknown (combined lower (Array rows columns))
combined_array_monotone Scalar Scalar rows columns h = IsAtMost-refl (Array rows columns)
combined_array_monotone Scalar (Array c d) rows columns h = (max_right c rows, max_right d columns)
combined_array_monotone Scalar (Range c d) rows columns h = (max_right c rows, max_right d columns)
combined_array_monotone (Array a b) Scalar rows columns h = absurd h
combined_array_monotone (Array a b) (Array c d) rows columns h = (max_monotone a c rows h.0, max_monotone b d columns h.1)
combined_array_monotone (Array a b) (Range c d) rows columns h = (max_monotone a c rows h.0, max_monotone b d columns h.1)
combined_array_monotone (Range a b) Scalar rows columns h = absurd h
combined_array_monotone (Range a b) (Array c d) rows columns h = absurd h
combined_array_monotone (Range a b) (Range c d) rows columns h = (max_monotone a c rows h.0, max_monotone b d columns h.1)
combined_array_monotone Unknown Scalar rows columns h = absurd h
combined_array_monotone Unknown (Array c d) rows columns h = absurd h
combined_array_monotone Unknown (Range c d) rows columns h = absurd h

pub combined_left_monotone : (lower upper other : StaticResult) → IsAtMost lower upper → IsAtMost (combined lower other) (combined upper other)
combined_left_monotone lower upper Scalar h = rw (combined-scalar lower, combined-scalar upper) (as_array_monotone lower upper h)
combined_left_monotone lower upper (Array rows columns) h = combined_array_monotone lower upper rows columns h
combined_left_monotone lower upper (Range rows columns) h =
    rw (combined-range lower rows columns, combined-range upper rows columns) (combined_array_monotone lower upper rows columns h)
combined_left_monotone lower upper Unknown h = rw (combined-unknown lower, combined-unknown upper) tt

pub combined_monotone : (lower upper other greater : StaticResult) → IsAtMost lower upper → IsAtMost other greater → IsAtMost (combined lower other) (combined upper greater)
combined_monotone lower upper other greater h k =
    let right : IsAtMost (combined upper other) (combined upper greater) = rw (combined_comm upper other, combined_comm upper greater) (combined_left_monotone other greater upper k) in
    IsAtMost-trans (combined lower other) (combined upper other) (combined upper greater) (combined_left_monotone lower upper other h) right

pub combined_well_formed : (shape other : StaticResult) → IsWellFormed shape → IsWellFormed other → IsWellFormed (combined shape other)
combined_well_formed Scalar other h k = subst IsWellFormed (combined_comm other Scalar) (subst IsWellFormed (sym (combined-scalar other)) (as_array_well_formed other k))
combined_well_formed (Array a b) Scalar h k = h
combined_well_formed (Array a b) (Array c d) h k = (max_positive a c h.0, max_positive b d h.1)
combined_well_formed (Array a b) (Range c d) h k = (max_positive a c h.0, max_positive b d h.1)
combined_well_formed (Array a b) Unknown h k = tt
combined_well_formed (Range a b) Scalar h k = h
combined_well_formed (Range a b) (Array c d) h k = (max_positive a c h.0, max_positive b d h.1)
combined_well_formed (Range a b) (Range c d) h k = (max_positive a c h.0, max_positive b d h.1)
combined_well_formed (Range a b) Unknown h k = tt
combined_well_formed Unknown other h k = tt

-- ---- a single value in place of an array of one

pub large_monotone : (a b c d : ℤ) → a ≤ℤ c → b ≤ℤ d → (int_lt (pos 1) a || int_lt (pos 1) b) ≡ true → (int_lt (pos 1) c || int_lt (pos 1) d) ≡ true
large_monotone a b c d h k large = grind (arith, ints)

keeps_array : (low high : Bool) (a b c d : ℤ) → (low ≡ true → high ≡ true) → (a ≤ℤ c) × (b ≤ℤ d) → IsAtMost (cond low (Array a b) Scalar) (cond high (Array c d) Scalar)
keeps_array false high a b c d grows h = tt
keeps_array true true a b c d grows h = h
keeps_array true false a b c d grows h = let e = grows refl in cc

keeps_range : (low : Bool) (a b c d : ℤ) → (a ≤ℤ c) × (b ≤ℤ d) → IsAtMost (cond low (Array a b) Scalar) (Range c d)
keeps_range false a b c d h = tt
keeps_range true a b c d h = h

pub reduced_monotone : (lower upper : StaticResult) → IsAtMost lower upper → IsAtMost (reduced lower) (reduced upper)
reduced_monotone lower Unknown h = IsAtMost-unknown (reduced lower)
reduced_monotone Scalar Scalar h = tt
reduced_monotone Scalar (Array c d) h = tt
reduced_monotone Scalar (Range c d) h = tt
reduced_monotone (Array a b) Scalar h = absurd h
reduced_monotone (Array a b) (Array c d) h = keeps_array _ _ a b c d (large_monotone a b c d h.0 h.1) h
reduced_monotone (Array a b) (Range c d) h = keeps_range _ a b c d h
reduced_monotone (Range a b) Scalar h = absurd h
reduced_monotone (Range a b) (Array c d) h = absurd h
reduced_monotone (Range a b) (Range c d) h = h
reduced_monotone Unknown Scalar h = absurd h
reduced_monotone Unknown (Array c d) h = absurd h
reduced_monotone Unknown (Range c d) h = absurd h

cond_well_formed : (low : Bool) (a b : ℤ) → IsWellFormed (Array a b) → IsWellFormed (cond low (Array a b) Scalar)
cond_well_formed false a b h = tt
cond_well_formed true a b h = h

pub reduced_well_formed : (shape : StaticResult) → IsWellFormed shape → IsWellFormed (reduced shape)
reduced_well_formed Scalar h = tt
reduced_well_formed (Array a b) h = cond_well_formed _ a b h
reduced_well_formed (Range a b) h = h
reduced_well_formed Unknown h = tt

-- ---- all arguments at once

fold_monotone : (a b : StaticResult) (lower upper : List StaticResult) → IsAtMost a b → AllZip IsAtMost lower upper → IsAtMost (fold combined a lower) (fold combined b upper)
fold_monotone a b [] [] h each = h
fold_monotone a b [] (t ∷ ts) h each = absurd each
fold_monotone a b (s ∷ ss) [] h each = absurd each
fold_monotone a b (s ∷ ss) (t ∷ ts) h each = fold_monotone (combined a s) (combined b t) ss ts (combined_monotone a b s t h each.0) each.1

fold_well_formed : (a : StaticResult) (shapes : List StaticResult) → IsWellFormed a → All IsWellFormed shapes → IsWellFormed (fold combined a shapes)
fold_well_formed a [] h each = h
fold_well_formed a (s ∷ ss) h each =
    fold_well_formed (combined a s) ss (combined_well_formed a s h (All-head IsWellFormed s ss each)) (All-tail IsWellFormed s ss each)

pub scalar_arguments_monotone : (lower upper : List StaticResult) → AllZip IsAtMost lower upper → IsAtMost (scalar_arguments lower) (scalar_arguments upper)
scalar_arguments_monotone lower upper each =
    reduced_monotone (fold combined Scalar lower) (fold combined Scalar upper) (fold_monotone Scalar Scalar lower upper tt each)

pub scalar_arguments_well_formed : (shapes : List StaticResult) → All IsWellFormed shapes → IsWellFormed (scalar_arguments shapes)
scalar_arguments_well_formed shapes each = reduced_well_formed (fold combined Scalar shapes) (fold_well_formed Scalar shapes tt each)
