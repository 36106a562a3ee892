-- The answers of OFFSET fit.
--   offset-fits   the law for OFFSET
use Rattle.std.proofs.Common.{◌≡◌, ℤ, pos, negsuc, ◌+ℤ◌, arith, true, ◌&&◌, List, [], ◌∷◌, Option, Some, None, Result, Ok, Err, refl, sym, subst, ap, ap₂}
use Rattle.std.specs.Bool.{⊤}
use Rattle.std.specs.Int.{int_gap}
use Rattle.std.specs.List.{AllZip}
use Rattle.std.proofs.lemmas.Int.{ints}
use Rattle.call_core.specs.declared.function.Function.TheVariants.{Offset}
use Rattle.value_core.specs.declared.error.Error.{Error}
use Rattle.value_core.specs.declared.position.CellReferenceIndex.{CellReferenceIndex}
use Rattle.book_core.specs.Contents.{Contents}
use Rattle.grid_core.specs.declared.calc_result.CalcResult.{CalcResult}
use Rattle.grid_core.specs.declared.calc_result.CalcResult.TheVariants as calc
use Rattle.kind_table.specs.OwnRow.{is_one, is_reference, own_row, unless_varied}
use Rattle.kind_table.specs.declared.shown.Shown.{Shown}
use Rattle.kind_table.specs.declared.shown.Shown.TheVariants as shown
use Rattle.kind_table.specs.declared.static_result.StaticResult.{StaticResult}
use Rattle.kind_table.specs.declared.static_result.StaticResult.TheVariants.{Scalar}
use Rattle.reference_core.specs.Offset.{cell_on_sheet, extent_of, extents_refused, first_cell, first_line, last_cell, moved_range, offset_of, range_on_sheet, unless_refused}
use Rattle.result_core.specs.Finding.{with_reference}
use Rattle.result_core.specs.Single.{range_in}
use Rattle.result_core.specs.declared.found.Found.{Found}
use Rattle.result_core.specs.declared.found.Found.TheVariants.{Same}
use Rattle.argument_core.specs.Check.{after}
use Rattle.argument_core.specs.Argument.{given_if, number_in}
use Rattle.reference_functions.specs.Offsetting.{moved_in, moved_result, offset_call, range_result}
use Rattle.reference_fits.specs.Known.{IsOneCell, ShownIs}
use Rattle.reference_fits.specs.AnswersFit.{AnswerFits}
use Rattle.reference_fits.proofs.Sizes.{after-fits, cell-fits, unknown-fits}

no-gap : (x : ℤ) → pos (int_gap x x) ≡ pos 0
no-gap (pos n) = ap pos (omega arith)
no-gap (negsuc n) = ap pos (omega arith)

plus-none : (z : ℤ) → z +ℤ pos 0 ≡ z
plus-none z = omega (arith, ints)

-- a size that was given, if it was, is of one line
abbrev IsSingle : Result (Option ℤ) Error → Type 0
IsSingle (Ok size) = (x : ℤ) → extent_of x x size ≡ pos 0
IsSingle (Err e) = ⊤

module _ (book : Contents) (cell : CellReferenceIndex) where
  one-range : (at : Option CellReferenceIndex) → AnswerFits book Scalar (after (range_on_sheet at at) (λ range. Ok (range_result range)))
  one-range (Some at) = cell-fits book Scalar at (omega arith, omega arith)
  one-range None = tt

  last-is-first : (at : CellReferenceIndex) (rows columns : ℤ) → last_cell at rows columns (record { height = pos 0; width = pos 0 }) ≡ first_cell at rows columns
  last-is-first at rows columns = ap₂ (cell_on_sheet at.sheet) (plus-none (first_line at.row rows)) (plus-none (first_line at.column columns))

  none-moved : (at : CellReferenceIndex) (rows columns : ℤ)
      → AnswerFits book Scalar (after (moved_range at rows columns (record { height = pos 0; width = pos 0 })) (λ range. Ok (range_result range)))
  none-moved at rows columns = subst (λ (end : Option CellReferenceIndex). AnswerFits book Scalar (after (range_on_sheet (first_cell at rows columns) end) (λ range. Ok (range_result range))))
      (sym (last-is-first at rows columns)) (one-range (first_cell at rows columns))

  sized-moved : (at : CellReferenceIndex) (rows columns height width : ℤ) → height ≡ pos 0 → width ≡ pos 0
      → AnswerFits book Scalar (after (unless_refused (extents_refused (record { height = height; width = width })) (moved_range at rows columns (record { height = height; width = width }))) (λ range. Ok (range_result range)))
  sized-moved at rows columns height width h w =
      subst (λ (x : ℤ). AnswerFits book Scalar (after (unless_refused (extents_refused (record { height = x; width = width })) (moved_range at rows columns (record { height = x; width = width }))) (λ range. Ok (range_result range)))) (sym h)
      (subst (λ (x : ℤ). AnswerFits book Scalar (after (unless_refused (extents_refused (record { height = pos 0; width = x })) (moved_range at rows columns (record { height = pos 0; width = x }))) (λ range. Ok (range_result range)))) (sym w)
      (none-moved at rows columns))

  moved-fits : (at : CellReferenceIndex) (rows columns : ℤ) (height width : Option ℤ) → extent_of at.row at.row height ≡ pos 0 → extent_of at.column at.column width ≡ pos 0
      → AnswerFits book Scalar (moved_result (record { left = at; right = at }) rows columns height width)
  unfolding offset_of
  moved-fits at rows columns height width h w = sized-moved at rows columns (extent_of at.row at.row height) (extent_of at.column at.column width) h w

  sized : (at : CellReferenceIndex) (rows columns : ℤ) (height width : Result (Option ℤ) Error) → IsSingle height → IsSingle width
      → AnswerFits book Scalar (after height (λ h. after width (λ w. moved_result (record { left = at; right = at }) rows columns h w)))
  sized at rows columns (Ok height) (Ok width) h w = moved-fits at rows columns height width (h at.row) (w at.column)
  sized at rows columns (Ok height) (Err e) h w = tt
  sized at rows columns (Err e) width h w = tt

  -- the arguments of a height and of a width
  none-given : IsSingle (given_if (number_in book cell) None)
  none-given = no-gap

  one-given : (found : Found) → found ≡ Same (calc.Number (pos 1000000)) → IsSingle (given_if (number_in book cell) (Some found))
  one-given found e = subst (λ (f : Found). IsSingle (given_if (number_in book cell) (Some f))) (sym e) (λ x. refl)

  single-in : (at : CellReferenceIndex) (second third : Found) (fourth fifth : Option Found)
      → IsSingle (given_if (number_in book cell) fourth) → IsSingle (given_if (number_in book cell) fifth)
      → AnswerFits book Scalar (moved_in book cell (record { left = at; right = at }) second third fourth fifth)
  single-in at second third fourth fifth h w =
      after-fits book Scalar (number_in book cell second) _ (λ rows. after-fits book Scalar (number_in book cell third) _ (λ columns.
      sized at rows columns (given_if (number_in book cell) fourth) (given_if (number_in book cell) fifth) h w))

  single-fits : (made : CalcResult) → IsOneCell made → (second third : Found) (fourth fifth : Option Found)
      → IsSingle (given_if (number_in book cell) fourth) → IsSingle (given_if (number_in book cell) fifth)
      → AnswerFits book Scalar (after (range_in made) (λ reference. moved_in book cell reference second third fourth fifth))
  single-fits (calc.Range left right) e second third fourth fifth h w =
      subst (λ (end : CellReferenceIndex). AnswerFits book Scalar (moved_in book cell (record { left = left; right = end }) second third fourth fifth)) e (single-in left second third fourth fifth h w)
  single-fits (calc.Number n) e second third fourth fifth h w = tt
  single-fits (calc.Boolean b) e second third fourth fifth h w = tt
  single-fits (calc.String text) e second third fourth fifth h w = tt
  single-fits (calc.Error x origin) e second third fourth fifth h w = tt
  single-fits (calc.Array rows) e second third fourth fifth h w = tt
  single-fits calc.EmptyCell e second third fourth fifth h w = tt
  single-fits calc.EmptyArg e second third fourth fifth h w = tt

  three : (p : Shown) (a b c : Found) → ShownIs p a → AnswerFits book (unless_varied (is_reference p && true && true)) (offset_call book cell (a ∷ b ∷ c ∷ []))
  three shown.Reference a b c h = single-fits (with_reference a) h b c None None none-given none-given
  three (shown.Range row column) a b c h = unknown-fits book (offset_call book cell (a ∷ b ∷ c ∷ []))
  three shown.One a b c h = unknown-fits book (offset_call book cell (a ∷ b ∷ c ∷ []))
  three shown.Nothing a b c h = unknown-fits book (offset_call book cell (a ∷ b ∷ c ∷ []))

  four : (p t : Shown) (a b c d : Found) → ShownIs p a → ShownIs t d → AnswerFits book (unless_varied (is_reference p && is_one t && true)) (offset_call book cell (a ∷ b ∷ c ∷ d ∷ []))
  four shown.Reference shown.One a b c d h k = single-fits (with_reference a) h b c (Some d) None (one-given d k) none-given
  four shown.Reference (shown.Range row column) a b c d h k = unknown-fits book (offset_call book cell (a ∷ b ∷ c ∷ d ∷ []))
  four shown.Reference shown.Reference a b c d h k = unknown-fits book (offset_call book cell (a ∷ b ∷ c ∷ d ∷ []))
  four shown.Reference shown.Nothing a b c d h k = unknown-fits book (offset_call book cell (a ∷ b ∷ c ∷ d ∷ []))
  four (shown.Range row column) t a b c d h k = unknown-fits book (offset_call book cell (a ∷ b ∷ c ∷ d ∷ []))
  four shown.One t a b c d h k = unknown-fits book (offset_call book cell (a ∷ b ∷ c ∷ d ∷ []))
  four shown.Nothing t a b c d h k = unknown-fits book (offset_call book cell (a ∷ b ∷ c ∷ d ∷ []))

  five : (p t u : Shown) (a b c d e : Found) → ShownIs p a → ShownIs t d → ShownIs u e
      → AnswerFits book (unless_varied (is_reference p && is_one t && is_one u)) (offset_call book cell (a ∷ b ∷ c ∷ d ∷ e ∷ []))
  five shown.Reference shown.One shown.One a b c d e h k l = single-fits (with_reference a) h b c (Some d) (Some e) (one-given d k) (one-given e l)
  five shown.Reference shown.One (shown.Range row column) a b c d e h k l = unknown-fits book (offset_call book cell (a ∷ b ∷ c ∷ d ∷ e ∷ []))
  five shown.Reference shown.One shown.Reference a b c d e h k l = unknown-fits book (offset_call book cell (a ∷ b ∷ c ∷ d ∷ e ∷ []))
  five shown.Reference shown.One shown.Nothing a b c d e h k l = unknown-fits book (offset_call book cell (a ∷ b ∷ c ∷ d ∷ e ∷ []))
  five shown.Reference (shown.Range row column) u a b c d e h k l = unknown-fits book (offset_call book cell (a ∷ b ∷ c ∷ d ∷ e ∷ []))
  five shown.Reference shown.Reference u a b c d e h k l = unknown-fits book (offset_call book cell (a ∷ b ∷ c ∷ d ∷ e ∷ []))
  five shown.Reference shown.Nothing u a b c d e h k l = unknown-fits book (offset_call book cell (a ∷ b ∷ c ∷ d ∷ e ∷ []))
  five (shown.Range row column) t u a b c d e h k l = unknown-fits book (offset_call book cell (a ∷ b ∷ c ∷ d ∷ e ∷ []))
  five shown.One t u a b c d e h k l = unknown-fits book (offset_call book cell (a ∷ b ∷ c ∷ d ∷ e ∷ []))
  five shown.Nothing t u a b c d e h k l = unknown-fits book (offset_call book cell (a ∷ b ∷ c ∷ d ∷ e ∷ []))

  pub offset-fits : (shows : List Shown) (ss : List StaticResult) (args : List Found) → AllZip ShownIs shows args → AnswerFits book (own_row Offset shows ss) (offset_call book cell args)
  offset-fits shows ss [] known = tt
  offset-fits shows ss (a ∷ []) known = tt
  offset-fits shows ss (a ∷ b ∷ []) known = tt
  offset-fits [] ss (a ∷ b ∷ c ∷ args) known = absurd known
  offset-fits (p ∷ []) ss (a ∷ b ∷ c ∷ args) known = absurd known.1
  offset-fits (p ∷ q ∷ []) ss (a ∷ b ∷ c ∷ args) known = absurd known.1.1
  offset-fits (p ∷ q ∷ r ∷ []) ss (a ∷ b ∷ c ∷ []) known = three p a b c known.0
  offset-fits (p ∷ q ∷ r ∷ t ∷ shows) ss (a ∷ b ∷ c ∷ []) known = absurd known.1.1.1
  offset-fits (p ∷ q ∷ r ∷ []) ss (a ∷ b ∷ c ∷ d ∷ args) known = absurd known.1.1.1
  offset-fits (p ∷ q ∷ r ∷ t ∷ []) ss (a ∷ b ∷ c ∷ d ∷ []) known = four p t a b c d known.0 known.1.1.1.0
  offset-fits (p ∷ q ∷ r ∷ t ∷ u ∷ shows) ss (a ∷ b ∷ c ∷ d ∷ []) known = absurd known.1.1.1.1
  offset-fits (p ∷ q ∷ r ∷ t ∷ []) ss (a ∷ b ∷ c ∷ d ∷ e ∷ args) known = absurd known.1.1.1.1
  offset-fits (p ∷ q ∷ r ∷ t ∷ u ∷ []) ss (a ∷ b ∷ c ∷ d ∷ e ∷ []) known = five p t u a b c d e known.0 known.1.1.1.0 known.1.1.1.1.0
  offset-fits (p ∷ q ∷ r ∷ t ∷ u ∷ v ∷ shows) ss (a ∷ b ∷ c ∷ d ∷ e ∷ []) known = absurd known.1.1.1.1.1
  offset-fits (p ∷ q ∷ r ∷ t ∷ u ∷ shows) ss (a ∷ b ∷ c ∷ d ∷ e ∷ f ∷ args) known = tt
