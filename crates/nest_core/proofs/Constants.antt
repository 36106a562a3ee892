-- Arguments that read no cell: what a call asks of its arrays is the same over every book.
--   same-number, same-int, same-count, same-size, same-choice, same-one, same-pad   one argument
--   same-asked      by kinds
--   same-sequence   of SEQUENCE
use Rattle.std.proofs.Common.{◌≡◌, ℕ, ℤ, pos, true, if◌then◌else◌, List, [], ◌∷◌, Some, None, Result, Ok, refl, ap, ap₂}
use Rattle.std.specs.List.{list_all}
use Rattle.std.proofs.lemmas.Bool.{and_parts}
use Rattle.call_core.specs.declared.function.Function.{Function}
use Rattle.call_core.specs.declared.function.Function.TheVariants as kind
use Rattle.value_core.specs.declared.array.ArrayNode.{ArrayNode}
use Rattle.value_core.specs.declared.error.Error.{Error}
use Rattle.value_core.specs.declared.position.CellReferenceIndex.{CellReferenceIndex}
use Rattle.book_core.specs.Contents.{Contents, no_contents}
use Rattle.grid_core.specs.declared.calc_result.CalcResult.TheVariants as calc
use Rattle.result_core.specs.declared.found.Found.{Found}
use Rattle.result_core.specs.declared.found.Found.TheVariants.{Cell, Same}
use Rattle.position_core.specs.Sized.{the}
use Rattle.position_core.specs.declared.reshape.Size.{Size}
use Rattle.position_core.specs.declared.reshape.Reshape.{Reshape}
use Rattle.position_core.specs.declared.reshape.Reshape.TheVariants as move
use Rattle.argument_core.specs.Argument.{int_in, int_of, is_missing, number_in, or_one, pad_in, size_in, size_of, some_of}
use Rattle.argument_core.specs.Check.{after, each, put_before}
use Rattle.array_functions.specs.Parts.{choice_in, count_in, unless_none, unless_zero}
use Rattle.array_functions.specs.Progression.{count_of, unless_large}
use Rattle.nest_core.specs.Asked.{asked, asked_of, choice_asked, drop_asked, expand_asked, of_counts, plainly, sequence_asked, take_asked, unless_block, wrap_asked, wrapping}
use Rattle.nest_core.specs.Built.{is_constant}
use Rattle.nest_core.specs.declared.asked.Asked.{Asked}
use Rattle.nest_core.specs.declared.nest.Nest.{Nest}
use Rattle.nest_core.specs.declared.nest.Nest.TheVariants.{Sequence}

-- ---- checks by what their arguments are cast to

abbrev expanded : Result ℕ Error → Result ℕ Error → ArrayNode → Result Asked Error
expanded r s pad = after r (λ rows. after s (λ columns. Ok (asked (move.Expand rows columns) pad)))

abbrev wrapped : (ℕ → Reshape) → Size → Result ℕ Error → ArrayNode → Result Asked Error
wrapped wrapper s r pad =
    after (after (unless_block s) (λ line. after r (λ count. Ok (wrapping count pad)))) (λ parts. Ok (asked (wrapper parts.count) parts.pad))

abbrev sequenced : ℕ → Result ℤ Error → Result ℤ Error → Result ℤ Error → Result ℤ Error → Result Nest Error
sequenced limit r s t u =
    after (after (after (after r count_of) (λ rows. after (after s count_of) (λ columns. unless_large limit rows columns))) of_counts)
    (λ size. after t (λ start. after u (λ step. Ok (Sequence size start step))))

-- ---- one argument

module _ (book : Contents) (cell : CellReferenceIndex) where
  pub same-number : (found : Found) → is_constant found ≡ true → number_in book cell found ≡ number_in no_contents cell found
  same-number (Cell at) h = cc
  same-number (Same (calc.Range left right)) h = cc
  same-number (Same other) h = refl

  same-int : (found : Found) → is_constant found ≡ true → int_in book cell found ≡ int_in no_contents cell found
  same-int found h = ap (λ r. after r int_of) (same-number found h)

  same-size : (found : Found) → is_constant found ≡ true → size_in book cell found ≡ size_in no_contents cell found
  same-size found h = ap (λ r. after r size_of) (same-number found h)

  same-count : (found : Found) → is_constant found ≡ true → count_in book cell found ≡ count_in no_contents cell found
  same-count found h = ap (λ r. after r unless_zero) (same-int found h)

  same-choice : (total : ℕ) (found : Found) → is_constant found ≡ true → choice_in book cell total found ≡ choice_in no_contents cell total found
  same-choice total found h = ap (λ r. after r (unless_none total)) (same-int found h)

  same-pad : (found : Found) → is_constant found ≡ true → pad_in book cell (Some found) ≡ pad_in no_contents cell (Some found)
  same-pad (Cell at) h = cc
  same-pad (Same result) h = refl

  same-one : (found : Found) → is_constant found ≡ true → or_one book cell (Some found) ≡ or_one no_contents cell (Some found)
  same-one found h = ap (λ r. if is_missing found then Ok (pos 1000000) else r) (same-number found h)

  -- ---- by kinds

  same-take : (args : List Found) → list_all is_constant args ≡ true → take_asked book cell args ≡ take_asked no_contents cell args
  same-take [] h = refl
  same-take (a ∷ []) h = let p = and_parts _ _ h in ap (λ r. after r (λ rows. plainly (move.Take rows None))) (same-count a p.0)
  same-take (a ∷ b ∷ []) h = let p = and_parts _ _ h in let q = and_parts _ _ p.1 in
      ap₂ (λ r s. after r (λ rows. after (after s some_of) (λ columns. plainly (move.Take rows columns)))) (same-count a p.0) (same-count b q.0)
  same-take (a ∷ b ∷ c ∷ more) h = refl

  same-drop : (args : List Found) → list_all is_constant args ≡ true → drop_asked book cell args ≡ drop_asked no_contents cell args
  same-drop [] h = refl
  same-drop (a ∷ []) h = let p = and_parts _ _ h in ap (λ r. after r (λ rows. plainly (move.DropOff rows None))) (same-int a p.0)
  same-drop (a ∷ b ∷ []) h = let p = and_parts _ _ h in let q = and_parts _ _ p.1 in
      ap₂ (λ r s. after r (λ rows. after (after s some_of) (λ columns. plainly (move.DropOff rows columns)))) (same-int a p.0) (same-int b q.0)
  same-drop (a ∷ b ∷ c ∷ more) h = refl

  same-expand : (width : ℕ) (args : List Found) → list_all is_constant args ≡ true → expand_asked book cell width args ≡ expand_asked no_contents cell width args
  same-expand width [] h = refl
  same-expand width (a ∷ []) h = let p = and_parts _ _ h in ap (λ r. expanded r (Ok width) (pad_in no_contents cell None)) (same-size a p.0)
  same-expand width (a ∷ b ∷ []) h = let p = and_parts _ _ h in let q = and_parts _ _ p.1 in
      ap₂ (λ r s. expanded r s (pad_in no_contents cell None)) (same-size a p.0) (same-size b q.0)
  same-expand width (a ∷ b ∷ c ∷ []) h = let p = and_parts _ _ h in let q = and_parts _ _ p.1 in let t = and_parts _ _ q.1 in
      λ i. expanded (same-size a p.0 i) (same-size b q.0 i) (same-pad c t.0 i)
  same-expand width (a ∷ b ∷ c ∷ d ∷ more) h = refl

  same-choices : (total : ℕ) (args : List Found) → list_all is_constant args ≡ true → each (choice_in book cell total) args ≡ each (choice_in no_contents cell total) args
  same-choices total [] h = refl
  same-choices total (a ∷ args) h = let p = and_parts _ _ h in ap₂ (λ x xs. put_before x xs) (same-choice total a p.0) (same-choices total args p.1)

  same-choose : (chooser : List ℤ → Reshape) (total : ℕ) (args : List Found) → list_all is_constant args ≡ true →
      choice_asked chooser book cell total args ≡ choice_asked chooser no_contents cell total args
  same-choose chooser total [] h = refl
  same-choose chooser total (a ∷ args) h = ap (λ r. after r (λ numbers. plainly (chooser numbers))) (same-choices total (a ∷ args) h)

  same-wrap : (wrapper : ℕ → Reshape) (s : Size) (args : List Found) → list_all is_constant args ≡ true →
      wrap_asked wrapper book cell s args ≡ wrap_asked wrapper no_contents cell s args
  same-wrap wrapper s [] h = refl
  same-wrap wrapper s (a ∷ []) h = let p = and_parts _ _ h in ap (λ r. wrapped wrapper s r (pad_in no_contents cell None)) (same-size a p.0)
  same-wrap wrapper s (a ∷ b ∷ []) h = let p = and_parts _ _ h in let q = and_parts _ _ p.1 in
      ap₂ (λ r pad. wrapped wrapper s r pad) (same-size a p.0) (same-pad b q.0)
  same-wrap wrapper s (a ∷ b ∷ c ∷ more) h = refl

  pub same-asked : (k : Function) (sizes : List Size) (args : List Found) → list_all is_constant args ≡ true →
      asked_of book cell k sizes args ≡ asked_of no_contents cell k sizes args
  same-asked kind.Take sizes args h = same-take args h
  same-asked kind.Drop sizes args h = same-drop args h
  same-asked kind.Expand sizes args h = same-expand (the sizes).columns args h
  same-asked kind.Choosecols sizes args h = same-choose move.ChooseColumns (the sizes).columns args h
  same-asked kind.Chooserows sizes args h = same-choose move.ChooseRows (the sizes).rows args h
  same-asked kind.Wrapcols sizes args h = same-wrap move.WrapColumns (the sizes) args h
  same-asked kind.Wraprows sizes args h = same-wrap move.WrapRows (the sizes) args h
  same-asked other sizes args h = refl

  -- ---- SEQUENCE

  pub same-sequence : (limit : ℕ) (args : List Found) → list_all is_constant args ≡ true → sequence_asked book limit cell args ≡ sequence_asked no_contents limit cell args
  same-sequence limit [] h = refl
  same-sequence limit (a ∷ []) h = let p = and_parts _ _ h in
      λ i. sequenced limit (same-one a p.0 i) (Ok (pos 1000000)) (Ok (pos 1000000)) (Ok (pos 1000000))
  same-sequence limit (a ∷ b ∷ []) h = let p = and_parts _ _ h in let q = and_parts _ _ p.1 in
      λ i. sequenced limit (same-one a p.0 i) (same-one b q.0 i) (Ok (pos 1000000)) (Ok (pos 1000000))
  same-sequence limit (a ∷ b ∷ c ∷ []) h = let p = and_parts _ _ h in let q = and_parts _ _ p.1 in let v = and_parts _ _ q.1 in
      λ i. sequenced limit (same-one a p.0 i) (same-one b q.0 i) (same-one c v.0 i) (Ok (pos 1000000))
  same-sequence limit (a ∷ b ∷ c ∷ d ∷ []) h = let p = and_parts _ _ h in let q = and_parts _ _ p.1 in let v = and_parts _ _ q.1 in let w = and_parts _ _ v.1 in
      λ i. sequenced limit (same-one a p.0 i) (same-one b q.0 i) (same-one c v.0 i) (same-one d w.0 i)
  same-sequence limit (a ∷ b ∷ c ∷ d ∷ e ∷ more) h = refl
