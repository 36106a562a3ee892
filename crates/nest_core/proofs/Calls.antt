-- What a call of a nest's kinds comes to over arrays: its checks behind those of its arrays, and the array that they ask for.
--   after-one, after-two   checks in another grouping
--   answer, asks  what a kind comes to, by what it asks for
--   seen, seen-unless   what is seen of a nest, or of an error
--   sequence-is   SEQUENCE
use Rattle.std.proofs.Common.{◌≡◌, ℕ, suc, ℤ, ◌+◌, ◌≤◌, Bool, true, false, if◌then◌else◌, List, [], ◌∷◌, ◌++◌, length, map, Option, Some, None, Result, Ok, Err, unsigned_abs, refl, sym, ap, ◌∙◌, arith}
use Rattle.call_core.specs.declared.function.Function.{Function}
use Rattle.call_core.specs.declared.function.Function.TheVariants as kind
use Rattle.value_core.specs.declared.array.ArrayNode.{ArrayNode}
use Rattle.value_core.specs.declared.error.Error.{Error}
use Rattle.value_core.specs.declared.error.Error.TheVariants.{ERROR, VALUE}
use Rattle.value_core.specs.declared.position.CellReferenceIndex.{CellReferenceIndex}
use Rattle.number_core.specs.Whole.{floor}
use Rattle.rectangle_core.specs.Rectangle.{height, width}
use Rattle.book_core.specs.Contents.{Contents}
use Rattle.grid_core.specs.declared.calc_result.CalcResult.{CalcResult}
use Rattle.grid_core.specs.declared.calc_result.CalcResult.TheVariants as calc
use Rattle.result_core.specs.Finding.{wrong}
use Rattle.result_core.specs.declared.found.Found.{Found}
use Rattle.result_core.specs.declared.found.Found.TheVariants.{Same}
use Rattle.position_core.specs.Check.{checked, is_line}
use Rattle.position_core.specs.Sized.{size}
use Rattle.position_core.specs.declared.reshape.Size.{Size}
use Rattle.position_core.specs.declared.reshape.Reshape.{Reshape}
use Rattle.position_core.specs.declared.reshape.Reshape.TheVariants as move
use Rattle.array_ops.specs.Reshaped.{answered, not_available, reshaped_answer, reshaped_grid, size_of}
use Rattle.array_ops.specs.Sequence.{count_refused, first_of_two, sequence_answer, sequence_grid, sequence_refused}
use Rattle.argument_core.specs.Argument.{array_in, given_if, int_in, or_one, pad_in, size_in}
use Rattle.argument_core.specs.Check.{after, each, put_before}
use Rattle.array_functions.specs.Parts.{choice_in, choose_call, count_in, drop_call, take_call}
use Rattle.array_functions.specs.Progression.{count_of, sequence_call, unless_large, unless_refused}
use Rattle.array_functions.specs.Sizes.{expand_call, wrap_call}
use Rattle.array_functions.specs.Stacks.{stack_call}
use Rattle.own_functions.specs.Own.{call_result, own_call}
use Rattle.nest_core.specs.Asked.{arguments_refused, asked, asked_of, choice_asked, drop_asked, expand_asked, of_counts, sequence_asked, take_asked, wrap_asked, wrapping}
use Rattle.nest_core.specs.Built.{array_found}
use Rattle.nest_core.specs.Plain.{arrays_of, is_sequence}
use Rattle.nest_core.specs.Rows.{rows_in}
use Rattle.nest_core.specs.Shown.{shown}
use Rattle.nest_core.specs.declared.asked.Asked.{Asked}
use Rattle.nest_core.specs.declared.asked.Wrapping.{Wrapping}
use Rattle.nest_core.specs.declared.nest.Nest.{Nest}
use Rattle.nest_core.specs.declared.nest.Nest.TheVariants.{Sequence}
use Rattle.nest_core.specs.declared.plain_nest.PlainNest.{PlainNest}
use Rattle.nest_core.proofs.Counts.{Counts, between, by-none, by-one, enough}
use Rattle.nest_core.proofs.Nests.{shown-sequence}

-- ---- checks

after-one : {X Y Z : Type 0} (r : Result X Error) (f : X → Result Y Error) (g : Y → Result Z Error) → after r (λ x. after (f x) g) ≡ after (after r f) g
after-one (Ok x) f g = refl
after-one (Err e) f g = refl

after-two : {X Y Z W : Type 0} (r : Result X Error) (s : Result Y Error) (f : X → Y → Result Z Error) (g : Z → Result W Error) →
    after r (λ x. after s (λ y. after (f x y) g)) ≡ after (after r (λ x. after s (f x))) g
after-two (Ok x) (Ok y) f g = refl
after-two (Ok x) (Err e) f g = refl
after-two (Err e) s f g = refl

-- ---- one array, then other arguments

abbrev pub answer : ℕ → CellReferenceIndex → List (List (List ArrayNode)) → Asked → Result CalcResult Error
answer limit cell arrays a = Ok (reshaped_answer a.reshape arrays a.pad limit cell)

-- what is seen of a nest
abbrev pub seen : Contents → CellReferenceIndex → Result Nest Error → CalcResult
seen book cell (Ok nest) = calc.Array (shown book nest)
seen book cell (Err e) = wrong cell e

module _ (book : Contents) (limit : ℕ) (cell : CellReferenceIndex) where
  module _ (rows : List (List ArrayNode)) where
    abbrev first : List Found → List Found
    first args = Same (calc.Array rows) ∷ args

    abbrev ends : Asked → Result CalcResult Error
    ends = answer limit cell (rows ∷ [])

    asks-take : (args : List Found) → take_call book cell (first args) ≡ after (take_asked book cell args) ends
    asks-take [] = refl
    asks-take (a ∷ []) = after-one (count_in book cell a) (λ n. Ok (asked (move.Take n None) not_available)) ends
    asks-take (a ∷ b ∷ []) = after-two (count_in book cell a) (given_if (count_in book cell) (Some b)) (λ m n. Ok (asked (move.Take m n) not_available)) ends
    asks-take (a ∷ b ∷ c ∷ more) = refl

    asks-drop : (args : List Found) → drop_call book cell (first args) ≡ after (drop_asked book cell args) ends
    asks-drop [] = refl
    asks-drop (a ∷ []) = after-one (int_in book cell a) (λ n. Ok (asked (move.DropOff n None) not_available)) ends
    asks-drop (a ∷ b ∷ []) = after-two (int_in book cell a) (given_if (int_in book cell) (Some b)) (λ m n. Ok (asked (move.DropOff m n) not_available)) ends
    asks-drop (a ∷ b ∷ c ∷ more) = refl

    asks-expand : (args : List Found) → expand_call book limit cell (first args) ≡ after (expand_asked book cell (width rows) args) ends
    asks-expand [] = refl
    asks-expand (a ∷ []) = after-one (size_in book cell a) (λ n. Ok (asked (move.Expand n (width rows)) (pad_in book cell None))) ends
    asks-expand (a ∷ b ∷ []) = after-two (size_in book cell a) (size_in book cell b) (λ m n. Ok (asked (move.Expand m n) (pad_in book cell None))) ends
    asks-expand (a ∷ b ∷ c ∷ []) = after-two (size_in book cell a) (size_in book cell b) (λ m n. Ok (asked (move.Expand m n) (pad_in book cell (Some c)))) ends
    asks-expand (a ∷ b ∷ c ∷ d ∷ more) = refl

    asks-columns : (args : List Found) → choose_call width move.ChooseColumns book cell (first args) ≡ after (choice_asked move.ChooseColumns book cell (width rows) args) ends
    asks-columns [] = refl
    asks-columns (a ∷ args) = after-one (each (choice_in book cell (width rows)) (a ∷ args)) (λ numbers. Ok (asked (move.ChooseColumns numbers) not_available)) ends

    asks-rows : (args : List Found) → choose_call height move.ChooseRows book cell (first args) ≡ after (choice_asked move.ChooseRows book cell (height rows) args) ends
    asks-rows [] = refl
    asks-rows (a ∷ args) = after-one (each (choice_in book cell (height rows)) (a ∷ args)) (λ numbers. Ok (asked (move.ChooseRows numbers) not_available)) ends

    lines : (wrapper : ℕ → Reshape) (pad : ArrayNode) (is : Bool) (r : Result ℕ Error) →
        after (if is then Ok rows else Err VALUE) (λ array. after r (λ count. Ok (reshaped_answer (wrapper count) (array ∷ []) pad limit cell)))
        ≡ after (after (after (if is then Ok (size_of rows) else Err VALUE) (λ line. after r (λ count. Ok (wrapping count pad)))) (λ (parts : Wrapping). Ok (asked (wrapper parts.count) parts.pad))) ends
    lines wrapper pad false r = refl
    lines wrapper pad true (Ok count) = refl
    lines wrapper pad true (Err e) = refl

    asks-wrap : (wrapper : ℕ → Reshape) (args : List Found) → Counts 2 3 (suc (length args)) →
        wrap_call wrapper book limit cell (first args) ≡ after (wrap_asked wrapper book cell (size_of rows) args) ends
    asks-wrap wrapper [] h = absurd (omega (arith, h.0))
    asks-wrap wrapper (a ∷ []) h = lines wrapper (pad_in book cell None) (is_line (size_of rows)) (size_in book cell a)
    asks-wrap wrapper (a ∷ b ∷ []) h = lines wrapper (pad_in book cell (Some b)) (is_line (size_of rows)) (size_in book cell a)
    asks-wrap wrapper (a ∷ b ∷ c ∷ more) h = absurd (omega (arith, h.1))

  -- ---- stacks

  each-array : (parts : List PlainNest) → each (array_in book cell) (map (array_found book) parts ++ []) ≡ Ok (map (rows_in book) parts)
  each-array [] = refl
  each-array (part ∷ parts) = ap (put_before (Ok (rows_in book part))) (each-array parts)

  -- ---- by kinds

  abbrev Asks : Function → List PlainNest → List Found → Type 0
  Asks k parts args =
      own_call book limit cell k (map (array_found book) parts ++ args)
      ≡ after (asked_of book cell k (map size_of (map (rows_in book) parts)) args) (answer limit cell (map (rows_in book) parts))

  abbrev Stacked : Reshape → List PlainNest → List Found → Type 0
  Stacked stack parts args =
      stack_call stack book cell (map (array_found book) parts ++ args) ≡ Ok (calc.Array (reshaped_grid stack (map (rows_in book) parts) not_available))

  asks-stack : (stack : Reshape) (parts : List PlainNest) (args : List Found) → 1 ≤ length parts + length args → length parts ≡ length parts + length args → Stacked stack parts args
  asks-stack stack [] args h e = absurd (omega (arith, h, e))
  asks-stack stack (part ∷ parts) args h e =
      by-none (Stacked stack (part ∷ parts)) (ap (λ r. after r (λ arrays. Ok (calc.Array (reshaped_grid stack arrays not_available)))) (each-array (part ∷ parts))) args (omega (arith, e))

  pub asks : (k : Function) (parts : List PlainNest) (args : List Found) → arguments_refused k (length parts + length args) ≡ None →
      length parts ≡ arrays_of k (length parts + length args) → is_sequence k ≡ false → Asks k parts args
  asks kind.Sequence parts args h e s = cc
  asks kind.Take parts args h e s = by-one (λ ps. Asks kind.Take ps args) (λ p. asks-take (rows_in book p) args) parts e
  asks kind.Drop parts args h e s = by-one (λ ps. Asks kind.Drop ps args) (λ p. asks-drop (rows_in book p) args) parts e
  asks kind.Expand parts args h e s = by-one (λ ps. Asks kind.Expand ps args) (λ p. asks-expand (rows_in book p) args) parts e
  asks kind.Choosecols parts args h e s = by-one (λ ps. Asks kind.Choosecols ps args) (λ p. asks-columns (rows_in book p) args) parts e
  asks kind.Chooserows parts args h e s = by-one (λ ps. Asks kind.Chooserows ps args) (λ p. asks-rows (rows_in book p) args) parts e
  asks kind.Wrapcols parts args h e s =
      let c = between 2 3 (length parts + length args) h in
      by-one (λ ps. Asks kind.Wrapcols ps args) (λ p. asks-wrap (rows_in book p) move.WrapColumns args (omega (arith, c.0, e), omega (arith, c.1, e))) parts e
  asks kind.Wraprows parts args h e s =
      let c = between 2 3 (length parts + length args) h in
      by-one (λ ps. Asks kind.Wraprows ps args) (λ p. asks-wrap (rows_in book p) move.WrapRows args (omega (arith, c.0, e), omega (arith, c.1, e))) parts e
  asks kind.Transpose parts args h e s =
      let c = between 1 1 (length parts + length args) h in
      by-one (λ ps. Asks kind.Transpose ps args) (λ p. by-none (Asks kind.Transpose (p ∷ [])) refl args (omega (arith, c.1, e))) parts e
  asks kind.Hstack parts args h e s = asks-stack move.Hstack parts args (enough 1 (length parts + length args) h) e
  asks kind.Vstack parts args h e s = asks-stack move.Vstack parts args (enough 1 (length parts + length args) h) e
  asks other parts args h e s = cc

  -- ---- what is seen of a nest

  pub seen-unless : (refusal : Option Error) (nest : Nest) (grid : List (List ArrayNode)) → shown book nest ≡ grid → answered refusal cell grid ≡ seen book cell (unless_refused refusal nest)
  seen-unless None nest grid h = ap calc.Array (sym h)
  seen-unless (Some e) nest grid h = refl

  -- ---- SEQUENCE

  sequence-answered : (m n start step : ℤ) → count_refused m ≡ None → count_refused n ≡ None → checked (unsigned_abs m) (unsigned_abs n) limit ≡ None →
      sequence_answer m n start step limit cell ≡ calc.Array (shown book (Sequence (size (unsigned_abs m) (unsigned_abs n)) start step))
  sequence-answered m n start step a b c =
      let passes : sequence_refused m n limit ≡ None = λ i. first_of_two (a i) (first_of_two (b i) (c i)) in
      ap (λ refusal. answered refusal cell (sequence_grid (unsigned_abs m) (unsigned_abs n) start step)) passes
      ∙ ap calc.Array (sym (shown-sequence book (size (unsigned_abs m) (unsigned_abs n)) start step))

  with-numbers : (m n : ℤ) (t u : Result ℤ Error) → count_refused m ≡ None → count_refused n ≡ None → checked (unsigned_abs m) (unsigned_abs n) limit ≡ None →
      call_result cell (after t (λ start. after u (λ step. Ok (sequence_answer m n start step limit cell))))
      ≡ seen book cell (after t (λ start. after u (λ step. Ok (Sequence (size (unsigned_abs m) (unsigned_abs n)) start step))))
  with-numbers m n (Ok start) (Ok step) a b c = sequence-answered m n start step a b c
  with-numbers m n (Ok start) (Err e) a b c = refl
  with-numbers m n (Err e) u a b c = refl

  module _ (t u : Result ℤ Error) where
    abbrev answers : ℤ × ℤ → Result CalcResult Error
    answers counts = after t (λ start. after u (λ step. Ok (sequence_answer counts.0 counts.1 start step limit cell)))

    abbrev nests : Size → Result Nest Error
    nests s = after t (λ start. after u (λ step. Ok (Sequence s start step)))

    abbrev Agree : Result (ℤ × ℤ) Error → Type 0
    Agree counts = call_result cell (after counts answers) ≡ seen book cell (after (after counts of_counts) nests)

    with-size : (m n : ℤ) (refusal : Option Error) → checked (unsigned_abs m) (unsigned_abs n) limit ≡ refusal → count_refused m ≡ None → count_refused n ≡ None →
        Agree (unless_refused refusal (m, n))
    with-size m n None c a b = with-numbers m n t u a b c
    with-size m n (Some e) c a b = refl

    with-columns : (m n : ℤ) (refusal : Option Error) → count_refused n ≡ refusal → count_refused m ≡ None → Agree (after (unless_refused refusal n) (λ columns. unless_large limit m columns))
    with-columns m n None b a = with-size m n (checked (unsigned_abs m) (unsigned_abs n) limit) refl a b
    with-columns m n (Some e) b a = refl

    with-rows : (m : ℤ) (refusal : Option Error) (s : Result ℤ Error) → count_refused m ≡ refusal →
        Agree (after (unless_refused refusal m) (λ rows. after (after s count_of) (λ columns. unless_large limit rows columns)))
    with-rows m None (Ok number) a = with-columns m (floor number) (count_refused (floor number)) refl a
    with-rows m None (Err e) a = refl
    with-rows m (Some e) s a = refl

    sequenced-is : (r s : Result ℤ Error) → Agree (after (after r count_of) (λ rows. after (after s count_of) (λ columns. unless_large limit rows columns)))
    sequenced-is (Ok number) s = with-rows (floor number) (count_refused (floor number)) s refl
    sequenced-is (Err e) s = refl

  pub sequence-is : (args : List Found) → call_result cell (sequence_call book limit cell args) ≡ seen book cell (sequence_asked book limit cell args)
  sequence-is [] = refl
  sequence-is (a ∷ []) = sequenced-is (or_one book cell None) (or_one book cell None) (or_one book cell (Some a)) (or_one book cell None)
  sequence-is (a ∷ b ∷ []) = sequenced-is (or_one book cell None) (or_one book cell None) (or_one book cell (Some a)) (or_one book cell (Some b))
  sequence-is (a ∷ b ∷ c ∷ []) = sequenced-is (or_one book cell (Some c)) (or_one book cell None) (or_one book cell (Some a)) (or_one book cell (Some b))
  sequence-is (a ∷ b ∷ c ∷ d ∷ []) = sequenced-is (or_one book cell (Some c)) (or_one book cell (Some d)) (or_one book cell (Some a)) (or_one book cell (Some b))
  sequence-is (a ∷ b ∷ c ∷ d ∷ e ∷ more) = refl
