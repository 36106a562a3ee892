-- What a call of a nest's kinds looks at.
--   refused   the error of a call with another count of arguments
--   there     a call that isn't refused has its arrays among its arguments
--   looks     what its array arguments are as arrays, and nothing else of them; the first that is an error is its answer
use Rattle.std.proofs.Common.{◌≡◌, ℕ, zero, suc, ◌+◌, ◌≤◌, Bool, true, false, nat_le, if◌then◌else◌, List, [], ◌∷◌, ◌++◌, length, map, Option, Some, None, Result, Ok, Err, refl, sym, ap, ◌∙◌, arith, append-nil}
use Rattle.std.proofs.lemmas.Bool.{le-leb}
use Rattle.call_core.specs.declared.function.Function.{Function}
use Rattle.call_core.specs.declared.function.Function.TheVariants as kind
use Rattle.value_core.specs.declared.array.ArrayNode.{ArrayNode}
use Rattle.value_core.specs.declared.error.Error.{Error}
use Rattle.value_core.specs.declared.error.Error.TheVariants.{ERROR}
use Rattle.value_core.specs.declared.position.CellReferenceIndex.{CellReferenceIndex}
use Rattle.book_core.specs.Contents.{Contents}
use Rattle.grid_core.specs.declared.calc_result.CalcResult.{CalcResult}
use Rattle.grid_core.specs.declared.calc_result.CalcResult.TheVariants as calc
use Rattle.result_core.specs.declared.found.Found.{Found}
use Rattle.result_core.specs.declared.found.Found.TheVariants.{Same}
use Rattle.position_core.specs.declared.reshape.Reshape.{Reshape}
use Rattle.position_core.specs.declared.reshape.Reshape.TheVariants as move
use Rattle.array_ops.specs.Reshaped.{not_available, reshaped_grid}
use Rattle.argument_core.specs.Argument.{array_in}
use Rattle.argument_core.specs.Count.{at_least_one, at_least_two, one, one_to_four, two_or_three, two_to_four}
use Rattle.argument_core.specs.Check.{after, each, put_before}
use Rattle.array_functions.specs.Sizes.{unless_block}
use Rattle.array_functions.specs.Stacks.{stack_call}
use Rattle.own_functions.specs.Own.{own_call}
use Rattle.nest_core.specs.Asked.{arguments_refused, is_between}
use Rattle.nest_core.specs.Plain.{arrays_of, is_nest_kind}
use Rattle.nest_core.proofs.Counts.{Counts, between, by-none, by-one, enough}

-- ---- how many arguments

pub there : (k : Function) (count : ℕ) → arguments_refused k count ≡ None → arrays_of k count ≤ count
there kind.Sequence count h = omega arith
there kind.Take count h = let c = between 2 3 count h in omega (arith, c.0)
there kind.Drop count h = let c = between 2 3 count h in omega (arith, c.0)
there kind.Transpose count h = let c = between 1 1 count h in omega (arith, c.0)
there kind.Expand count h = let c = between 2 4 count h in omega (arith, c.0)
there kind.Hstack count h = omega arith
there kind.Vstack count h = omega arith
there kind.Choosecols count h = let c = enough 2 count h in omega (arith, c)
there kind.Chooserows count h = let c = enough 2 count h in omega (arith, c)
there kind.Wrapcols count h = let c = between 2 3 count h in omega (arith, c.0)
there kind.Wraprows count h = let c = between 2 3 count h in omega (arith, c.0)
there other count h = cc

-- ---- checks over one array

one-array : {X Y : Type 0} (r : Result X Error) (h : List X → Result Y Error) → after r (λ x. h (x ∷ [])) ≡ after (put_before r (Ok [])) h
one-array (Ok x) h = refl
one-array (Err e) h = refl

one-line : {X Y : Type 0} (r : Result X Error) (block : X → Result X Error) (g : X → Result Y Error) (h : List X → Result Y Error) →
    ((x : X) → after (block x) g ≡ h (x ∷ [])) → after (after r block) g ≡ after (put_before r (Ok [])) h
one-line (Ok x) block g h e = e x
one-line (Err e) block g h _ = refl

-- ---- lists by their lengths

by-two : {X : Type 0} (P : List X → Type 0) → ((x : X) → P (x ∷ [])) → ((x y : X) → P (x ∷ y ∷ [])) → (xs : List X) → Counts 2 3 (suc (length xs)) → P xs
by-two P one two [] h = absurd (omega (arith, h.0))
by-two P one two (x ∷ []) h = one x
by-two P one two (x ∷ y ∷ []) h = two x y
by-two P one two (x ∷ y ∷ z ∷ more) h = absurd (omega (arith, h.1))

by-three : {X : Type 0} (P : List X → Type 0) → ((x : X) → P (x ∷ [])) → ((x y : X) → P (x ∷ y ∷ [])) → ((x y z : X) → P (x ∷ y ∷ z ∷ [])) →
    (xs : List X) → Counts 2 4 (suc (length xs)) → P xs
by-three P one two three [] h = absurd (omega (arith, h.0))
by-three P one two three (x ∷ []) h = one x
by-three P one two three (x ∷ y ∷ []) h = two x y
by-three P one two three (x ∷ y ∷ z ∷ []) h = three x y z
by-three P one two three (x ∷ y ∷ z ∷ w ∷ more) h = absurd (omega (arith, h.1))

by-some : {X : Type 0} (P : List X → Type 0) → ((x : X) (xs : List X) → P (x ∷ xs)) → (xs : List X) → 2 ≤ suc (length xs) → P xs
by-some P some [] h = absurd (omega (arith, h))
by-some P some (x ∷ xs) h = some x xs

abbrev pub as_array : List (List ArrayNode) → Found
as_array rows = Same (calc.Array rows)

module _ (book : Contents) (limit : ℕ) (cell : CellReferenceIndex) where
  abbrev pub over : Function → List Found → List (List (List ArrayNode)) → Result CalcResult Error
  over k args arrays = own_call book limit cell k (map as_array arrays ++ args)

  abbrev Looks : Function → List Found → List Found → Type 0
  Looks k founds args = own_call book limit cell k (founds ++ args) ≡ after (each (array_in book cell) founds) (over k args)

  -- ---- one array, then other arguments

  module _ (f : Found) where
    looks-take : (args : List Found) → Counts 2 3 (suc (length args)) → Looks kind.Take (f ∷ []) args
    looks-take = by-two (Looks kind.Take (f ∷ [])) (λ a. one-array (array_in book cell f) (over kind.Take (a ∷ []))) (λ a b. one-array (array_in book cell f) (over kind.Take (a ∷ b ∷ [])))

    looks-drop : (args : List Found) → Counts 2 3 (suc (length args)) → Looks kind.Drop (f ∷ []) args
    looks-drop = by-two (Looks kind.Drop (f ∷ [])) (λ a. one-array (array_in book cell f) (over kind.Drop (a ∷ []))) (λ a b. one-array (array_in book cell f) (over kind.Drop (a ∷ b ∷ [])))

    looks-expand : (args : List Found) → Counts 2 4 (suc (length args)) → Looks kind.Expand (f ∷ []) args
    looks-expand = by-three (Looks kind.Expand (f ∷ [])) (λ a. one-array (array_in book cell f) (over kind.Expand (a ∷ [])))
        (λ a b. one-array (array_in book cell f) (over kind.Expand (a ∷ b ∷ []))) (λ a b c. one-array (array_in book cell f) (over kind.Expand (a ∷ b ∷ c ∷ [])))

    looks-columns : (args : List Found) → 2 ≤ suc (length args) → Looks kind.Choosecols (f ∷ []) args
    looks-columns = by-some (Looks kind.Choosecols (f ∷ [])) (λ a args. one-array (array_in book cell f) (over kind.Choosecols (a ∷ args)))

    looks-rows : (args : List Found) → 2 ≤ suc (length args) → Looks kind.Chooserows (f ∷ []) args
    looks-rows = by-some (Looks kind.Chooserows (f ∷ [])) (λ a args. one-array (array_in book cell f) (over kind.Chooserows (a ∷ args)))

    looks-wrapcols : (args : List Found) → Counts 2 3 (suc (length args)) → Looks kind.Wrapcols (f ∷ []) args
    looks-wrapcols = by-two (Looks kind.Wrapcols (f ∷ [])) (λ a. one-line (array_in book cell f) unless_block _ (over kind.Wrapcols (a ∷ [])) (λ array. refl))
        (λ a b. one-line (array_in book cell f) unless_block _ (over kind.Wrapcols (a ∷ b ∷ [])) (λ array. refl))

    looks-wraprows : (args : List Found) → Counts 2 3 (suc (length args)) → Looks kind.Wraprows (f ∷ []) args
    looks-wraprows = by-two (Looks kind.Wraprows (f ∷ [])) (λ a. one-line (array_in book cell f) unless_block _ (over kind.Wraprows (a ∷ [])) (λ array. refl))
        (λ a b. one-line (array_in book cell f) unless_block _ (over kind.Wraprows (a ∷ b ∷ [])) (λ array. refl))

    looks-transpose : (args : List Found) → length args ≤ 0 → Looks kind.Transpose (f ∷ []) args
    looks-transpose = by-none (Looks kind.Transpose (f ∷ [])) (one-array (array_in book cell f) (over kind.Transpose []))

  -- ---- stacks

  each-array : (arrays : List (List (List ArrayNode))) → each (array_in book cell) (map as_array arrays ++ []) ≡ Ok arrays
  each-array [] = refl
  each-array (rows ∷ arrays) = ap (put_before (Ok rows)) (each-array arrays)

  module _ (stack : Reshape) where
    abbrev stacked : List (List (List ArrayNode)) → Result CalcResult Error
    stacked arrays = Ok (calc.Array (reshaped_grid stack arrays not_available))

    abbrev stack-over : List (List (List ArrayNode)) → Result CalcResult Error
    stack-over arrays = stack_call stack book cell (map as_array arrays ++ [])

    over-same : (r : Result (List (List ArrayNode)) Error) (rs : Result (List (List (List ArrayNode))) Error) →
        after (put_before r rs) stacked ≡ after (put_before r rs) stack-over
    over-same (Ok rows) (Ok arrays) = ap (λ rs. after (put_before (Ok rows) rs) stacked) (sym (each-array arrays))
    over-same (Ok rows) (Err e) = refl
    over-same (Err e) rs = refl

    looks-stack : (founds : List Found) → 1 ≤ length founds → stack_call stack book cell (founds ++ []) ≡ after (each (array_in book cell) founds) stack-over
    looks-stack [] h = absurd (omega (arith, h))
    looks-stack (f ∷ founds) h =
        ap (λ gs. after (put_before (array_in book cell f) (each (array_in book cell) gs)) stacked) (append-nil founds)
        ∙ over-same (array_in book cell f) (each (array_in book cell) founds)

  -- ---- by kinds

  pub looks : (k : Function) (founds args : List Found) → arguments_refused k (length founds + length args) ≡ None →
      length founds ≡ arrays_of k (length founds + length args) → Looks k founds args
  looks kind.Sequence founds args h e = by-none (λ fs. Looks kind.Sequence fs args) refl founds (omega (arith, e))
  looks kind.Take founds args h e =
      let c = between 2 3 (length founds + length args) h in
      by-one (λ fs. Looks kind.Take fs args) (λ f. looks-take f args (omega (arith, c.0, e), omega (arith, c.1, e))) founds e
  looks kind.Drop founds args h e =
      let c = between 2 3 (length founds + length args) h in
      by-one (λ fs. Looks kind.Drop fs args) (λ f. looks-drop f args (omega (arith, c.0, e), omega (arith, c.1, e))) founds e
  looks kind.Transpose founds args h e =
      let c = between 1 1 (length founds + length args) h in
      by-one (λ fs. Looks kind.Transpose fs args) (λ f. looks-transpose f args (omega (arith, c.1, e))) founds e
  looks kind.Expand founds args h e =
      let c = between 2 4 (length founds + length args) h in
      by-one (λ fs. Looks kind.Expand fs args) (λ f. looks-expand f args (omega (arith, c.0, e), omega (arith, c.1, e))) founds e
  looks kind.Hstack founds args h e =
      let c = enough 1 (length founds + length args) h in
      by-none (Looks kind.Hstack founds) (looks-stack move.Hstack founds (omega (arith, c, e))) args (omega (arith, e))
  looks kind.Vstack founds args h e =
      let c = enough 1 (length founds + length args) h in
      by-none (Looks kind.Vstack founds) (looks-stack move.Vstack founds (omega (arith, c, e))) args (omega (arith, e))
  looks kind.Choosecols founds args h e =
      let c = enough 2 (length founds + length args) h in
      by-one (λ fs. Looks kind.Choosecols fs args) (λ f. looks-columns f args (omega (arith, c, e))) founds e
  looks kind.Chooserows founds args h e =
      let c = enough 2 (length founds + length args) h in
      by-one (λ fs. Looks kind.Chooserows fs args) (λ f. looks-rows f args (omega (arith, c, e))) founds e
  looks kind.Wrapcols founds args h e =
      let c = between 2 3 (length founds + length args) h in
      by-one (λ fs. Looks kind.Wrapcols fs args) (λ f. looks-wrapcols f args (omega (arith, c.0, e), omega (arith, c.1, e))) founds e
  looks kind.Wraprows founds args h e =
      let c = between 2 3 (length founds + length args) h in
      by-one (λ fs. Looks kind.Wraprows fs args) (λ f. looks-wraprows f args (omega (arith, c.0, e), omega (arith, c.1, e))) founds e
  looks other founds args h e = cc

-- ---- another count of arguments

abbrev Ends : Type 0 → Error → Error → Type 0
Ends X e f = let left : Result X Error = Err e in left ≡ Err f

said : {X : Type 0} (b : Bool) (e : Error) → (if b then None else Some ERROR) ≡ Some e → Ends X ERROR e
said true e h = cc
said false e h = cc

unsaid : (b : Bool) (e : Error) → b ≡ true → (if b then None else Some ERROR) ≡ Some e → ⊥
unsaid true e g h = cc
unsaid false e g h = cc

ended : {X Y : Type 0} (r : Result X Error) (g : X → Result Y Error) (e : Error) → r ≡ Err e → after r g ≡ Err e
ended r g e h = ap (λ s. after s g) h

none-one : (args : List Found) (e : Error) → (if is_between 1 1 (length args) then None else Some ERROR) ≡ Some e → one args ≡ Err e
none-one [] e h = said false e h
none-one (a ∷ []) e h = cc
none-one (a ∷ b ∷ more) e h = said _ e h

none-two : (args : List Found) (e : Error) → (if is_between 2 3 (length args) then None else Some ERROR) ≡ Some e → two_or_three args ≡ Err e
none-two [] e h = said false e h
none-two (a ∷ []) e h = said false e h
none-two (a ∷ b ∷ []) e h = cc
none-two (a ∷ b ∷ c ∷ []) e h = cc
none-two (a ∷ b ∷ c ∷ d ∷ more) e h = said _ e h

none-three : (args : List Found) (e : Error) → (if is_between 2 4 (length args) then None else Some ERROR) ≡ Some e → two_to_four args ≡ Err e
none-three [] e h = said false e h
none-three (a ∷ []) e h = said false e h
none-three (a ∷ b ∷ []) e h = cc
none-three (a ∷ b ∷ c ∷ []) e h = cc
none-three (a ∷ b ∷ c ∷ d ∷ []) e h = cc
none-three (a ∷ b ∷ c ∷ d ∷ f ∷ more) e h = said _ e h

none-four : (args : List Found) (e : Error) → (if is_between 1 4 (length args) then None else Some ERROR) ≡ Some e → one_to_four args ≡ Err e
none-four [] e h = said false e h
none-four (a ∷ []) e h = cc
none-four (a ∷ b ∷ []) e h = cc
none-four (a ∷ b ∷ c ∷ []) e h = cc
none-four (a ∷ b ∷ c ∷ d ∷ []) e h = cc
none-four (a ∷ b ∷ c ∷ d ∷ f ∷ more) e h = said _ e h

none-some : (args : List Found) (e : Error) → (if nat_le 1 (length args) then None else Some ERROR) ≡ Some e → at_least_one args ≡ Err e
none-some [] e h = said false e h
none-some (a ∷ args) e h = absurd (unsaid _ e (le-leb 1 (suc (length args)) (omega arith)) h)

none-more : (args : List Found) (e : Error) → (if nat_le 2 (length args) then None else Some ERROR) ≡ Some e → at_least_two args ≡ Err e
none-more [] e h = said false e h
none-more (a ∷ []) e h = said false e h
none-more (a ∷ b ∷ args) e h = absurd (unsaid _ e (le-leb 2 (suc (suc (length args))) (omega arith)) h)

pub refused : (book : Contents) (limit : ℕ) (cell : CellReferenceIndex) (k : Function) (args : List Found) (e : Error) → is_nest_kind k ≡ true →
    arguments_refused k (length args) ≡ Some e → own_call book limit cell k args ≡ Err e
refused book limit cell kind.Sequence args e n h = ended (one_to_four args) _ e (none-four args e h)
refused book limit cell kind.Take args e n h = ended (two_or_three args) _ e (none-two args e h)
refused book limit cell kind.Drop args e n h = ended (two_or_three args) _ e (none-two args e h)
refused book limit cell kind.Transpose args e n h = ended (one args) _ e (none-one args e h)
refused book limit cell kind.Expand args e n h = ended (two_to_four args) _ e (none-three args e h)
refused book limit cell kind.Hstack args e n h = ended (at_least_one args) _ e (none-some args e h)
refused book limit cell kind.Vstack args e n h = ended (at_least_one args) _ e (none-some args e h)
refused book limit cell kind.Choosecols args e n h = ended (at_least_two args) _ e (none-more args e h)
refused book limit cell kind.Chooserows args e n h = ended (at_least_two args) _ e (none-more args e h)
refused book limit cell kind.Wrapcols args e n h = ended (two_or_three args) _ e (none-two args e h)
refused book limit cell kind.Wraprows args e n h = ended (two_or_three args) _ e (none-two args e h)
refused book limit cell other args e n h = cc
