-- Nests that calls come to.
--   shows         a call of a nest's kinds comes to the array that the nest it asks for is
--   shows-stopped   the error of a check that isn't passed
--   literal-sound, cells-sound, reshaped-sound   nests that keep their sizes rightly
--   known-parts, kept-sizes, all-places   the sizes of nests, and what is known of these
--   fits-nest, wrong-nest, fits-sound   what is made of what is fitted
use Rattle.std.proofs.Common.{◌≡◌, ℕ, ◌+◌, ◌^◌, ◌<◌, Bool, true, false, ◌&&◌, nat_lt, if◌then◌else◌, List, [], ◌∷◌, ◌++◌, length, map, All, Option, Some, None, Result, Ok, Err, IsErrAnd, refl, sym, ap, ap₂, subst, ◌∙◌, arith, append-nil}
use Rattle.std.specs.List.{list_all}
use Rattle.std.specs.Option.{is_none, option_map_or}
use Rattle.std.proofs.lemmas.Bool.{and_from, and_parts, le-leb}
use Rattle.std.proofs.lemmas.List.Elements.{All-cons, All-nil}
use Rattle.call_core.specs.declared.function.Function.{Function}
use Rattle.call_core.specs.declared.function.Function.TheVariants as kind
use Rattle.value_core.specs.declared.array.ArrayNode.{ArrayNode}
use Rattle.value_core.specs.declared.error.Error.{Error}
use Rattle.value_core.specs.declared.position.CellReferenceIndex.{CellReferenceIndex}
use Rattle.value_core.specs.declared.position.Range.{Range}
use Rattle.book_core.specs.Contents.{Contents, no_contents}
use Rattle.validity_core.specs.Good.{is_array}
use Rattle.grid_core.specs.declared.calc_result.CalcResult.{CalcResult}
use Rattle.result_core.specs.declared.found.Found.{Found}
use Rattle.position_core.specs.Check.{counted, fitted, refused}
use Rattle.position_core.specs.Place.{HasNumbers, HasPlaces, HasPlacesIfAny, IsAsked, IsSizeOf}
use Rattle.position_core.specs.Sized.{reshaped}
use Rattle.position_core.specs.declared.reshape.Fitted.{Fitted}
use Rattle.position_core.specs.declared.reshape.Fitted.TheVariants.{Size as Fits, Wrong, TooLong}
use Rattle.position_core.specs.declared.reshape.Reshape.{Reshape}
use Rattle.position_core.specs.declared.reshape.Size.{Size}
use Rattle.array_ops.specs.Reshaped.{answered, reshaped_grid, size_of}
use Rattle.argument_core.specs.Check.{Gives, after}
use Rattle.argument_core.specs.declared.stop.Stop.{Stop}
use Rattle.argument_core.specs.declared.stop.Stop.TheVariants.{Wrong as Stopped, Memory}
use Rattle.array_functions.specs.Progression.{unless_refused}
use Rattle.own_functions.specs.Own.{call_result, own_call, own_result}
use Rattle.nest_core.specs.Asked.{arguments_refused, asked, asked_of}
use Rattle.nest_core.specs.Built.{Shows, array_found, held_in, is_constant, moved_nest, nest_asked, size_of_nest}
use Rattle.nest_core.specs.Plain.{arrays_of}
use Rattle.nest_core.specs.Rows.{rows_in}
use Rattle.nest_core.specs.Shown.{are_sizes, is_sound, known, shown, size_in}
use Rattle.nest_core.specs.declared.asked.Asked.{Asked}
use Rattle.nest_core.specs.declared.nest.Nest.{Nest}
use Rattle.nest_core.specs.declared.nest.Nest.TheVariants.{Cells, Literal, Reshaped}
use Rattle.nest_core.specs.declared.plain_nest.PlainNest.{PlainNest}
use Rattle.nest_core.proofs.Calls.{answer, asks, seen, seen-unless, sequence-is}
use Rattle.nest_core.proofs.Constants.{same-asked, same-sequence}
use Rattle.nest_core.proofs.Nests.{known-cells, known-literal, known-reshaped, own-size, same-size, shown-cells, shown-literal, shown-reshaped}
use Rattle.nest_core.proofs.Wholes.{sized-nest, some-columns, some-rows}

-- ---- what a call comes to

module _ (book : Contents) (limit : ℕ) (cell : CellReferenceIndex) where
  shown-sizes : (parts : List PlainNest) → map size_of (map (rows_in book) parts) ≡ map size_of_nest parts
  shown-sizes [] = refl
  shown-sizes (part ∷ parts) = ap₂ (λ s ss. s ∷ ss) (sym (sized-nest part.held book part.sound)) (shown-sizes parts)

  shown-parts : (parts : List PlainNest) → map (shown book) (map held_in parts) ≡ map (rows_in book) parts
  shown-parts [] = refl
  shown-parts (part ∷ parts) = ap (λ arrays. rows_in book part ∷ arrays) (shown-parts parts)

  shows-asked : (parts : List PlainNest) (found : Result Asked Error) →
      call_result cell (after found (answer limit cell (map (rows_in book) parts)))
      ≡ seen book cell (after found (moved_nest limit (map size_of_nest parts) (map held_in parts)))
  shows-asked parts (Err e) = refl
  shows-asked parts (Ok a) =
      let grid = reshaped_grid a.reshape (map (rows_in book) parts) a.pad in
      let sizes = map size_of_nest parts in
      ap (λ ss. answered (refused a.reshape ss limit) cell grid) (shown-sizes parts)
      ∙ seen-unless book limit cell (refused a.reshape sizes limit) (Reshaped a.reshape (reshaped a.reshape sizes) sizes (map held_in parts) a.pad) grid
      (shown-reshaped book a.reshape (reshaped a.reshape sizes) sizes (map held_in parts) a.pad ∙ ap (λ arrays. reshaped_grid a.reshape arrays a.pad) (shown-parts parts))

  shows-moved : (k : Function) (parts : List PlainNest) (args : List Found) → list_all is_constant args ≡ true →
      own_call book limit cell k (map (array_found book) parts ++ args)
      ≡ after (asked_of book cell k (map size_of (map (rows_in book) parts)) args) (answer limit cell (map (rows_in book) parts)) →
      own_result book limit cell k (map (array_found book) parts ++ args)
      ≡ seen book cell (after (asked_of no_contents cell k (map size_of_nest parts) args) (moved_nest limit (map size_of_nest parts) (map held_in parts)))
  shows-moved k parts args c e =
      let ends = answer limit cell (map (rows_in book) parts) in
      ap (call_result cell) e
      ∙ ap (λ ss. call_result cell (after (asked_of book cell k ss args) ends)) (shown-sizes parts)
      ∙ ap (λ found. call_result cell (after found ends)) (same-asked book cell k (map size_of_nest parts) args c)
      ∙ shows-asked parts (asked_of no_contents cell k (map size_of_nest parts) args)

  pub shows : (k : Function) (parts : List PlainNest) (args : List Found) → arguments_refused k (length parts + length args) ≡ None →
      length parts ≡ arrays_of k (length parts + length args) → list_all is_constant args ≡ true →
      own_result book limit cell k (map (array_found book) parts ++ args) ≡ seen book cell (nest_asked limit cell k parts args)
  shows kind.Sequence [] args h e c = sequence-is book limit cell args ∙ ap (seen book cell) (same-sequence book cell limit args c)
  shows kind.Sequence (part ∷ parts) args h e c = absurd (omega (arith, e))
  shows other parts args h e c = shows-moved other parts args c (asks book limit cell other parts args h e refl)

stopped : (book : Contents) (cell : CellReferenceIndex) (stop : Stop) (wanted : Result Nest Error) (result : CalcResult) → Gives (Err stop) wanted → result ≡ seen book cell wanted →
    Shows book cell (Err stop) result
stopped book cell (Stopped e) wanted result h k = k ∙ ap (seen book cell) h
stopped book cell Memory wanted result h k = tt

pub shows-stopped : (book : Contents) (cell : CellReferenceIndex) (made : Result PlainNest Stop) (stop : Stop) (wanted : Result Nest Error) (result : CalcResult) →
    IsErrAnd made (λ s. s ≡ stop) → Gives (Err stop) wanted → result ≡ seen book cell wanted → Shows book cell made result
shows-stopped book cell (Ok nest) stop wanted result h k l = absurd h
shows-stopped book cell (Err s) stop wanted result h k l = let F : Stop → Type 0 = λ z. Shows book cell (Err z) result in subst F (sym h) (stopped book cell stop wanted result k l)

-- ---- sizes that are kept

pub cells-sound : (range : Range) → is_sound (Cells range) ≡ true
cells-sound range = ap (λ (k : Size × Bool). k.1) (known-cells range)

pub literal-sound : (rows : List (List ArrayNode)) → is_array rows ≡ true → is_sound (Literal rows) ≡ true
literal-sound rows h = ap (λ (k : Size × Bool). k.1) (known-literal rows) ∙ h

pub reshaped-sound : (reshape : Reshape) (s : Size) (sizes : List Size) (parts : List Nest) (pad : ArrayNode) → are_sizes sizes (map known parts) ≡ true → 0 < length sizes →
    refused reshape sizes 16777216 ≡ None → s ≡ reshaped reshape sizes → HasPlaces s → is_sound (Reshaped reshape s sizes parts pad) ≡ true
reshaped-sound reshape s sizes parts pad known_sizes some passed whole places =
    ap (λ (k : Size × Bool). k.1) (known-reshaped reshape s sizes parts pad)
    ∙ and_from _ _ (and_from _ _ (and_from _ _ (and_from _ _ known_sizes (le-leb 1 (length sizes) some)) (ap is_none passed)) (own-size s (reshaped reshape sizes) whole))
    (and_from _ _ (le-leb 1 s.rows places.0) (le-leb 1 s.columns places.1))

pub known-parts : (parts : List PlainNest) → are_sizes (map size_of_nest parts) (map known (map held_in parts)) ≡ true
known-parts [] = refl
known-parts (part ∷ parts) = and_from _ _ (and_from _ _ (own-size (size_in part.held) (size_in part.held) refl) part.sound) (known-parts parts)

pub kept-sizes : (all left : List PlainNest) (sizes : List Size) (parts : List Nest) → length left ≡ 0 → sizes ++ map size_of_nest left ≡ map size_of_nest all → parts ++ map held_in left ≡ map held_in all →
    are_sizes sizes (map known parts) ≡ true
kept-sizes all [] sizes parts ended h k =
    ap₂ (λ ss ps. are_sizes ss (map known ps)) (sym (append-nil sizes) ∙ h) (sym (append-nil parts) ∙ k) ∙ known-parts all
kept-sizes all (part ∷ left) sizes parts ended h k = absurd (omega (arith, ended))

pub all-places : (sizes : List Size) (parts : List Nest) → are_sizes sizes (map known parts) ≡ true → All HasPlaces sizes
all-places [] [] h = All-nil HasPlaces
all-places [] (part ∷ parts) h = cc
all-places (s ∷ ss) [] h = cc
all-places (s ∷ ss) (part ∷ parts) h =
    let all = and_parts _ _ h in let here = and_parts _ _ all.0 in
    let sized = same-size s (size_in part) here.0 in
    All-cons HasPlaces s ss (subst HasPlaces (sym sized) (some-rows part here.1, some-columns part here.1)) (all-places ss parts all.1)

-- ---- what is fitted

not-wrong : (a b : Bool) (s : Size) (e : Error) → (if a && b then Fits s else TooLong) ≡ Wrong e → ⊥
not-wrong true true s e h = cc
not-wrong true false s e h = cc
not-wrong false b s e h = cc

by-refusal : (refusal : Option Error) (s : Size) (e : Error) → Wrong e ≡ option_map_or Wrong refusal (counted s) → refusal ≡ Some e
by-refusal (Some other) s e h = cc
by-refusal None s e h = absurd (not-wrong (nat_lt s.rows (2 ^ 64)) (nat_lt s.columns (2 ^ 64)) s e (sym h))

fits-refusal : (refusal : Option Error) (s t : Size) → Fits s ≡ option_map_or Wrong refusal (counted t) → refusal ≡ None
fits-refusal (Some e) s t h = cc
fits-refusal None s t h = refl

module _ (reshape : Reshape) (sizes : List Size) (parts : List Nest) (pad : ArrayNode) (limit : ℕ) where
  pub fits-nest : (found : Fitted) (s : Size) → found ≡ Fits s → found ≡ fitted reshape sizes limit → IsSizeOf reshape sizes found →
      moved_nest limit sizes parts (asked reshape pad) ≡ Ok (Reshaped reshape s sizes parts pad)
  fits-nest (Wrong e) s is h k = cc
  fits-nest TooLong s is h k = cc
  fits-nest (Fits t) s is h k =
      let same : t ≡ s = cc in
      ap (λ refusal. unless_refused refusal (Reshaped reshape (reshaped reshape sizes) sizes parts pad)) (fits-refusal (refused reshape sizes limit) t (reshaped reshape sizes) h)
      ∙ ap (λ z. Ok (Reshaped reshape z sizes parts pad)) (sym k.1 ∙ same)

  pub wrong-nest : (found : Fitted) (e : Error) → found ≡ Wrong e → found ≡ fitted reshape sizes limit → moved_nest limit sizes parts (asked reshape pad) ≡ Err e
  wrong-nest found e is h =
      ap (λ refusal. unless_refused refusal (Reshaped reshape (reshaped reshape sizes) sizes parts pad)) (by-refusal (refused reshape sizes limit) (reshaped reshape sizes) e (sym is ∙ h))

pub fits-sound : (reshape : Reshape) (sizes : List Size) (parts : List Nest) (pad : ArrayNode) (found : Fitted) (s : Size) → found ≡ Fits s → IsSizeOf reshape sizes found →
    (IsAsked reshape sizes → HasPlacesIfAny found) → HasNumbers reshape → are_sizes sizes (map known parts) ≡ true → 0 < length sizes →
    is_sound (Reshaped reshape s sizes parts pad) ≡ true
fits-sound reshape sizes parts pad (Wrong e) s is k places numbers h some = cc
fits-sound reshape sizes parts pad TooLong s is k places numbers h some = cc
fits-sound reshape sizes parts pad (Fits t) s is k places numbers h some =
    let same : t ≡ s = cc in
    ap (λ z. is_sound (Reshaped reshape z sizes parts pad)) (sym same)
    ∙ reshaped-sound reshape t sizes parts pad h some k.0 k.1 (places (record { places = all-places sizes parts h; numbers = numbers }))

pub ruleset builts = (cells-sound, literal-sound, shown-cells, shown-literal)
