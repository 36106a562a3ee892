-- Lists that a loop makes place by place, one place more.
--   tabulate-more   of what stands at each place
--   mapped-more     of what is made of it
--   all-more        whether all of it passes
--   staying-more    of what of it passes
--   scan-more       of what passes, a whole line more
--   strip-whole     one line of elements, as a rectangle
--   first_wrong-more   the first error is not at this place
use Rattle.std.proofs.Common.{◌≡◌, ℕ, ◌+◌, ◌<◌, Bool, true, false, cond, ◌&&◌, if◌then◌else◌, List, [], ◌∷◌, ◌++◌, length, get_or, map, drop, refl, sym, ap, ap₂, ◌∙◌, arith, append_assoc, append-nil, add-one, drop-cons}
use Rattle.std.proofs.lemmas.List.{get_or-map, length-map, map-append}
use Rattle.std.proofs.lemmas.List.Concat.{flat_map-append}
use Rattle.std.proofs.lemmas.List.Elements.{filter-append}
use Rattle.std.proofs.lemmas.List.Folds.{list_all-append}
use Rattle.std.proofs.lemmas.List.FromFn.{map-range_with_len_more, filter_of_map_range_with_len_more, fill_by_all}
use Rattle.std.specs.List.{filter, flat_map, list_all}
use Rattle.value_core.specs.declared.array.ArrayNode.{ArrayNode}
use Rattle.value_core.specs.declared.array.ArrayNode.TheVariants.{Empty}
use Rattle.rectangle_core.specs.Rectangle.{rectangle, tabulate}
use Rattle.kept_ops.specs.Filter.{first_wrong, or_else, wrong_of}
use Rattle.kept_ops.specs.Strip.{strip}

one-more : {X : Type 0} (f : ℕ → X) (n : ℕ) → tabulate (n + 1) f ≡ tabulate n f ++ f n ∷ []
one-more f n = map-range_with_len_more f 0 n n (omega arith)

pub tabulate-more : {X : Type 0} (f : ℕ → X) (n : ℕ) (before after : List X) (e : X) → before ≡ tabulate n f → after ≡ before ++ e ∷ [] → e ≡ f n → after ≡ tabulate (n + 1) f
tabulate-more f n before after e h k v = k ∙ ap₂ (λ front last. front ++ last ∷ []) h v ∙ sym (one-more f n)

pub mapped-more : {X Y : Type 0} (g : X → Y) (f : ℕ → X) (n : ℕ) (before after : List Y) (e : Y) →
    before ≡ map g (tabulate n f) → after ≡ before ++ e ∷ [] → e ≡ g (f n) → after ≡ map g (tabulate (n + 1) f)
mapped-more g f n before after e h k v =
    k ∙ ap₂ (λ front last. front ++ last ∷ []) h v ∙ sym (map-append g (tabulate n f) (f n ∷ [])) ∙ ap (map g) (sym (one-more f n))

and-true : (b : Bool) → (b && true) ≡ b
and-true true = refl
and-true false = refl

pub all-more : {X : Type 0} (p : X → Bool) (f : ℕ → X) (n : ℕ) (before after : Bool) →
    before ≡ list_all p (tabulate n f) → after ≡ (before && p (f n)) → after ≡ list_all p (tabulate (n + 1) f)
all-more p f n before after h k =
    k ∙ ap₂ (λ a b. a && b) h (sym (and-true (p (f n)))) ∙ sym (list_all-append p (tabulate n f) (f n ∷ [])) ∙ ap (list_all p) (sym (one-more f n))

pub staying-more : {X : Type 0} (p : X → Bool) (f : ℕ → X) (n : ℕ) (first before after : List X) (b : Bool) (e : X) →
    before ≡ first ++ filter p (tabulate n f) → b ≡ p e → e ≡ f n → after ≡ before ++ cond b (e ∷ []) [] → after ≡ first ++ filter p (tabulate (n + 1) f)
staying-more p f n first before after b e h q v k =
    k ∙ ap₂ (λ front last. front ++ last) h (ap (λ c. cond c (e ∷ []) []) q ∙ ap (λ x. cond (p x) (x ∷ []) []) v)
    ∙ append_assoc first (filter p (tabulate n f)) (cond (p (f n)) (f n ∷ []) [])
    ∙ ap (λ rest. first ++ rest) (sym (filter_of_map_range_with_len_more p f 0 n n (omega arith)))

pub scan-more : {X : Type 0} (p : X → Bool) (g : ℕ → List X) (n : ℕ) (before after : List X) →
    before ≡ filter p (flat_map (λ line. line) (tabulate n g)) → after ≡ before ++ filter p (g n) → after ≡ filter p (flat_map (λ line. line) (tabulate (n + 1) g))
scan-more p g n before after h k =
    k ∙ ap (λ front. front ++ filter p (g n)) h
    ∙ sym (filter-append p (flat_map (λ line. line) (tabulate n g)) (g n))
    ∙ ap (filter p) (ap (λ last. flat_map (λ line. line) (tabulate n g) ++ last) (sym (append-nil (g n)))
    ∙ sym (flat_map-append (λ line. line) (tabulate n g) (g n ∷ [])) ∙ ap (flat_map (λ line. line)) (sym (one-more g n)))

pub strip-whole : (as_column : Bool) (elements : List ArrayNode) →
    rectangle (if as_column then length elements else 1) (if as_column then 1 else length elements) (λ i j. get_or elements (if as_column then i else j) Empty) ≡ strip as_column elements
strip-whole true elements =
    sym (fill_by_all (λ i. get_or elements i Empty ∷ []) (map (λ element. element ∷ []) elements) (length elements) [] (length-map elements (λ element. element ∷ []))
    (λ k h. get_or-map (λ element. element ∷ []) elements k Empty [] h))
strip-whole false elements = ap (λ row. row ∷ []) (sym (fill_by_all (λ j. get_or elements j Empty) elements (length elements) Empty refl (λ k h. refl)))

pub first_wrong-more : (elements : List ArrayNode) (i : ℕ) (d : ArrayNode) → i < length elements → first_wrong (drop i elements) ≡ or_else (wrong_of (get_or elements i d)) (first_wrong (drop (i + 1) elements))
first_wrong-more elements i d h = ap first_wrong (drop-cons elements i d h ∙ ap (λ n. get_or elements i d ∷ drop n elements) (sym (add-one i)))
