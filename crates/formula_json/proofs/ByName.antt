-- The kind of function with a name, as a search through all kinds finds it.
use Rattle.std.proofs.Common.{◌≡◌, ℕ, ◌<◌, zero, suc, Bool, true, false, cond, List, [], ◌∷◌, length, get_or, Option, Some, None, ◌↔◌, refl, sym, ap, ◌∙◌, arith}
use Rattle.std.specs.List.{find}
use Rattle.std.specs.Option.{option_map_or}
use Rattle.std.specs.Str.{bytes_eq}
use Rattle.std.proofs.lemmas.Slice.Eq.{bytes_eq-Decides}
use Rattle.call_core.specs.declared.function.Function.{Function}
use Rattle.kind_table.specs.Names.{function_name, in_order}
use Rattle.kind_table.proofs.Complete.{contained}
use Rattle.formula_json.specs.Kinds.{has_name, kind_named}

-- what a search finds passes
passes-first : {A : Type 0} (passes : Bool) (first found : A) (later : Option A) (test : A → Bool) → test first ≡ passes → (later ≡ Some found → test found ≡ true) → cond passes (Some first) later ≡ Some found → test found ≡ true
passes-first true first found later test is rest finds = let same : first ≡ found = cc in ap test (sym same) ∙ is
passes-first false first found later test is rest finds = rest finds

find-passes : {A : Type 0} (test : A → Bool) (elements : List A) (found : A) → find test elements ≡ Some found → test found ≡ true
find-passes test [] found finds = cc
find-passes test (first ∷ elements) found finds =
    passes-first (test first) first found (find test elements) test refl (find-passes test elements found) finds

-- a search that finds nothing has no element that passes
none-first : {A : Type 0} (passes : Bool) (first : A) (later : Option A) → cond passes (Some first) later ≡ None → (passes ≡ false) × (later ≡ None)
none-first true first later finds = cc
none-first false first later finds = (refl, finds)

find-none : {A : Type 0} (test : A → Bool) (elements : List A) (i : ℕ) (element : A) → i < length elements → get_or elements i element ≡ element → test element ≡ true → find test elements ≡ None → ⊥
find-none test [] i element within is passes finds = absurd (omega arith)
find-none test (first ∷ elements) zero element within is passes finds =
    let parts = none-first (test first) first (find test elements) finds in
    let one : test first ≡ true = ap test is ∙ passes in
    cc
find-none test (first ∷ elements) (suc i) element within is passes finds =
    let parts = none-first (test first) first (find test elements) finds in
    find-none test elements i element (omega arith) is passes parts.1

-- the test for a name is passed by the kinds that have it
named-if : (name : List ℕ) (has : Option (List ℕ)) → option_map_or (bytes_eq name) has false ≡ true → has ≡ Some name
named-if name None passes = cc
named-if name (Some other) passes = ap Some (sym ((bytes_eq-Decides name other).0 passes))

named-has : (name : List ℕ) (has : Option (List ℕ)) → has ≡ Some name → option_map_or (bytes_eq name) has false ≡ true
named-has name has is = ap (λ has. option_map_or (bytes_eq name) has false) is ∙ (bytes_eq-Decides name name).1 refl

-- what goes with the kinds of a name alone, is the kind that the search finds
either_found : (name : List ℕ) (result searched : Option Function) → find (has_name name) in_order ≡ searched → ((kind : Function) → (result ≡ Some kind) ↔ (function_name kind ≡ Some name)) → result ≡ searched
either_found name result (Some kind) finds goes =
    (goes kind).1 (named-if name (function_name kind) (find-passes (has_name name) in_order kind finds))
either_found name None None finds goes = refl
either_found name (Some kind) None finds goes =
    let is = (goes kind).0 refl in
    let at = contained kind name is in
    absurd (find-none (has_name name) in_order at.0 kind at.1 at.2 (named-has name (function_name kind) is) finds)

pub found_by_name : (name : List ℕ) (result : Option Function) → ((kind : Function) → (result ≡ Some kind) ↔ (function_name kind ≡ Some name)) → result ≡ kind_named name
unfolding kind_named
found_by_name name result goes = either_found name result (find (has_name name) in_order) refl goes
