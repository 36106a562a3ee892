-- A loop over elements that collects what is found at each of them.
use Rattle.std.proofs.Common.{◌≡◌, ℕ, List, [], ◌++◌, drop, map, Option, Some, None, option_map, refl, sym, ap, ◌∙◌}
use Rattle.std.proofs.lemmas.List.{drop-map, map-append}
use Rattle.value_json.specs.Traverse.{traverse}

-- what was found, and behind it what is found later
abbrev pub after : {B : Type 0} → List B → Option (List B) → Option (List B)
after found later = option_map (λ rest. found ++ rest) later

-- the whole is what was found so far, and behind it what is found from the place i on
abbrev pub Reached : {A D B : Type 0} → (D → Option B) → (A → D) → List A → Option (List B) → List B → ℕ → Type 0
Reached find seen elements whole found i = whole ≡ after found (traverse find (map seen (drop i elements)))

after-none : {B : Type 0} (later : Option (List B)) → later ≡ after [] later
after-none None = refl
after-none (Some found) = refl

-- before the first element that counts, nothing was found
pub reached-first : {A D B : Type 0} (find : D → Option B) (seen : A → D) (elements : List A) (found : List B) (from : ℕ) → found ≡ [] → Reached find seen elements (traverse find (drop from (map seen elements))) found from
reached-first find seen elements found from none =
    ap (traverse find) (drop-map seen from elements)
    ∙ after-none (traverse find (map seen (drop from elements)))
    ∙ ap (λ found. after found (traverse find (map seen (drop from elements)))) (sym none)

pub ruleset appended = (map-append)
