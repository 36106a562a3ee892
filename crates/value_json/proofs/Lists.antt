-- The tokens of several values in a row.
use Rattle.std.proofs.Common.{◌≡◌, ℕ, ◌+◌, ◌<◌, ◌≤◌, List, [], ◌∷◌, ◌++◌, Some, map, take, length, refl, sym, ap, ◌∙◌, append_assoc, append-nil}
use Rattle.std.specs.List.{slice_get}
use Rattle.std.proofs.lemmas.List.{take_more, take_all, map-append}
use Rattle.std.proofs.lemmas.Option.{slice_get_within, get_or_from_slice_get}
use Rattle.json.specs.Token.{Token, begin_array, end_array, string}
use Rattle.serde_json.specs.Data.{Data}
use Rattle.value_json.specs.Piece.{data_tokens, list_tokens, rest_tokens, tagged_list}

-- an array's items are its values and the closing bracket
pub rest_tokens-is : (values : List Data) → rest_tokens values ≡ list_tokens values ++ end_array ∷ []
rest_tokens-is [] = refl
rest_tokens-is (value ∷ values) = ap (λ tokens. data_tokens value ++ tokens) (rest_tokens-is values) ∙ sym (append_assoc (data_tokens value) (list_tokens values) (end_array ∷ []))

pub list_tokens-append : (values later : List Data) → list_tokens (values ++ later) ≡ list_tokens values ++ list_tokens later
list_tokens-append [] later = refl
list_tokens-append (value ∷ values) later = ap (λ tokens. data_tokens value ++ tokens) (list_tokens-append values later) ∙ sym (append_assoc (data_tokens value) (list_tokens values) (list_tokens later))

module _ {A : Type 0} (form : A → Data) (all : List A) where
  -- the tokens of the values before a place
  abbrev pub tokens_before : ℕ → List Token
  tokens_before place = list_tokens (map form (take place all))

  pub tokens_before-more : (place : ℕ) (here : A) → slice_get all place ≡ Some here → tokens_before (place + 1) ≡ tokens_before place ++ data_tokens (form here)
  tokens_before-more place here is =
      let inside : place < length all = slice_get_within all place here is in
      ap (λ some. list_tokens (map form some)) (take_more all place here inside ∙ ap (λ x. take place all ++ x ∷ []) (get_or_from_slice_get all place here here is))
      ∙ ap list_tokens (map-append form (take place all) (here ∷ []))
      ∙ list_tokens-append (map form (take place all)) (form here ∷ [])
      ∙ ap (λ tokens. tokens_before place ++ tokens) (append-nil (data_tokens (form here)))

  pub written_more : (old now new : List Token) (place : ℕ) (here : A) → now ≡ old ++ tokens_before place → new ≡ now ++ data_tokens (form here) → slice_get all place ≡ Some here → new ≡ old ++ tokens_before (place + 1)
  written_more old now new place here so_far one is =
      one ∙ ap (λ tokens. tokens ++ data_tokens (form here)) so_far ∙ append_assoc old (tokens_before place) (data_tokens (form here)) ∙ ap (λ tokens. old ++ tokens) (sym (tokens_before-more place here is))

  -- past the last value all are written
  pub written_all : (old now : List Token) (place : ℕ) → now ≡ old ++ tokens_before place → length all ≤ place → now ≡ old ++ list_tokens (map form all)
  written_all old now place so_far past = so_far ∙ ap (λ some. old ++ list_tokens (map form some)) (take_all place all past)

-- values behind others, and the end of their array
pub ended : (old last new : List Token) (values : List Data) → last ≡ old ++ list_tokens values → new ≡ last ++ end_array ∷ [] → new ≡ old ++ rest_tokens values
ended old last new values all end =
    end ∙ ap (λ tokens. tokens ++ end_array ∷ []) all ∙ append_assoc old (list_tokens values) (end_array ∷ []) ∙ ap (λ tokens. old ++ tokens) (sym (rest_tokens-is values))

-- the same behind one more part
pub closed : (old now last new front : List Token) (values : List Data) → now ≡ old ++ front → last ≡ now ++ list_tokens values → new ≡ last ++ end_array ∷ [] → new ≡ old ++ (front ++ rest_tokens values)
closed old now last new front values so_far all end =
    ended now last new values all end ∙ ap (λ tokens. tokens ++ rest_tokens values) so_far ∙ append_assoc old front (rest_tokens values)

-- a node: its tag, what is its own, and its parts
pub node_written : (old begun owned last new : List Token) (tag : List ℕ) (own values : List Data) → begun ≡ old ++ begin_array ∷ string tag ∷ [] → owned ≡ begun ++ list_tokens own
    → last ≡ owned ++ list_tokens values → new ≡ last ++ end_array ∷ [] → new ≡ old ++ data_tokens (tagged_list tag (own ++ values))
node_written old begun owned last new tag own values b o l e =
    ended begun last new (own ++ values) (l ∙ ap (λ tokens. tokens ++ list_tokens values) o ∙ append_assoc begun (list_tokens own) (list_tokens values)
    ∙ ap (λ tokens. begun ++ tokens) (sym (list_tokens-append own values))) e
    ∙ ap (λ tokens. tokens ++ rest_tokens (own ++ values)) b ∙ append_assoc old (begin_array ∷ string tag ∷ []) (rest_tokens (own ++ values))
