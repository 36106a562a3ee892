-- A text between marks, character by character.
--   doubled-more   one character more
--   doubled-all    the mark at the end
use Rattle.std.proofs.Common.{◌≡◌, ℕ, List, [], ◌∷◌, ◌++◌, map, ap, sym, ◌∙◌, encode_utf8_all, flat_map}
use Rattle.std.proofs.lemmas.List.Concat.{flat_map-append}
use Rattle.std.proofs.lemmas.List.{append-nil, map-id}
use Rattle.std.proofs.lemmas.Str.{encodes-append}
use Rattle.quote_core.specs.Quoted.{doubled}

flat-more : (mark : ℕ) (cs : List ℕ) (c : ℕ) → flat_map (doubled mark) (cs ++ c ∷ []) ≡ flat_map (doubled mark) cs ++ doubled mark c
flat-more mark cs c = flat_map-append (doubled mark) cs (c ∷ []) ∙ ap (λ end. flat_map (doubled mark) cs ++ end) (append-nil (doubled mark c))

pub doubled-more : (mark : ℕ) (before after cs : List ℕ) (c : ℕ) → before ≡ mark ∷ encode_utf8_all (flat_map (doubled mark) cs) → after ≡ before ++ encode_utf8_all (doubled mark c)
    → after ≡ mark ∷ encode_utf8_all (flat_map (doubled mark) (cs ++ c ∷ []))
doubled-more mark before after cs c e f =
    f ∙ ap (λ front. front ++ encode_utf8_all (doubled mark c)) e
    ∙ ap (λ rest. mark ∷ rest) (sym (encodes-append (flat_map (doubled mark) cs) (doubled mark c)) ∙ ap encode_utf8_all (sym (flat-more mark cs c)))

pub doubled-all : (mark : ℕ) (before after cs text : List ℕ) → before ≡ mark ∷ encode_utf8_all (flat_map (doubled mark) cs) → after ≡ before ++ mark ∷ [] → map (λ c. c) cs ≡ text
    → after ≡ mark ∷ (encode_utf8_all (flat_map (doubled mark) text) ++ mark ∷ [])
doubled-all mark before after cs text e f g =
    f ∙ ap (λ front. front ++ mark ∷ []) (e ∙ ap (λ letters. mark ∷ encode_utf8_all (flat_map (doubled mark) letters)) (sym (map-id cs) ∙ g))
