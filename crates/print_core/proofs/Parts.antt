-- The tokens of the parts of an object.
--   two-parts, seven-parts   of two, and of seven: written one after another, they are those of the object
use Rattle.std.proofs.Common.{◌≡◌, List, [], ◌∷◌, ◌++◌, ap, ◌∙◌, append_assoc}
use Rattle.json.specs.Token.{Token}

four-parts : (old a b c d : List Token) → (((old ++ a) ++ b) ++ c) ++ d ≡ old ++ (a ++ (b ++ (c ++ d)))
four-parts old a b c d =
    append_assoc ((old ++ a) ++ b) c d ∙ append_assoc (old ++ a) b (c ++ d) ∙ append_assoc old a (b ++ (c ++ d))

pub seven-parts : (old a b c d e f g : List Token) (first last : Token)
    → ((((((((old ++ first ∷ []) ++ a) ++ b) ++ c) ++ d) ++ e) ++ f) ++ g) ++ last ∷ []
    ≡ old ++ (first ∷ (a ++ (b ++ (c ++ (d ++ (e ++ (f ++ (g ++ last ∷ []))))))))
seven-parts old a b c d e f g first last =
    four-parts (((((old ++ first ∷ []) ++ a) ++ b) ++ c) ++ d) e f g (last ∷ [])
    ∙ four-parts ((old ++ first ∷ []) ++ a) b c d (e ++ (f ++ (g ++ last ∷ [])))
    ∙ append_assoc (old ++ first ∷ []) a (b ++ (c ++ (d ++ (e ++ (f ++ (g ++ last ∷ []))))))
    ∙ append_assoc old (first ∷ []) (a ++ (b ++ (c ++ (d ++ (e ++ (f ++ (g ++ last ∷ [])))))))

pub two-parts : (old a b : List Token) (first last : Token)
    → (((old ++ first ∷ []) ++ a) ++ b) ++ last ∷ [] ≡ old ++ (first ∷ (a ++ (b ++ last ∷ [])))
two-parts old a b first last =
    append_assoc ((old ++ first ∷ []) ++ a) b (last ∷ []) ∙ append_assoc (old ++ first ∷ []) a (b ++ last ∷ []) ∙ append_assoc old (first ∷ []) (a ++ (b ++ last ∷ []))
