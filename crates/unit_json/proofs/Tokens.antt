-- Tokens that were written one after another.
--   two-behind, three-behind, four-behind   two, three and four lists behind what was written
use Rattle.std.proofs.Common.{◌≡◌, List, ◌++◌, ◌∙◌, append_assoc}
use Rattle.json.specs.Token.{Token}

pub two-behind : (old a b : List Token) → (old ++ a) ++ b ≡ old ++ (a ++ b)
two-behind old a b = append_assoc old a b

pub three-behind : (old a b c : List Token) → ((old ++ a) ++ b) ++ c ≡ old ++ (a ++ (b ++ c))
three-behind old a b c = append_assoc (old ++ a) b c ∙ append_assoc old a (b ++ c)

pub four-behind : (old a b c d : List Token) → (((old ++ a) ++ b) ++ c) ++ d ≡ old ++ (a ++ (b ++ (c ++ d)))
four-behind old a b c d = append_assoc ((old ++ a) ++ b) c d ∙ three-behind old a b (c ++ d)
