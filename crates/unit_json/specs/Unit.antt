-- The JSON of a display unit.
--   digits         how a unit writes the digits of a number
--   plain_members  the members that all units but a date have, in the order of their names
--   plain_data, money_data, date_data   an object of these members, an amount of money, and a date
--   unit_data      an object of a unit's kind and what it says
--   unit_or_null   the same, or null where there is none
--   plain_tokens   the tokens of such members
use Rattle.std.specs.Prelude.{ℕ, ℤ, Bool, List, [], ◌∷◌, ◌++◌, codes, Option, Some, None}
use Rattle.json.specs.Token as token
use Rattle.json.specs.Token.{Token}
use Rattle.serde_json.specs.Data.{Data, null, boolean, string, object, Members, no_members, member}
use Rattle.value_json.specs.Piece.{data_tokens, whole}
use Rattle.units_core.specs.declared.units.Units.{Units}
use Rattle.unit_json.specs.declared.unit.Digits.{Digits}
use Rattle.units_core.specs.declared.units.Units.TheVariants.{Number, Currency, Percentage, Date}

abbrev pub digits : Bool → ℤ → Digits
digits separator precision = record { group_separator = separator; precision = precision }

abbrev pub plain_members : Digits → List ℕ → List ℕ → Members
plain_members digits kind num_fmt =
    member (codes "group_separator") (boolean digits.group_separator) (
    member (codes "kind") (string kind) (
    member (codes "num_fmt") (string num_fmt) (
    member (codes "precision") (whole digits.precision)
    no_members)))

abbrev pub plain_data : Digits → List ℕ → List ℕ → Data
plain_data digits kind num_fmt = object (plain_members digits kind num_fmt)

abbrev pub money_data : Digits → List ℕ → List ℕ → Data
money_data digits currency num_fmt = object (member (codes "currency") (string currency) (plain_members digits (codes "Currency") num_fmt))

abbrev pub date_data : List ℕ → Data
date_data num_fmt = object (member (codes "kind") (string (codes "Date")) (member (codes "num_fmt") (string num_fmt) no_members))

abbrev pub unit_data : Units → Data
unit_data (Number separator precision num_fmt) = plain_data (digits separator precision) (codes "Number") num_fmt
unit_data (Currency separator precision num_fmt currency) = money_data (digits separator precision) currency num_fmt
unit_data (Percentage separator precision num_fmt) = plain_data (digits separator precision) (codes "Percentage") num_fmt
unit_data (Date num_fmt) = date_data num_fmt

abbrev pub unit_or_null : Option Units → Data
unit_or_null None = null
unit_or_null (Some unit) = unit_data unit

abbrev pub plain_tokens : Digits → List ℕ → List ℕ → List Token
plain_tokens digits kind num_fmt =
    (token.key (codes "group_separator") ∷ token.boolean digits.group_separator ∷ [])
    ++ ((token.key (codes "kind") ∷ token.string kind ∷ [])
    ++ ((token.key (codes "num_fmt") ∷ token.string num_fmt ∷ [])
    ++ (token.key (codes "precision") ∷ data_tokens (whole digits.precision))))
