-- What stands at one place, by its token.
use Rattle.std.proofs.Common.{◌≡◌, ℕ, ℤ, pos, negsuc, ◌^◌, ◌<◌, Bool, true, ◌&&◌, lt-ltb, List, ◌∷◌, Option, Some, None, option_and_then, refl, ap, ◌∙◌}
use Rattle.std.specs.Prelude.{int_le}
use Rattle.json.specs.Token.{Token}
use Rattle.json.specs.Json.{value}
use Rattle.serde_json.specs.Data.{unsigned, null, boolean, number, string}
use Rattle.serde_json.specs.Find.{as_bool, as_i64, as_str}
use Rattle.serde_json.specs.Read.{of_json, number_of, converted}
use Rattle.call_core.specs.declared.function.Function.{Function}
use Rattle.value_json.specs.Fields.{u32_in}
use Rattle.formula_json.specs.Kinds.{kind_named}
use Rattle.straight_json.specs.Straight.{IsField, i64_in, i32_in, id_in, kind_in, name_in}
use Rattle.straight_json.proofs.Steps.{boolean-reads, null-reads, number-reads, string-reads}

pub boolean-field : (old ts : List Token) (truth : Bool) → old ≡ Token.boolean truth ∷ ts → IsField as_bool old truth ts
boolean-field old ts truth e = (boolean truth, (λ depth. ap (λ o. converted of_json (value depth o)) e ∙ boolean-reads depth truth ts), refl)

pub text-field : (old ts : List Token) (s : List ℕ) → old ≡ Token.string s ∷ ts → IsField as_str old s ts
text-field old ts s e = (string s, (λ depth. ap (λ o. converted of_json (value depth o)) e ∙ string-reads depth s ts), refl)

pub no_name-field : (old ts : List Token) → old ≡ Token.null ∷ ts → IsField name_in old None ts
no_name-field old ts e = (null, (λ depth. ap (λ o. converted of_json (value depth o)) e ∙ null-reads depth ts), refl)

pub name-field : (old ts : List Token) (s : List ℕ) → old ≡ Token.string s ∷ ts → IsField name_in old (Some s) ts
name-field old ts s e = (string s, (λ depth. ap (λ o. converted of_json (value depth o)) e ∙ string-reads depth s ts), refl)

pub no_id-field : (old ts : List Token) → old ≡ Token.null ∷ ts → IsField id_in old None ts
no_id-field old ts e = (null, (λ depth. ap (λ o. converted of_json (value depth o)) e ∙ null-reads depth ts), refl)

pub kind-field : (old ts : List Token) (s : List ℕ) (kind : Function) → old ≡ Token.string s ∷ ts → kind_named s ≡ Some kind → IsField kind_in old kind ts
kind-field old ts s kind e is = (string s, (λ depth. ap (λ o. converted of_json (value depth o)) e ∙ string-reads depth s ts), is)

-- what stands in an option, where something is found of it
found_in : {A B : Type 0} (f : A → Option B) (o : Option A) (b : B) → option_and_then f o ≡ Some b → (a : A) × (o ≡ Some a) × (f a ≡ Some b)
found_in f None b e = absurd (cc)
found_in f (Some a) b e = (a, refl, e)

pub whole-field : (old ts : List Token) (s : List ℕ) (whole : ℤ) → old ≡ Token.number s ∷ ts → option_and_then as_i64 (number_of s) ≡ Some whole → IsField i64_in old whole ts
whole-field old ts s whole e is =
    let num = found_in as_i64 (number_of s) whole is in (number num.0, (λ depth. ap (λ o. converted of_json (value depth o)) e ∙ number-reads depth s num.0 ts num.1), num.2)

pub small-field : (old ts : List Token) (whole : ℤ) → IsField i64_in old whole ts → (int_le (negsuc 2147483647) whole && int_le whole (pos 2147483647)) ≡ true → IsField i32_in old whole ts
small-field old ts whole it within = (it.0, it.1, rw it.2 (rw within refl))

pub unsigned-field : (old ts : List Token) (s : List ℕ) (whole : ℕ) → old ≡ Token.number s ∷ ts → number_of s ≡ Some (unsigned whole) → whole < 2 ^ 32 → IsField u32_in old whole ts
unfolding u32_in
unsigned-field old ts s whole e is within =
    (number (unsigned whole), (λ depth. ap (λ o. converted of_json (value depth o)) e ∙ number-reads depth s (unsigned whole) ts is), rw (lt-ltb whole (2 ^ 32) within) refl)

pub id-field : (old ts : List Token) (s : List ℕ) (whole : ℕ) → old ≡ Token.number s ∷ ts → number_of s ≡ Some (unsigned whole) → whole < 2 ^ 32 → IsField id_in old (Some whole) ts
unfolding u32_in
id-field old ts s whole e is within =
    (number (unsigned whole), (λ depth. ap (λ o. converted of_json (value depth o)) e ∙ number-reads depth s (unsigned whole) ts is), rw (lt-ltb whole (2 ^ 32) within) refl)

pub ruleset found_fields = (boolean-field, text-field, no_name-field, name-field, no_id-field, kind-field, whole-field, small-field, unsigned-field, id-field)
