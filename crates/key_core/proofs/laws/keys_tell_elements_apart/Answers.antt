use Rattle.std.proofs.Common.{◌≡◌, ℕ, ℤ, pos, Bool, true, List, [], ◌↔◌, refl, ap}
use Rattle.value_core.specs.declared.array.ArrayNode.{ArrayNode}
use Rattle.value_core.specs.declared.array.ArrayNode.TheVariants.{Number, Boolean, String, Error as Wrong, Empty}
use Rattle.value_core.specs.declared.error.Error as fault
use Rattle.value_core.specs.declared.error.Error.TheVariants.{NA}
use Rattle.key_core.specs.declared.key.CellKey.{CellKey}
use Rattle.key_core.specs.declared.key.CellKey.TheVariants as key
use Rattle.key_core.specs.Key.{key_of}
use Rattle.key_core.specs.OneKey.{HaveOneKey}
use Rattle.key_core.proofs.laws.keys_tell_elements_apart.Goals as goal

number_in : CellKey → ℤ
number_in (key.Number n) = n
number_in other = pos 0

truth_in : CellKey → Bool
truth_in (key.Boolean b) = b
truth_in other = true

text_in : CellKey → List ℕ
text_in (key.Str text) = text
text_in other = []

error_in : CellKey → fault.Error
error_in (key.Error e) = e
error_in other = NA

one_key : (left right : ArrayNode) → (key_of left ≡ key_of right) ↔ HaveOneKey left right
unfolding number_in truth_in text_in error_in
one_key (Number x) (Number y) = (λ e. ap number_in e, λ e. ap key.Number e)
one_key (Number x) (Boolean y) = (λ e. cc, λ no. absurd no)
one_key (Number x) (String y) = (λ e. cc, λ no. absurd no)
one_key (Number x) (Wrong y) = (λ e. cc, λ no. absurd no)
one_key (Number x) Empty = (λ e. cc, λ no. absurd no)
one_key (Boolean x) (Number y) = (λ e. cc, λ no. absurd no)
one_key (Boolean x) (Boolean y) = (λ e. ap truth_in e, λ e. ap key.Boolean e)
one_key (Boolean x) (String y) = (λ e. cc, λ no. absurd no)
one_key (Boolean x) (Wrong y) = (λ e. cc, λ no. absurd no)
one_key (Boolean x) Empty = (λ e. cc, λ no. absurd no)
one_key (String x) (Number y) = (λ e. cc, λ no. absurd no)
one_key (String x) (Boolean y) = (λ e. cc, λ no. absurd no)
one_key (String x) (String y) = (λ e. ap text_in e, λ e. ap key.Str e)
one_key (String x) (Wrong y) = (λ e. cc, λ no. absurd no)
one_key (String x) Empty = (λ e. cc, λ no. absurd no)
one_key (Wrong x) (Number y) = (λ e. cc, λ no. absurd no)
one_key (Wrong x) (Boolean y) = (λ e. cc, λ no. absurd no)
one_key (Wrong x) (String y) = (λ e. cc, λ no. absurd no)
one_key (Wrong x) (Wrong y) = (λ e. ap error_in e, λ e. ap key.Error e)
one_key (Wrong x) Empty = (λ e. cc, λ no. absurd no)
one_key Empty (Number y) = (λ e. cc, λ no. absurd no)
one_key Empty (Boolean y) = (λ e. cc, λ no. absurd no)
one_key Empty (String y) = (λ e. cc, λ no. absurd no)
one_key Empty (Wrong y) = (λ e. cc, λ no. absurd no)
one_key Empty Empty = (λ _. tt, λ _. refl)

pub returns : goal.returns
returns c = one_key
