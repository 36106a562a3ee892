-- The rows of the program's table of products say what the definition says.
--   row-fits     whatever the sides have, the first row that fits says it
--   row-there, row-not   the same of a row that was found, and of none
use Rattle.std.proofs.Common.{◌≡◌, Option, Some, None, refl, ap, ◌∙◌}
use Rattle.std.specs.Option.{option_map_or}
use Rattle.value_core.specs.declared.operator.OpProduct.{OpProduct}
use Rattle.units_core.specs.Product.{fitting_row, outcome_in, outcome_of, products}
use Rattle.units_core.specs.declared.outcome.Outcome.TheVariants as outcome
use Rattle.units_core.specs.declared.product.Product.{Product}
use Rattle.units_core.specs.declared.units.Units.{Units}
use Rattle.units_core.specs.declared.units.Units.TheVariants as unit

row-fits : (kind : OpProduct) (left right : Option Units) → option_map_or (outcome_in kind) (fitting_row left right) outcome.Nothing ≡ outcome_of kind left right
unfolding products
row-fits kind None None = refl
row-fits kind None (Some (unit.Number rs rp rf)) = refl
row-fits kind None (Some (unit.Currency rs rp rf rc)) = refl
row-fits kind None (Some (unit.Percentage rs rp rf)) = refl
row-fits kind None (Some (unit.Date rf)) = refl
row-fits kind (Some (unit.Number ls lp lf)) None = refl
row-fits kind (Some (unit.Number ls lp lf)) (Some (unit.Number rs rp rf)) = refl
row-fits kind (Some (unit.Number ls lp lf)) (Some (unit.Currency rs rp rf rc)) = refl
row-fits kind (Some (unit.Number ls lp lf)) (Some (unit.Percentage rs rp rf)) = refl
row-fits kind (Some (unit.Number ls lp lf)) (Some (unit.Date rf)) = refl
row-fits kind (Some (unit.Currency ls lp lf lc)) None = refl
row-fits kind (Some (unit.Currency ls lp lf lc)) (Some (unit.Number rs rp rf)) = refl
row-fits kind (Some (unit.Currency ls lp lf lc)) (Some (unit.Currency rs rp rf rc)) = refl
row-fits kind (Some (unit.Currency ls lp lf lc)) (Some (unit.Percentage rs rp rf)) = refl
row-fits kind (Some (unit.Currency ls lp lf lc)) (Some (unit.Date rf)) = refl
row-fits kind (Some (unit.Percentage ls lp lf)) None = refl
row-fits kind (Some (unit.Percentage ls lp lf)) (Some (unit.Number rs rp rf)) = refl
row-fits kind (Some (unit.Percentage ls lp lf)) (Some (unit.Currency rs rp rf rc)) = refl
row-fits kind (Some (unit.Percentage ls lp lf)) (Some (unit.Percentage rs rp rf)) = refl
row-fits kind (Some (unit.Percentage ls lp lf)) (Some (unit.Date rf)) = refl
row-fits kind (Some (unit.Date lf)) None = refl
row-fits kind (Some (unit.Date lf)) (Some (unit.Number rs rp rf)) = refl
row-fits kind (Some (unit.Date lf)) (Some (unit.Currency rs rp rf rc)) = refl
row-fits kind (Some (unit.Date lf)) (Some (unit.Percentage rs rp rf)) = refl
row-fits kind (Some (unit.Date lf)) (Some (unit.Date rf)) = refl

pub row-there : (kind : OpProduct) (left right : Option Units) (row : Product) → Some row ≡ fitting_row left right → outcome_in kind row ≡ outcome_of kind left right
row-there kind left right row e = ap (λ found. option_map_or (outcome_in kind) found outcome.Nothing) e ∙ row-fits kind left right

pub row-not : (kind : OpProduct) (left right : Option Units) → None ≡ fitting_row left right → outcome.Nothing ≡ outcome_of kind left right
row-not kind left right e = ap (λ found. option_map_or (outcome_in kind) found outcome.Nothing) e ∙ row-fits kind left right

pub ruleset rows = (row-there, row-not)
