-- The places of a formula whose `@` may go.
--   may_want      whether one value may come to be wanted of part i, of so many, from whether it may of the node: of an argument where
--                 it would be if nothing were known of its shape
--   is_candidate  an `@` stands over a range-like node, and one value may come to be wanted there
--   below         the places of some parts, from a number on
--   candidates    the places, in the order of the formula from its front, from whether one value is wanted of it
use Rattle.std.specs.Prelude.{ℕ, suc, Bool, false, not, ◌&&◌, if◌then◌else◌, List, [], ◌∷◌, ◌++◌, length, map}
use Rattle.kind_table.specs.declared.static_result.StaticResult.TheVariants.{Unknown}
use Rattle.kind_table.specs.Table.{Table}
use Rattle.tree_core.specs.Place.{Place}
use Rattle.import_core.specs.After.{wants_argument}
use Rattle.import_core.specs.declared.rule.ImportRule.{ImportRule}
use Rattle.mark_core.specs.declared.mark.Form.{Form}
use Rattle.mark_core.specs.declared.mark.Form.TheVariants.{Whole, Passing, Spill, Call}
use Rattle.mark_core.specs.declared.mark.Known.{Known}
use Rattle.mark_core.specs.declared.mark.Mark.{Mark, fold-Mark}

abbrev pub may_want : ImportRule → Table → Form → (wanted : Bool) → (count i : ℕ) → Bool
may_want which table (Whole shape) wanted count i = false
may_want which table Passing wanted count i = wanted
may_want which table Spill wanted count i = wanted
may_want which table (Call kind) wanted count i = wants_argument which table kind count i Unknown

abbrev pub is_candidate : Known → (wanted : Bool) → Bool
is_candidate known wanted = wanted && (known.range_like && not known.bare)

abbrev pub here : Bool → List Place
here found = if found then [] ∷ [] else []

abbrev pub below : (ℕ → Bool) → ℕ → List (Bool → List Place) → List Place
below wanted i [] = []
below wanted i (part ∷ parts) = map (λ place. i ∷ place) (part (wanted i)) ++ below wanted (suc i) parts

abbrev pub candidates : ImportRule → Table → Mark → (wanted : Bool) → List Place
candidates which table = fold-Mark (Bool → List Place)
    (λ layer wanted. here (is_candidate layer.known wanted) ++ below (may_want which table layer.known.form wanted (length layer.parts)) 0 layer.parts)
