-- The way on through a node.
--   way-shut  there is none where import doesn't enter the node
use Rattle.std.proofs.Common.{◌≡◌, ℕ, ◌∷◌, Bool, false, ◌&&◌, ◌||◌, sym, ap, ◌∙◌, slice_get}
use Rattle.std.specs.Option.{option_map_or}
use Rattle.kind_table.specs.Table.{Table}
use Rattle.tree_core.specs.Place.{Place}
use Rattle.import_core.specs.declared.rule.ImportRule.{ImportRule}
use Rattle.mark_core.specs.declared.mark.Mark.{Mark}
use Rattle.mark_core.specs.Mark.{known_of, parts_of}
use Rattle.mark_core.specs.Drop.{way_of, wants_at}

pub way-shut : (which : ImportRule) (table : Table) (wanted : Bool) (mark : Mark) (place : Place) (i : ℕ) (rest : Place) (entered : Bool) → place ≡ i ∷ rest
    → entered ≡ ((known_of mark).bare || (wanted && (known_of mark).range_like)) → entered ≡ false → false ≡ way_of which table wanted mark place
way-shut which table wanted mark place i rest entered is e shut =
    sym (ap (way_of which table wanted mark) is
    ∙ ap (λ b. b && option_map_or (λ part. way_of which table (wants_at which table wanted mark i (known_of part).shape) part rest) (slice_get (parts_of mark) i) false) (sym e ∙ shut))
