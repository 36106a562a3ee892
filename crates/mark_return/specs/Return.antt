-- Whether a formula comes back, by its marks and by the imported formula. Its bare nodes are those that import reaches: under a run that
-- stayed nothing differs.
--   returns_run   whether import puts an `@` over a bare node, or doesn't, as the run of the imported formula has it
--   returns_of    whether a formula comes back: at a bare node the run and the parts do; else it is the imported formula, which is to be
--                 its own import
--   returns_parts, returns_from  whether the parts of a node do, where import enters them; whether those from part i on do
--   returns_part  whether part i does, in the context that it has
use Rattle.std.specs.Prelude.{ℕ, suc, Bool, true, false, not, ◌&&◌, ◌||◌, if◌then◌else◌, slice_get}
use Rattle.std.specs.Option.{option_map_or}
use Rattle.kind_table.specs.Table.{Table}
use Rattle.tree_core.specs.Tree.{Run, Tree, tree, Trees, none, more}
use Rattle.shape_core.specs.Shape.{same_flag}
use Rattle.import_core.specs.declared.rule.ImportRule.{ImportRule}
use Rattle.import_core.specs.ImportOf.{is_bare}
use Rattle.import_core.specs.ImportRule.{is_closed}
use Rattle.export_marks.specs.Trial.{run_settles}
use Rattle.mark_core.specs.declared.mark.Mark.{Mark}
use Rattle.mark_core.specs.Mark.{known_of, parts_of}
use Rattle.mark_core.specs.Drop.{wants_at}

abbrev pub returns_run : (put : Bool) → Run → Bool
returns_run put run = same_flag put (not (is_bare run))

abbrev mutual
  pub returns_of : ImportRule → Table → (wanted : Bool) → Mark → Tree → Bool
  returns_of which table wanted mark (tree run label ts) =
      if (known_of mark).bare then returns_run (wanted && (known_of mark).range_like) run && (is_closed label || returns_from which table wanted mark 0 ts)
      else (if wanted then (known_of mark).settles else run_settles false run)

  pub returns_from : ImportRule → Table → (wanted : Bool) → Mark → ℕ → Trees → Bool
  returns_from which table wanted mark i none = true
  returns_from which table wanted mark i (more t ts) =
      option_map_or (λ part. returns_of which table (wants_at which table wanted mark i (known_of part).shape) part t) (slice_get (parts_of mark) i) true
      && returns_from which table wanted mark (suc i) ts

abbrev pub returns_part : ImportRule → Table → (wanted : Bool) → Mark → ℕ → Tree → Bool
returns_part which table wanted mark i t =
    option_map_or (λ part. returns_of which table (wants_at which table wanted mark i (known_of part).shape) part t) (slice_get (parts_of mark) i) true

abbrev pub returns_parts : ImportRule → Table → (wanted : Bool) → Mark → Tree → Bool
returns_parts which table wanted mark (tree run label ts) = is_closed label || returns_from which table wanted mark 0 ts
