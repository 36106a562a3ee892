-- The marks of a formula: what is known of each node of it, beside the imported formula that it is to come back to.
--   form_of           how a bare node has its shape, by its label
--   marks, all_marks  of a formula, and of each of some formulas
use Rattle.std.specs.Prelude.{List, [], ◌∷◌, true, if◌then◌else◌}
use Rattle.kind_table.specs.declared.static_result.StaticResult.TheVariants.{Unknown}
use Rattle.kind_table.specs.Table.{Table}
use Rattle.tree_core.specs.Label.{Label, leaf, passing, spill, closed, call}
use Rattle.tree_core.specs.Tree.{Tree, tree, Trees, none, more}
use Rattle.shape_core.specs.Shape.{leaf_shape, shape, shapes, shown, shown_all}
use Rattle.import_core.specs.declared.rule.ImportRule.{ImportRule}
use Rattle.import_core.specs.ImportOf.{is_bare}
use Rattle.import_core.specs.ImportRule.{import_rule, is_closed}
use Rattle.export_marks.specs.Trial.{settles}
use Rattle.mark_core.specs.declared.mark.Form.{Form}
use Rattle.mark_core.specs.declared.mark.Form.TheVariants as form
use Rattle.mark_core.specs.declared.mark.Mark.{Mark, roll-Mark}

abbrev pub form_of : Label → Form
form_of (leaf l) = form.Whole (leaf_shape l)
form_of (passing p) = form.Passing
form_of spill = form.Spill
form_of (closed c) = form.Whole Unknown
form_of (call kind) = form.Call kind

abbrev mutual
  pub marks : ImportRule → Table → (formula import : Tree) → Mark
  marks which table (tree r l es) (tree s m ts) = roll-Mark (record {
    known = record {
      form = form_of l;
      bare = is_bare r;
      range_like = (import_rule which table).range_like m ts;
      settles = settles which table true (tree s m ts);
      alone = shown (tree [] l es);
      shape = shape table (tree r l es);
      shapes = if is_closed l then [] else shapes table es;
      shows = if is_closed l then [] else shown_all es;
    };
    parts = if is_closed l then [] else all_marks which table es ts;
  })

  pub all_marks : ImportRule → Table → (formulas imports : Trees) → List Mark
  all_marks which table none ts = []
  all_marks which table (more e es) none = []
  all_marks which table (more e es) (more t ts) = marks which table e t ∷ all_marks which table es ts
