-- What is found of an imported formula, from its parts up.
--   over_of         how many `@`s are over a node, as far as import tells them apart; one_more, with one more; is_bare_over, none
--   parts_settle    whether the parts of a node are their own imports, in the contexts that they have in a context of the node
--   told_of         what is told of a formula
--   settles_as      whether a node settles: by the run over it, by whether import puts an `@`, and by its parts
--   settles_by, shown_by  so by what is told of it; what it shows
--   known_by, mark_by     what is known of it, and its mark
--   made_of         what is made of a formula
--   leaf_made .. under_made  so of each class of nodes, by that of the parts; unary_told .. under_told, what is told of it
use Rattle.std.specs.Prelude.{Bool, true, false, not, ◌&&◌, ◌||◌, if◌then◌else◌, [], ◌∷◌}
use Rattle.kind_table.specs.declared.shown.Shown.{Shown}
use Rattle.kind_table.specs.declared.shown.Shown.TheVariants.{Nothing}
use Rattle.kind_table.specs.declared.static_result.StaticResult.{StaticResult}
use Rattle.kind_table.specs.declared.static_result.StaticResult.TheVariants.{Scalar, Unknown}
use Rattle.kind_table.specs.Shape.{combined}
use Rattle.kind_table.specs.Table.{Table}
use Rattle.tree_core.specs.Label.{Label, Leaf, Closed}
use Rattle.tree_core.specs.Formula.{bare_leaf}
use Rattle.tree_core.specs.Tree.{Run, Tree, tree, Trees}
use Rattle.shape_core.specs.Shape.{leaf_shape, shape, shapes, shown, shown_all}
use Rattle.import_core.specs.declared.rule.ImportRule.{ImportRule}
use Rattle.import_core.specs.After.{after, context, is_range_like_leaf, is_range_operator}
use Rattle.import_core.specs.ImportRule.{import_rule, is_closed}
use Rattle.export_marks.specs.Trial.{settle}
use Rattle.mark_core.specs.declared.mark.Form.{Form}
use Rattle.mark_core.specs.declared.mark.Form.TheVariants as form
use Rattle.mark_core.specs.declared.mark.Known.{Known}
use Rattle.mark_core.specs.declared.mark.Mark.{Mark, roll-Mark}
use Rattle.import_marks.specs.declared.told.Over.{Over}
use Rattle.import_marks.specs.declared.told.Over.TheVariants.{Bare, One, More}
use Rattle.import_marks.specs.declared.told.Told.{Told}
use Rattle.import_marks.specs.declared.made.Made.{Made}
use Rattle.import_marks.specs.declared.made.Parts.{Parts}
use Rattle.import_marks.specs.Marks.{all_marks, form_of}

abbrev pub over_of : Run → Over
over_of [] = Bare
over_of (flag ∷ []) = One
over_of (outer ∷ flag ∷ run) = More

abbrev pub one_more : Over → Over
one_more Bare = One
one_more One = More
one_more More = More

abbrev pub is_bare_over : Over → Bool
is_bare_over Bare = true
is_bare_over One = false
is_bare_over More = false

abbrev pub parts_settle : ImportRule → Table → Bool → Label → Trees → Bool
parts_settle which table add label ts = is_closed label || settle which table (context which table add label ts) ts

abbrev pub told_of : ImportRule → Table → Tree → Told
told_of which table (tree run label ts) = record {
  over = over_of run;
  range_like = (import_rule which table).range_like label ts;
  alone = shown (tree [] label ts);
  given = shape table (tree run label ts);
  unwanted = after which table false (tree run label ts);
  wanted = after which table true (tree run label ts);
  settled_unwanted = parts_settle which table false label ts;
  settled_wanted = parts_settle which table true label ts;
}

abbrev pub settles_as : Over → (put parts : Bool) → Bool
settles_as Bare put parts = not put && parts
settles_as One put parts = not put || parts
settles_as More put parts = false

abbrev pub settles_by : Told → Bool → Bool
settles_by told add = settles_as told.over (add && told.range_like) (if add then told.settled_wanted else told.settled_unwanted)

abbrev pub shown_by : Told → Shown
shown_by told = if is_bare_over told.over then told.alone else Nothing

abbrev pub known_by : Form → Told → Parts → Known
known_by form told parts = record {
  form = form;
  bare = is_bare_over told.over;
  range_like = told.range_like;
  settles = settles_by told true;
  alone = told.alone;
  shape = told.given;
  shapes = parts.shapes;
  shows = parts.shows;
}

abbrev pub mark_by : Made → Mark
mark_by made = roll-Mark (record { known = known_by made.form made.told made.parts; parts = made.parts.marks })

abbrev pub no_parts : Parts
no_parts = record { shapes = []; shows = []; marks = [] }

abbrev pub parts_of : ImportRule → Table → Trees → Parts
parts_of which table ts = record { shapes = shapes table ts; shows = shown_all ts; marks = all_marks which table ts ts }

abbrev pub made_of : ImportRule → Table → Tree → Made
made_of which table (tree run label ts) = record {
  told = told_of which table (tree run label ts);
  form = form_of label;
  parts = if is_closed label then no_parts else parts_of which table ts;
}

abbrev pub whole_told : (like : Bool) → Shown → StaticResult → Told
whole_told like alone shape = record {
  over = Bare;
  range_like = like;
  alone = alone;
  given = shape;
  unwanted = shape;
  wanted = (if like then Scalar else shape);
  settled_unwanted = true;
  settled_wanted = true;
}

abbrev pub leaf_made : Leaf → Made
leaf_made l = record { told = whole_told (is_range_like_leaf l) (shown (bare_leaf l)) (leaf_shape l); form = form.Whole (leaf_shape l); parts = no_parts }

abbrev pub closed_made : Closed → Made
closed_made c = record { told = whole_told (is_range_operator c) Nothing Unknown; form = form.Whole Unknown; parts = no_parts }

abbrev pub one_part : Made → Parts
one_part child = record { shapes = child.told.given ∷ []; shows = shown_by child.told ∷ []; marks = mark_by child ∷ [] }

abbrev pub unary_told : Told → Told
unary_told child = record {
  over = Bare;
  range_like = false;
  alone = Nothing;
  given = child.given;
  unwanted = child.unwanted;
  wanted = child.wanted;
  settled_unwanted = settles_by child false;
  settled_wanted = settles_by child true;
}

abbrev pub unary_made : Made → Made
unary_made child = record { told = unary_told child.told; form = form.Passing; parts = one_part child }

abbrev pub spill_told : Told → Told
spill_told child = record {
  over = Bare;
  range_like = false;
  alone = Nothing;
  given = Unknown;
  unwanted = Unknown;
  wanted = Unknown;
  settled_unwanted = settles_by child false;
  settled_wanted = settles_by child true;
}

abbrev pub spill_made : Made → Made
spill_made child = record { told = spill_told child.told; form = form.Spill; parts = one_part child }

abbrev pub between_told : Told → Told → Told
between_told left right = record {
  over = Bare;
  range_like = false;
  alone = Nothing;
  given = combined left.given right.given;
  unwanted = combined left.unwanted right.unwanted;
  wanted = combined left.wanted right.wanted;
  settled_unwanted = settles_by left false && settles_by right false;
  settled_wanted = settles_by left true && settles_by right true;
}

abbrev pub between_made : Made → Made → Made
between_made left right = record {
  told = between_told left.told right.told;
  form = form.Passing;
  parts = record { shapes = left.told.given ∷ right.told.given ∷ []; shows = shown_by left.told ∷ shown_by right.told ∷ []; marks = mark_by left ∷ mark_by right ∷ [] };
}

abbrev pub call_told : (like : Bool) → (given imported : StaticResult) → (settled : Bool) → Told
call_told like given imported settled = record {
  over = Bare;
  range_like = like;
  alone = Nothing;
  given = given;
  unwanted = imported;
  wanted = (if like then Scalar else imported);
  settled_unwanted = settled;
  settled_wanted = settled;
}

abbrev pub under_told : Told → Told
under_told child = record {
  over = one_more child.over;
  range_like = child.range_like;
  alone = child.alone;
  given = Scalar;
  unwanted = Scalar;
  wanted = Scalar;
  settled_unwanted = child.settled_unwanted;
  settled_wanted = child.settled_wanted;
}

abbrev pub under_made : Made → Made
under_made child = record { told = under_told child.told; form = child.form; parts = child.parts }
