-- What is known of an imported formula once the `@`s that import put go, or stand again.
--   Row, row_of   what is known of the parts of a node
--   uncovered     what is known of a node without an `@` over it, from what is known of its parts
--   covered       so once an `@` stands over it
--   turned        what is known of a formula once the `@`s that import put go out of it, or stand again: over the nodes that import
--                 enters
--   turned_part, turned_row  so of part i of a node, and of all from part i on
use Rattle.std.specs.Prelude.{ℕ, suc, Bool, true, false, if◌then◌else◌, List, slice_get, slice_set}
use Rattle.std.specs.Option.{option_map_or}
use Rattle.kind_table.specs.declared.shown.Shown.{Shown}
use Rattle.kind_table.specs.declared.static_result.StaticResult.{StaticResult}
use Rattle.kind_table.specs.declared.static_result.StaticResult.TheVariants.{Scalar}
use Rattle.kind_table.specs.Table.{Table}
use Rattle.tree_core.specs.Tree.{Tree, tree, Trees, none, more}
use Rattle.import_core.specs.ImportOf.{is_bare}
use Rattle.import_core.specs.ImportRule.{is_closed}
use Rattle.mark_core.specs.declared.mark.Known.{Known}
use Rattle.mark_core.specs.declared.mark.Mark.{Mark}
use Rattle.mark_core.specs.Mark.{known_of, parts_of, mark_of, bare_shape, face}
use Rattle.mark_return.specs.Put.{is_put}

pub record Row : Type 0 where
  pub shapes : List StaticResult
  pub shows : List Shown
  pub marks : List Mark

abbrev pub row_of : Mark → Row
row_of mark = record { shapes = (known_of mark).shapes; shows = (known_of mark).shows; marks = parts_of mark }

abbrev pub uncovered : Table → Known → Row → Mark
uncovered table known row = mark_of (record {
  form = known.form;
  bare = true;
  range_like = known.range_like;
  settles = known.settles;
  alone = known.alone;
  shape = bare_shape table known.form row.shows row.shapes;
  shapes = row.shapes;
  shows = row.shows;
}) row.marks

abbrev pub covered : Mark → Mark
covered mark = mark_of (record {
  form = (known_of mark).form;
  bare = false;
  range_like = (known_of mark).range_like;
  settles = (known_of mark).settles;
  alone = (known_of mark).alone;
  shape = Scalar;
  shapes = (known_of mark).shapes;
  shows = (known_of mark).shows;
}) (parts_of mark)

abbrev pub part_set : Row → ℕ → Mark → Row
part_set row i part = record { shapes = slice_set row.shapes i (known_of part).shape; shows = slice_set row.shows i (face (known_of part)); marks = slice_set row.marks i part }

abbrev mutual
  pub turned : Table → (out : Bool) → Mark → Tree → Mark
  turned table out mark (tree run label ts) =
      let bare = uncovered table (known_of mark) (if is_closed label then row_of mark else turned_row table out (row_of mark) 0 ts) in
      if is_bare run then bare else (if is_put run label then (if out then bare else covered bare) else mark)

  pub turned_row : Table → (out : Bool) → Row → ℕ → Trees → Row
  turned_row table out row i none = row
  turned_row table out row i (more t ts) = turned_row table out (option_map_or (λ part. part_set row i (turned table out part t)) (slice_get row.marks i) row) (suc i) ts

abbrev pub turned_part : Table → (out : Bool) → Row → ℕ → Tree → Row
turned_part table out row i t = option_map_or (λ part. part_set row i (turned table out part t)) (slice_get row.marks i) row
