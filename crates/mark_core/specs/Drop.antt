-- What comes of a drop of the `@`s over one place.
--   wants_part, wants_at  whether one value is wanted of part i, of so many, that has this shape, from whether one is wanted of the
--               node; of part i of a formula
--   way_of      whether import reaches a place, over which an `@` stands
--   seen_with, with_part  the shape of a node, and what is known of it, once another thing is seen of its part i: the shape stays where
--               the same is seen or an `@` stands over the node, and else is that of a bare node over its parts
--   bared       what is known of a node once no `@` stands over it
--   over        a formula once its part i is another
--   commit_of   a formula once the `@`s over a place are dropped; as it is where the place isn't there
--   fits_of     whether it comes back then: each context on the way may change as it does, and at the place one value is wanted of a
--               range-like node
--   can_drop    whether import reaches an `@` that can go
use Rattle.std.specs.Prelude.{ℕ, Bool, true, false, not, ◌&&◌, ◌||◌, if◌then◌else◌, [], ◌∷◌, length, slice_get, slice_set}
use Rattle.std.specs.Option.{option_map_or}
use Rattle.kind_table.specs.declared.static_result.StaticResult.{StaticResult}
use Rattle.kind_table.specs.Table.{Table}
use Rattle.tree_core.specs.Place.{Place}
use Rattle.import_core.specs.After.{wants_argument}
use Rattle.import_core.specs.declared.rule.ImportRule.{ImportRule}
use Rattle.export_marks.specs.Trial.{allows}
use Rattle.mark_core.specs.declared.mark.Form.{Form}
use Rattle.mark_core.specs.declared.mark.Form.TheVariants.{Whole, Passing, Spill, Call}
use Rattle.mark_core.specs.declared.mark.Known.{Known}
use Rattle.mark_core.specs.declared.mark.Mark.{Mark}
use Rattle.mark_core.specs.declared.mark.Seen.{Seen}
use Rattle.mark_core.specs.Mark.{known_of, parts_of, mark_of, seen, bare_shape, same_seen}

abbrev pub wants_part : ImportRule → Table → Form → (wanted : Bool) → (count i : ℕ) → StaticResult → Bool
wants_part which table (Whole whole) wanted count i shape = false
wants_part which table Passing wanted count i shape = wanted
wants_part which table Spill wanted count i shape = wanted
wants_part which table (Call kind) wanted count i shape = wants_argument which table kind count i shape

abbrev pub wants_at : ImportRule → Table → Bool → Mark → ℕ → StaticResult → Bool
wants_at which table wanted mark i shape = wants_part which table (known_of mark).form wanted (length (parts_of mark)) i shape

abbrev pub way_of : ImportRule → Table → Bool → Mark → Place → Bool
way_of which table wanted mark [] = not (known_of mark).bare
way_of which table wanted mark (i ∷ place) =
    ((known_of mark).bare || (wanted && (known_of mark).range_like))
    && option_map_or (λ part. way_of which table (wants_at which table wanted mark i (known_of part).shape) part place) (slice_get (parts_of mark) i) false

abbrev pub shape_with : Table → Known → ℕ → (old new : Seen) → StaticResult
shape_with table known i old new =
    if known.bare && not (same_seen old new) then bare_shape table known.form (slice_set known.shows i new.shows) (slice_set known.shapes i new.shape) else known.shape

abbrev pub with_part : Table → Known → ℕ → (old new : Seen) → Known
with_part table known i old new = record {
  form = known.form;
  bare = known.bare;
  range_like = known.range_like;
  settles = known.settles;
  alone = known.alone;
  shape = shape_with table known i old new;
  shapes = slice_set known.shapes i new.shape;
  shows = slice_set known.shows i new.shows;
}

abbrev pub bared : Table → Known → Known
bared table known = record {
  form = known.form;
  bare = true;
  range_like = known.range_like;
  settles = known.settles;
  alone = known.alone;
  shape = bare_shape table known.form known.shows known.shapes;
  shapes = known.shapes;
  shows = known.shows;
}

abbrev pub over : Table → Mark → ℕ → (part new : Mark) → Mark
over table mark i part new = mark_of (with_part table (known_of mark) i (seen (known_of part)) (seen (known_of new))) (slice_set (parts_of mark) i new)

abbrev pub commit_of : Table → Mark → Place → Mark
commit_of table mark [] = mark_of (bared table (known_of mark)) (parts_of mark)
commit_of table mark (i ∷ place) = option_map_or (λ part. over table mark i part (commit_of table part place)) (slice_get (parts_of mark) i) mark

abbrev pub fits_of : ImportRule → Table → Bool → Mark → Place → Bool
fits_of which table wanted mark [] = wanted && (known_of mark).range_like
fits_of which table wanted mark (i ∷ place) =
    option_map_or (λ part. allows
    (wants_at which table wanted mark i (known_of part).shape)
    (wants_at which table wanted mark i (known_of (commit_of table part place)).shape)
    (known_of part).settles
    && fits_of which table (wants_at which table wanted mark i (known_of (commit_of table part place)).shape) part place) (slice_get (parts_of mark) i) false

abbrev pub can_drop : ImportRule → Table → Bool → Mark → Place → Bool
can_drop which table wanted mark place = way_of which table wanted mark place && fits_of which table wanted mark place
