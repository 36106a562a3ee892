-- What a drop comes to at a node, from what it comes to at a part.
--   commit-part, commit-nowhere  the formula then
--   fits-part      whether it fits
--   probe-refused  a drop that fits in no context of the part fits in none of the node
--   probe-part     and else what it comes to
--   part-kept      where a part is left as it was, so is the formula
use Rattle.std.proofs.Common.{◌≡◌, ℕ, zero, suc, List, [], ◌∷◌, length, Bool, true, false, ◌&&◌, ◌||◌, if◌then◌else◌, Some, None, slice_get, refl, ap, ap₂, ◌∙◌}
use Rattle.std.specs.Prelude.{slice_set}
use Rattle.std.specs.Option.{option_map_or}
use Rattle.kind_table.specs.Table.{Table}
use Rattle.tree_core.specs.Place.{Place}
use Rattle.import_core.specs.declared.rule.ImportRule.{ImportRule}
use Rattle.export_marks.specs.Trial.{allows}
use Rattle.mark_core.specs.declared.mark.Known.{Known}
use Rattle.mark_core.specs.declared.mark.Mark.{Mark, out-roll-Mark, roll-out-Mark}
use Rattle.mark_core.specs.declared.mark.Seen.{Seen}
use Rattle.mark_core.specs.declared.probe.Fits.{Fits}
use Rattle.mark_core.specs.declared.probe.Probe.{Probe}
use Rattle.mark_core.specs.Mark.{known_of, parts_of, mark_of, face, seen}
use Rattle.mark_core.specs.Drop.{commit_of, fits_of, over, shape_with, wants_at, with_part}
use Rattle.mark_core.specs.Probe.{fits_above, in_context, probe_above, probe_of, some_probe}

abbrev fits_at : ImportRule → Table → Mark → Place → Fits
fits_at which table mark place = record { unwanted = fits_of which table false mark place; wanted = fits_of which table true mark place }

abbrev then_at : ImportRule → Table → Mark → Place → Probe
then_at which table mark place = record { seen = seen (known_of (commit_of table mark place)); fits = fits_at which table mark place }

module _ (table : Table) where
  pub commit-part : (mark part : Mark) (i : ℕ) (place : Place) → slice_get (parts_of mark) i ≡ Some part → commit_of table mark (i ∷ place) ≡ over table mark i part (commit_of table part place)
  commit-part mark part i place h = ap (λ there. option_map_or (λ part. over table mark i part (commit_of table part place)) there mark) h

  pub commit-nowhere : (mark : Mark) (i : ℕ) (place : Place) → slice_get (parts_of mark) i ≡ None → commit_of table mark (i ∷ place) ≡ mark
  commit-nowhere mark i place h = ap (λ there. option_map_or (λ part. over table mark i part (commit_of table part place)) there mark) h

module _ (which : ImportRule) (table : Table) where
  in-context : (wanted : Bool) (mark : Mark) (place : Place) → fits_of which table wanted mark place ≡ in_context wanted (fits_at which table mark place)
  in-context true mark place = refl
  in-context false mark place = refl

  pub fits-part : (wanted : Bool) (mark part : Mark) (i : ℕ) (place : Place) → slice_get (parts_of mark) i ≡ Some part
      → fits_of which table wanted mark (i ∷ place) ≡ fits_above which table wanted (known_of mark) (length (parts_of mark)) i (known_of part) (then_at which table part place)
  fits-part wanted mark part i place h =
      ap (λ there. option_map_or (λ part. allows
      (wants_at which table wanted mark i (known_of part).shape)
      (wants_at which table wanted mark i (known_of (commit_of table part place)).shape)
      (known_of part).settles
      && fits_of which table (wants_at which table wanted mark i (known_of (commit_of table part place)).shape) part place) there false) h
      ∙ ap (λ fits. allows
      (wants_at which table wanted mark i (known_of part).shape)
      (wants_at which table wanted mark i (known_of (commit_of table part place)).shape)
      (known_of part).settles && fits) (in-context (wants_at which table wanted mark i (known_of (commit_of table part place)).shape) part place)

  seen-over : (mark part new : Mark) (i : ℕ) → seen (known_of (over table mark i part new))
      ≡ record { shape = shape_with table (known_of mark) i (seen (known_of part)) (seen (known_of new)); shows = face (known_of mark) }
  seen-over mark part new i =
      ap (λ layer. seen layer.known) (out-roll-Mark (record { known = with_part table (known_of mark) i (seen (known_of part)) (seen (known_of new)); parts = slice_set (parts_of mark) i new }))

  pub probe-over : (mark part : Mark) (i : ℕ) (place : Place) → slice_get (parts_of mark) i ≡ Some part
      → probe_of which table mark (i ∷ place) ≡ probe_above which table (known_of mark) (length (parts_of mark)) i (known_of part) (then_at which table part place)
  probe-over mark part i place h =
      ap₂ (λ after (fits : Fits). some_probe after fits)
      (ap (λ m. seen (known_of m)) (commit-part table mark part i place h) ∙ seen-over mark part (commit_of table part place) i)
      (ap₂ (λ low high. record { unwanted = low; wanted = high }) (fits-part false mark part i place h) (fits-part true mark part i place h))

  some_is : (after : Seen) (fits : Fits) (below : Probe) → some_probe after fits ≡ Some below → record { seen = after; fits = fits } ≡ below
  some_is after fits below h = by_any (fits.unwanted || fits.wanted) h
    where
      by_any : (any : Bool) → (if any then Some (record { seen = after; fits = fits }) else None) ≡ Some below → record { seen = after; fits = fits } ≡ below
      by_any true e = cc
      by_any false e = cc

  none_fits : (after : Seen) (low high : Bool) → some_probe after (record { unwanted = low; wanted = high }) ≡ None → (wanted : Bool) → in_context wanted (record { unwanted = low; wanted = high }) ≡ false
  none_fits after true high h wanted = cc
  none_fits after false true h wanted = cc
  none_fits after false false h true = refl
  none_fits after false false h false = refl

  and_none : (b c : Bool) → c ≡ false → (b && c) ≡ false
  and_none true c h = h
  and_none false c h = refl

  pub probe-part : (mark part : Mark) (i : ℕ) (place : Place) (below : Probe) → slice_get (parts_of mark) i ≡ Some part → probe_of which table part place ≡ Some below
      → probe_of which table mark (i ∷ place) ≡ probe_above which table (known_of mark) (length (parts_of mark)) i (known_of part) below
  probe-part mark part i place below h e =
      probe-over mark part i place h
      ∙ ap (probe_above which table (known_of mark) (length (parts_of mark)) i (known_of part)) (some_is (seen (known_of (commit_of table part place))) (fits_at which table part place) below e)

  pub probe-refused : (mark part : Mark) (i : ℕ) (place : Place) → slice_get (parts_of mark) i ≡ Some part → probe_of which table part place ≡ None → probe_of which table mark (i ∷ place) ≡ None
  probe-refused mark part i place h e =
      let never = none_fits (seen (known_of (commit_of table part place))) (fits_of which table false part place) (fits_of which table true part place) e in
      let shut = λ (wanted : Bool). and_none
      (allows (wants_at which table wanted mark i (known_of part).shape) (wants_at which table wanted mark i (known_of (commit_of table part place)).shape) (known_of part).settles)
      (in_context (wants_at which table wanted mark i (known_of (commit_of table part place)).shape) (fits_at which table part place))
      (never (wants_at which table wanted mark i (known_of (commit_of table part place)).shape)) in
      probe-over mark part i place h
      ∙ ap₂ (λ low high. some_probe
      (record { shape = shape_with table (known_of mark) i (seen (known_of part)) (seen (known_of (commit_of table part place))); shows = face (known_of mark) })
      (record { unwanted = low; wanted = high })) (shut false) (shut true)

set_same : {A : Type 0} (xs : List A) (i : ℕ) (x y : A) → slice_get xs i ≡ Some x → y ≡ x → slice_set xs i y ≡ xs
set_same [] i x y h e = refl
set_same (z ∷ zs) zero x y h e = cc
set_same (z ∷ zs) (suc i) x y h e = ap (λ ys. z ∷ ys) (set_same zs i x y h e)

pub part-kept : (mark part new : Mark) (known : Known) (i : ℕ) → slice_get (parts_of mark) i ≡ Some part → new ≡ part → known ≡ known_of mark → mark_of known (slice_set (parts_of mark) i new) ≡ mark
part-kept mark part new known i h e f = ap₂ mark_of f (set_same (parts_of mark) i part new h e) ∙ roll-out-Mark mark
