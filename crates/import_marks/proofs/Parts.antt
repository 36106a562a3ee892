-- A part of a formula, and its mark among those of the parts.
--   PartAt    part i of some formulas, beside that of the imported ones: what the lists of what is known have there, and once the
--             part's run at a place is dropped
--   part-at   there is one, or nothing changes
use Rattle.std.proofs.Common.{◌≡◌, ◌↔◌, ◌&&◌, Bool, true, ℕ, zero, suc, ◌∷◌, slice_get, length, Some, None, inl, inr, ◌⊎◌, refl, ap}
use Rattle.std.specs.List.{slice_set}
use Rattle.kind_table.specs.Table.{Table}
use Rattle.tree_core.specs.Tree.{Tree, Trees, none, more}
use Rattle.tree_core.specs.Place.{Place}
use Rattle.shape_core.specs.Shape.{shape, shapes, shown, shown_all}
use Rattle.import_core.specs.declared.rule.ImportRule.{ImportRule}
use Rattle.import_core.proofs.Trimmed.{Trimmed, AllTrimmed}
use Rattle.export_marks.specs.Bared.{bared, bared_in}
use Rattle.export_marks.specs.Trial.{IsWay, IsWayIn, allows, settles, fits, fits_in}
use Rattle.import_marks.specs.Marks.{marks, all_marks}

pub record PartAt (which : ImportRule) (table : Table) (es ts : Trees) (i : ℕ) (place : Place) : Type 0 where
  pub part : Tree
  pub import : Tree
  pub trimmed : Trimmed part import
  pub mark_at : slice_get (all_marks which table es ts) i ≡ Some (marks which table part import)
  pub shape_at : slice_get (shapes table es) i ≡ Some (shape table part)
  pub shown_at : slice_get (shown_all es) i ≡ Some (shown part)
  pub marks_after : slice_set (all_marks which table es ts) i (marks which table (bared part place) import) ≡ all_marks which table (bared_in es i place) ts
  pub shapes_after : slice_set (shapes table es) i (shape table (bared part place)) ≡ shapes table (bared_in es i place)
  pub shows_after : slice_set (shown_all es) i (shown (bared part place)) ≡ shown_all (bared_in es i place)
  pub way_at : (now : ℕ → Bool) → IsWayIn which table now es ts i place ↔ IsWay which table (now i) part import place
  pub fits_at : (now next : Bool) → fits_in which table now next es ts i place ≡ (allows now next (settles which table true import) && fits which table next part import place)

pub record NoPart (which : ImportRule) (table : Table) (es ts : Trees) (i : ℕ) (place : Place) : Type 0 where
  pub none_at : slice_get (all_marks which table es ts) i ≡ None
  pub same : bared_in es i place ≡ es
  pub no_way : (now : ℕ → Bool) → ¬ IsWayIn which table now es ts i place

pub part-at : (which : ImportRule) (table : Table) (es ts : Trees) (i : ℕ) (place : Place) → AllTrimmed es ts → PartAt which table es ts i place ⊎ NoPart which table es ts i place
part-at which table none none i place h = inr (record { none_at = refl; same = refl; no_way = λ now way. way })
part-at which table none (more t ts) i place h = absurd h
part-at which table (more e es) none i place h = absurd h
part-at which table (more e es) (more t ts) zero place h = inl (record {
  part = e;
  import = t;
  trimmed = h.0;
  mark_at = refl;
  shape_at = refl;
  shown_at = refl;
  marks_after = refl;
  shapes_after = refl;
  shows_after = refl;
  way_at = λ now. (λ way. way, λ way. way);
  fits_at = λ now next. refl;
})
part-at which table (more e es) (more t ts) (suc i) place h = elim (part-at which table es ts i place h.1) [
  | inl p ↦ inl (record {
    part = p.part;
    import = p.import;
    trimmed = p.trimmed;
    mark_at = p.mark_at;
    shape_at = p.shape_at;
    shown_at = p.shown_at;
    marks_after = ap (λ ms. marks which table e t ∷ ms) p.marks_after;
    shapes_after = ap (λ ss. shape table e ∷ ss) p.shapes_after;
    shows_after = ap (λ hs. shown e ∷ hs) p.shows_after;
    way_at = λ now. p.way_at (λ j. now (suc j));
    fits_at = p.fits_at;
  })
  | inr n ↦ inr (record { none_at = n.none_at; same = ap (more e) n.same; no_way = λ now. n.no_way (λ j. now (suc j)) })
]

pub marks-count : (which : ImportRule) (table : Table) (es ts : Trees) → AllTrimmed es ts → length (all_marks which table es ts) ≡ length (shapes table es)
marks-count which table none none h = refl
marks-count which table none (more t ts) h = absurd h
marks-count which table (more e es) none h = absurd h
marks-count which table (more e es) (more t ts) h = ap suc (marks-count which table es ts h.1)
