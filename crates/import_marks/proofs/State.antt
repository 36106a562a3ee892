-- What the marks say on the way of an export.
--   Bares, AllBare  a formula with some of its runs left out whole, none of them inside of a node that import doesn't enter
--   IsState    the marks are those of such a formula of a base, which comes back
--   begins     at first of the base itself
--   goes_on, follows  after a drop that can go, and after drops one after the other
--   ends       where no drop can go, that formula is an export
use Rattle.std.proofs.Common.{◌≡◌, ℕ, zero, suc, Bool, true, false, List, [], ◌∷◌, inl, inr, ◌⊎◌, refl, sym, ap, ◌∙◌, subst}
use Rattle.std.specs.Prelude.{⊤}
use Rattle.std.proofs.lemmas.Bool.{and_parts, and_from, false_from_ne_true}
use Rattle.kind_table.specs.Table.{Table}
use Rattle.tree_core.specs.Tree.{Tree, tree, Trees, none, more}
use Rattle.tree_core.specs.Place.{Place}
use Rattle.import_core.specs.declared.rule.ImportRule.{ImportRule}
use Rattle.import_core.specs.After.{context}
use Rattle.import_core.specs.ComesBack.{ComesBack}
use Rattle.import_core.specs.Dropped.{Dropped}
use Rattle.import_core.specs.Exported.{Exported}
use Rattle.import_core.specs.ImportRule.{import_rule, is_closed}
use Rattle.import_core.proofs.Settle.{IsMonotone}
use Rattle.import_core.proofs.Trimmed.{trims_of, dropped-more}
use Rattle.export_marks.specs.Bared.{bared, bared_in}
use Rattle.export_marks.specs.Trial.{IsWay, IsWayIn, fits}
use Rattle.export_marks.proofs.Bares.{bared-dropped}
use Rattle.export_marks.proofs.Tells.{trial_by, exact_by}
use Rattle.mark_core.specs.declared.mark.Mark.{Mark}
use Rattle.mark_core.specs.Drop.{way_of, commit_of, fits_of, can_drop}
use Rattle.mark_core.specs.Sweep.{Follows}
use Rattle.import_marks.specs.Marks.{marks}
use Rattle.import_marks.proofs.Drops.{commit-is, way-told, fits-told}

abbrev mutual
  pub Bares : (formula whole : Tree) → Type 0
  Bares (tree r l es) (tree s m ts) = ((r ≡ []) ⊎ (r ≡ s)) × ((l ≡ m) × ((is_closed l ≡ true → es ≡ ts) × AllBare es ts))

  pub AllBare : (formulas wholes : Trees) → Type 0
  AllBare none none = ⊤
  AllBare none (more t ts) = ⊥
  AllBare (more e es) none = ⊥
  AllBare (more e es) (more t ts) = Bares e t × AllBare es ts

mutual
  pub bares-itself : (t : Tree) → Bares t t
  bares-itself (tree run label ts) = (inr refl, (refl, (λ shut. refl, all_bare-itself ts)))

  all_bare-itself : (ts : Trees) → AllBare ts ts
  all_bare-itself none = tt
  all_bare-itself (more t ts) = (bares-itself t, all_bare-itself ts)

never_shut : (b : Bool) → b ≡ false → b ≡ true → ⊥
never_shut true h e = cc
never_shut false h e = cc

module _ (which : ImportRule) (table : Table) where
  mutual
    bares-more : (place : Place) (w : Bool) (e t whole : Tree) → IsWay which table w e t place → Bares e whole → Bares (bared e place) whole
    bares-more [] w (tree r l es) (tree s m ts) (tree q k us) way h = (inl refl, h.1)
    bares-more (i ∷ place) w (tree r l es) (tree s m ts) (tree q k us) way h =
        (h.0, (h.1.0, (λ shut. absurd (never_shut (is_closed l) way.1.0 shut), all_bare-more es ts us i place (context which table w l es) way.1.1 h.1.1.1)))

    all_bare-more : (es ts us : Trees) (i : ℕ) (place : Place) (now : ℕ → Bool) → IsWayIn which table now es ts i place → AllBare es us → AllBare (bared_in es i place) us
    all_bare-more none ts us i place now way h = absurd way
    all_bare-more (more e es) none us i place now way h = absurd way
    all_bare-more (more e es) (more t ts) none i place now way h = absurd h
    all_bare-more (more e es) (more t ts) (more u us) zero place now way h = (bares-more place (now 0) e t u way h.0, h.1)
    all_bare-more (more e es) (more t ts) (more u us) (suc i) place now way h = (h.0, all_bare-more es ts us i place (λ j. now (suc j)) way h.1)

pub record IsState (which : ImportRule) (table : Table) (add : Bool) (import base : Tree) (mark : Mark) : Type 0 where
  pub export : Tree
  pub is : mark ≡ marks which table export import
  pub bares : Bares export base
  pub dropped : Dropped export import
  pub comes_back : ComesBack which table add import export

module _ (which : ImportRule) (table : Table) (monotone : IsMonotone table) (add : Bool) (import base : Tree) where
  pub begins : (mark : Mark) → mark ≡ marks which table base import → Dropped base import → ComesBack which table add import base → IsState which table add import base mark
  begins mark is dropped back = record { export = base; is = is; bares = bares-itself base; dropped = dropped; comes_back = back }

  pub goes_on : (mark : Mark) (place : Place) → IsState which table add import base mark → can_drop which table add mark place ≡ true → IsState which table add import base (commit_of table mark place)
  goes_on mark place state can =
      let part = trims_of state.export import state.dropped in
      let both = and_parts (way_of which table add mark place) _ can in
      let way = (way-told which table place add state.export import part).0 (ap (λ m. way_of which table add m place) (sym state.is) ∙ both.0) in
      let fit : fits which table add state.export import place ≡ true =
      sym (fits-told which table place add add state.export import part way) ∙ ap (λ m. fits_of which table add m place) (sym state.is) ∙ both.1 in
      record {
        export = bared state.export place;
        is = ap (λ m. commit_of table m place) state.is ∙ commit-is which table place add state.export import part way;
        bares = bares-more which table place add state.export import base way state.bares;
        dropped = dropped-more (bared state.export place) state.export import (bared-dropped state.export place) state.dropped;
        comes_back = (trial_by which table monotone add import state.export place way state.comes_back).1 fit;
      }

  pub follows : (places : List Place) (old new : Mark) → Follows which table add old new places → IsState which table add import base old → IsState which table add import base new
  follows [] old new h state = subst (IsState which table add import base) (sym h) state
  follows (place ∷ places) old new h state = follows places (commit_of table old place) new h.1 (goes_on old place state h.0)

  pub ends : (mark : Mark) (state : IsState which table add import base mark) → ((place : Place) → ¬ (can_drop which table add mark place ≡ true)) → Exported (import_rule which table) add import state.export
  ends mark state never = exact_by which table monotone add import state.export state.dropped state.comes_back (λ place way.
      let part = trims_of state.export import state.dropped in
      false_from_ne_true _ (λ fit. never place (and_from (way_of which table add mark place) _
      (ap (λ m. way_of which table add m place) state.is ∙ (way-told which table place add state.export import part).1 way)
      (ap (λ m. fits_of which table add m place) state.is ∙ fits-told which table place add add state.export import part way ∙ fit))))
