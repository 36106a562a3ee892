-- A formula with the `@`s over one place dropped is the formula with `@`s dropped.
--   bared-dropped  that is so
--   bared-fewer    and where `@`s stood over the place it has fewer
use Rattle.std.proofs.Common.{◌≡◌, ℕ, zero, suc, ◌<◌, [], ◌∷◌, length, Bool, false, refl, arith}
use Rattle.kind_table.specs.Table.{Table}
use Rattle.tree_core.specs.Count.{ats_of, ats_of_all}
use Rattle.tree_core.specs.Tree.{Run, Tree, tree, Trees, none, more}
use Rattle.tree_core.specs.Place.{Place}
use Rattle.import_core.specs.declared.rule.ImportRule.{ImportRule}
use Rattle.import_core.specs.After.{context}
use Rattle.import_core.specs.Dropped.{Dropped}
use Rattle.import_core.specs.ImportOf.{is_bare}
use Rattle.import_core.proofs.Trimmed.{Trimmed, AllTrimmed, sub-itself, trimmed-itself, all_trimmed-itself, drops_of}
use Rattle.export_marks.specs.Bared.{bared, bared_in}
use Rattle.export_marks.specs.Trial.{IsWay, IsWayIn}

mutual
  bared-trimmed : (t : Tree) (place : Place) → Trimmed (bared t place) t
  bared-trimmed (tree run label ts) [] = (tt, (refl, all_trimmed-itself ts))
  bared-trimmed (tree run label ts) (i ∷ place) = (sub-itself run, (refl, bared-trimmed_in ts i place))

  bared-trimmed_in : (ts : Trees) (i : ℕ) (place : Place) → AllTrimmed (bared_in ts i place) ts
  bared-trimmed_in none i place = tt
  bared-trimmed_in (more t ts) zero place = (bared-trimmed t place, all_trimmed-itself ts)
  bared-trimmed_in (more t ts) (suc i) place = (trimmed-itself t, bared-trimmed_in ts i place)

pub bared-dropped : (t : Tree) (place : Place) → Dropped (bared t place) t
bared-dropped t place = drops_of (bared t place) t (bared-trimmed t place)

some_at : (run : Run) → is_bare run ≡ false → 0 < length run
some_at [] h = cc
some_at (flag ∷ run) h = omega arith

module _ (which : ImportRule) (table : Table) where
  mutual
    pub bared-fewer : (place : Place) (w : Bool) (e t : Tree) → IsWay which table w e t place → ats_of (bared e place) < ats_of e
    bared-fewer [] w (tree r l es) (tree s m ts) way = let long : 0 < length r = some_at r way in omega arith
    bared-fewer (i ∷ place) w (tree r l es) (tree s m ts) way = let less : ats_of_all (bared_in es i place) < ats_of_all es = bared-fewer_in es ts i place (context which table w l es) way.1.1 in omega arith

    bared-fewer_in : (es ts : Trees) (i : ℕ) (place : Place) (now : ℕ → Bool) → IsWayIn which table now es ts i place → ats_of_all (bared_in es i place) < ats_of_all es
    bared-fewer_in none ts i place now way = absurd way
    bared-fewer_in (more e es) none i place now way = absurd way
    bared-fewer_in (more e es) (more t ts) zero place now way = let less : ats_of (bared e place) < ats_of e = bared-fewer place (now 0) e t way in omega arith
    bared-fewer_in (more e es) (more t ts) (suc i) place now way = let less : ats_of_all (bared_in es i place) < ats_of_all es = bared-fewer_in es ts i place (λ j. now (suc j)) way in omega arith
