-- Whether an `@` of a formula that comes back can go, told by constants of the imported formula and by the contexts on the way to it.
--   IsWay, IsWayIn  import of a formula reaches a place, over which an `@` stands, where it is told by the imported formula what is
--                   range-like: above the place all is entered, and bare or range-like where one value is wanted
--   run_settles     whether a run stays as import goes over it, flags aside: over a range-like node where one value is wanted or not
--   settles, settle whether a formula is its own import in a context, flags aside, and each of some formulas in their contexts
--   allows          whether a context may change to another over a part: it may not fall, and rises where the part settles
--   fits, fits_in   whether the `@`s at a place can go: each context on the way may change as it does then, and at the place one value
--                   is wanted of a range-like node
use Rattle.std.specs.Prelude.{◌≡◌, ℕ, zero, suc, [], ◌∷◌, Bool, true, false, not, ◌&&◌, ◌||◌, if◌then◌else◌}
use Rattle.kind_table.specs.Table.{Table}
use Rattle.tree_core.specs.Tree.{Run, Tree, tree, Trees, none, more}
use Rattle.tree_core.specs.Place.{Place}
use Rattle.import_core.specs.declared.rule.ImportRule.{ImportRule}
use Rattle.import_core.specs.After.{context}
use Rattle.import_core.specs.ImportOf.{is_bare, opens}
use Rattle.import_core.specs.ImportRule.{import_rule, is_closed}
use Rattle.export_marks.specs.Bared.{bared_in}

abbrev mutual
  pub IsWay : ImportRule → Table → Bool → (formula import : Tree) → Place → Type 0
  IsWay which table add (tree r l es) (tree s m ts) [] = is_bare r ≡ false
  IsWay which table add (tree r l es) (tree s m ts) (i ∷ place) =
      ((is_bare r || (add && (import_rule which table).range_like m ts)) ≡ true) × ((is_closed l ≡ false) × IsWayIn which table (context which table add l es) es ts i place)

  pub IsWayIn : ImportRule → Table → (ℕ → Bool) → (formulas imports : Trees) → ℕ → Place → Type 0
  IsWayIn which table now none ts i place = ⊥
  IsWayIn which table now (more e es) none i place = ⊥
  IsWayIn which table now (more e es) (more t ts) zero place = IsWay which table (now 0) e t place
  IsWayIn which table now (more e es) (more t ts) (suc i) place = IsWayIn which table (λ j. now (suc j)) es ts i place

abbrev pub run_settles : Bool → Run → Bool
run_settles true [] = false
run_settles true (flag ∷ []) = true
run_settles true (outer ∷ flag ∷ run) = false
run_settles false [] = true
run_settles false (flag ∷ []) = true
run_settles false (outer ∷ flag ∷ run) = false

abbrev mutual
  pub settles : ImportRule → Table → Bool → Tree → Bool
  settles which table add (tree run label ts) =
      run_settles (add && (import_rule which table).range_like label ts) run && (not (opens (import_rule which table) add (tree run label ts)) || settle which table (context which table add label ts) ts)

  pub settle : ImportRule → Table → (ℕ → Bool) → Trees → Bool
  settle which table contexts none = true
  settle which table contexts (more t ts) = settles which table (contexts 0) t && settle which table (λ i. contexts (suc i)) ts

abbrev pub allows : (now next settled : Bool) → Bool
allows now next settled = if now then next else (not next || settled)

abbrev mutual
  pub fits : ImportRule → Table → Bool → (formula import : Tree) → Place → Bool
  fits which table add (tree r l es) (tree s m ts) [] = add && (import_rule which table).range_like m ts
  fits which table add (tree r l es) (tree s m ts) (i ∷ place) = fits_in which table (context which table add l es i) (context which table add l (bared_in es i place) i) es ts i place

  pub fits_in : ImportRule → Table → (now next : Bool) → (formulas imports : Trees) → ℕ → Place → Bool
  fits_in which table now next none ts i place = false
  fits_in which table now next (more e es) none i place = false
  fits_in which table now next (more e es) (more t ts) zero place = allows now next (settles which table true t) && fits which table next e t place
  fits_in which table now next (more e es) (more t ts) (suc i) place = fits_in which table now next es ts i place
