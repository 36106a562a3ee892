-- What marks leave of a formula is the formula that they are of.
--   left-is  of a base whose runs are left out whole
use Rattle.std.proofs.Common.{◌≡◌, true, false, if◌then◌else◌, [], ◌∷◌, inl, inr, ◌⊎◌, refl, sym, ap, ap₂, ◌∙◌}
use Rattle.kind_table.specs.Table.{Table}
use Rattle.tree_core.specs.Tree.{Run, Tree, tree, Trees, none, more}
use Rattle.import_core.specs.declared.rule.ImportRule.{ImportRule}
use Rattle.import_core.specs.ImportOf.{is_bare}
use Rattle.import_core.specs.ImportRule.{is_closed}
use Rattle.import_core.proofs.Trimmed.{Trimmed, AllTrimmed}
use Rattle.mark_core.specs.Mark.{parts_of}
use Rattle.mark_places.specs.Left.{left_of, left_of_trees}
use Rattle.import_marks.specs.Marks.{marks, all_marks}
use Rattle.import_marks.proofs.Drops.{known-marks, parts-marks}
use Rattle.import_marks.proofs.State.{Bares, AllBare}

run-left : (r q : Run) → (r ≡ []) ⊎ (r ≡ q) → (if is_bare r then [] else q) ≡ r
run-left [] q h = refl
run-left (flag ∷ r) q (inl e) = cc
run-left (flag ∷ r) q (inr e) = sym e

module _ (which : ImportRule) (table : Table) where
  mutual
    pub left-is : (e base t : Tree) → Bares e base → Trimmed e t → left_of base (marks which table e t) ≡ e
    left-is (tree r l es) (tree q k us) (tree s m ts) h part =
        let M = marks which table (tree r l es) (tree s m ts) in
        let below : (if is_closed k then us else left_of_trees us (parts_of M)) ≡ es =
        ap (λ c. if c then us else left_of_trees us (parts_of M)) (ap is_closed (sym h.1.0))
        ∙ elim (is_closed l) as (λ c. is_closed l ≡ c → (if c then us else left_of_trees us (parts_of M)) ≡ es) [
          | true ↦ λ shut. sym (h.1.1.0 shut)
          | false ↦ λ entered. ap (left_of_trees us) (parts-marks which table r l es s m ts ∙ ap (λ c. if c then [] else all_marks which table es ts) entered) ∙ left-all es us ts h.1.1.1 part.1.1
        ] refl in
        ap₂ (λ b vs. tree (if b then [] else q) k vs) (ap (λ known. known.bare) (known-marks which table r l es s m ts)) below
        ∙ ap₂ (λ run label. tree run label es) (run-left r q h.0) (sym h.1.0)

    left-all : (es bases ts : Trees) → AllBare es bases → AllTrimmed es ts → left_of_trees bases (all_marks which table es ts) ≡ es
    left-all none none ts h part = refl
    left-all none (more u us) ts h part = absurd h
    left-all (more e es) none ts h part = absurd h
    left-all (more e es) (more u us) none h part = absurd part
    left-all (more e es) (more u us) (more t ts) h part = ap₂ more (left-is e u t h.0 part.0) (left-all es us ts h.1 part.1)
