-- Import at most doubles the nodes of a formula.
use Rattle.std.proofs.Common.{◌≡◌, ℕ, suc, ◌+◌, ◌*◌, ◌≤◌, [], ◌∷◌, length, Bool, true, false, ◌&&◌, if◌then◌else◌, refl, arith, subst, sym}
use Rattle.tree_core.specs.Count.{size_of, size_of_all}
use Rattle.tree_core.specs.Tree.{Run, Tree, tree, Trees, none, more}
use Rattle.import_core.specs.Rule.{Rule}
use Rattle.import_core.specs.Imported.{merged_run}
use Rattle.import_core.specs.ImportOf.{opens, import_of}
use Rattle.import_core.proofs.Below.{import_all, root_run, import_of-open, import_of-shut}

merged_length : (run : Run) → length (merged_run run) ≤ length run
merged_length [] = omega arith
merged_length (flag ∷ []) = omega arith
merged_length (outer ∷ flag ∷ run) = let rest : length (merged_run (flag ∷ run)) ≤ length (flag ∷ run) = merged_length (flag ∷ run) in omega arith

run_length : (b : Bool) (run : Run) → length (if b then true ∷ [] else merged_run run) ≤ length run + 1
run_length true run = omega arith
run_length false run = let most : length (merged_run run) ≤ length run = merged_length run in omega arith

module _ (rule : Rule) where
  mutual
    pub import_size : (add : Bool) (t : Tree) → size_of (import_of rule add t) ≤ 2 * size_of t
    import_size add (tree run label ts) =
        let root : length (root_run rule add run label ts) ≤ length run + 1 = run_length (add && rule.range_like label ts) run in
        let below : size_of_all (import_all rule (rule.context add label ts) ts) ≤ 2 * size_of_all ts = import_sizes (rule.context add label ts) ts in
        elim (opens rule add (tree run label ts)) as (λ b. opens rule add (tree run label ts) ≡ b → size_of (import_of rule add (tree run label ts)) ≤ 2 * size_of (tree run label ts)) [
          | true ↦ λ e. subst (λ t. size_of t ≤ 2 * size_of (tree run label ts)) (sym (import_of-open rule add run label ts e)) (omega arith)
          | false ↦ λ e. subst (λ t. size_of t ≤ 2 * size_of (tree run label ts)) (sym (import_of-shut rule add run label ts e)) (omega arith)
        ] refl

    pub import_sizes : (contexts : ℕ → Bool) (ts : Trees) → size_of_all (import_all rule contexts ts) ≤ 2 * size_of_all ts
    import_sizes contexts none = omega arith
    import_sizes contexts (more t ts) =
        let here : size_of (import_of rule (contexts 0) t) ≤ 2 * size_of t = import_size (contexts 0) t in
        let there : size_of_all (import_all rule (λ i. contexts (suc i)) ts) ≤ 2 * size_of_all ts = import_sizes (λ i. contexts (suc i)) ts in
        omega arith

  pub size_since : (add : Bool) (given imported : Tree) → imported ≡ import_of rule add given → size_of imported ≤ 2 * size_of given
  size_since add given imported e = subst (λ t. size_of t ≤ 2 * size_of given) (sym e) (import_size add given)
