-- A formula without the `@`s that import puts is the formula with `@`s dropped.
--   put-trimmed, all_put-trimmed  node by node, and so of some formulas
--   put-dropped   place by place
--   put-bares     its runs are left out whole, none of them inside of a node that import doesn't enter
use Rattle.std.proofs.Common.{true, false, ◌||◌, if◌then◌else◌, [], inl, refl, ap}
use Rattle.tree_core.specs.Tree.{Tree, tree, Trees, none, more}
use Rattle.import_core.specs.Dropped.{Dropped}
use Rattle.import_core.specs.ImportOf.{is_bare}
use Rattle.import_core.specs.ImportRule.{is_closed}
use Rattle.import_core.proofs.Trimmed.{Trimmed, AllTrimmed, all_trimmed-itself, drops_of, trimmed-itself}
use Rattle.import_marks.proofs.State.{AllBare, Bares, bares-itself}
use Rattle.mark_return.specs.Put.{all_without_put, is_put, without_put}

mutual
  pub put-trimmed : (t : Tree) → Trimmed (without_put t) t
  put-trimmed (tree run label ts) =
      let below = elim (is_closed label) as (λ shut. AllTrimmed (if shut then ts else all_without_put ts) ts) [
        | true ↦ all_trimmed-itself ts
        | false ↦ all_put-trimmed ts
      ] in
      elim (is_bare run || is_put run label) as (λ put. Trimmed (if put then tree [] label (if is_closed label then ts else all_without_put ts) else tree run label ts) (tree run label ts)) [
        | true ↦ (tt, (refl, below))
        | false ↦ trimmed-itself (tree run label ts)
      ]

  pub all_put-trimmed : (ts : Trees) → AllTrimmed (all_without_put ts) ts
  all_put-trimmed none = tt
  all_put-trimmed (more t ts) = (put-trimmed t, all_put-trimmed ts)

mutual
  pub put-bares : (t : Tree) → Bares (without_put t) t
  put-bares (tree run label ts) =
      let itself = bares-itself (tree run label ts) in
      let below = elim (is_closed label) as (λ shut. AllBare (if shut then ts else all_without_put ts) ts) [
        | true ↦ itself.1.1.1
        | false ↦ all_put-bare ts
      ] in
      elim (is_bare run || is_put run label) as (λ put. Bares (if put then tree [] label (if is_closed label then ts else all_without_put ts) else tree run label ts) (tree run label ts)) [
        | true ↦ (inl refl, (refl, (λ shut. ap (λ k. if k then ts else all_without_put ts) shut, below)))
        | false ↦ itself
      ]

  all_put-bare : (ts : Trees) → AllBare (all_without_put ts) ts
  all_put-bare none = tt
  all_put-bare (more t ts) = (put-bares t, all_put-bare ts)

pub put-dropped : (t : Tree) → Dropped (without_put t) t
put-dropped t = drops_of (without_put t) t (put-trimmed t)
