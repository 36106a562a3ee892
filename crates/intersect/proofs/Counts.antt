-- How many calls and `@`s the marks of a formula have.
--   calls-marks, ats-marks  no more than the imported formula beside it
use Rattle.std.proofs.Common.{◌≡◌, ℕ, ◌+◌, ◌≤◌, Bool, true, false, if◌then◌else◌, List, [], ◌∷◌, length, map, refl, sym, ap, ◌∙◌, subst, arith}
use Rattle.std.proofs.lemmas.List.Sums.{sum_by-cons}
use Rattle.std.specs.Prelude.{sum}
use Rattle.kind_table.specs.Table.{Table}
use Rattle.tree_core.specs.Count.{ats_of, ats_of_all, calls_of, calls_of_all}
use Rattle.tree_core.specs.Count as count
use Rattle.tree_core.specs.Label.{Label, leaf, passing, spill, closed, call}
use Rattle.tree_core.specs.Tree.{Run, Tree, tree, Trees, none, more}
use Rattle.import_core.specs.declared.rule.ImportRule.{ImportRule}
use Rattle.import_core.specs.Dropped.{IsSubsequence}
use Rattle.import_core.specs.ImportOf.{is_bare}
use Rattle.import_core.specs.ImportRule.{is_closed}
use Rattle.import_core.proofs.Trimmed.{Trimmed, AllTrimmed}
use Rattle.mark_core.specs.declared.mark.Mark.{Mark, fold_out-Mark}
use Rattle.mark_core.specs.Mark.{known_of, parts_of, calls_here, calls_in, ats_here, ats_in}
use Rattle.import_marks.specs.Marks.{marks, all_marks, form_of}
use Rattle.import_marks.proofs.Drops.{known-marks, parts-marks}

calls-form : (l : Label) → calls_here (form_of l) ≡ count.calls_here l
calls-form (leaf k) = refl
calls-form (passing p) = refl
calls-form spill = refl
calls-form (closed c) = refl
calls-form (call kind) = refl

ats-run : (r s : Run) → IsSubsequence r s → ats_here (is_bare r) ≤ length s
ats-run [] s h = omega arith
ats-run (flag ∷ r) [] h = absurd h
ats-run (flag ∷ r) (next ∷ s) h = omega arith

sum-more : (f : Mark → ℕ) (mark : Mark) (marks : List Mark) → sum (map f (mark ∷ marks)) ≡ f mark + sum (map f marks)
sum-more f mark marks = sum_by-cons (λ n. n) (f mark) (map f marks)

module _ (which : ImportRule) (table : Table) where
  mutual
    pub calls-marks : (e t : Tree) → Trimmed e t → calls_in (marks which table e t) ≤ calls_of t
    calls-marks (tree r l es) (tree s m ts) h =
        let M = marks which table (tree r l es) (tree s m ts) in
        let known : calls_here (known_of M).form ≡ count.calls_here m =
        ap (λ k. calls_here k.form) (known-marks which table r l es s m ts) ∙ calls-form l ∙ ap count.calls_here h.1.0 in
        let parts : sum (map calls_in (parts_of M)) ≤ calls_of_all ts = subst (λ ps. sum (map calls_in ps) ≤ calls_of_all ts) (sym (parts-marks which table r l es s m ts)) (calls-listed (is_closed l) es ts h.1.1) in
        let all : calls_in M ≡ calls_here (known_of M).form + sum (map calls_in (parts_of M)) = fold_out-Mark ℕ (λ layer. calls_here layer.known.form + sum layer.parts) M in
        omega arith

    calls-listed : (shut : Bool) (es ts : Trees) → AllTrimmed es ts → sum (map calls_in (if shut then [] else all_marks which table es ts)) ≤ calls_of_all ts
    calls-listed true es ts h = omega arith
    calls-listed false none none h = omega arith
    calls-listed false none (more t ts) h = absurd h
    calls-listed false (more e es) none h = absurd h
    calls-listed false (more e es) (more t ts) h =
        let first : calls_in (marks which table e t) ≤ calls_of t = calls-marks e t h.0 in
        let rest : sum (map calls_in (all_marks which table es ts)) ≤ calls_of_all ts = calls-listed false es ts h.1 in
        omega (arith, sum-more calls_in (marks which table e t) (all_marks which table es ts))

  mutual
    pub ats-marks : (e t : Tree) → Trimmed e t → ats_in (marks which table e t) ≤ ats_of t
    ats-marks (tree r l es) (tree s m ts) h =
        let M = marks which table (tree r l es) (tree s m ts) in
        let known : ats_here (known_of M).bare ≡ ats_here (is_bare r) = ap (λ k. ats_here k.bare) (known-marks which table r l es s m ts) in
        let here : ats_here (is_bare r) ≤ length s = ats-run r s h.0 in
        let parts : sum (map ats_in (parts_of M)) ≤ ats_of_all ts = subst (λ ps. sum (map ats_in ps) ≤ ats_of_all ts) (sym (parts-marks which table r l es s m ts)) (ats-listed (is_closed l) es ts h.1.1) in
        let all : ats_in M ≡ ats_here (known_of M).bare + sum (map ats_in (parts_of M)) = fold_out-Mark ℕ (λ layer. ats_here layer.known.bare + sum layer.parts) M in
        omega arith

    ats-listed : (shut : Bool) (es ts : Trees) → AllTrimmed es ts → sum (map ats_in (if shut then [] else all_marks which table es ts)) ≤ ats_of_all ts
    ats-listed true es ts h = omega arith
    ats-listed false none none h = omega arith
    ats-listed false none (more t ts) h = absurd h
    ats-listed false (more e es) none h = absurd h
    ats-listed false (more e es) (more t ts) h =
        let first : ats_in (marks which table e t) ≤ ats_of t = ats-marks e t h.0 in
        let rest : sum (map ats_in (all_marks which table es ts)) ≤ ats_of_all ts = ats-listed false es ts h.1 in
        omega (arith, sum-more ats_in (marks which table e t) (all_marks which table es ts))
