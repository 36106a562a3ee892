-- How often the table is asked, phase by phase.
--   imported-calls   the imported formula has the calls of the given one
--   imported-ats     and the `@`s of the one import that there is
--   asked-..         what was asked until then is within the bound
use Rattle.std.proofs.Common.{◌≡◌, ℕ, ◌+◌, ◌*◌, ◌≤◌, Bool, refl, sym, ap, ap₂, ◌∙◌, arith}
use Rattle.tree_core.specs.Count.{ats_of, calls_here, calls_of, calls_of_all}
use Rattle.tree_core.specs.Tree.{Tree, tree, Trees, none, more, skeleton, skeletons}
use Rattle.import_core.specs.Rule.{Rule}
use Rattle.import_core.specs.Imported.{Imported}
use Rattle.import_core.specs.ImportOf.{import_of}
use Rattle.import_core.proofs.Exists.{import_is_a_function}
use Rattle.answer_core.specs.Answers.{questions}
use Rattle.answer_core.specs.Parts.{questions_for}

mutual
  calls-skeleton : (t : Tree) → calls_of (skeleton t) ≡ calls_of t
  calls-skeleton (tree run label ts) = ap (λ n. calls_here label + n) (all_calls-skeletons ts)

  all_calls-skeletons : (ts : Trees) → calls_of_all (skeletons ts) ≡ calls_of_all ts
  all_calls-skeletons none = refl
  all_calls-skeletons (more t ts) = ap₂ (λ m n. m + n) (calls-skeleton t) (all_calls-skeletons ts)

pub imported-calls : (rule : Rule) (add : Bool) (given imported : Tree) → Imported rule add given imported → calls_of imported ≡ calls_of given
imported-calls rule add given imported h = sym (calls-skeleton imported) ∙ ap calls_of h.same_skeleton ∙ calls-skeleton given

pub imported-ats : (rule : Rule) (add : Bool) (given imported : Tree) → Imported rule add given imported → ats_of imported ≡ ats_of (import_of rule add given)
imported-ats rule add given imported h = ap ats_of (import_is_a_function.only rule add given imported h)

pub asked-import : (calls ats old now : ℕ) → now ≤ old + 2 * calls → now ≤ old + questions_for calls ats
asked-import calls ats old now h = omega (arith, h)

pub asked-export : (calls ats old import now its_calls its_ats : ℕ) → its_calls ≡ calls → its_ats ≡ ats → import ≤ old + 2 * calls
    → now ≤ import + 2 * its_calls * (its_ats + 1) * (its_ats + 1) → now ≤ old + questions_for calls ats
asked-export calls ats old import now its_calls its_ats c a h k = omega (arith, h, exact c a k)
  where
    exact : its_calls ≡ calls → its_ats ≡ ats → now ≤ import + 2 * its_calls * (its_ats + 1) * (its_ats + 1) → now ≤ import + 2 * calls * (ats + 1) * (ats + 1)
    exact c a k = rw (sym c, sym a) k

pub asked-formulas : (calls ats old now : ℕ) → now ≤ old + questions_for calls ats → now ≤ old + questions calls ats
asked-formulas calls ats old now h = omega (arith, h)

pub asked-shapes : (calls ats old formulas now its_calls : ℕ) → its_calls ≡ calls → formulas ≤ old + questions_for calls ats
    → now ≤ formulas + (calls + its_calls) → now ≤ old + questions calls ats
asked-shapes calls ats old formulas now its_calls c h k = omega (arith, h, k, c)
