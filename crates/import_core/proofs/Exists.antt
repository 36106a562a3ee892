-- The imported formula exists, and is the only one.
use Rattle.std.proofs.Common.{◌≡◌, [], ◌∷◌, Bool, true, false, ◌&&◌, Some, None, refl, sym, ap, ◌∙◌, subst}
use Rattle.std.proofs.lemmas.Bool.{and_parts, and_from, false_from_ne_true, false≢true}
use Rattle.std.specs.Option.{option_map_or}
use Rattle.tree_core.specs.Tree.{Run, Tree, run_of, label_of, children_of}
use Rattle.tree_core.specs.Place.{Place, at, run_at}
use Rattle.tree_core.proofs.Places.{skeleton-with_runs, run_at-with_runs, own_run, runs_fix_the_tree}
use Rattle.import_core.specs.Rule.{Rule, IsWantedRange, wanted, range_like_at}
use Rattle.import_core.specs.Reached.{IsReached}
use Rattle.import_core.specs.Imported.{merged_run, ImportedAt, Imported}
use Rattle.import_core.specs.ImportOf.{reached, imported_run, import_of, ImportIsAFunction}
use Rattle.import_core.proofs.Reach.{is_reached, reached_is}

-- a run that is given where a place is
within : (t : Tree) (place : Place) (rule : Rule) (run : Run) → range_like_at rule t place ≡ true → option_map_or (λ _. run) (at t place) [] ≡ run
within t place rule run = elim (at t place) as (λ o. option_map_or (λ s. rule.range_like (label_of s) (children_of s)) o false ≡ true → option_map_or (λ _. run) o [] ≡ run) [
  | None ↦ λ h. cc
  | Some s ↦ λ h. refl
]

merged-where : (t : Tree) (place : Place) → option_map_or (λ _. merged_run (run_at t place)) (at t place) [] ≡ merged_run (run_at t place)
merged-where t place = elim (at t place) as (λ o. option_map_or (λ _. merged_run (option_map_or run_of o [])) o [] ≡ merged_run (option_map_or run_of o [])) [ None ↦ refl | Some s ↦ refl ]

module _ (rule : Rule) (add : Bool) (given : Tree) (place : Place) where
  of_both : IsWantedRange rule add given place → (wanted rule add given place && range_like_at rule given place) ≡ true
  of_both h = and_from _ _ h.wanted_here h.range_like_here

  both_of : (wanted rule add given place && range_like_at rule given place) ≡ true → IsWantedRange rule add given place
  both_of h = let parts = and_parts (wanted rule add given place) _ h in record { wanted_here = parts.0; range_like_here = parts.1 }

  not_both : ¬ IsWantedRange rule add given place → (wanted rule add given place && range_like_at rule given place) ≡ false
  not_both h = false_from_ne_true _ (λ both. h (both_of both))

  not_reached : ¬ IsReached rule add given place → reached rule add given place ≡ false
  not_reached h = false_from_ne_true _ (λ r. h (is_reached rule add given place r))

  run_is : (run : Run) → imported_run rule add given place ≡ run → run_at (import_of rule add given) place ≡ option_map_or (λ _. run) (at given place) []
  run_is run e = run_at-with_runs given (imported_run rule add given) place ∙ ap (λ r. option_map_or (λ _. r) (at given place) []) e

  run_imported : ImportedAt rule add given (import_of rule add given) place
  run_imported = record {
    inserted = λ r h. run_is (true ∷ []) (rw (reached_is rule add given place r, of_both h)) ∙ within given place rule (true ∷ []) h.range_like_here;
    merges = λ r h. run_is (merged_run (run_at given place)) (rw (reached_is rule add given place r, not_both h)) ∙ merged-where given place;
    stays = λ h. run_is (run_at given place) (rw (not_reached h)) ∙ own_run given place;
  }

  -- two imported formulas have one run at a place
  one_run : (t u : Tree) → ImportedAt rule add given t place → ImportedAt rule add given u place → run_at t place ≡ run_at u place
  one_run t u a b =
      let by_range = elim (wanted rule add given place && range_like_at rule given place) as (λ v.
      (wanted rule add given place && range_like_at rule given place) ≡ v → IsReached rule add given place → run_at t place ≡ run_at u place) [
        | true ↦ λ e r. a.inserted r (both_of e) ∙ sym (b.inserted r (both_of e))
        | false ↦ λ e r. let no : ¬ IsWantedRange rule add given place = λ h. false≢true (sym e ∙ of_both h) in a.merges r no ∙ sym (b.merges r no)
      ] in
      let by_reach = elim (reached rule add given place) as (λ v. reached rule add given place ≡ v → run_at t place ≡ run_at u place) [
        | true ↦ λ e. by_range refl (is_reached rule add given place e)
        | false ↦ λ e. let no : ¬ IsReached rule add given place = λ r. false≢true (sym e ∙ reached_is rule add given place r) in a.stays no ∙ sym (b.stays no)
      ] in
      by_reach refl

pub imports : (rule : Rule) (add : Bool) (given : Tree) → Imported rule add given (import_of rule add given)
imports rule add given = record { same_skeleton = skeleton-with_runs given (imported_run rule add given); runs = λ place. run_imported rule add given place }

pub imports_since : (rule : Rule) (add : Bool) (given imported : Tree) → imported ≡ import_of rule add given → Imported rule add given imported
imports_since rule add given imported e = subst (λ t. Imported rule add given t) (sym e) (imports rule add given)

pub import_is_a_function : ImportIsAFunction
import_is_a_function = record {
  exists = imports;
  only = λ rule add given imported h. runs_fix_the_tree imported (import_of rule add given)
      (h.same_skeleton ∙ sym (skeleton-with_runs given (imported_run rule add given)))
      (λ place. one_run rule add given place imported (import_of rule add given) (h.runs place) (run_imported rule add given place));
}
