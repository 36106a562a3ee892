-- The imported formula from the imports of its children.
--   import_all       the imports of some formulas, each in its context
--   root_run         the run over an imported formula
--   import_of-open   where import goes on below the root
--   import_of-shut   where it doesn't
use Rattle.std.proofs.Common.{◌≡◌, ℕ, suc, [], ◌∷◌, Bool, true, false, ◌&&◌, if◌then◌else◌, Some, refl, ap, ap₂, ◌∙◌}
use Rattle.tree_core.specs.Label.{Label}
use Rattle.tree_core.specs.Tree.{Run, Tree, tree, Trees, none, more, children_of}
use Rattle.tree_core.specs.Place.{Place, child, run_at, with_runs, all_with_runs}
use Rattle.tree_core.proofs.Places.{with_runs-run_at}
use Rattle.import_core.specs.Rule.{Rule}
use Rattle.import_core.specs.Imported.{merged_run}
use Rattle.import_core.specs.ImportOf.{opens, imported_run, import_of}

abbrev pub import_all : Rule → (ℕ → Bool) → Trees → Trees
import_all rule contexts none = none
import_all rule contexts (more t ts) = more (import_of rule (contexts 0) t) (import_all rule (λ i. contexts (suc i)) ts)

abbrev pub root_run : Rule → Bool → Run → Label → Trees → Run
root_run rule add run label ts = if add && rule.range_like label ts then true ∷ [] else merged_run run

all-below : (rule : Rule) (ts : Trees) (contexts : ℕ → Bool) (runs : ℕ → Place → Run)
    → ((i : ℕ) (t : Tree) → child ts i ≡ Some t → (place : Place) → runs i place ≡ imported_run rule (contexts i) t place)
    → all_with_runs ts runs ≡ import_all rule contexts ts
all-below rule none contexts runs each = refl
all-below rule (more t ts) contexts runs each =
    let first : runs 0 ≡ imported_run rule (contexts 0) t = λ i place. each 0 t refl place i in
    ap₂ more (ap (with_runs t) first) (all-below rule ts (λ i. contexts (suc i)) (λ i. runs (suc i)) (λ i u e. each (suc i) u e))

below : (rule : Rule) (add : Bool) (run : Run) (label : Label) (ts : Trees) → opens rule add (tree run label ts) ≡ true
    → (i : ℕ) (t : Tree) → child ts i ≡ Some t → (place : Place)
    → imported_run rule add (tree run label ts) (i ∷ place) ≡ imported_run rule (rule.context add label ts i) t place
below rule add run label ts h i t e place = rw (h, e) refl

pub import_of-open : (rule : Rule) (add : Bool) (run : Run) (label : Label) (ts : Trees) → opens rule add (tree run label ts) ≡ true
    → import_of rule add (tree run label ts) ≡ tree (root_run rule add run label ts) label (import_all rule (rule.context add label ts) ts)
import_of-open rule add run label ts h =
    ap (tree (root_run rule add run label ts) label)
    (all-below rule ts (rule.context add label ts) (λ i place. imported_run rule add (tree run label ts) (i ∷ place)) (below rule add run label ts h))

shut-below : (rule : Rule) (add : Bool) (run : Run) (label : Label) (ts : Trees) → opens rule add (tree run label ts) ≡ false → (i : ℕ) (place : Place)
    → imported_run rule add (tree run label ts) (i ∷ place) ≡ run_at (tree run label ts) (i ∷ place)
shut-below rule add run label ts shut i place = rw shut refl

pub import_of-shut : (rule : Rule) (add : Bool) (run : Run) (label : Label) (ts : Trees) → opens rule add (tree run label ts) ≡ false
    → import_of rule add (tree run label ts) ≡ tree (root_run rule add run label ts) label ts
import_of-shut rule add run label ts shut =
    let t = tree run label ts in
    let same : (λ i place. imported_run rule add t (i ∷ place)) ≡ (λ i place. run_at t (i ∷ place)) = λ k i place. shut-below rule add run label ts shut i place k in
    ap (tree (root_run rule add run label ts) label) (ap (all_with_runs ts) same ∙ ap children_of (with_runs-run_at t))
