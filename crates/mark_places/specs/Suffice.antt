-- What holds of the candidates of marks, by both rules and every table.
--   CandidatesSuffice  once none of the candidates of a formula can go any more, no `@` at all can, of those that import reaches
--   CandidatesAreFew   there are no more candidates than nodes over which an `@` stands
use Rattle.std.specs.Prelude.{◌≡◌, ◌≤◌, Bool, false, length}
use Rattle.kind_table.specs.Table.{Table}
use Rattle.tree_core.specs.Place.{Place}
use Rattle.import_core.specs.declared.rule.ImportRule.{ImportRule}
use Rattle.mark_core.specs.declared.mark.Mark.{Mark}
use Rattle.mark_core.specs.Mark.{ats_in}
use Rattle.mark_core.specs.Drop.{can_drop}
use Rattle.mark_core.specs.Sweep.{IsSettled}
use Rattle.mark_places.specs.Candidates.{candidates}

abbrev pub CandidatesSuffice : Type 0
CandidatesSuffice = (which : ImportRule) (table : Table) (wanted : Bool) (old new : Mark) → IsSettled which table wanted old new (candidates which table old wanted)
    → (place : Place) → can_drop which table wanted new place ≡ false

abbrev pub CandidatesAreFew : Type 0
CandidatesAreFew = (which : ImportRule) (table : Table) (mark : Mark) (wanted : Bool) → length (candidates which table mark wanted) ≤ ats_in mark
