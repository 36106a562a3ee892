use Rattle.std.proofs.Common.{◌+◌, ◌*◌, ◌≤◌, List, length, map}
use Rattle.json.specs.Token.{Token}
use Rattle.serde_json.specs.Data.{Members, no_members}
use Rattle.serde_json.specs.View.{members_view, view}
use Rattle.straight_json.specs.Straight.{ReadsMembers}
use Rattle.straight_json.proofs.Steps.{Passed}
use Rattle.straight_json.proofs.value.+value.Given as goal

abbrev pub decreases-read_value : goal.decreases-read_value
decreases-read_value l = 2 * l.depth

abbrev pub decreases-read_items : goal.decreases-read_items
decreases-read_items l = 2 * l.depth + 1

abbrev pub decreases-read_members : goal.decreases-read_members
decreases-read_members l = 2 * l.depth + 1

abbrev pub invariant-read_items-items : goal.invariant-read_items-items
invariant-read_items-items l = Passed l.depth l.initial.reader (map view l.values.items) l.reader × (length l.reader ≤ length l.initial.reader)

abbrev pub decreases-read_items-items : goal.decreases-read_items-items
decreases-read_items-items l = length l.reader

abbrev pub invariant-read_members-members : goal.invariant-read_members-members
invariant-read_members-members l =
    ((all : Members) (new : List Token) → ReadsMembers l.depth l.reader (members_view l.found.entries) all new → ReadsMembers l.depth l.initial.reader no_members all new)
    × (length l.reader ≤ length l.initial.reader)

abbrev pub decreases-read_members-members : goal.decreases-read_members-members
decreases-read_members-members l = length l.reader
