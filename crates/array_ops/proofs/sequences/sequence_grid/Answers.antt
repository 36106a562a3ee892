use Rattle.std.proofs.Common.{ap₂, ◌∙◌, w64}
use Rattle.std.proofs.lemmas.Int.{to_z-of_z}
use Rattle.array_ops.specs.Sequence.{sequence_grid}
use Rattle.array_ops.proofs.sequences.sequence_grid.Goals as goal

pub returns : goal.returns
returns c =
    c.in_ok-grid.ensures.value
    ∙ ap₂ (sequence_grid c.args.rows c.args.columns) (to_z-of_z w64 c.args.start c.ranges.start) (to_z-of_z w64 c.args.step c.ranges.step)
