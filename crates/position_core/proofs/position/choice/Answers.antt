use Rattle.std.proofs.Common.{rules, pos, get_or, w64}
use Rattle.std.proofs.lemmas.Int.{to_z-of_z}
use mir.Val.{SFits}
use Rattle.position_core.proofs.Choices.{are_choices-at}
use Rattle.position_core.proofs.position.choice.Goals as goal

pub chosen-requires : goal.chosen-requires
chosen-requires c =
    let fits : SFits w64 (get_or c.args.numbers.now c.args.index (pos 0)) = search rules in
    simp to_z-of_z (are_choices-at c.args.numbers.now c.args.total c.args.index (pos 0) c.requires.choices c.requires.within)
