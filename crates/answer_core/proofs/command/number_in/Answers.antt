use Rattle.std.proofs.Common.{◌≡◌, false, ap, sym, ◌∙◌}
use Rattle.answer_core.specs.Command.{begins_in_vain}
use Rattle.answer_core.proofs.Words.{beyond, within}
use Rattle.answer_core.proofs.command.number_in.Goals as goal

pub returns-in-Ok : goal.returns-in-Ok
returns-in-Ok c =
    let plain : begins_in_vain c.args.word.now ≡ false = ap begins_in_vain (sym c.as_bytes.ensures.value) ∙ sym c.begins_in_vain.ensures ∙ c.if-begins_in_vain.false in
    c.at_most.ensures ∙ within c.args.most c.in-Ok.number c.args.word.now c.parse.result c.in-Ok.is plain c.parse.ensures.value.0

pub returns-in-Err : goal.returns-in-Err
returns-in-Err c =
    let plain : begins_in_vain c.args.word.now ≡ false = ap begins_in_vain (sym c.as_bytes.ensures.value) ∙ sym c.begins_in_vain.ensures ∙ c.if-begins_in_vain.false in
    beyond c.args.most c.args.word.now c.in-Err.field-0 c.ranges.most.fits plain c.in-Err.ensures.value.0
