use Rattle.std.proofs.Common.{ap, sym, ◌∙◌}
use Rattle.answer_core.specs.Command.{command_of}
use Rattle.answer_core.proofs.Spaces.{cut, then, too-many, whole}
use Rattle.answer_core.proofs.command.Command.from_text.Goals as goal

pub returns-in_default : goal.returns-in_default
returns-in_default c = c.command_of_one.ensures ∙ ap command_of (sym (whole c.args.text.now c.in_default.ensures.cases))

pub returns-in_default-split_once : goal.returns-in_default-split_once
returns-in_default-split_once c =
    let last = whole c.in-Some.behind.now c.in_default-split_once.ensures.cases in
    c.command_of_two.ensures ∙ ap command_of (sym (then c.args.text.now c.in-Some.word c.in-Some.behind _ c.in-Some.ensures.cases last))

pub returns-in-Some-split_once-2 : goal.returns-in-Some-split_once-2
returns-in-Some-split_once-2 c =
    let third = cut c.in-Some-split_once.last.now c.in-Some-split_once-2.field-0.0 c.in-Some-split_once-2.field-0.1 c.in-Some-split_once-2.ensures.cases in
    let second = then c.in-Some.behind.now c.in-Some-split_once.first c.in-Some-split_once.last _ c.in-Some-split_once.ensures.cases third in
    let all = then c.args.text.now c.in-Some.word c.in-Some.behind _ c.in-Some.ensures.cases second in
    sym (ap command_of all ∙ too-many c.in-Some.word.now c.in-Some-split_once.first.now c.in-Some-split_once-2.field-0.0.now c.in-Some-split_once-2.field-0.1.now)

pub returns-in-None : goal.returns-in-None
returns-in-None c =
    let last = whole c.in-Some-split_once.last.now c.in-None.ensures.cases in
    let second = then c.in-Some.behind.now c.in-Some-split_once.first c.in-Some-split_once.last _ c.in-Some-split_once.ensures.cases last in
    c.command_of_three.ensures ∙ ap command_of (sym (then c.args.text.now c.in-Some.word c.in-Some.behind _ c.in-Some.ensures.cases second))
