use Rattle.std.proofs.Common.{ap, ◌∙◌}
use Rattle.nest_core.specs.Built.{nest_asked}
use Rattle.nest_core.proofs.Builts.{shows, shows-stopped}
use Rattle.nest_core.proofs.Calls.{seen}
use Rattle.nest_core.proofs.plain_nest.PlainNest.of_call.Goals as goal

pub returns : goal.returns
returns c =
    λ book. shows book c.args.limit c.args.cell c.args.kind c.args.parts.items c.args.args.items c.requires.counted c.requires.arrays c.requires.constant
    ∙ ap (seen book c.args.cell) c.in_ok-held.ensures.nest

pub returns-in_err-held : goal.returns-in_err-held
returns-in_err-held c =
    λ book. shows-stopped book c.args.cell c.from_residual.result c.in_err-held.field-0.0 (nest_asked c.args.limit c.args.cell c.args.kind c.args.parts.items c.args.args.items) _
    c.from_residual.ensures.1 c.in_err-held.ensures.nest
    (shows book c.args.limit c.args.cell c.args.kind c.args.parts.items c.args.args.items c.requires.counted c.requires.arrays c.requires.constant)
