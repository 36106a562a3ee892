use Rattle.std.proofs.Common.{refl, ap, ◌∙◌}
use Rattle.answer_core.specs.Status.{code_of}
use Rattle.hencredenza_c.proofs.Ends.{fed, out, sent, turned-away}
use Rattle.hencredenza_c.proofs.run.hencredenza_run.Goals as goal

pub returns-in-Ok-clause-ran : goal.returns-in-Ok-clause-ran
returns-in-Ok-clause-ran c =
    sent _ _ c.command_in.ensures c.new-source.result c.args.request.now c.line_for.new.source c.new-source.ensures c.in-Ok.line.items c.as_slice.result.now _ _ _ _ _
    c.as_slice.ensures.value c.hand_over.ensures c.in-Ok.ensures.line c.code.ensures

pub returns-in-Err-clause-ran : goal.returns-in-Err-clause-ran
returns-in-Err-clause-ran c =
    turned-away _ _ c.command_in.ensures c.new-source.result c.args.request.now c.line_for.new.source c.new-source.ensures c.line.result.bytes c.as_bytes.result.now _ _ _ _ _
    (c.as_bytes.ensures.value ∙ c.deref.ensures.0) c.hand_over-in-Err.ensures c.in-Err.refusal c.line.ensures c.in-Err.ensures.refusal
    (c.code-in-Err.ensures ∙ ap code_of c.status.ensures)

pub returns-in-Err-clause-complete : goal.returns-in-Err-clause-complete
returns-in-Err-clause-complete c is_fed =
    out _ _ _ _ _ _ c.hand_over-in-Err.ensures
    (c.code-in-Err.ensures ∙ ap code_of c.status.ensures
    ∙ fed _ _ c.command_in.ensures c.new-source.result c.args.request.now c.line_for.new.source c.new-source.ensures c.in-Err.refusal c.in-Err.ensures.refusal is_fed)
