use Rattle.std.proofs.Common.{sym, ◌∙◌, ap, ap₂, drop}
use Rattle.std.proofs.lemmas.List.{take_rest}
use Rattle.split_core.specs.Pieces.{begins}
use Rattle.split_core.proofs.Boundaries.{match-whole}
use Rattle.split_core.proofs.matching.begins.Goals as goal

pub returns-clause-whole : goal.returns-clause-whole
returns-clause-whole c = λ some found.
    match-whole c.args.blind c.args.text.now c.args.delimiter.now c.args.place c.utf8.text c.utf8.delimiter c.requires some
    (sym (c.begins_with.ensures
    ∙ ap (λ rest. begins c.args.blind rest c.as_bytes-2.result.now) (take_rest c.as_bytes.result.now c.args.place)
    ∙ ap₂ (λ text delimiter. begins c.args.blind (drop c.args.place text) delimiter) c.as_bytes.ensures.value c.as_bytes-2.ensures.value) ∙ found)
