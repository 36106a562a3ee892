use Rattle.std.proofs.Common.{pos}
use Rattle.request_core.specs.Request.{asking}
use Rattle.generator_core.proofs.request.generated_request.Goals as goal

pub returns : goal.returns
returns c = λ i.
    asking (c.in_ok-book.ensures i, record { sheet = 0; row = pos 1; column = pos 5 }, c.in_ok-formula.ensures i)
    ((λ num_fmt. c.new.ensures num_fmt i), c.in_ok-locale.ensures i) (c.standard-2.ensures i)
