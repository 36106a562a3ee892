-- What is read to the end of the source is the request's text.
use Rattle.std.proofs.Common.{arith}
use Rattle.answer_core.proofs.reading.asked.Goals as goal

pub returns-clause-given : goal.returns-clause-given
returns-clause-given g c = record {
  bytes = c.in_ok-bytes.bytes.items;
  whole = record {
    consumed = c.in_ok-bytes.ensures.done;
    at_end = c.in_ok-bytes.ensures.end;
    within = omega (arith, c.in_ok-bytes.bytes.ok.0, c.in_ok-bytes.ensures.limit);
  };
  is_request = rw c.as_slice.ensures.value at c.in_ok-request.ensures.found;
}

pub returns-clause-within : goal.returns-clause-within
returns-clause-within g c = record { nodes = c.in_ok-request.ensures.most; cells = c.in_ok-request.ensures.limited }
