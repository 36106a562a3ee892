-- The values so far have been written.
use Rattle.std.proofs.Common.{◌≡◌, ◌++◌}
use Rattle.value_json.specs.Values.{value_data}
use Rattle.value_json.proofs.Lists.{tokens_before}
use Rattle.value_json.proofs.rows.write_row.Given as goal

abbrev pub invariant-loop-value : goal.invariant-loop-value
invariant-loop-value l = record {
  before : l.writer.before ≡ l.initial.writer.before;
  tokens : l.writer.tokens ≡ l.initial.writer.tokens ++ tokens_before value_data l.values l.value-index;
}
