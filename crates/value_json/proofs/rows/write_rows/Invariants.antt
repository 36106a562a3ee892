-- The rows so far have been written.
use Rattle.std.proofs.Common.{◌≡◌, ◌++◌}
use Rattle.value_json.specs.Values.{row_data}
use Rattle.value_json.proofs.Lists.{tokens_before}
use Rattle.value_json.proofs.rows.write_rows.Given as goal

abbrev pub invariant-loop-row : goal.invariant-loop-row
invariant-loop-row l = record {
  before : l.writer.before ≡ l.initial.writer.before;
  tokens : l.writer.tokens ≡ l.initial.writer.tokens ++ tokens_before row_data l.rows l.row;
}
