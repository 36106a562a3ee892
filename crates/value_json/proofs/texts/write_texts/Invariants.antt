-- The texts so far have been written.
use Rattle.std.proofs.Common.{◌≡◌, ◌++◌}
use Rattle.serde_json.specs.Data.{string}
use Rattle.value_json.proofs.Lists.{tokens_before}
use Rattle.value_json.proofs.texts.write_texts.Given as goal

abbrev pub invariant-loop-index : goal.invariant-loop-index
invariant-loop-index l = record {
  before : l.writer.before ≡ l.initial.writer.before;
  tokens : l.writer.tokens ≡ l.initial.writer.tokens ++ tokens_before string l.texts l.index;
}
