use Rattle.std.proofs.Common.{refl, rules}
use Rattle.std.proofs.lemmas.Option.{slice_get_read}
use Rattle.value_json.specs.Values.{value_data}
use Rattle.value_json.proofs.Lists.{written_more, written_all, closed}
use Rattle.value_json.proofs.rows.write_row.Goals as goal

pub loop-value-preserved : goal.loop-value-preserved
loop-value-preserved c = record {
  before = search rules;
  tokens = written_more value_data c.args.values.now _ _ _ _ c.value-item.result c.loop-value.invariant.tokens c.in_ok-write_value.ensures.tokens
      (slice_get_read _ _ _ _ refl c.loop-value-test.true c.value-item.is);
}

pub returns : goal.returns
returns c = record {
  before = search rules;
  tokens =
      closed _ _ _ _ _ _ c.in_ok-begin_array.ensures.ok
      (written_all value_data c.args.values.now _ _ _ c.loop-value.invariant.tokens c.loop-value-test.false) c.in_ok-end.ensures.tokens;
}
