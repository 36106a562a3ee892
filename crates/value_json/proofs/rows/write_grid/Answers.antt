use Rattle.std.proofs.Common.{sym, rules}
use Rattle.value_json.specs.Values.{row_data}
use Rattle.value_json.proofs.Lists.{written_more, written_all, closed}
use Rattle.value_json.proofs.rows.write_grid.Goals as goal

pub loop-row-preserved : goal.loop-row-preserved
loop-row-preserved c = record {
  before = search rules;
  tokens = written_more row_data c.args.grid.now _ _ _ c.loop-row.row c.in-Some.values.now c.loop-row.invariant.tokens c.in_ok-write_row-in-Some.ensures.tokens (sym c.in-Some.ensures);
}

pub returns : goal.returns
returns c = record {
  before = search rules;
  tokens =
      closed _ _ _ _ _ _ c.in_ok-begin_array.ensures.ok
      (written_all row_data c.args.grid.now _ _ _ c.loop-row.invariant.tokens (search rules)) c.in_ok-end.ensures.tokens;
}
