use Rattle.std.proofs.Common.{sym, rules}
use Rattle.serde_json.specs.Data.{string}
use Rattle.value_json.proofs.Lists.{written_more, written_all, closed}
use Rattle.value_json.proofs.texts.write_texts.Goals as goal

pub loop-index-preserved : goal.loop-index-preserved
loop-index-preserved c = record {
  before = search rules;
  tokens = written_more string c.args.texts.now _ _ _ c.loop-index.index c.in-Some.text.now c.loop-index.invariant.tokens (search rules) (sym c.in-Some.ensures);
}

pub returns : goal.returns
returns c = record {
  before = search rules;
  tokens =
      closed _ _ _ _ _ _ c.in_ok-begin_array.ensures.ok
      (written_all string c.args.texts.now _ _ _ c.loop-index.invariant.tokens (search rules)) c.in_ok-end.ensures.tokens;
}
