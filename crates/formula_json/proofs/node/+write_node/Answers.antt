use Rattle.std.proofs.Common.{◌∙◌, sym, ap, rules, arith, ◌++◌}
use Rattle.formula_json.specs.Formula.{node_data}
use Rattle.value_json.specs.Piece.{data_tokens}
use Rattle.value_json.proofs.Lists.{node_written, written_more, written_all}
use Rattle.formula_json.proofs.Nodes.{data-view}
use Rattle.formula_json.proofs.node.+write_node.Goals as goal

pub loop-index-preserved : goal.loop-index-preserved
loop-index-preserved t c = record {
  before = search rules;
  tokens = written_more node_data _ _ _ _ _ c.part.result.now c.loop-index.invariant.tokens c.in_ok-write_node.ensures.tokens (sym c.part.ensures);
}

pub returns : goal.returns
returns t c = record {
  before = search rules;
  tokens =
      node_written _ _ _ _ _ _ _ _ c.in_ok-begin.ensures.tokens c.in_ok-write_own.ensures.tokens
      (written_all node_data _ _ _ _ c.loop-index.invariant.tokens (omega arith)) c.in_ok-end.ensures.tokens
      ∙ ap (λ form. c.args.writer.now.tokens ++ data_tokens form) (sym (data-view _ _ _ c.tag_name.ensures c.view-view.ensures.tree));
}
