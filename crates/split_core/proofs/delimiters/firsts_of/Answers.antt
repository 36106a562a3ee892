use Rattle.std.proofs.Common.{◌≡◌, ℕ, List, [], ◌∷◌, ◌++◌, get_or, take, sym, ap, subst, ◌∙◌, arith}
use Rattle.std.proofs.lemmas.List.{get_or_default, take_all, take_more}
use Rattle.split_core.proofs.Boundaries.{none-empty-at}
use Rattle.split_core.proofs.Firsts.{firsts-more}
use Rattle.split_core.specs.Pieces.{HasFirsts}
use Rattle.split_core.proofs.delimiters.firsts_of.Goals as goal

pub loop-text-preserved : goal.loop-text-preserved
loop-text-preserved c =
    let texts : List (List ℕ) = c.args.texts.now in
    let i : ℕ = c.loop-text.text-index in
    let text : c.as_bytes.result.now ≡ get_or texts i [] = c.as_bytes.ensures.value ∙ c.as_str.ensures ∙ c.text-item.is ∙ get_or_default texts i c.text-item.result [] (omega arith) in
    subst (λ (ds : List (List ℕ)). HasFirsts ds c.mark.new.firsts) (ap (λ d. take i texts ++ d ∷ []) text ∙ sym (take_more texts i [] (omega arith)))
    (firsts-more (take i texts) c.as_bytes.result.now c.loop-text.firsts c.mark.new.firsts (none-empty-at texts i c.as_bytes.result.now (omega arith) c.requires text) c.mark.ensures c.loop-text.invariant)

pub returns : goal.returns
returns c = subst (λ (ds : List (List ℕ)). HasFirsts ds c.loop-text.firsts) (take_all c.loop-text.text-index c.args.texts.now (omega arith)) c.loop-text.invariant
