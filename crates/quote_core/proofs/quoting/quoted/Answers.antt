use Rattle.std.proofs.Common.{◌++◌, ◌∙◌, ap, string_bytes}
use Rattle.std.proofs.lemmas.Str.{encode_ascii}
use Rattle.std.proofs.lemmas.Iterator.{YieldsList-from_chars}
use Rattle.std.proofs.lemmas.Iterator.Consumers.{YieldsList-end}
use Rattle.quote_core.proofs.Doubled.{doubled-all, doubled-more}
use Rattle.quote_core.proofs.quoting.quoted.Goals as goal

pub loop-letter-preserved : goal.loop-letter-preserved
loop-letter-preserved c = doubled-more c.args.mark _ _ c.loop-letter.yielded c.in-Some.letter c.loop-letter.invariant c.in_ok-push_doubled.ensures

pub returns : goal.returns
returns c =
    let all = YieldsList-end (YieldsList-from_chars c.args.text.now c.utf8.text cc) c.loop-letter.yielded _ c.loop-letter.yielded_by _ _ c.in-None.is c.next.ensures.steps in
    doubled-all c.args.mark _ _ c.loop-letter.yielded _ c.loop-letter.invariant (c.in_ok-push-2.ensures.bytes ∙ ap (λ end. string_bytes c.loop-letter.made ++ end) (encode_ascii c.args.mark c.requires)) all.0
