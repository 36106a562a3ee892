use Rattle.std.proofs.Common.{◌≡◌, drop, get_or, true, ◌==◌, IfSome, Some, sym, ap, ◌∙◌, arith, take_all, length-drop, subst}
use Rattle.fast_float.specs.Text.{scan}
use Rattle.serde_json.specs.Data.{negative}
use Rattle.serde_json.specs.Read.{number_of, number_from}
use Rattle.straight_json.proofs.number.negative_whole.Goals as goal

pub returns-then-has_minus : goal.returns-then-has_minus
unfolding number_of
returns-then-has_minus c =
    let s = c.as_bytes-bytes.result.now in
    let signed : (get_or s 0 0 == 45) ≡ true = sym c.if-has_minus.ensures.value in
    let parts : c.scan.result ≡ scan (drop 1 s) = c.scan.ensures.parts ∙ ap scan (take_all _ (drop 1 s) (omega (arith, length-drop 1 s))) in
    let read : number_from true (scan (drop 1 s)) ≡ number_of s = rw signed in
    let all : number_from true c.scan.result ≡ number_of c.args.text.now = ap (number_from true) parts ∙ read ∙ ap number_of c.as_bytes-bytes.ensures.value in
    subst (λ o. IfSome c.below_zero.result (λ whole. o ≡ Some (negative whole))) all c.below_zero.ensures
