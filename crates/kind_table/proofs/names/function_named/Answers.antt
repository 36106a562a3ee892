use Rattle.std.proofs.Common.{rules}
use Rattle.std.specs.Cmp.Lexicographic.{slice_cmp}
use Rattle.std.specs.Ordering.{nat_cmp}
use Rattle.std.proofs.lemmas.Fn.{always_returns_same}
use Rattle.call_core.specs.declared.function.Function.TheVariants.{Unique}
use Rattle.kind_table.proofs.Complete.{text}
use Rattle.kind_table.proofs.Found.{found, missing, rising}
use Rattle.kind_table.proofs.names.function_named.Goals as goal

pub returns-in-Ok : goal.returns-in-Ok
returns-in-Ok c =
    found c.all_in_order-order.result.now c.all_in_order-order.ensures c.args.name.now c.in-Ok.place Unique c.in-Ok.ensures.bound
    (c.in-Ok.ensures.position (λ kind. slice_cmp nat_cmp (text kind) c.args.name.now) (always_returns_same _ _ _ (λ a r f h. (search rules, search rules))))

pub returns-in-Err : goal.returns-in-Err
returns-in-Err c =
    missing c.all_in_order-order.result.now c.all_in_order-order.ensures c.args.name.now c.in-Err.field-0
    (c.in-Err.ensures.position (λ kind. slice_cmp nat_cmp (text kind) c.args.name.now) (always_returns_same _ _ _ (λ a r f h. (search rules, search rules)))
    (rising c.all_in_order-order.result.now c.all_in_order-order.ensures c.args.name.now))
