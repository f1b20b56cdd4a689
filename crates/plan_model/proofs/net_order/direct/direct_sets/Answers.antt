use Rattle.std.proofs.Common.{◌≡◌, ◌+◌, ◌<◌, length, [], true, get_or, set, take, sym, subst, ap, ◌∙◌, arith}
use Rattle.std.proofs.lemmas.List.{get_or_read}
use Rattle.plan_model.specs.declared.networks.Pair.{Pair}
use Rattle.plan_model.specs.net_order.Closure.{IsDirect}
use Rattle.plan_model.proofs.net_order.Adding.{direct_more}
use Rattle.plan_model.proofs.net_order.direct.direct_sets.Goals as goal

abbrev none : Pair
none = record { first = 0; then = 0 }

pub loop-pair-preserved : goal.loop-pair-preserved
loop-pair-preserved c =
    let k = c.loop-pair.pair-index in
    let p = get_or c.args.pairs.now k none in
    let now = c.loop-pair.before.items in
    let below = c.requires.below k none c.loop-pair-test.true in
    let sets : length c.loop-pair.before.items ≡ c.args.count = c.loop-pair.invariant.square.sets in
    let within : (get_or c.args.pairs.now c.loop-pair.pair-index none).then < length c.loop-pair.before.items = let b = below.1 in omega arith in
    let is = c.insert.ensures ∙ ap (λ s. set s p.first true) (get_or_read now p.then c.index_mut.result.now within c.index_mut.ensures.value []) in
    subst (λ s. IsDirect c.args.count (take (k + 1) c.args.pairs.now) (set now p.then s)) (sym is)
    (direct_more c.args.count c.args.pairs.now k none now c.loop-pair-test.true c.requires.below c.loop-pair.invariant)
