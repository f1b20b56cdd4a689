use Rattle.std.proofs.Common.{◌+◌, length, take, get_or, true, sym, subst, ◌∙◌, ap, arith, length-set}
use Rattle.std.proofs.lemmas.List.{take_all}
use Rattle.plan_model.specs.declared.networks.Pair.{Pair}
use Rattle.plan_model.specs.net_order.Closure.{AreFirsts}
use Rattle.plan_model.proofs.net_order.Ends.{firsts_more}
use Rattle.plan_model.proofs.net_order.firsts.firsts_of.Goals as goal

abbrev none : Pair
none = record { first = 0; then = 0 }

pub loop-pair-preserved : goal.loop-pair-preserved
loop-pair-preserved c =
    let k = c.loop-pair.pair-index in
    let p = get_or c.args.pairs.now k none in
    let below = (c.requires.below k none c.loop-pair-test.true).0 in
    let room = c.loop-pair.invariant.room in
    record {
      room = ap length c.insert.ensures ∙ (length-set c.loop-pair.firsts p.first true ∙ room);
      firsts = subst (AreFirsts (take (k + 1) c.args.pairs.now)) (sym c.insert.ensures) (firsts_more c.args.pairs.now k none c.loop-pair.firsts c.loop-pair-test.true (omega arith) c.loop-pair.invariant.firsts);
    }

pub returns-clause-firsts : goal.returns-clause-firsts
returns-clause-firsts c = subst (λ ps. AreFirsts ps c.loop-pair.firsts) (take_all c.loop-pair.pair-index c.args.pairs.now (let h = c.loop-pair-test.false in omega arith)) c.loop-pair.invariant.firsts
