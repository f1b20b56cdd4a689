use Rattle.std.proofs.Common.{take, subst}
use Rattle.std.proofs.lemmas.Result.{IfOk-weaker, IfErr-weaker}
use Rattle.tree_decoder.specs.Decoding.{Takes}
use Rattle.tree_decoder.proofs.Lists.{taken_more, fails_there, taken_all}
use Rattle.tree_decoder.proofs.plan.decode.Goals as goal

pub returns-in-Some : goal.returns-in-Some
returns-in-Some c =
    let plan = c.args.plan.now in
    let step = c.index-plan-i.result in
    let i = c.loop-i.i in
    let fails = subst (Takes step c.loop-i.decoder c.take_action.new.self) c.in-Some.is c.in_ok-why.ensures.taken in
    record {
      decoded = tt;
      refused = fails_there c.args.c.now c.args.slots plan i step c.loop-i-test.true c.index-plan-i.is c.in-Some.why
          (fails c.args.c.now c.args.slots (take i plan) c.loop-i.invariant);
    }

pub loop-i-preserved : goal.loop-i-preserved
loop-i-preserved c =
    let plan = c.args.plan.now in
    let step = c.index-plan-i.result in
    let i = c.loop-i.i in
    let taken = subst (Takes step c.loop-i.decoder c.take_action.new.self) c.in_default.is c.in_ok-why.ensures.taken in
    taken_more c.args.c.now c.args.slots plan i step c.loop-i-test.true c.index-plan-i.is c.take_action.new.self
    (taken c.args.c.now c.args.slots (take i plan) c.loop-i.invariant)

pub returns : goal.returns
returns c =
    let p = c.args.c.now in
    let plan = c.args.plan.now in
    let all = taken_all p c.args.slots plan c.loop-i.i c.loop-i.decoder c.loop-i-test.false c.loop-i.invariant in
    record {
      decoded = IfOk-weaker c.finish.result _ _ (λ decoded f. f p c.args.slots plan all) c.finish.ensures.decoded;
      refused = IfErr-weaker c.finish.result _ _ (λ why l. l p c.args.slots plan all) c.finish.ensures.refused;
    }
