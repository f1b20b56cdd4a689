use Rattle.name_binding.proofs.StepLemmas.{flat-behind}
use Rattle.hddl_bind.specs.WholeUnions.{head_unions}
use Rattle.hddl_bind.proofs.whole_unions.put_unions_of_heads.Goals as goal

pub loop-head-preserved : goal.loop-head-preserved
loop-head-preserved c =
    let x = c.head-item.result in
    flat-behind c.args.heads.now c.loop-head.head-index x x c.loop-head-test.true c.head-item.is (head_unions c.args.types.now) _ _ _ c.loop-head.invariant c.in_ok-put_unions.ensures.put
