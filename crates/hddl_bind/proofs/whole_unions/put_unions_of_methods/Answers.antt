use Rattle.name_binding.proofs.StepLemmas.{flat-behind}
use Rattle.hddl_bind.specs.WholeUnions.{method_unions}
use Rattle.hddl_bind.proofs.whole_unions.put_unions_of_methods.Goals as goal

pub loop-method-preserved : goal.loop-method-preserved
loop-method-preserved c =
    let x = c.method-item.result in
    flat-behind c.args.methods.now c.loop-method.method-index x x c.loop-method-test.true c.method-item.is (method_unions c.args.types.now) _ _ _ c.loop-method.invariant c.in_ok-put_unions_of_method.ensures.put
