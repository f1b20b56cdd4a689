use Rattle.std.proofs.Common.{arith}
use Rattle.std.proofs.lemmas.Grind.{common_steps}
use Rattle.hddl_bind.proofs.Steps.{map_step, put_is, if_put}
use Rattle.hddl_bind.specs.Methods.{method_bound}
use Rattle.hddl_bind.proofs.MethodsNoted.{noted-more}
use Rattle.hddl_bind.proofs.methods.methods_of.Goals as goal

pub loop-method-preserved : goal.loop-method-preserved
loop-method-preserved c =
    let xs = c.args.methods.now in
    let i = c.loop-method.method-index in
    let x = c.method-item.result in
    let l = c.loop-method-test.true in
    let known = c.args.known.now in
    let callables = c.args.callables.now in
    let made = c.method_of.result in
    record {
      bound = map_step xs i x x l c.method-item.is (method_bound known callables) _ _ c.loop-method.invariant.bound (put_is made _ _ _ c.method_of.ensures.bound c.in_ok-put.ensures.put);
      faults = noted-more known callables xs i x x _ _ _ l c.method-item.is c.loop-method.invariant.faults (if_put made _ c.method_of.ensures.faults c.in_ok-put.ensures.put);
    }

pub returns-clause-bound : goal.returns-clause-bound
returns-clause-bound c = grind (arith, common_steps)

pub returns-clause-faults : goal.returns-clause-faults
returns-clause-faults c = grind (arith, common_steps)
