use Rattle.std.proofs.Common.{◌≡◌, ◌++◌, arith}
use Rattle.std.proofs.lemmas.Grind.{common_steps}
use Rattle.name_binding.proofs.StepLemmas.{flat-behind}
use Rattle.hddl_bind.specs.WholeUnions.{action_unions}
use Rattle.hddl_bind.proofs.whole_unions.put_unions_of_actions.Goals as goal

pub loop-action-preserved : goal.loop-action-preserved
loop-action-preserved c =
    let x = c.action-item.result in
    let put : c.put_unions_of_effect.new.into.items ≡ c.loop-action.into.items ++ action_unions c.args.types.now x = grind (arith, common_steps) in
    flat-behind c.args.actions.now c.loop-action.action-index x x c.loop-action-test.true c.action-item.is (action_unions c.args.types.now) _ _ _ c.loop-action.invariant put
