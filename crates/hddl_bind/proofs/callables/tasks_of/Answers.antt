use Rattle.std.proofs.Common.{◌++◌, ◌∷◌, [], take, ap, sym, ◌∙◌}
use Rattle.plan_model.specs.declared.networks.Head.TheVariants.{Task}
use Rattle.hddl_bind.specs.Callables.{callable, callables_from}
use Rattle.hddl_bind.proofs.Called.{callables_from_more}
use Rattle.hddl_bind.proofs.Steps.{put_is}
use Rattle.hddl_bind.proofs.callables.tasks_of.Goals as goal

pub loop-k-preserved : goal.loop-k-preserved
loop-k-preserved c =
    let xs = c.args.tasks.now in
    let x = c.index-tasks-k.result in
    let n = c.in_ok-number.field-0 in
    put_is c.callable_of.result c.loop-k.made c.put.new.self (callable (Task n) x) c.callable_of.ensures c.in_ok-put.ensures.put
    ∙ ap (λ made. made ++ callable (Task n) x ∷ []) c.loop-k.invariant
    ∙ ap (λ m. callables_from Task 0 (take c.loop-k.k xs) ++ callable (Task m) x ∷ []) c.in_ok-number.ensures.same
    ∙ ap (λ y. callables_from Task 0 (take c.loop-k.k xs) ++ callable (Task c.loop-k.k) y ∷ []) c.index-tasks-k.is
    ∙ sym (callables_from_more Task xs c.loop-k.k x c.loop-k-test.true)
