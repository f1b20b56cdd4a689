use Rattle.std.proofs.Common.{◌++◌, ◌∷◌, [], take, ap, sym, ◌∙◌}
use Rattle.plan_model.specs.declared.networks.Head.TheVariants.{Action}
use Rattle.hddl_reader.specs.declared.sections.RawAction.{RawAction}
use Rattle.hddl_bind.specs.Callables.{callable, callables_from, heads}
use Rattle.hddl_bind.proofs.Called.{callables_from-heads_more}
use Rattle.hddl_bind.proofs.Steps.{put_is}
use Rattle.hddl_bind.proofs.callables.actions_of.Goals as goal

pub loop-k-preserved : goal.loop-k-preserved
loop-k-preserved c =
    let xs = c.args.actions.now in
    let x = c.index-actions-k.result in
    let n = c.in_ok-number.field-0 in
    let front = callables_from Action 0 (heads (take c.loop-k.k xs)) in
    put_is c.callable_of.result c.loop-k.made c.put.new.self (callable (Action n) x.head) c.callable_of.ensures c.in_ok-put.ensures.put
    ∙ ap (λ made. made ++ callable (Action n) x.head ∷ []) c.loop-k.invariant
    ∙ ap (λ m. front ++ callable (Action m) x.head ∷ []) c.in_ok-number.ensures.same
    ∙ ap (λ (y : RawAction). front ++ callable (Action c.loop-k.k) y.head ∷ []) c.index-actions-k.is
    ∙ sym (callables_from-heads_more Action xs c.loop-k.k x c.loop-k-test.true)
