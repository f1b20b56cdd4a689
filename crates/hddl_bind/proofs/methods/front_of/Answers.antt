use Rattle.std.proofs.Common.{ap, ◌∙◌}
use Rattle.name_binding.specs.Spots.{noted}
use Rattle.name_binding.specs.Terms.{terms_faults}
use Rattle.name_binding.specs.Typed.{params_faults}
use Rattle.name_binding.specs.Formulas.{formula_faults}
use Rattle.hddl_bind.specs.Calls.{method_task, call_faults}
use Rattle.hddl_bind.proofs.Steps.{noted_four}
use Rattle.hddl_bind.specs.Actions.{scope_of}
use Rattle.hddl_bind.proofs.methods.front_of.Goals as goal

pub returns-clause-faults : goal.returns-clause-faults
returns-clause-faults c =
    let known = c.args.known.now in
    let callables = c.args.callables.now in
    let m = c.args.method.now in
    let scope = scope_of m.head in
    let entered = c.requires.entered in
    let args = c.in_ok-task_args.ensures.faults ∙ ap (λ s. noted c.task_of_method-task.new.faults.least (terms_faults known.objects s m.task.args)) entered in
    let pre = c.in_ok-pre.ensures.faults ∙ ap (λ s. noted c.terms_of.new.faults.least (formula_faults known s m.pre)) entered in
    noted_four _ _ _ _ _ (params_faults known.types m.head.params) (call_faults (method_task callables m.task) m.task) (terms_faults known.objects scope m.task.args) (formula_faults known scope m.pre) c.in_ok-params.ensures.faults c.task_of_method-task.ensures.faults args pre
