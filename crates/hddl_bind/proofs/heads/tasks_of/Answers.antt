use Rattle.std.proofs.Common.{List, [], ◌∷◌, ◌++◌, ap, ◌∙◌}
use Rattle.plan_model.specs.declared.terms.Param.{Param}
use Rattle.plan_model.specs.declared.schemas.TaskSchema.{TaskSchema}
use Rattle.hddl_bind.proofs.Steps.{map_step, noted_step}
use Rattle.hddl_bind.specs.Schemas.{task_bound, head_faults}
use Rattle.hddl_bind.proofs.heads.tasks_of.Goals as goal

pub loop-head-preserved : goal.loop-head-preserved
loop-head-preserved c =
    let xs = c.args.heads.now in
    let i = c.loop-head.head-index in
    let x = c.head-item.result in
    let l = c.loop-head-test.true in
    let types = c.args.types.now in
    let made : List Param → TaskSchema = λ params. record { name = x.name.name; params = params } in
    record {
      bound = map_step xs i x x l c.head-item.is (task_bound types) _ _ c.loop-head.invariant.bound (c.in_ok-push.ensures.pushed ∙ ap (λ params. c.loop-head.bound ++ made params ∷ []) c.in_ok-params.ensures.bound);
      faults = noted_step xs i x x l c.head-item.is (head_faults types) _ _ _ c.loop-head.invariant.faults c.in_ok-params.ensures.faults;
    }
