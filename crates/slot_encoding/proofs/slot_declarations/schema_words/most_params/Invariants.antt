use Rattle.std.proofs.Common.{◌≡◌, max, length, drop}
use Rattle.std.specs.List.{fold}
use Rattle.plan_model.specs.declared.schemas.TaskSchema.{TaskSchema}
use Rattle.plan_model.specs.declared.schemas.ActionSchema.{ActionSchema}
use Rattle.plan_model.specs.declared.schemas.MethodPlan.{MethodPlan}
use Rattle.slot_encoding.specs.slot_declarations.Vocabulary.{most_task_params, most_action_params, most_method_params}
use Rattle.slot_encoding.proofs.slot_declarations.schema_words.most_params.Given as goal

abbrev pub invariant-loop-task : goal.invariant-loop-task
invariant-loop-task l = fold (λ a (task : TaskSchema). max a (length task.params)) l.of_tasks (drop l.task-index l.tasks) ≡ most_task_params l.tasks

abbrev pub invariant-loop-action : goal.invariant-loop-action
invariant-loop-action l = fold (λ a (action : ActionSchema). max a (length action.params)) l.of_actions (drop l.action-index l.actions) ≡ most_action_params l.actions

abbrev pub invariant-loop-plan : goal.invariant-loop-plan
invariant-loop-plan l = fold (λ a (plan : MethodPlan). max a (length plan.schema.params)) l.of_methods (drop l.plan-index l.methods) ≡ most_method_params l.methods
