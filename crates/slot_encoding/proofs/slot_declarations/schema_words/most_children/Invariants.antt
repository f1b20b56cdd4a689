use Rattle.std.proofs.Common.{◌≡◌, max, length, drop}
use Rattle.std.specs.List.{fold}
use Rattle.plan_model.specs.declared.schemas.MethodPlan.{MethodPlan}
use Rattle.slot_encoding.specs.slot_declarations.Vocabulary.{most_children}
use Rattle.slot_encoding.proofs.slot_declarations.schema_words.most_children.Given as goal

abbrev pub invariant-loop-plan : goal.invariant-loop-plan
invariant-loop-plan l = fold (λ a (plan : MethodPlan). max a (length plan.schema.children)) l.most (drop l.plan-index l.methods) ≡ most_children l.methods
