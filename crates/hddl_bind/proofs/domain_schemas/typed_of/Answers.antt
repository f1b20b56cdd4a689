use Rattle.std.proofs.Common.{ap, ◌∙◌}
use Rattle.name_binding.specs.Spots.{noted}
use Rattle.name_binding.specs.Typed.{params_faults}
use Rattle.hddl_bind.proofs.Steps.{noted_three}
use Rattle.hddl_bind.specs.Schemas.{heads_faults}
use Rattle.hddl_bind.proofs.domain_schemas.typed_of.Goals as goal

pub returns-clause-faults : goal.returns-clause-faults
returns-clause-faults c =
    let types = c.args.types.now in
    let d = c.args.d.now in
    let predicates = c.in_ok-predicates.ensures.faults ∙ ap (λ hs. noted c.objects_of.new.faults.least (heads_faults types hs)) c.as_slice.ensures.items in
    let tasks = c.in_ok-tasks.ensures.faults ∙ ap (λ hs. noted c.predicates_of.new.faults.least (heads_faults types hs)) c.as_slice-2.ensures.items in
    noted_three _ _ _ _ (params_faults types d.constants) (heads_faults types d.predicates) (heads_faults types d.tasks) c.in_ok-objects.ensures.faults predicates tasks
