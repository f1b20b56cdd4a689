use Rattle.std.proofs.Common.{ap, ◌∙◌, subst}
use Rattle.name_binding.specs.Spots.{noted}
use Rattle.hddl_bind.proofs.Steps.{noted_three}
use Rattle.hddl_bind.specs.Actions.{actions_faults}
use Rattle.hddl_bind.specs.Methods.{methods_faults, AreMethodsNoted}
use Rattle.hddl_bind.specs.DomainSchemas.{typed_faults}
use Rattle.hddl_bind.proofs.domain_schemas.schemas_of.Goals as goal

pub returns-clause-faults : goal.returns-clause-faults
returns-clause-faults c =
    let known = c.args.known.now in
    let callables = c.args.callables.now in
    let d = c.args.d.now in
    let actions = c.in_ok-actions.ensures.faults ∙ ap (λ xs. noted c.typed_of.new.faults.least (actions_faults known xs)) c.as_slice.ensures.items in
    let methods = subst (λ ms. AreMethodsNoted known callables ms c.actions_of.new.faults.least c.methods_of.new.faults.least) c.as_slice-2.ensures.items c.in_ok-methods.ensures.faults in
    (methods.0, methods.1, noted_three _ _ _ _ (typed_faults known.types d) (actions_faults known d.actions) (methods_faults known callables d.methods methods.0) c.in_ok-typed.ensures.faults actions methods.2)
