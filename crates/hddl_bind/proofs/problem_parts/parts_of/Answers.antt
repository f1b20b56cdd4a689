use Rattle.std.proofs.Common.{[], ap, ◌∙◌}
use Rattle.name_binding.specs.Spots.{noted}
use Rattle.name_binding.specs.Typed.{params_faults}
use Rattle.name_binding.specs.Formulas.{formula_faults}
use Rattle.hddl_bind.proofs.Steps.{noted_four}
use Rattle.hddl_bind.specs.Facts.{facts_faults}
use Rattle.hddl_bind.specs.ProblemParts.{top_faults}
use Rattle.hddl_bind.proofs.problem_parts.parts_of.Goals as goal

pub returns-clause-faults : goal.returns-clause-faults
returns-clause-faults c =
    let known = c.args.known.now in
    let callables = c.args.callables.now in
    let p = c.args.p.now in
    let top = c.in_ok-top.ensures.faults in
    let init = c.in_ok-init.ensures.faults in
    let aim = c.in_ok-goal.ensures.faults ∙ ap (λ s. noted c.facts_of.new.faults.least (formula_faults known s p.goal)) c.new-none.ensures.none in
    (top.0, top.1, noted_four _ _ _ _ _ (params_faults known.types p.objects) (facts_faults known p.init) (formula_faults known [] p.goal) (top_faults known callables p top.0) c.in_ok-objects.ensures.faults init aim top.2)
