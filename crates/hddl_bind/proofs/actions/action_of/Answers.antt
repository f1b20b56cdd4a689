use Rattle.std.proofs.Common.{ap, ◌∙◌}
use Rattle.name_binding.specs.Entered.{variables_of}
use Rattle.name_binding.specs.Spots.{noted}
use Rattle.name_binding.specs.Typed.{params_faults}
use Rattle.name_binding.specs.Formulas.{formula_faults}
use Rattle.name_binding.specs.Effects.{effect_faults}
use Rattle.hddl_bind.proofs.Steps.{noted_three}
use Rattle.hddl_bind.specs.Actions.{scope_of}
use Rattle.hddl_bind.proofs.actions.action_of.Goals as goal

pub returns-clause-faults : goal.returns-clause-faults
returns-clause-faults c =
    let known = c.args.known.now in
    let a = c.args.action.now in
    let entered = c.in_ok-enter_alone.ensures.entered ∙ ap variables_of c.as_slice.ensures.words in
    let pre = c.in_ok-pre.ensures.faults ∙ ap (λ s. noted c.params_of.new.faults.least (formula_faults known s a.pre)) entered in
    let eff = c.in_ok-eff.ensures.faults ∙ ap (λ s. noted c.formula_of.new.faults.least (effect_faults known s a.eff)) (c.in_ok-pre.ensures.kept ∙ entered) in
    noted_three _ _ _ _ (params_faults known.types a.head.params) (formula_faults known (scope_of a.head) a.pre) (effect_faults known (scope_of a.head) a.eff) c.in_ok-params.ensures.faults pre eff
