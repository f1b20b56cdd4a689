use Rattle.std.proofs.Common.{refl}
use Rattle.plan_model.proofs.task_networks.ScheduleLaws.{prepared_is_lawful}
use Rattle.plan_model.specs.declared.values.Compiled.{Compiled}
use Rattle.plan_model.specs.plan_meaning.Network.{network}
use Rattle.plan_model.proofs.plan_meaning.CompiledNetworks.{prepared}
use Rattle.bound_calc.proofs.method_precs.Fits.{fit_top, fit_methods}
use Rattle.bound_calc.proofs.method_precs.compilation.compile.Goals as goal

pub plans_of-requires-clause-top : goal.plans_of-requires-clause-top
plans_of-requires-clause-top c = fit_top c.args.problem c.requires.ordered c.requires.small

pub plans_of-requires-clause-methods : goal.plans_of-requires-clause-methods
plans_of-requires-clause-methods c = fit_methods c.args.problem c.requires.ordered c.requires.small

pub returns-in-Ok-clause-lawful : goal.returns-in-Ok-clause-lawful
returns-in-Ok-clause-lawful c =
    let compiled : Compiled = record { hddl = c.args.problem; methods = c.in-Ok.methods } in
    prepared_is_lawful (network compiled) (prepared c.args.problem c.args.checks.now compiled c.requires.ordered (record { hddl = refl; methods = c.in-Ok.ensures }))
