use Rattle.plan_model.proofs.task_networks.ScheduleLaws.{prepared_is_lawful}
use Rattle.plan_model.specs.plan_meaning.Network.{network}
use Rattle.plan_model.proofs.plan_meaning.CompiledNetworks.{prepared}
use Rattle.plan_model.proofs.plan_meaning.laws.compiled_network_is_lawful.Goals as goal

pub returns : goal.returns
returns c = prepared_is_lawful (network c.args.compiled.now) (prepared c.args.problem.now c.args.checks.now c.args.compiled.now c.requires.ordered c.requires.compiled)
