use Rattle.plan_proof.proofs.values.Headlines.{same_but_names}
use Rattle.plan_proof.proofs.value_laws.values_are_same_but_names.Goals as goal

pub returns : goal.returns
returns c = same_but_names c.args.domain.now c.args.problem.now c.args.one.now c.args.other.now c.requires.first c.requires.second c.requires.sound
