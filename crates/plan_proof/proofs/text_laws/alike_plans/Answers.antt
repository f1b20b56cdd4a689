use Rattle.plan_proof.proofs.texts.SamePlans.{alike-plans}
use Rattle.plan_proof.proofs.text_laws.alike_plans.Goals as goal

pub returns : goal.returns
returns c = alike-plans c.args.one.now c.args.other.now c.requires.one_sound c.requires.other_sound c.requires.alike
