use Rattle.stack_decoding.proofs.CellSteps.{each_step_is_of_one_act}
use Rattle.stack_decoding.proofs.laws.steps_are_of_one_act.Goals as goal

pub returns : goal.returns
returns c = each_step_is_of_one_act c.args.compiled.now c.requires.total
