use Rattle.decoding.proofs.ReadSteps.{spellings_are_read, each_is_solution_or_fails}
use Rattle.decoding.proofs.printed_steps.each_list_is_a_solution_or_fails.Goals as goal

pub returns-clause-read : goal.returns-clause-read
returns-clause-read c = spellings_are_read c.args.compiled.now

pub returns-clause-one : goal.returns-clause-one
returns-clause-one c = each_is_solution_or_fails c.args.compiled.now c.requires.lawful
