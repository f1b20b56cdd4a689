use Rattle.stack_decoding.proofs.StackLists.{each_is_solution_or_fails}
use Rattle.stack_decoding.proofs.laws.each_list_is_a_solution_or_fails.Goals as goal

pub returns : goal.returns
returns c = each_is_solution_or_fails c.args.compiled.now c.requires.lawful c.requires.total
