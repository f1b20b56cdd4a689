use Rattle.std.proofs.Common.{◌<◌, ◌^◌, length, arith}
use Rattle.numbered_lines.proofs.Worded.{few_methods}
use Rattle.htn_cli.proofs.problem.ordered_for.Goals as goal

pub untotal-requires-clause-few : goal.untotal-requires-clause-few
untotal-requires-clause-few c = let few = few_methods c.args.compiled.now c.requires.soundly in omega (arith, few)
