use Rattle.command_words.specs.Words.{prune_of}
use Rattle.htn_cli.proofs.Results.{if_ok_too, if_err_too}
use Rattle.htn_cli.proofs.Prunings.{gives_pruned, pruned_stops}
use Rattle.htn_cli.proofs.prune.pruned.Goals as goal

pub output_for-output-requires-clause-sound : goal.output_for-output-requires-clause-sound
output_for-output-requires-clause-sound c = c.in_ok-source.ensures.read.sound

pub returns-clause-output : goal.returns-clause-output
returns-clause-output c =
    if_ok_too c.output_for-output.result
    (gives_pruned (prune_of c.args.asked.now) c.args.domain.now c.args.problem.now c.in_ok-source.source c.in_ok-source.ensures.read)
    c.output_for-output.ensures.output

pub returns-clause-refused : goal.returns-clause-refused
returns-clause-refused c =
    if_err_too c.output_for-output.result
    (pruned_stops (prune_of c.args.asked.now) c.args.domain.now c.args.problem.now c.in_ok-source.source c.in_ok-source.ensures.read)
    c.output_for-output.ensures.refused
