use Rattle.command_words.specs.Words.{translation_of}
use Rattle.htn_cli.proofs.Results.{if_ok_too, if_err_too}
use Rattle.htn_cli.proofs.Leavings.{soundly, gives_made_for, stops_made_for}
use Rattle.htn_cli.proofs.translation.translated.Goals as goal

pub output_for-output-requires-clause-soundly : goal.output_for-output-requires-clause-soundly
output_for-output-requires-clause-soundly c =
    soundly c.args.domain.now c.args.problem.now c.args.asked.now.checks c.in_ok-compiled.compiled c.in_ok-compiled.ensures.compiled

pub returns-clause-output : goal.returns-clause-output
returns-clause-output c =
    if_ok_too c.output_for-output.result
    (gives_made_for (translation_of c.args.asked.now) c.args.domain.now c.args.problem.now c.in_ok-compiled.compiled c.in_ok-compiled.ensures.compiled c.args.given c.requires.given)
    c.output_for-output.ensures.output

pub returns-clause-refused : goal.returns-clause-refused
returns-clause-refused c =
    if_err_too c.output_for-output.result
    (stops_made_for (translation_of c.args.asked.now) c.args.domain.now c.args.problem.now c.in_ok-compiled.compiled c.in_ok-compiled.ensures.compiled c.args.given c.requires.given)
    c.output_for-output.ensures.refused
