use Rattle.command_words.specs.Names.{words_of}
use Rattle.htn_cli.proofs.CallsMade.{outside_done, outside_refused, outside_finding}
use Rattle.htn_cli.proofs.process.run_outside.Goals as goal

pub returns-clause-passed : goal.returns-clause-passed
returns-clause-passed c = λ e. outside_done (words_of c.args.words.now) c.args.files.now.passed c.run.new.files.passed _ _ (c.run.ensures.passed e)

pub returns-clause-stopped : goal.returns-clause-stopped
returns-clause-stopped c = λ e. outside_refused (words_of c.args.words.now) c.args.files.now.passed c.run.new.files.passed _ _ _ (c.run.ensures.stopped e)

pub returns-clause-found : goal.returns-clause-found
returns-clause-found c = λ e. outside_finding (words_of c.args.words.now) c.args.files.now.passed c.run.new.files.passed _ _ (c.run.ensures.found e)
