use Rattle.std.proofs.Common.{arith}
use Rattle.gd_reader.proofs.Keeping.{keeps_same}
use Rattle.hddl_reader.proofs.NetworkSteps.{some_of_is}
use Rattle.hddl_reader.proofs.items.some_of.Goals as goal

pub returns-in_err-word_or_end-clause-keeps : goal.returns-in_err-word_or_end-clause-keeps
returns-in_err-word_or_end-clause-keeps g c = keeps_same c.args.names.now

pub returns-in_err-word_or_end-clause-gives : goal.returns-in_err-word_or_end-clause-gives
returns-in_err-word_or_end-clause-gives g c = grind (arith, some_of_is)

pub returns-in_err-item-in-Some-clause-gives : goal.returns-in_err-item-in-Some-clause-gives
returns-in_err-item-in-Some-clause-gives g c = grind (arith, some_of_is)

pub returns-in-None-clause-keeps : goal.returns-in-None-clause-keeps
returns-in-None-clause-keeps g c = keeps_same c.args.names.now

pub returns-in-None-clause-gives : goal.returns-in-None-clause-gives
returns-in-None-clause-gives g c = grind (arith, some_of_is)

pub returns-then-is_word-clause-gives : goal.returns-then-is_word-clause-gives
returns-then-is_word-clause-gives g c = grind (arith, some_of_is)

pub returns-in_ok-push-in-Some-clause-gives : goal.returns-in_ok-push-in-Some-clause-gives
returns-in_ok-push-in-Some-clause-gives g c = grind (arith, some_of_is)
