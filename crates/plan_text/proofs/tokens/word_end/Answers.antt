use Rattle.std.proofs.Common.{arith}
use Rattle.std.proofs.lemmas.Grind.{common_steps}
use Rattle.plan_text.proofs.tokens.word_end.Goals as goal

pub returns-then-not-is_letter-clause-word : goal.returns-then-not-is_letter-clause-word
returns-then-not-is_letter-clause-word c = grind (arith, common_steps)

pub loop-i-preserved : goal.loop-i-preserved
loop-i-preserved c = grind (arith, common_steps)

pub returns-clause-word : goal.returns-clause-word
returns-clause-word c = grind (arith, common_steps)
