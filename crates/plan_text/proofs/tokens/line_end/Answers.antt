use Rattle.std.proofs.Common.{arith}
use Rattle.std.proofs.lemmas.Grind.{common_steps}
use Rattle.plan_text.proofs.tokens.line_end.Goals as goal

pub returns-then-text-i-eq10-clause-tokens : goal.returns-then-text-i-eq10-clause-tokens
returns-then-text-i-eq10-clause-tokens c = grind (arith, common_steps)

pub returns-then-text-i-eq10-clause-clean : goal.returns-then-text-i-eq10-clause-clean
returns-then-text-i-eq10-clause-clean c = grind (arith, common_steps)

pub loop-i-preserved : goal.loop-i-preserved
loop-i-preserved c = grind (arith, common_steps)

pub returns-clause-tokens : goal.returns-clause-tokens
returns-clause-tokens c = grind (arith, common_steps)

pub returns-clause-clean : goal.returns-clause-clean
returns-clause-clean c = grind (arith, common_steps)
