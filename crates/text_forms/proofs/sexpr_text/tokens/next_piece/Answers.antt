use Rattle.std.proofs.Common.{arith}
use Rattle.std.proofs.lemmas.Grind.{common_steps}
use Rattle.text_forms.proofs.sexpr_text.tokens.next_piece.Goals as goal

pub returns-in-Opening-clause-tokens : goal.returns-in-Opening-clause-tokens
returns-in-Opening-clause-tokens c = grind (arith, common_steps)

pub returns-in-Closing-clause-tokens : goal.returns-in-Closing-clause-tokens
returns-in-Closing-clause-tokens c = grind (arith, common_steps)

pub returns-in-Letter-clause-tokens : goal.returns-in-Letter-clause-tokens
returns-in-Letter-clause-tokens c = grind (arith, common_steps)

pub returns-clause-tokens : goal.returns-clause-tokens
returns-clause-tokens c = grind (arith, common_steps)
