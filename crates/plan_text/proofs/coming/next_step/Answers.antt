use Rattle.std.proofs.Common.{rules}
use Rattle.plan_text.proofs.coming.next_step.Goals as goal

pub returns-in-End-token_at : goal.returns-in-End-token_at
returns-in-End-token_at c = search rules
