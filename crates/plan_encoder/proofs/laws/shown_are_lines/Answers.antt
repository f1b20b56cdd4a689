use Rattle.plan_encoder.proofs.ShownLines.{shown_are_lines}
use Rattle.plan_encoder.proofs.laws.shown_are_lines.Goals as goal

pub returns : goal.returns
returns c = shown_are_lines c.args.compiled.now
