use Rattle.std.proofs.Common.{arith}
use Rattle.std.proofs.lemmas.Grind.{common_steps}
use Rattle.text_forms.proofs.sexpr_text.Popped.{popped}
use Rattle.text_forms.proofs.sexpr_text.faults.left_open.Goals as goal
use Rattle.text_forms.proofs.sexpr_text.faults.left_open.Goals.{in-Opening, in-Closing, in-Closing-2, in_default}

pub loop-byte-preserved : goal.loop-byte-preserved
loop-byte-preserved c = elim c.match-class.branch [
  | in-Opening w ↦ grind (arith, common_steps)
  | in-Closing w ↦ grind (arith, common_steps)
  | in-Closing-2 w ↦ grind (arith, common_steps, popped)
  | in_default w ↦ grind (arith, common_steps)
]

pub returns : goal.returns
returns c = grind (arith, common_steps, popped)
