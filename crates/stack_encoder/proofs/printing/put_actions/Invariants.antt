use Rattle.std.proofs.Common.{take}
use Rattle.text_forms.specs.sheets.Sheets.{Wrote}
use Rattle.stack_encoder.specs.Heads.{all_actions, actions_put}
use Rattle.stack_encoder.proofs.printing.put_actions.Given as goal

abbrev pub invariant-loop-k : goal.invariant-loop-k
invariant-loop-k l = Wrote (actions_put l.encoding (take l.k (all_actions l.c l.encoding))) l.fn.sheet l.sheet
