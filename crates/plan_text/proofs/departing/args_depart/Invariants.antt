use Rattle.std.proofs.Common.{◌-◌}
use Rattle.text_forms.specs.Placed.{parts_at, IsWhole}
use Rattle.text_forms.specs.Tokens.{token_count}
use Rattle.plan_text.proofs.FormByForm.{ArgsAreNames}
use Rattle.plan_text.proofs.departing.args_depart.Given as goal

abbrev pub invariant-loop-word : goal.invariant-loop-word
invariant-loop-word l = record {
  whole : IsWhole (parts_at l.s l.i);
  names : ArgsAreNames (parts_at l.s l.initial.i) (parts_at l.s l.i);
}

abbrev pub decreases-loop-word : goal.decreases-loop-word
decreases-loop-word l = token_count l.s - l.i
