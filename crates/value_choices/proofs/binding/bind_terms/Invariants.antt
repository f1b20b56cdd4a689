use Rattle.std.proofs.Common.{◌≡◌}
use Rattle.plan_model.specs.plan_meaning.Truth.{values_of}
use Rattle.value_choices.proofs.Settling.{IsLeft, TermsLeft}
use Rattle.value_choices.proofs.binding.bind_terms.Given as goal

abbrev pub invariant-loop-i : goal.invariant-loop-i
invariant-loop-i l = IsLeft (λ values. values_of values l.terms ≡ l.objects) (TermsLeft l.terms l.objects l.i) l.initial.known l.known
