use Rattle.std.proofs.Common.{ℕ, ◌≡◌, ◌<◌, length, get_or}
use Rattle.plan_model.specs.declared.terms.Term.{Term}
use Rattle.plan_model.specs.plan_meaning.Truth.{value_of}
use Rattle.kept_front.proofs.works.stand_for.Given as goal

abbrev pub invariant-loop-term : goal.invariant-loop-term
invariant-loop-term l = (k : ℕ) (d : Term) → k < length l.yielded → value_of l.values (get_or l.terms k d) ≡ get_or l.objects k 0
