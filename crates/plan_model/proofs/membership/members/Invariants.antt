use Rattle.std.proofs.Common.{◌≡◌}
use Rattle.plan_model.specs.Typing.{InType}
use Rattle.plan_model.proofs.Numbers.{AreFound}
use Rattle.plan_model.proofs.membership.members.Given as goal

abbrev pub invariant-loop-i : goal.invariant-loop-i
invariant-loop-i l = record {
  items : l.object-items ≡ l.objects;
  found : AreFound (λ x. InType l.types l.objects x l.ty) l.i l.members;
}
