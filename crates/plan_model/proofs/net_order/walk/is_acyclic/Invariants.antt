use Rattle.std.proofs.Common.{ℕ, ◌≡◌, ◌<◌, IsTrue, length}
use Rattle.plan_model.specs.net_order.Marks.{has, IsWithin}
use Rattle.plan_model.specs.net_order.Walk.{IsSettled}
use Rattle.plan_model.proofs.net_order.walk.is_acyclic.Given as goal

abbrev pub invariant-loop-child : goal.invariant-loop-child
invariant-loop-child l = record {
  settled : IsSettled l.before l.listed;
  room : length l.entered ≡ length l.before;
  within : IsWithin l.entered l.listed;
  done : (i : ℕ) → i < l.child → IsTrue (has l.listed i);
}
