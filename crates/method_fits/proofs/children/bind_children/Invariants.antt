use Rattle.std.proofs.Common.{ℕ, ◌≤◌, length, drop}
use Rattle.value_choices.proofs.Settling.{IsLeft}
use Rattle.method_fits.specs.Subtasks.{AreWorksOf, said_works, with_values}
use Rattle.method_fits.proofs.children.bind_children.Given as goal

abbrev pub invariant-loop-child : goal.invariant-loop-child
invariant-loop-child l = record {
  within : l.place ≤ length l.said;
  settles : (m : ℕ) → IsLeft (λ values. AreWorksOf l.c (with_values m values) l.children (said_works l.said))
      (λ values. AreWorksOf l.c (with_values m values) (drop l.child-index l.children) (drop l.place (said_works l.said))) l.initial.known
      l.known;
}
