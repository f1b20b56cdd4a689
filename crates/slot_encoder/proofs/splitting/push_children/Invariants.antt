use Rattle.std.proofs.Common.{◌≡◌, ◌++◌, map, drop}
use Rattle.plan_model.specs.declared.effects.Effect.TheVariants as E
use Rattle.slot_encoder.specs.Made as made
use Rattle.slot_encoder.proofs.splitting.push_children.Given as goal

abbrev pub invariant-loop-child : goal.invariant-loop-child
invariant-loop-child l = record { place : l.i ≡ l.child-index; into : l.into ++ map E.Add (made.child_atoms l.frame l.front l.check (drop l.child-index l.slots) (drop l.child-index l.children)) ≡ l.initial.into ++ map E.Add (made.child_atoms l.frame l.front l.check l.slots l.children) }
