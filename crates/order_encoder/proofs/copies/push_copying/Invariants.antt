use Rattle.std.proofs.Common.{◌≡◌, ◌++◌}
use Rattle.plan_model.specs.declared.options.Style.TheVariants.{Flat}
use Rattle.order_encoder.specs.NamedOrders.{copies}
use Rattle.order_encoder.proofs.copies.push_copying.Given as goal

abbrev pub invariant-loop-k : goal.invariant-loop-k
invariant-loop-k l = l.into ≡ l.initial.into ++ copies l.n l.k 0 Flat l.h l.child
