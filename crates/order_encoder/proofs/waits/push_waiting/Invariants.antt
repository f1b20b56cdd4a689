use Rattle.std.proofs.Common.{◌≡◌, ◌++◌}
use Rattle.plan_model.specs.declared.options.Style.TheVariants.{Flat}
use Rattle.order_encoder.specs.NamedOrders.{waits}
use Rattle.order_encoder.proofs.waits.push_waiting.Given as goal

abbrev pub invariant-loop-k : goal.invariant-loop-k
invariant-loop-k l = l.into ≡ l.initial.into ++ waits l.n l.k 0 Flat l.h
