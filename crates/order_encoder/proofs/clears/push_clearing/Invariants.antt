use Rattle.std.proofs.Common.{◌≡◌, ◌++◌}
use Rattle.plan_model.specs.declared.options.Style.TheVariants.{Flat}
use Rattle.order_encoder.specs.NamedOrders.{clears}
use Rattle.order_encoder.proofs.clears.push_clearing.Given as goal

abbrev pub invariant-loop-k : goal.invariant-loop-k
invariant-loop-k l = l.into ≡ l.initial.into ++ clears l.n l.k 0 Flat l.h
