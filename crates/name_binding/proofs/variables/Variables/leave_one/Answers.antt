use Rattle.std.proofs.Common.{◌<◌, subst, sym}
use Rattle.name_binding.specs.Entered.{AreInForce}
use Rattle.name_binding.proofs.InForce.{left, room_to_leave}
use Rattle.name_binding.proofs.variables.Variables.leave_one.Goals as goal

pub index_mut-requires : goal.index_mut-requires
index_mut-requires c =
    subst (λ m. c.in-Some.innermost.number < m) (sym c.self.inside.cells.ok.0) (room_to_leave c.self.inside.cells.items c.pop.new.self.items c.in-Some.innermost (subst (AreInForce c.self.inside.cells.items) c.in-Some.ensures.items c.self.invariant))

pub invariant_of-self : goal.invariant_of-self
invariant_of-self c = left c.self.inside.cells.items c.pop.new.self.items c.in-Some.innermost (subst (AreInForce c.self.inside.cells.items) c.in-Some.ensures.items c.self.invariant)
