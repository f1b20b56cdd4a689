use Rattle.std.proofs.Common.{subst}
use Rattle.name_binding.proofs.Found.{IsClearing, clearing_start, clearing_more}
use Rattle.name_binding.proofs.places.Places.clear.Goals as goal

pub loop-number-init : goal.loop-number-init
loop-number-init c = clearing_start c.self.inside.cells.items c.self.inside.numbers.items c.self.invariant

pub loop-number-preserved : goal.loop-number-preserved
loop-number-preserved c =
    clearing_more c.loop-number.self-inside.cells.items c.pop.new.self.items c.in-Some.number (subst (IsClearing c.loop-number.self-inside.cells.items) c.in-Some.ensures.items c.loop-number.invariant)
