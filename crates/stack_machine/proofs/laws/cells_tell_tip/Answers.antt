use Rattle.stack_machine.proofs.PendingCells.{pending_are_in_a_row}
use Rattle.stack_machine.proofs.StackPlans.{cells_tell_tip, cells_exist, cells_are_the_only_ones, cells_fit_exactly_where_within}
use Rattle.stack_machine.proofs.laws.cells_tell_tip.Goals as goal

pub returns-clause-tip : goal.returns-clause-tip
returns-clause-tip g c = cells_tell_tip g.N.Network.net c.requires.lawful c.requires.total

pub returns-clause-only : goal.returns-clause-only
returns-clause-only g c = cells_are_the_only_ones g.N.Network.net c.requires.lawful c.requires.total

pub returns-clause-fit : goal.returns-clause-fit
returns-clause-fit g c = cells_fit_exactly_where_within g.N.Network.net c.requires.lawful c.requires.total

pub returns-clause-some : goal.returns-clause-some
returns-clause-some g c = cells_exist g.N.Network.net c.requires.lawful c.requires.total

pub returns-clause-always : goal.returns-clause-always
returns-clause-always g c = pending_are_in_a_row g.N.Network.net c.requires.total
