use Rattle.stack_machine.proofs.StackPlans.{cells_exactly_where_within, one_cells_list}
use Rattle.stack_machine.proofs.laws.cells_are_a_rule.Goals as goal

pub returns-clause-fronts : goal.returns-clause-fronts
returns-clause-fronts g c = cells_exactly_where_within g.N.Network.net c.requires.lawful c.requires.total

pub returns-clause-one : goal.returns-clause-one
returns-clause-one g c = one_cells_list g.N.Network.net c.requires.lawful c.requires.total
