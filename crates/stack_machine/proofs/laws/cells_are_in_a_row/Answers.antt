use Rattle.stack_machine.proofs.CellRows.{cells_are_in_a_row}
use Rattle.stack_machine.proofs.laws.cells_are_in_a_row.Goals as goal

pub returns : goal.returns
returns g c = cells_are_in_a_row g.N.Network.net
