use Rattle.state_history.specs.Histories.{state_in}
use Rattle.node_conditions.specs.Standing.{RowMayStand}
use Rattle.node_conditions.proofs.latest.latest_stands.Given as goal

abbrev pub ghosts-run : goal.ghosts-run
ghosts-run a = record { stands = RowMayStand a.c.now a.tree.now (state_in a.history) }
