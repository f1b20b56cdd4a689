use Rattle.node_conditions.proofs.Rows.{rows_tell_standing}
use Rattle.node_conditions.proofs.laws.rows_tell_standing.Goals as goal

pub returns : goal.returns
returns c = rows_tell_standing c.args.c.now
