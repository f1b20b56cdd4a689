use Rattle.numbered_lines.proofs.Known.{root_known, nodes_known}
use Rattle.numbered_lines.proofs.numbering.lines.Goals as goal

pub all-requires-clause-known : goal.all-requires-clause-known
all-requires-clause-known c = root_known c.args.plan.now c.requires.sound c.args.places.now.ids c.requires.places.are

pub splits-requires-clause-known : goal.splits-requires-clause-known
splits-requires-clause-known c = nodes_known c.args.plan.now c.requires.sound c.args.places.now.ids c.requires.places.are
