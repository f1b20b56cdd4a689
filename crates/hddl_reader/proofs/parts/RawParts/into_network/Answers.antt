use Rattle.std.proofs.Common.{rules}
use Rattle.hddl_reader.proofs.parts.RawParts.into_network.Goals as goal

pub returns : goal.returns
returns c = search rules
