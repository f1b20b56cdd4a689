use Rattle.std.proofs.Common.{rules}
use Rattle.name_binding.proofs.terms.found_or_noted.Goals as goal

pub returns-in-None-clause-faults : goal.returns-in-None-clause-faults
returns-in-None-clause-faults c = search rules
