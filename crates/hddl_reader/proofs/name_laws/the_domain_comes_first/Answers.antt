use Rattle.hddl_reader.proofs.names.Least.{least_by_file, none_by_file}
use Rattle.hddl_reader.proofs.name_laws.the_domain_comes_first.Goals as goal

pub returns : goal.returns
returns c = record { least = least_by_file; none = none_by_file }
