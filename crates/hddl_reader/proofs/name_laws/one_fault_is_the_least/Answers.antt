use Rattle.hddl_reader.specs.names.Faults.{HasDomainFault, HasProblemFault}
use Rattle.hddl_reader.proofs.names.Least.{one_is_least, one_is_least_name, are_name_codes}
use Rattle.hddl_reader.proofs.name_laws.one_fault_is_the_least.Goals as goal

pub returns : goal.returns
returns c = record {
  domain = λ l names d. one_is_least (HasDomainFault l names d);
  problem = λ names d p. one_is_least (HasProblemFault names d p);
  both = one_is_least_name;
  codes = are_name_codes;
}
