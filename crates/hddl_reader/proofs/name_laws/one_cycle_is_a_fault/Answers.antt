use Rattle.hddl_reader.proofs.names.Firsts.{unknown_ids_close_none, one_cycle_is_a_fault, one_type_cycle_is_a_fault}
use Rattle.hddl_reader.proofs.names.Least.{limit_comes_first}
use Rattle.hddl_reader.proofs.name_laws.one_cycle_is_a_fault.Goals as goal

pub returns : goal.returns
returns c = record { networks = one_cycle_is_a_fault; types = one_type_cycle_is_a_fault; limit = limit_comes_first; unknown = unknown_ids_close_none }
