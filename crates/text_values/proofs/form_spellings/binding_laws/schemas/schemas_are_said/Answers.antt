use Rattle.text_values.proofs.form_spellings.binding_laws.DomainParts.{has_schema_faults}
use Rattle.text_values.proofs.form_spellings.binding_laws.MethodFaults.{has_head_faults, has_action_faults, has_method_faults}
use Rattle.text_values.proofs.form_spellings.binding_laws.ProblemParts.{has_part_faults}
use Rattle.text_values.proofs.form_spellings.binding_laws.schemas.schemas_are_said.Goals as goal

pub returns : goal.returns
returns c = record { heads = has_head_faults; actions = has_action_faults; methods = has_method_faults; domains = has_schema_faults; problems = has_part_faults }
