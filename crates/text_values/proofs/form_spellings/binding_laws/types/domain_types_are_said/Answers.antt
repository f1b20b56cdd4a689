use Rattle.text_values.proofs.form_spellings.binding_laws.TooManyWords.{has_too_many_types}
use Rattle.text_values.proofs.form_spellings.binding_laws.TypeCycles.{has_type_cycle, has_section_faults}
use Rattle.text_values.proofs.form_spellings.binding_laws.TypeWords.{has_types, has_types_in_order}
use Rattle.text_values.proofs.form_spellings.binding_laws.types.domain_types_are_said.Goals as goal

pub returns : goal.returns
returns c = record { types = has_types; order = has_types_in_order; too_many = has_too_many_types; cycle = has_type_cycle; all = has_section_faults }
