use Rattle.text_values.proofs.form_spellings.binding_laws.Written.{has_kind_faults, is_kind_bound}
use Rattle.text_values.proofs.form_spellings.binding_laws.laws.types_are_bound.Goals as goal

pub returns : goal.returns
returns c = record { faults = has_kind_faults; bound = is_kind_bound }
