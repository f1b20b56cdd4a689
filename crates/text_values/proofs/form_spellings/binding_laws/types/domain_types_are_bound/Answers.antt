use Rattle.text_values.proofs.form_spellings.binding_laws.BoundTypes.{has_bound_types}
use Rattle.text_values.proofs.form_spellings.binding_laws.types.domain_types_are_bound.Goals as goal

pub returns : goal.returns
returns c = record { bound = has_bound_types }
