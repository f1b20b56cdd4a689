use Rattle.text_values.proofs.form_spellings.binding_laws.PartValues.{has_bound_schemas, has_bound_parts}
use Rattle.text_values.proofs.form_spellings.binding_laws.schemas.schemas_are_bound.Goals as goal

pub returns : goal.returns
returns c = record { domains = has_bound_schemas; problems = has_bound_parts }
