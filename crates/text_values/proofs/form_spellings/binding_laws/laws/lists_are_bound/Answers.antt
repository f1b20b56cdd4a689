use Rattle.text_values.proofs.form_spellings.binding_laws.Typed.{has_typed_faults, are_params_bound, are_objects_bound}
use Rattle.text_values.proofs.form_spellings.binding_laws.laws.lists_are_bound.Goals as goal

pub returns : goal.returns
returns c = record { faults = has_typed_faults; params = are_params_bound; objects = are_objects_bound }
