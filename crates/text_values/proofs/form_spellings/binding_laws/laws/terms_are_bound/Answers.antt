use Rattle.text_values.proofs.form_spellings.binding_laws.Terms.{has_term_faults, is_term_bound}
use Rattle.text_values.proofs.form_spellings.binding_laws.laws.terms_are_bound.Goals as goal

pub returns : goal.returns
returns c = record { faults = has_term_faults; bound = is_term_bound }
