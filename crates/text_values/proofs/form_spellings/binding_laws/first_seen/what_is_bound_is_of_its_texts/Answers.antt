use Rattle.text_values.proofs.form_spellings.binding_laws.seen.Bound.{is_in_seen_order, is_of_texts}
use Rattle.text_values.proofs.form_spellings.binding_laws.first_seen.what_is_bound_is_of_its_texts.Goals as goal

pub returns : goal.returns
returns c = record { order = is_in_seen_order; texts = is_of_texts }
