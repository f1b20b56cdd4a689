use Rattle.text_values.proofs.form_spellings.seen.Bound.{bound_is_of_texts, bound_pddl_is_of_texts}
use Rattle.text_values.proofs.form_spellings.seen.Theorem.{texts_seen}
use Rattle.text_values.proofs.form_spellings.first_seen.offsets_tell_what_is_first_seen.Goals as goal

pub returns : goal.returns
returns c = record { seen = texts_seen; bound = bound_is_of_texts; pddl_bound = bound_pddl_is_of_texts }
