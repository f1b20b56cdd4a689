use Rattle.text_values.proofs.form_spellings.TextsRead.{hddl_spelled, hddl_bound, pddl_spelled, pddl_bound}
use Rattle.text_values.proofs.form_spellings.bound.texts_spell_what_is_bound.Goals as goal

pub returns : goal.returns
returns c = record { spelled = hddl_spelled; bound = hddl_bound; pddl_spelled = pddl_spelled; pddl_bound = pddl_bound }
