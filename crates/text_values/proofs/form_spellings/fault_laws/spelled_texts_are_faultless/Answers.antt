use Rattle.hddl_reader.specs.declared.sections.Language.TheVariants as language
use Rattle.text_values.proofs.form_spellings.faultless.Reading.{hddl_faultless, pddl_faultless}
use Rattle.text_values.proofs.form_spellings.fault_laws.spelled_texts_are_faultless.Goals as goal

pub returns : goal.returns
returns c =
    let whole = c.spelled_definitions_are_whole.ensures in
    let spelled = c.texts_spell_what_is_bound.ensures in
    let table = c.names_stand_in_the_table.ensures in
    let places = c.places_are_those_of_tokens.ensures in
    record {
      hddl = hddl_faultless whole.hddl_domains whole.hddl_problems spelled.bound (table.problems_keep language.Hddl) (places.domains language.Hddl) (places.problems language.Hddl);
      pddl = pddl_faultless whole.pddl_domains whole.pddl_problems spelled.pddl_bound (table.problems_keep language.Pddl) (places.domains language.Pddl) (places.problems language.Pddl);
    }
