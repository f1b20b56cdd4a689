use Rattle.hddl_reader.specs.declared.sections.Language.TheVariants.{Hddl}
use Rattle.text_values.proofs.form_spellings.binding_laws.sound.ReadValues.{read_values}
use Rattle.text_values.proofs.form_spellings.binding_laws.values.read_values_are_sound.Goals as goal

pub returns : goal.returns
returns c =
    read_values (c.places_are_those_of_tokens.ensures.domains Hddl) (c.places_are_those_of_tokens.ensures.problems Hddl)
    (c.what_is_read_is_in_order.ensures.domains Hddl) (c.what_is_read_is_in_order.ensures.problems Hddl)
