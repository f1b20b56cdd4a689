use Rattle.hddl_reader.specs.declared.sections.Language.TheVariants.{Pddl}
use Rattle.text_values.proofs.form_spellings.binding_laws.PddlValues.{read_pddl}
use Rattle.text_values.proofs.form_spellings.binding_laws.values.read_pddl_is_its_value.Goals as goal

pub returns : goal.returns
returns c =
    read_pddl (c.places_are_those_of_tokens.ensures.domains Pddl) (c.places_are_those_of_tokens.ensures.problems Pddl)
    (c.what_is_read_is_in_order.ensures.domains Pddl) (c.what_is_read_is_in_order.ensures.problems Pddl)
    c.pddl_texts_have_no_networks.ensures.domains c.pddl_texts_have_no_networks.ensures.problems
