-- What two PDDL texts are read as is the value that they spell.
use Rattle.std.proofs.Common.{ℕ, List}
use Rattle.hddl_reader.specs.declared.sections.Language.TheVariants as language
use Rattle.plan_model.specs.declared.values.Hddl.{Hddl}
use Rattle.plan_model.specs.Values.{without_tasks}
use Rattle.text_values.specs.form_spellings.binding_laws.PddlValues.{ReadPddlIsItsValue}
use Rattle.text_values.specs.ReadAs.{AreReadAs}
use Rattle.text_values.specs.PddlValues.{IsValueOf}

pub value_of : (domain problem : List ℕ) (h : Hddl) → AreReadAs domain problem language.Pddl h → ReadPddlIsItsValue → IsValueOf domain problem (without_tasks h)
value_of domain problem h is law =
    let value = law domain problem h is.bound is.faultless.domain_is.tokens is.faultless.problem_is.tokens in
    record { faultless = is.faultless; spelled = value.0; sound = value.1 }
