-- What is read and bound of two texts, in either language.
-- Source: this project's.
use Rattle.std.specs.Prelude.{ℕ, List}
use Rattle.hddl_reader.specs.declared.sections.Language.{Language}
use Rattle.plan_model.specs.declared.values.Hddl.{Hddl}
use Rattle.text_values.specs.form_spellings.binding_laws.SoundValues.{IsBoundOf}
use Rattle.text_values.specs.TextFaults.{HaveNoFault}

module _ (domain problem : List ℕ) where
  -- The texts have no fault, and this is what is read of them and bound: of PDDL without tasks, methods and a network.
  pub record AreReadAs (l : Language) (h : Hddl) : Type 0 where
    pub faultless : HaveNoFault l domain problem
    pub bound : IsBoundOf l domain problem h
