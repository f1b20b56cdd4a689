-- What two texts come to: the value of two HDDL texts, or the refusal of two texts of either language.
-- Source: this project's.
use Rattle.std.specs.Prelude.{ℕ, List}
use Rattle.hddl_reader.specs.declared.sections.Language.{Language}
use Rattle.hddl_reader.specs.declared.sections.Language.TheVariants as language
use Rattle.plan_model.specs.declared.values.Hddl.{Hddl}
use Rattle.plan_texts.specs.FirstSeen.{IsHddlOf}
use Rattle.plan_texts.specs.SoundProblem.{IsSoundProblem}
use Rattle.plan_model.specs.plan_meaning.Laws.{AreOrdered}
use Rattle.text_forms.specs.declared.sexpr_text.read_error.ReadError.{ReadError}
use Rattle.text_forms.specs.declared.sexpr_text.read_error.ReadError.TheVariants as errors
use Rattle.text_values.specs.TextFaults.{IsLeastFault, HaveNoFault}

module _ (domain problem : List ℕ) where
  -- The texts have no fault and spell the value, which is sound and whose networks have no cycle.
  pub record IsValueOf (h : Hddl) : Type 0 where
    pub faultless : HaveNoFault language.Hddl domain problem
    pub spelled : IsHddlOf domain problem h
    pub sound : IsSoundProblem h
    pub ordered : AreOrdered h

  -- the least fault of the two texts; or memory ran out
  abbrev pub IsRefusal : Language → ReadError → Type 0
  IsRefusal l errors.Memory = Unit {0}
  IsRefusal l (errors.Bad f) = IsLeastFault l domain problem f.file f.code f.at
