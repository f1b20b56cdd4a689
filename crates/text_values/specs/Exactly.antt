-- Two texts that spell a sound value have no fault.
-- Source: this project's.
use Rattle.std.specs.Prelude.{ℕ, List}
use Rattle.hddl_reader.specs.declared.sections.Language.{Language}
use Rattle.hddl_reader.specs.declared.sections.Language.TheVariants as language
use Rattle.plan_model.specs.declared.values.Hddl.{Hddl}
use Rattle.plan_texts.specs.SoundProblem.{IsSoundProblem}
use Rattle.plan_texts.specs.SpellsHddl.{SpellsHddl}
use Rattle.plan_model.specs.plan_meaning.Laws.{AreOrdered}
use Rattle.text_values.specs.form_spellings.Depth.{IsShallow}
use Rattle.text_values.specs.form_spellings.Faultless.{HasFewTypes}
use Rattle.text_values.specs.TextFaults.{IsLeastFault, HaveNoFault}

-- the texts have no fault, and none can be told of them
pub record AreAccepted (l : Language) (domain problem : List ℕ) : Type 0 where
  pub faultless : HaveNoFault l domain problem
  pub none_told : (file code at : ℕ) → IsLeastFault l domain problem file code at → ⊥

-- Whatever value they spell, in whatever order: where it is sound, its networks have no cycle, it has at most 1,000 types beside
-- object, and no list stands too deep in the texts.
abbrev pub SpelledHaveNoFault : Type 0
SpelledHaveNoFault =
    (domain problem : List ℕ) (h : Hddl) → SpellsHddl domain problem h → IsShallow domain → IsShallow problem → IsSoundProblem h → AreOrdered h
    → HasFewTypes language.Hddl h.types → AreAccepted language.Hddl domain problem
