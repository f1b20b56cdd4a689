-- What is asked of a compiled problem whose bound is computed, or whose plans are decoded.
-- Source: this project's.
use Rattle.plan_model.specs.declared.options.Checks.{Checks}
use Rattle.plan_model.specs.declared.values.Hddl.{Hddl}
use Rattle.plan_model.specs.declared.values.Compiled.{Compiled}
use Rattle.plan_texts.specs.SoundProblem.{IsSoundProblem}
use Rattle.plan_model.specs.plan_meaning.Compilation.{IsCompiled}
use Rattle.plan_model.specs.plan_meaning.Laws.{AreOrdered}

-- it is compiled of a sound problem whose networks have no cycle
pub record IsSoundlyCompiled (c : Compiled) : Type 0 where
  pub problem : Hddl
  pub checks : Checks
  pub sound : IsSoundProblem problem
  pub ordered : AreOrdered problem
  pub compiled : IsCompiled problem checks c
