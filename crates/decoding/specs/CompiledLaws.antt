-- What is proved of the printed steps of a problem that is compiled of a sound one.
use Rattle.std.specs.Prelude.{ℕ, ◌<◌, ◌^◌}
use Rattle.plan_texts.specs.SoundProblem.{IsSoundProblem}
use Rattle.plan_model.specs.declared.options.Checks.{Checks}
use Rattle.plan_model.specs.declared.values.Hddl.{Hddl}
use Rattle.plan_model.specs.declared.values.Compiled.{Compiled}
use Rattle.plan_model.specs.plan_meaning.Compilation.{IsCompiled}
use Rattle.decoding.specs.PrintedSteps.{AreNamedApart, HasSoundChecks, HasSoundSteps}

-- its words are apart, and checks are those of checked methods; so its steps are read in one way at most
pub record AreReadInOneWay (c : Compiled) : Type 0 where
  pub apart : AreNamedApart c
  pub checks : HasSoundChecks c
  pub steps : (b : ℕ) → b < 2 ^ 32 → HasSoundSteps c b

abbrev pub CompiledAreReadInOneWay : Compiled → Type 0
CompiledAreReadInOneWay c = (h : Hddl) (mode : Checks) → IsSoundProblem h → IsCompiled h mode c → AreReadInOneWay c
