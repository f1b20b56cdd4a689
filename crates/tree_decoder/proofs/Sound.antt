-- What is so of each problem that is compiled of a sound one.
use Rattle.std.proofs.Common.{ℕ, ◌≤◌, ◌<◌, ◌^◌, length, arith}
use Rattle.htn_base.specs.Limits.{most_slots}
use Rattle.plan_model.specs.declared.values.Compiled.{Compiled}
use Rattle.plan_model.specs.Parts.{AreListed}
use Rattle.plan_model.specs.task_networks.Lawful.{IsLawful}
use Rattle.plan_model.specs.plan_meaning.Network.{network}
use Rattle.plan_texts.specs.SoundlyCompiled.{IsSoundlyCompiled}
use Rattle.decoding.specs.PrintedSteps.{HasSoundSteps}
use Rattle.decoding.proofs.SoundCompiled.{compiled_are_read_in_one_way}
use Rattle.kept_front.specs.Later.{HasSoundPairs}
use Rattle.kept_front.proofs.SoundPairs as pairs
use Rattle.step_reader.specs.Readings.{IsReadable}
use Rattle.step_reader.proofs.SoundReadable as reading

module _ (c : Compiled) (s : IsSoundlyCompiled c) where
  pub readable : IsReadable c
  readable = reading.sound_is_readable s.problem s.checks c s.sound s.ordered s.compiled

  pub lawful : IsLawful (network c)
  lawful = readable.lawful

  pub sound_steps : (b : ℕ) → b ≤ most_slots → HasSoundSteps c b
  sound_steps b few = (compiled_are_read_in_one_way c s.problem s.checks s.sound s.compiled).steps b (omega arith)

  pub sound_pairs : HasSoundPairs c
  sound_pairs = pairs.sound_pairs c s.problem s.checks s.sound s.compiled

  pub listed_types : AreListed c.hddl.types
  listed_types = reading.listed_types s.problem s.checks c s.sound s.ordered s.compiled

  pub few_objects : length c.hddl.objects < 2 ^ 32
  few_objects = reading.few_objects s.problem s.checks c s.sound s.ordered s.compiled

  pub few_actions : length c.hddl.actions < 2 ^ 32
  few_actions = reading.few_actions s.problem s.checks c s.sound s.ordered s.compiled
