-- The values of two texts are decoded alike.
use Rattle.std.proofs.Common.{ℕ, List}
use Rattle.plan_model.specs.declared.options.Checks.{Checks}
use Rattle.plan_model.specs.declared.steps.GroundAction.{GroundAction}
use Rattle.plan_model.specs.declared.values.Hddl.{Hddl}
use Rattle.plan_model.specs.declared.values.Compiled.{Compiled}
use Rattle.plan_model.specs.plan_meaning.Compilation.{IsCompiled}
use Rattle.plan_model.specs.plan_meaning.Truth.{State}
use Rattle.plan_texts.specs.FirstSeen.{IsHddlOf}
use Rattle.plan_texts.specs.SoundProblem.{IsSoundProblem}
use Rattle.plan_proof.proofs.values.Headlines.{same_but_names, unions_apart, same_here, apart_here, sound_here, sound_there, plans_here}
use Rattle.decode_answers.specs.DecodeLaws.{AreDecodedAlike, ValuesAreDecodedAlike}
use Rattle.decode_answers.proofs.AlikeFailures.{fails_to}
use Rattle.decode_answers.proofs.AlikeValues.{HoldTheSame, AreTwins, twins_back}
use Rattle.decode_answers.proofs.AlikeReaders.{Equal, reader, alike_readers}
use Rattle.decode_answers.proofs.AlikeShown.{shown_to}

module _ (domain problem : List ℕ) (h i : Hddl) (checks : Checks) (c k : Compiled) (spelled : IsHddlOf domain problem h) (spelled' : IsHddlOf domain problem i)
    (sound : IsSoundProblem h) (compiled : IsCompiled h checks c) (compiled' : IsCompiled i checks k) where
  -- two values of two texts
  pub twins : AreTwins c k
  twins =
      let same = same_but_names domain problem i h spelled' spelled sound.value in
      let apart = unions_apart domain problem i h spelled' spelled sound.value in
      twins_back k c (record {
        same = same_here h i checks c k same apart sound.value compiled compiled';
        sound = sound_there h i checks c k same apart sound.value compiled compiled';
        sound_other = sound_here h i checks c k same apart sound.value compiled compiled';
        apart = apart_here h i checks c k same apart sound.value compiled compiled';
        plans = plans_here h i checks c k same apart sound.value compiled compiled';
      })

  decoded_alike : (b : ℕ) (steps : List GroundAction) → AreDecodedAlike c k b steps
  decoded_alike b steps = record {
    shown = shown_to c k twins b steps;
    fails = fails_to State GroundAction (reader c) (reader k) Equal Equal HoldTheSame (alike_readers c k twins) b steps;
  }

pub values_are_decoded_alike : ValuesAreDecodedAlike
values_are_decoded_alike domain problem h i checks c k b steps spelled spelled' can compiled =
    decoded_alike domain problem h i checks c k spelled spelled' can.sound can.compiled compiled b steps
