-- A hierarchical plan comes to the same over the values of two texts.
use Rattle.plan_model.specs.declared.values.Compiled.{Compiled}
use Rattle.hplan_text.specs.declared.values.HPlan.{HPlan}
use Rattle.decode_answers.proofs.Alike.{twins}
use Rattle.decode_answers.proofs.AlikeValues.{AreTwins, twins_back}
use Rattle.encode_answers.specs.EncodeLaws.{AreEncodedAlike, ValuesAreEncodedAlike}
use Rattle.encode_answers.proofs.AlikeFits.{unmatched_to}
use Rattle.encode_answers.proofs.AlikePlaced.{some_solution_to, not_executable_to, misses_to, no_place_to, width_of_to, spelled_to}

encoded_alike : (c k : Compiled) → AreTwins c k → (plan : HPlan) → AreEncodedAlike c k plan
encoded_alike c k t plan = record {
  unmatched = unmatched_to c k t plan;
  not_executable = not_executable_to c k t plan;
  misses = misses_to c k t plan;
  no_place = no_place_to c k t plan;
  shown = (some_solution_to c k t plan, some_solution_to k c (twins_back c k t) plan);
  width = width_of_to c k t plan;
  spelled = spelled_to c k t plan;
}

pub values_are_encoded_alike : ValuesAreEncodedAlike
values_are_encoded_alike domain problem h i checks c k plan spelled spelled' is compiled =
    encoded_alike c k (twins domain problem h i checks c k spelled spelled' is.sound is.compiled compiled) plan
