-- The values of two texts have the same ground bound, the same named cycle, and as much of them is reached.
use Rattle.plan_model.specs.declared.values.Compiled.{Compiled}
use Rattle.decode_answers.proofs.Alike.{twins}
use Rattle.decode_answers.proofs.AlikeValues.{AreTwins}
use Rattle.ground_answers.specs.GroundLaws.{AreGroundAlike, ValuesHaveOneGroundBound}
use Rattle.ground_answers.proofs.SameNetwork.{bound_to, cycle_to}
use Rattle.ground_answers.proofs.SameReached.{all_reached_to, size_to}
use Rattle.ground_answers.proofs.SameWords.{words_same}

ground_alike : (c k : Compiled) → AreTwins c k → AreGroundAlike c k
ground_alike c k t = record {
  reached = all_reached_to c k t;
  size = size_to c k t;
  bound = λ n b. record { methods = b.methods; atoms = b.atoms; reached = all_reached_to c k t b.methods b.atoms b.reached; bound = bound_to c k t b.methods n b.bound };
  cycle = λ e walk b. record {
    methods = b.methods;
    atoms = b.atoms;
    reached = all_reached_to c k t b.methods b.atoms b.reached;
    named = cycle_to c k t b.methods e walk b.named;
  };
  words = words_same c k t;
}

pub values_have_one_ground_bound : ValuesHaveOneGroundBound
values_have_one_ground_bound domain problem h i checks c k spelled spelled' sound compiled compiled' =
    ground_alike c k (twins domain problem h i checks c k spelled spelled' sound compiled compiled')
