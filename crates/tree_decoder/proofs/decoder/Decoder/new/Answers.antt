use Rattle.std.proofs.Common.{refl, []}
use Rattle.tree_decoder.proofs.Sound.{readable, sound_pairs, listed_types, few_objects, few_actions}
use Rattle.tree_decoder.specs.declared.decoder.Decoder.{Decoder}
use Rattle.tree_decoder.specs.Decoding.{HasTaken}
use Rattle.tree_decoder.proofs.Steps.{none_behind, none_labelled, none_long}
use Rattle.tree_decoder.proofs.TipSteps.{none_at_tip}
use Rattle.tree_decoder.proofs.decoder.Decoder.new.Goals as goal

pub new-requires : goal.new-requires
new-requires c = record {
  listed = listed_types c.args.c.now c.requires.soundly;
  few_objects = few_objects c.args.c.now c.requires.soundly;
  few_actions = few_actions c.args.c.now c.requires.soundly;
  few_methods = (readable c.args.c.now c.requires.soundly).few;
}

pub all-requires : goal.all-requires
all-requires c = record { pairs = sound_pairs c.args.c.now c.requires.soundly }

pub returns : goal.returns
returns c =
    let p = c.args.c.now in
    let s = c.requires.soundly in
    let first = c.in_ok-front.ensures.first p in
    let behind = none_behind p s c.args.slots c.requires.some c.in_ok-front.front c.in_ok-state.state first c.in_ok-state.ensures.atoms in
    let decoder : Decoder = record {
      c = c.args.c;
      slots = c.args.slots;
      printed = c.in_ok-printed.printed;
      later = c.in_ok-later.later;
      front = c.in_ok-front.front;
      state = c.in_ok-state.state;
      scratch = c.in_ok-scratch.scratch;
    } in
    let fresh : HasTaken p c.args.slots [] decoder = record {
      problem = refl;
      slots = refl;
      ready = record {
        soundly = s;
        some = c.requires.some;
        few = c.requires.few;
        printed = c.in_ok-printed.ensures.index;
        later = c.in_ok-later.ensures;
        sized = c.in_ok-front.ensures.sized;
        short = none_long p s c.args.slots c.requires.some c.in_ok-front.front c.in_ok-state.state first c.in_ok-state.ensures.atoms;
        labelled = none_labelled p s c.args.slots c.requires.some c.in_ok-front.front c.in_ok-state.state first c.in_ok-state.ensures.atoms;
        room = c.in_ok-scratch.ensures.room;
        taken = ([], behind);
      };
      behind = behind;
    } in
    record { fresh = fresh; fresh_stack = none_at_tip p c.args.slots decoder fresh }
