use Rattle.std.proofs.Common.{ap, sym, subst, refl, ◌∙◌, true≢false}
use Rattle.problem_index.specs.declared.index.Index.{Index}
use Rattle.problem_index.specs.Kinds.{AreKinds}
use Rattle.ground_state.specs.Frames.{Frame}
use Rattle.ground_state.specs.Room.{Fits}
use Rattle.tree_decoder.specs.Acts.{IsWorldOf}
use Rattle.tree_decoder.proofs.Sound.{listed_types, few_objects}
use Rattle.tree_decoder.proofs.Effects.{goal_told}
use Rattle.tree_decoder.proofs.Ends.{unfinished, goal_false, solved}
use Rattle.tree_decoder.proofs.decoder.Decoder.left.Goals as goal

pub returns-then-holds_some : goal.returns-then-holds_some
returns-then-holds_some c = record {
  left = unfinished c.args.self.now c.requires.ready (c.holds_some.ensures.0 c.if-holds_some.true);
  kept = refl;
}

pub world-world-requires : goal.world-world-requires
world-world-requires c =
    let p = c.args.self.now.c.now in
    let ready = c.requires.ready in
    record {
      listed = listed_types p ready.soundly;
      few = few_objects p ready.soundly;
      kinds = subst (λ (z : Index). AreKinds p.hddl.types p.hddl.objects z.kinds) (sym c.index.ensures) ready.printed.indexed.kinds;
    }

pub is_true-requires : goal.is_true-requires
is_true-requires c = record {
  world = c.world-world.ensures.world;
  room = subst (λ (f : Frame). Fits f c.args.self.now.c.now.hddl.goal) (sym c.clear.ensures) c.requires.ready.room.goal;
}

pub returns-then-is_true : goal.returns-then-is_true
returns-then-is_true c =
    let old = c.args.self.now in
    let p = old.c.now in
    let own : IsWorldOf p c.world-world.result = record { known = c.world-world.ensures.world; types = c.world-world.ensures.types; objects = c.world-world.ensures.objects } in
    let told = goal_told p c.world-world.result old.state c.clear.new.self c.is_true.result own (ap (λ (f : Frame). f.objects) c.clear.ensures) c.is_true.ensures.truth in
    record {
      left = solved old c.requires.ready (λ h. true≢false (sym (c.holds_some.ensures.1 h) ∙ c.if-holds_some.false)) (told.0 c.if-is_true.true);
      kept = refl;
    }

pub returns : goal.returns
returns c =
    let old = c.args.self.now in
    let p = old.c.now in
    let own : IsWorldOf p c.world-world.result = record { known = c.world-world.ensures.world; types = c.world-world.ensures.types; objects = c.world-world.ensures.objects } in
    let told = goal_told p c.world-world.result old.state c.clear.new.self c.is_true.result own (ap (λ (f : Frame). f.objects) c.clear.ensures) c.is_true.ensures.truth in
    record {
      left = goal_false old c.requires.ready (λ h. true≢false (sym (c.holds_some.ensures.1 h) ∙ c.if-holds_some.false))
          (λ g. true≢false (sym (told.1 g) ∙ c.if-is_true.false));
      kept = refl;
    }
