use Rattle.std.proofs.Common.{ap, sym, subst, ◌∙◌}
use Rattle.problem_index.specs.declared.index.Index.{Index}
use Rattle.problem_index.specs.Kinds.{AreKinds}
use Rattle.ground_state.specs.Frames.{Frame}
use Rattle.decoding.specs.PrintedSteps.{IsReadAs}
use Rattle.kept_front.specs.Later.{AreAllLater}
use Rattle.step_reader.specs.Readings.{act_of, HasRoomIn}
use Rattle.tree_decoder.specs.declared.testing.Scratch.{Scratch}
use Rattle.tree_decoder.specs.Acts.{act_in, IsObstacle}
use Rattle.tree_decoder.specs.Taking.{CanGrowSome, IsGrownBy, IsAfter}
use Rattle.tree_decoder.proofs.Sound.{listed_types, few_objects}
use Rattle.tree_decoder.proofs.Steps.{noting, same_act, same_new, fails_by, can_grow, takes_by}
use Rattle.tree_decoder.proofs.decoder.Decoder.take_act.Goals as goal

pub world-world-requires : goal.world-world-requires
world-world-requires c =
    let p = c.args.self.now.c.now in
    let ready = c.requires.ready in
    record {
      listed = listed_types p ready.soundly;
      few = few_objects p ready.soundly;
      kinds = subst (λ (z : Index). AreKinds p.hddl.types p.hddl.objects z.kinds) (sym c.index.ensures) ready.printed.indexed.kinds;
    }

pub obstacle-requires : goal.obstacle-requires
obstacle-requires c =
    let r = c.requires.read in
    record {
      soundly = c.requires.ready.soundly;
      world = record { known = c.world-world.ensures.world; types = c.world-world.ensures.types; objects = c.world-world.ensures.objects };
      room = c.requires.ready.room;
      some = (c.args.self.now.slots, r.step, r.read);
      new = r.new;
    }

pub returns-in-Some : goal.returns-in-Some
returns-in-Some c =
    let old = c.args.self.now in
    let p = old.c.now in
    let a = act_in p c.args.name c.args.slot old.scratch in
    record {
      taken = fails_by old c.requires.ready c.args.name c.args.slot c.in-Some.why (noting old c.obstacle.new.scratch)
          (subst (IsObstacle p a old.front old.state) c.in-Some.is c.in_ok-why.ensures.obstacle);
    }

pub grow_by-requires : goal.grow_by-requires
grow_by-requires c =
    let old = c.args.self.now in
    let p = old.c.now in
    let r = c.requires.read in
    let noted = c.in_ok-why.ensures.noted in
    let a = act_in p c.args.name c.args.slot old.scratch in
    let o = subst (IsObstacle p a old.front old.state) c.in_default.is c.in_ok-why.ensures.obstacle in
    let read = subst (λ (f : Frame). IsReadAs p old.slots r.step (act_of p c.args.name c.args.slot old.scratch.new_slots.items f.objects)) (sym noted.objects) r.read in
    record {
      soundly = c.requires.ready.soundly;
      later = subst (AreAllLater p) (sym c.as_slice.ensures.items) c.requires.ready.later;
      named = (c.args.slot, old.scratch.new_slots.items, (old.slots, r.step, read));
      new = same_new p c.args.name c.args.slot old.scratch c.obstacle.new.scratch noted r.new;
      work = c.in_ok-why.ensures.work c.in_default.is;
      can = subst (λ z. CanGrowSome p z old.front) (sym (same_act p c.args.name c.args.slot old.scratch c.obstacle.new.scratch noted))
          (can_grow old c.requires.ready c.args.name c.args.slot o r);
    }

pub apply-requires : goal.apply-requires
apply-requires c =
    let old = c.args.self.now in
    let p = old.c.now in
    let r = c.requires.read in
    let noted = c.in_ok-why.ensures.noted in
    let read = subst (λ (f : Frame). IsReadAs p old.slots r.step (act_of p c.args.name c.args.slot old.scratch.new_slots.items f.objects)) (sym noted.objects) r.read in
    record {
      world = record { known = c.world-world.ensures.world; types = c.world-world.ensures.types; objects = c.world-world.ensures.objects };
      room = subst (HasRoomIn p) (sym noted.objects) c.requires.ready.room;
      named = (c.args.slot, old.scratch.new_slots.items, (old.slots, r.step, read));
    }

pub returns : goal.returns
returns c =
    let old = c.args.self.now in
    let p = old.c.now in
    let noted = c.in_ok-why.ensures.noted in
    let a = act_in p c.args.name c.args.slot old.scratch in
    let o = subst (IsObstacle p a old.front old.state) c.in_default.is c.in_ok-why.ensures.obstacle in
    let scratch : Scratch = record { cells = c.obstacle.new.scratch.cells; new_slots = c.obstacle.new.scratch.new_slots; env = c.apply.new.env; task = c.obstacle.new.scratch.task } in
    let grown = subst (λ z. IsGrownBy p z old.front c.grow_by.new.front) (same_act p c.args.name c.args.slot old.scratch c.obstacle.new.scratch noted) c.in_ok-grow_by.ensures.grown in
    let after = subst (λ (f : Frame). IsAfter p c.args.name f.objects old.state c.apply.new.state) noted.objects c.in_ok-apply.ensures.after in
    let same = c.apply.ensures.kept ∙ noted.objects in
    record {
      taken = takes_by old c.requires.ready c.args.name c.args.slot o c.grow_by.new.front c.apply.new.state scratch grown after
          (ap (λ (f : Frame). f.room) same, ap (λ (f : Frame). f.arity) same);
    }
