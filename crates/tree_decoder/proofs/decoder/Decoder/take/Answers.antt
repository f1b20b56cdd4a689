use Rattle.std.proofs.Common.{sym, subst}
use Rattle.std.proofs.lemmas.Result.{IfOk-weaker}
use Rattle.problem_index.specs.declared.index.Index.{Index}
use Rattle.problem_index.specs.Kinds.{AreKinds}
use Rattle.ground_state.specs.Frames.{frame}
use Rattle.ground_state.specs.Runs.{words_step}
use Rattle.step_reader.specs.Readings.{IsReading, HasNew}
use Rattle.tree_decoder.specs.declared.testing.Scratch.{Scratch}
use Rattle.tree_decoder.proofs.Sound.{readable, listed_types, few_objects}
use Rattle.tree_decoder.proofs.Steps.{unnamed, unread, noting, ready_noting, takes_read}
use Rattle.tree_decoder.proofs.decoder.Decoder.take.Goals as goal

pub world-world-requires : goal.world-world-requires
world-world-requires c =
    let p = c.args.self.now.c.now in
    let ready = c.requires.ready in
    record {
      listed = listed_types p ready.soundly;
      few = few_objects p ready.soundly;
      kinds = subst (λ (z : Index). AreKinds p.hddl.types p.hddl.objects z.kinds) (sym c.index.ensures) ready.printed.indexed.kinds;
    }

pub read-requires : goal.read-requires
read-requires c =
    let p = c.args.self.now.c.now in
    let ready = c.requires.ready in
    record {
      readable = readable p ready.soundly;
      own = record {
        index = ready.printed;
        world_is = c.world-world.ensures.world;
        types = c.world-world.ensures.types;
        objects = c.world-world.ensures.objects;
      };
      room = ready.room;
    }

pub returns-in-Unnamed : goal.returns-in-Unnamed
returns-in-Unnamed c =
    let old = c.args.self.now in
    let step = words_step c.args.name.now c.args.args.now in
    let none = subst (λ r. IsReading old.c.now old.slots step r c.read.new.new.items (frame c.read.new.env).objects) c.in-Unnamed.is c.in_ok-found.ensures.read in
    let noted : Scratch = record { cells = old.scratch.cells; new_slots = c.read.new.new; env = c.read.new.env; task = old.scratch.task } in
    record { taken = unnamed old (noting old noted) c.requires.ready step none }

pub returns-in-Unread : goal.returns-in-Unread
returns-in-Unread c =
    let old = c.args.self.now in
    let step = words_step c.args.name.now c.args.args.now in
    let none = subst (λ r. IsReading old.c.now old.slots step r c.read.new.new.items (frame c.read.new.env).objects) c.in-Unread.is c.in_ok-found.ensures.read in
    let noted : Scratch = record { cells = old.scratch.cells; new_slots = c.read.new.new; env = c.read.new.env; task = old.scratch.task } in
    record { taken = unread old (noting old noted) c.requires.ready step none.0 none.1 }

pub take_act-requires : goal.take_act-requires
take_act-requires c =
    let old = c.args.self.now in
    let step = words_step c.args.name.now c.args.args.now in
    let noted : Scratch = record { cells = old.scratch.cells; new_slots = c.read.new.new; env = c.read.new.env; task = old.scratch.task } in
    record {
      ready = ready_noting old noted c.requires.ready c.read.ensures.room;
      read = record {
        step = step;
        read = subst (λ r. IsReading old.c.now old.slots step r c.read.new.new.items (frame c.read.new.env).objects) c.in-Act.is c.in_ok-found.ensures.read;
        new = subst (λ r. HasNew old.c.now r c.read.new.new.items (frame c.read.new.env).objects) c.in-Act.is c.in_ok-found.ensures.new;
      };
    }

pub returns-in-Act : goal.returns-in-Act
returns-in-Act c =
    let old = c.args.self.now in
    let step = words_step c.args.name.now c.args.args.now in
    let noted : Scratch = record { cells = old.scratch.cells; new_slots = c.read.new.new; env = c.read.new.env; task = old.scratch.task } in
    let ready = ready_noting old noted c.requires.ready c.read.ensures.room in
    let read = subst (λ r. IsReading old.c.now old.slots step r c.read.new.new.items (frame c.read.new.env).objects) c.in-Act.is c.in_ok-found.ensures.read in
    record {
      taken = IfOk-weaker c.take_act.result _ _ (λ found t. takes_read old noted c.in-Act.name c.in-Act.slot c.take_act.new.self step found ready read t) c.take_act.ensures.taken;
    }
