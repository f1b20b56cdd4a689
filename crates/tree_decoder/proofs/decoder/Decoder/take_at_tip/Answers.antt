use Rattle.std.proofs.Common.{sym, subst}
use Rattle.problem_index.specs.declared.index.Index.{Index}
use Rattle.problem_index.specs.Kinds.{AreKinds}
use Rattle.ground_state.specs.Frames.{frame}
use Rattle.ground_state.specs.Runs.{words_step}
use Rattle.step_reader.specs.StackReadings.{IsStackReading, HasStackNew}
use Rattle.tree_decoder.specs.declared.testing.Scratch.{Scratch}
use Rattle.stack_decoding.specs.StackSteps.{IsStepOf}
use Rattle.plan_model.specs.plan_meaning.SpelledPlan.{step_of}
use Rattle.tree_decoder.specs.Acts.{act_in}
use Rattle.tree_decoder.specs.AtTip.{TakesAtTip}
use Rattle.tree_decoder.proofs.Sound.{readable, listed_types, few_objects}
use Rattle.tree_decoder.proofs.Steps.{noting, ready_noting}
use Rattle.tree_decoder.proofs.AtTip.{has_lines, sound_checks, as_slots}
use Rattle.tree_decoder.proofs.TipSteps.{tip_unnamed, tip_unread, tip_apart, tip_takes}
use Rattle.tree_decoder.proofs.decoder.Decoder.take_at_tip.Goals as goal

pub world-world-requires : goal.world-world-requires
world-world-requires c =
    let p = c.args.self.now.c.now in
    let ready = c.requires.ready in
    record {
      listed = listed_types p ready.soundly;
      few = few_objects p ready.soundly;
      kinds = subst (λ (z : Index). AreKinds p.hddl.types p.hddl.objects z.kinds) (sym c.index.ensures) ready.printed.indexed.kinds;
    }

pub read_at_cells-requires : goal.read_at_cells-requires
read_at_cells-requires c =
    let p = c.args.self.now.c.now in
    let ready = c.requires.ready in
    record {
      readable = readable p ready.soundly;
      checks = sound_checks p ready.soundly;
      lines = has_lines p ready.soundly;
      total = c.requires.total;
      own = record {
        index = ready.printed;
        world_is = c.world-world.ensures.world;
        types = c.world-world.ensures.types;
        objects = c.world-world.ensures.objects;
      };
      room = ready.room;
    }

pub returns-in-Unnamed : goal.returns-in-Unnamed
returns-in-Unnamed c =
    let old = c.args.self.now in
    let step = words_step c.args.name.now c.args.args.now in
    let none = subst (λ r. IsStackReading old.c.now old.slots step r c.read_at_cells.new.new.items (frame c.read_at_cells.new.env).objects) c.in-Unnamed.is c.in_ok-found.ensures.read in
    let noted : Scratch = record { cells = c.read_at_cells.new.named; new_slots = c.read_at_cells.new.new; env = c.read_at_cells.new.env; task = old.scratch.task } in
    record { taken = tip_unnamed old c.requires.ready c.requires.total step (noting old noted) none }

pub returns-in-Unread : goal.returns-in-Unread
returns-in-Unread c =
    let old = c.args.self.now in
    let step = words_step c.args.name.now c.args.args.now in
    let none = subst (λ r. IsStackReading old.c.now old.slots step r c.read_at_cells.new.new.items (frame c.read_at_cells.new.env).objects) c.in-Unread.is c.in_ok-found.ensures.read in
    let noted : Scratch = record { cells = c.read_at_cells.new.named; new_slots = c.read_at_cells.new.new; env = c.read_at_cells.new.env; task = old.scratch.task } in
    record { taken = tip_unread old c.requires.ready c.requires.total step (noting old noted) none.0 none.1 }

pub returns-in-Apart : goal.returns-in-Apart
returns-in-Apart c =
    let old = c.args.self.now in
    let step = words_step c.args.name.now c.args.args.now in
    let none = subst (λ r. IsStackReading old.c.now old.slots step r c.read_at_cells.new.new.items (frame c.read_at_cells.new.env).objects) c.in-Apart.is c.in_ok-found.ensures.read in
    let noted : Scratch = record { cells = c.read_at_cells.new.named; new_slots = c.read_at_cells.new.new; env = c.read_at_cells.new.env; task = old.scratch.task } in
    record { taken = tip_apart old c.requires.ready c.requires.total step (noting old noted) none.0 none.1 }

pub take_act-requires : goal.take_act-requires
take_act-requires c =
    let old = c.args.self.now in
    let p = old.c.now in
    let ready = c.requires.ready in
    let step = words_step c.args.name.now c.args.args.now in
    let noted : Scratch = record { cells = c.read_at_cells.new.named; new_slots = c.read_at_cells.new.new; env = c.read_at_cells.new.env; task = old.scratch.task } in
    let a = act_in p c.in-Act.name c.in-Act.cell noted in
    let is : IsStepOf p old.slots step a =
    subst (λ r. IsStackReading p old.slots step r c.read_at_cells.new.new.items (frame c.read_at_cells.new.env).objects) c.in-Act.is c.in_ok-found.ensures.read in
    record {
      ready = ready_noting old noted ready c.read_at_cells.ensures.room;
      read = record {
        step = step_of p a;
        read = as_slots p ready.soundly old.slots ready.some ready.few c.requires.total step a is;
        new = subst (λ r. HasStackNew p r c.read_at_cells.new.new.items (frame c.read_at_cells.new.env).objects) c.in-Act.is c.in_ok-found.ensures.new;
      };
    }

pub returns-in_ok-take_act-in-Act : goal.returns-in_ok-take_act-in-Act
returns-in_ok-take_act-in-Act c =
    let old = c.args.self.now in
    let p = old.c.now in
    let ready = c.requires.ready in
    let step = words_step c.args.name.now c.args.args.now in
    let noted : Scratch = record { cells = c.read_at_cells.new.named; new_slots = c.read_at_cells.new.new; env = c.read_at_cells.new.env; task = old.scratch.task } in
    let is : IsStepOf p old.slots step (act_in p c.in-Act.name c.in-Act.cell noted) =
    subst (λ r. IsStackReading p old.slots step r c.read_at_cells.new.new.items (frame c.read_at_cells.new.env).objects) c.in-Act.is c.in_ok-found.ensures.read in
    record {
      taken =
          subst (TakesAtTip step old c.take_act.new.self) (sym c.at_tip.ensures)
          (tip_takes old ready c.requires.total step noted (ready_noting old noted ready c.read_at_cells.ensures.room) c.in-Act.name c.in-Act.cell is c.take_act.new.self c.in_ok-take_act-in-Act.field-0 c.in_ok-take_act-in-Act.ensures.taken);
    }
