use Rattle.std.proofs.Common.{List, ◌≤◌, length, sym, subst}
use Rattle.plan_model.specs.declared.terms.Param.{Param}
use Rattle.problem_index.specs.Printed.{in_print}
use Rattle.ground_state.specs.Frames.{frame}
use Rattle.ground_state.specs.Runs.{words_step}
use Rattle.step_reader.proofs.ReadLaws.{unnamed}
use Rattle.step_reader.proofs.PartLaws.{room_for, are_of, too_few, no_slot, no_new, new_are, no_objects, all_new, all_read}
use Rattle.step_reader.proofs.step.read.Goals as goal

pub returns-in_default-clause-read : goal.returns-in_default-clause-read
returns-in_default-clause-read c =
    unnamed c.args.c.now c.requires.readable.lawful (words_step c.args.name.now c.args.args.now) c.in_default.ensures

pub returns-in_default-of-clause-read : goal.returns-in_default-of-clause-read
returns-in_default-of-clause-read c =
    let step = words_step c.args.name.now c.args.args.now in
    too_few c.args.c.now c.requires.readable c.args.slots c.in-Some.found step c.in-Some.ensures
    c.new_slots.result c.new_slots.ensures c.in_default-of.ensures

pub returns-in_default-slot_within-clause-read : goal.returns-in_default-slot_within-clause-read
returns-in_default-slot_within-clause-read c =
    let step = words_step c.args.name.now c.args.args.now in
    no_slot c.args.c.now c.requires.readable c.args.slots c.in-Some.found step c.in-Some.ensures
    c.new_slots.result c.new_slots.ensures c.in-Some-of.parts c.in-Some-of.ensures c.in_default-slot_within.ensures

pub returns-then-not-branch-clause-read : goal.returns-then-not-branch-clause-read
returns-then-not-branch-clause-read c =
    let step = words_step c.args.name.now c.args.args.now in
    no_new c.args.c.now c.requires.readable c.args.slots c.in-Some.found step c.in-Some.ensures
    c.new_slots.result c.new_slots.ensures c.in-Some-of.parts c.in-Some-of.ensures
    c.in_ok-fill_slots.field-0 c.fill_slots.new.into.items c.if-not-branch.true c.in_ok-fill_slots.ensures

pub fill-requires-clause-room : goal.fill-requires-clause-room
fill-requires-clause-room c =
    let env = frame c.args.env.now in
    let enough = room_for c.args.c.now env c.requires.room c.in-Some.found c.in-Some.ensures.0 in
    subst (λ (ps : List Param). length ps ≤ env.room) (sym c.params_of.ensures) enough

pub returns-then-not-fill-clause-read : goal.returns-then-not-fill-clause-read
returns-then-not-fill-clause-read c =
    let p = c.args.c.now in
    let step = words_step c.args.name.now c.args.args.now in
    let are = are_of p c.requires.readable c.args.printed.now c.args.world.now c.requires.own c.index.result.now c.index.ensures in
    no_objects p c.requires.readable c.args.slots c.in-Some.found step c.in-Some.ensures
    c.new_slots.result c.new_slots.ensures c.in-Some-of.parts c.in-Some-of.ensures
    c.params_of.result.now c.params_of.ensures (c.if-not-fill.ensures.filled (in_print p.hddl) are)

pub returns-clause-read : goal.returns-clause-read
returns-clause-read c =
    let p = c.args.c.now in
    let is = c.requires.readable in
    let b = c.args.slots in
    let name = c.in-Some.found in
    let step = words_step c.args.name.now c.args.args.now in
    let named = c.in-Some.ensures in
    let many = c.new_slots.result in
    let parts = c.in-Some-of.parts in
    let cut = c.in-Some-of.ensures in
    let new = c.fill_slots.new.into.items in
    let found = c.in_ok-fill_slots.field-0 in
    let many_is = c.new_slots.ensures in
    let slots = new_are p is b name step named many many_is parts cut found new c.if-not-branch.false c.in_ok-fill_slots.ensures in
    let are = are_of p is c.args.printed.now c.args.world.now c.requires.own c.index.result.now c.index.ensures in
    all_read p is b name step named many many_is parts cut c.params_of.result.now c.params_of.ensures
    c.in-Some-slot_within.slot new c.fill.new.env.values.items c.in-Some-slot_within.ensures slots
    (c.if-not-fill.ensures.filled (in_print p.hddl) are)

pub returns-clause-new : goal.returns-clause-new
returns-clause-new c =
    let p = c.args.c.now in
    let is = c.requires.readable in
    let b = c.args.slots in
    let name = c.in-Some.found in
    let step = words_step c.args.name.now c.args.args.now in
    let named = c.in-Some.ensures in
    let many = c.new_slots.result in
    let parts = c.in-Some-of.parts in
    let cut = c.in-Some-of.ensures in
    let new = c.fill_slots.new.into.items in
    let found = c.in_ok-fill_slots.field-0 in
    let many_is = c.new_slots.ensures in
    let slots = new_are p is b name step named many many_is parts cut found new c.if-not-branch.false c.in_ok-fill_slots.ensures in
    all_new p is b name step named many many_is parts cut c.in-Some-slot_within.slot new c.fill.new.env.values.items slots
