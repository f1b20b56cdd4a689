use Rattle.std.proofs.Common.{ℕ, List, Option, subst, sym}
use Rattle.kept_front.specs.declared.later.Later.{Later}
use Rattle.kept_front.specs.Later.{AreAllLater}
use Rattle.kept_front.proofs.SoundPairs.{sound_pairs}
use Rattle.state_history.specs.Histories.{state_in}
use Rattle.node_conditions.specs.declared.stands.Stands.{Stands}
use Rattle.node_conditions.specs.Standing.{RowMayStand}
use Rattle.node_conditions.specs.Stands.{AreTheStands}
use Rattle.plan_placer.proofs.Scheduled.{no_place}
use Rattle.plan_placer.proofs.scheduling.scheduled.Goals as goal

pub all-requires : goal.all-requires
all-requires c =
    let s = c.requires.soundly in
    record { pairs = sound_pairs c.args.c.now s.problem s.checks s.sound s.compiled }

pub latest_stands-requires-clause-later : goal.latest_stands-requires-clause-later
latest_stands-requires-clause-later c =
    subst (λ (z : List Later). AreAllLater c.args.c.now z) (sym c.as_slice.ensures.items) c.in_ok-later.ensures

pub returns-in_default-clause-refused : goal.returns-in_default-clause-refused
returns-in_default-clause-refused c plan r =
    let made = c.args.planted in
    let may = RowMayStand c.args.c.now made.tree (state_in c.args.history) in
    no_place c.args.c.now c.requires.soundly plan made c.args.history r
    (subst (λ (z : Option Stands). AreTheStands may c.args.c.now made.tree made.actions z) c.in_default.is
    (subst (λ (z : List ℕ). AreTheStands may c.args.c.now made.tree z c.in_ok-found.found) c.as_slice-2.ensures.items c.in_ok-found.ensures))

pub with_first-requires-clause-later : goal.with_first-requires-clause-later
with_first-requires-clause-later c =
    subst (λ (z : List Later). AreAllLater c.args.c.now z) (sym c.as_slice-3.ensures.items) c.in_ok-later.ensures

pub returns-clause-scheduled : goal.returns-clause-scheduled
returns-clause-scheduled c =
    let made = c.args.planted in
    let may = RowMayStand c.args.c.now made.tree (state_in c.args.history) in
    c.in_ok-run.ensures c.args.history
    (subst (λ (z : Option Stands). AreTheStands may c.args.c.now made.tree made.actions z) c.in-Some.is
    (subst (λ (z : List ℕ). AreTheStands may c.args.c.now made.tree z c.in_ok-found.found) c.as_slice-2.ensures.items c.in_ok-found.ensures))
