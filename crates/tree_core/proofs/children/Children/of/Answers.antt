use Rattle.std.proofs.Common.{◌+◌, refl, sym, subst, arith}
use Rattle.std.proofs.lemmas.Option.{slice_get_read}
use Rattle.std.proofs.lemmas.List.{length-map}
use Rattle.tree_core.specs.Labels.{growth_of, growths_of}
use Rattle.tree_core.specs.Rooms.{AreRooms}
use Rattle.tree_core.specs.Growing.{AreNoted}
use Rattle.tree_core.proofs.Gets.{get-map}
use Rattle.tree_core.proofs.Noted.{noted_none, noted_root, noted_next}
use Rattle.tree_core.proofs.children.Children.of.Goals as goal
use Rattle.tree_core.proofs.children.Children.of.Goals.{in-Some+in_ok-note, in_default}

pub loop-place-init : goal.loop-place-init
loop-place-init c = record {
  rooms = c.in_ok-children.ensures.rooms;
  noted = noted_none (growths_of c.args.steps.now) c.in_ok-children.children c.in_ok-children.ensures.none;
}

pub loop-place-preserved : goal.loop-place-preserved
loop-place-preserved c =
    let steps = c.args.steps.now in
    let n = c.loop-place.place in
    let g = c.index-steps-place.result in
    let at = get-map growth_of steps n g (slice_get_read steps _ n g refl c.loop-place-test.true c.index-steps-place.is) in
    let a = c.loop-place.invariant in
    let kept = c.loop-place.children in
    elim c.match-growth.branch [
      | in_default w ↦ record {
        rooms = subst AreRooms (sym w.children-is) a.rooms;
        noted = subst (AreNoted (growths_of steps) (n + 1)) (sym w.children-is) (noted_root (growths_of steps) n kept a.noted (growth_of g) at w.in_default.is);
      }
      | in-Some+in_ok-note w ↦ record {
        rooms = subst AreRooms (sym w.children-is) w.in_ok-note.ensures.rooms;
        noted = subst (AreNoted (growths_of steps) (n + 1)) (sym w.children-is)
            (noted_next (growths_of steps) n kept a.noted w.in-Some.parent g.child _ (growth_of g, at, w.in-Some.is, refl) w.in_ok-note.ensures.noted);
      }
    ]

pub returns : goal.returns
returns c = record { children = subst (λ n. AreNoted (growths_of c.args.steps.now) n c.loop-place.children) (let e = c.loop-place-test.false in let b = c.loop-place.auto.place-end in let l = length-map c.args.steps.now growth_of in omega arith) c.loop-place.invariant.noted }
