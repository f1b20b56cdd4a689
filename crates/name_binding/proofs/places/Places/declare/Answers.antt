use Rattle.std.proofs.Common.{◌≡◌, None, length, true, false, not, is_some, sym, ap, ◌∙◌}
use Rattle.std.proofs.lemmas.List.{get_or_read}
use Rattle.name_binding.specs.Places.{cell, AreFirst}
use Rattle.name_binding.proofs.Found.{declared_new, declared_again}
use Rattle.name_binding.proofs.places.Places.declare.Goals as goal

pub invariant_of-self-then-is_none : goal.invariant_of-self-then-is_none
invariant_of-self-then-is_none c =
    let cells = c.make_room.new.cells.items in
    let numbers = c.self.inside.numbers.items in
    let x = c.args.name.number in
    let first : AreFirst cells numbers = λ n. c.make_room.ensures.same n ∙ c.self.invariant n in
    let read = get_or_read cells x c.index.result.now c.in_ok-make_room.ensures.room c.index.ensures None in
    let none : is_some (cell cells x) ≡ false = ap is_some (sym read) ∙ (c.is_none.ensures ∙ ap not c.if-is_none.true) in
    let place : c.in_ok-place.place ≡ length numbers = c.in_ok-place.ensures.same ∙ (c.len.ensures ∙ c.self.inside.numbers.ok.0) in
    rw (c.in_ok-push.ensures.items, place) (declared_new cells numbers x first c.in_ok-make_room.ensures.room none)

pub invariant_of-self-else-is_none : goal.invariant_of-self-else-is_none
invariant_of-self-else-is_none c =
    let cells = c.make_room.new.cells.items in
    let numbers = c.self.inside.numbers.items in
    let x = c.args.name.number in
    let first : AreFirst cells numbers = λ n. c.make_room.ensures.same n ∙ c.self.invariant n in
    let read = get_or_read cells x c.index.result.now c.in_ok-make_room.ensures.room c.index.ensures None in
    let some : is_some (cell cells x) ≡ true = ap is_some (sym read) ∙ (c.is_none.ensures ∙ ap not c.if-is_none.false) in
    rw c.in_ok-push.ensures.items (declared_again cells numbers x first some)
