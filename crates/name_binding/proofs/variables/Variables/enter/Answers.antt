use Rattle.std.proofs.Common.{◌≡◌, ◌∙◌, None, length, arith}
use Rattle.std.proofs.lemmas.List.{get_or_read}
use Rattle.std.proofs.lemmas.Grind.{common_steps}
use Rattle.name_binding.specs.Entered.{AreInForce}
use Rattle.name_binding.proofs.InForce.{entered}
use Rattle.name_binding.proofs.variables.Variables.enter.Goals as goal

pub invariant_of-self-2 : goal.invariant_of-self-2
invariant_of-self-2 c =
    let cells = c.make_room.new.cells.items in
    let es = c.self.inside.entered.items in
    let x = c.args.name.number in
    let old : AreInForce cells es = record { last = λ n. c.make_room.ensures.same n ∙ c.self.invariant.last n; hidden = c.self.invariant.hidden } in
    let read = get_or_read cells x c.index.result.now c.in_ok-make_room.ensures.room c.index.ensures None in
    let place : c.in_ok-place.place ≡ length es = c.in_ok-place.ensures.same ∙ (c.len.ensures ∙ c.self.inside.entered.ok.0) in
    rw c.in_ok-push.ensures.items (entered cells es (record { number = x; hidden = c.index.result.now }) c.in_ok-place.place old c.in_ok-make_room.ensures.room read place)

pub returns-clause-entered : goal.returns-clause-entered
returns-clause-entered c = grind (arith, common_steps)
