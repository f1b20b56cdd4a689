use Rattle.std.proofs.Common.{◌≡◌, Some, slice_get, refl}
use Rattle.std.proofs.lemmas.Option.{slice_get_read}
use Rattle.ground_state.proofs.Denials.{denied}
use Rattle.ground_state.proofs.state.State.deny_each.Goals as goal

pub returns-in-Some : goal.returns-in-Some
returns-in-Some c =
    let p = c.in-Deny-Delete.atom.predicate in
    let old = c.in-Some.notes.now in
    let at : slice_get c.args.self.now.facts.items c.in-Deny-Delete.atom.predicate ≡ Some c.in-Some.notes.now = slice_get_read c.args.self.now.facts.items _ p old refl c.in-Some.ensures.item.3.0 c.in-Some.ensures.value in
    denied c.args.self.now p old c.deny_each.new.self at c.args.pass c.args.domain.now c.args.eff.now c.in-Deny-Delete.atom c.as_slice.result.now c.args.env.now.values.items c.deny_each.result
    c.in-Deny-Delete.is-0 c.in-Deny-Delete.is-1 refl c.as_slice.ensures.items c.deny_each.ensures
