use Rattle.std.proofs.Common.{◌≡◌, Some, slice_get, refl}
use Rattle.std.proofs.lemmas.Option.{slice_get_read}
use Rattle.ground_state.proofs.Denials.{set_at}
use Rattle.ground_state.proofs.state.State.set.Goals as goal

pub returns-in-Some : goal.returns-in-Some
returns-in-Some c =
    let p = c.args.predicate in
    let old = c.in-Some.notes.now in
    let at : slice_get c.args.self.now.facts.items c.args.predicate ≡ Some c.in-Some.notes.now = slice_get_read c.args.self.now.facts.items _ p old refl c.in-Some.ensures.item.3.0 c.in-Some.ensures.value in
    set_at c.args.self.now p old c.set.new.self at c.args.args.now c.args.truth c.set.ensures
