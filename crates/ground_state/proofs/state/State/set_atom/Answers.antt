use Rattle.std.proofs.Common.{◌≡◌, Some, slice_get, refl, List, subst}
use Rattle.std.proofs.lemmas.Option.{slice_get_read}
use Rattle.plan_model.specs.declared.terms.Term.{Term}
use Rattle.plan_model.specs.plan_meaning.Truth.{values_of}
use Rattle.ground_state.specs.Notes.{IsSet}
use Rattle.ground_state.proofs.Denials.{set_at}
use Rattle.ground_state.proofs.state.State.set_atom.Goals as goal

pub returns-in-Some-clause-set : goal.returns-in-Some-clause-set
returns-in-Some-clause-set c =
    let p = c.args.atom.now.predicate in
    let v = c.args.env.now.values.items in
    let old = c.in-Some.notes.now in
    let at : slice_get c.args.self.now.facts.items c.args.atom.now.predicate ≡ Some c.in-Some.notes.now = slice_get_read c.args.self.now.facts.items _ p old refl c.in-Some.ensures.item.3.0 c.in-Some.ensures.value in
    let set = subst (λ (terms : List Term). IsSet old (values_of v terms) c.args.truth c.set_terms.new.self) c.as_slice.ensures.items c.set_terms.ensures.set in
    set_at c.args.self.now p old c.set_terms.new.self at (values_of v c.args.atom.now.args) c.args.truth set
