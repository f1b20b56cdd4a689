use Rattle.std.proofs.Common.{◌≡◌, ◌++◌, [], ◌∷◌, List, Option, Some, IfSome, false, slice_get, refl, sym, subst}
use Rattle.std.specs.Prelude.{unwrap_or}
use Rattle.std.specs.Option.{option_and_then}
use Rattle.std.proofs.lemmas.Option.{slice_get_read}
use Rattle.plan_model.specs.plan_meaning.Truth.{values_of}
use Rattle.ground_state.specs.declared.notes.Notes.{Notes}
use Rattle.problem_index.specs.Domains.{IsWithSome}
use Rattle.ground_state.specs.Notes.{noted}
use Rattle.ground_state.proofs.state.State.finds.Goals as goal

pub returns : goal.returns
returns c =
    let notes = c.in_ok-notes.notes.now in
    let v = c.args.env.now.values.items in
    let is = slice_get_read c.deref.result.now _ c.args.atom.now.predicate notes refl c.in_ok-notes.ensures.lookup.3.0 c.in_ok-notes.ensures.lookup.1 in
    let here : slice_get c.args.self.now.facts.items c.args.atom.now.predicate ≡ Some c.in_ok-notes.notes.now = subst (λ (xs : List Notes). slice_get xs c.args.atom.now.predicate ≡ Some c.in_ok-notes.notes.now) c.deref.ensures.value is in
    subst (λ (o : Option Notes). IfSome c.finds.result (IsWithSome c.args.domain.now (λ x. unwrap_or (option_and_then (λ lists. noted lists (values_of (c.args.env.now.values.items ++ x ∷ []) c.args.atom.now.args)) o) false) c.args.wanted)) (sym here)
    (subst (λ terms. IfSome c.finds.result (IsWithSome c.args.domain.now (λ x. unwrap_or (noted c.in_ok-notes.notes.now (values_of (c.args.env.now.values.items ++ x ∷ []) terms)) false) c.args.wanted)) c.as_slice.ensures.items c.finds.ensures)
