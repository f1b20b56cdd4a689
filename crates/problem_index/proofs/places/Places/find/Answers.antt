use Rattle.std.proofs.Common.{ℕ, ◌≡◌, List, Option, Some, refl, sym, subst, slice_get}
use Rattle.std.proofs.lemmas.Option.{slice_get_read}
use Rattle.problem_index.specs.Places.{Finds}
use Rattle.problem_index.proofs.PlaceLaws.{finds_none, finds_at}
use Rattle.problem_index.proofs.places.Places.find.Goals as goal

pub returns-in_err-name : goal.returns-in_err-name
returns-in_err-name c =
    subst (Finds c.args.words.now c.args.self.now.by_name.items c.args.word.now) (sym c.from_residual.ensures)
    (finds_none c.args.words.now c.args.self.now.by_name.items c.args.word.now (sym c.in_err-name.ensures.number))

pub returns-in-Some : goal.returns-in-Some
returns-in-Some c =
    let at = slice_get_read c.deref.result.now _ c.in_ok-name.name.number c.in-Some.place.now refl c.in-Some.ensures.lookup.3.0 c.in-Some.ensures.lookup.1 in
    let here = subst (λ (xs : List (Option ℕ)). slice_get xs c.in_ok-name.name.number ≡ Some c.in-Some.place.now) c.deref.ensures.value at in
    finds_at c.args.words.now c.args.self.now.by_name.items c.args.word.now c.in_ok-name.name.number c.in-Some.place.now c.find.ensures.sound.differ (sym c.in_ok-name.ensures.number) here
