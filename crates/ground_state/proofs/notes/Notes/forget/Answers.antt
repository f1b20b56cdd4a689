use Rattle.std.proofs.Common.{ℕ, ◌≡◌, Option, Some, None, false, refl, ap, sym, ◌∙◌, true≢false}
use Rattle.std.specs.Option.{is_some}
use Rattle.ground_state.specs.Numbers.{number_of}
use Rattle.ground_state.specs.Notes.{noted}
use Rattle.ground_state.proofs.Lists.{far-noted}
use Rattle.ground_state.proofs.Denials.{hold_same}
use Rattle.ground_state.proofs.notes.Notes.forget.Goals as goal

none : (o : Option ℕ) → is_some o ≡ false → o ≡ None
none (Some n) e = absurd (true≢false e)
none None e = refl

pub returns-in-Some-false : goal.returns-in-Some-false
returns-in-Some-false c =
    let old = c.args.self.now in
    let number : number_of c.args.self.now.numbers c.args.args.now ≡ None = sym c.of.ensures.number ∙ none c.of.result c.if-is_none.ensures in
    let was : noted c.args.self.now c.args.args.now ≡ Some false = sym c.get.ensures ∙ c.in-Some-false.is ∙ ap (λ b. Some b) c.in-Some-false.field-0-test in
    hold_same old _ c.args.args.now (far-noted old c.remove.new.self c.args.args.now None number c.remove.ensures.updates) was
