use Rattle.std.proofs.Common.{◌≤◌, [], ◌∷◌, length, slice_index, sym, ap, subst, ◌∙◌, arith}
use Rattle.std.proofs.lemmas.List.{take_all, map-append}
use Rattle.std.proofs.lemmas.Option.{slice_get-get_or}
use Rattle.method_fits.specs.Subtasks.{said_work, said_works}
use Rattle.line_fits.specs.ByNumbers.{IsWorkAt, AreWorksAt}
use Rattle.line_fits.proofs.PairedLists.{from_left, pair_next}
use Rattle.line_fits.proofs.children.fill.Goals as goal

pub loop-place-init : goal.loop-place-init
loop-place-init c = subst (λ items. AreWorksAt c.args.lines.now [] (said_works items)) (sym c.clear.ensures.items) tt

pub returns-in-None : goal.returns-in-None
returns-in-None c others are =
    let places = c.args.places.now in
    let i = c.loop-place.place-index in
    let at = slice_get-get_or places i 0 c.loop-place-test.true in
    let (w, there, is) = from_left (IsWorkAt c.args.lines.now) places others are i (slice_index places i) at in
    c.in-None.ensures w is

pub loop-place-preserved : goal.loop-place-preserved
loop-place-preserved c =
    let places = c.args.places.now in
    let i = c.loop-place.place-index in
    let said = c.loop-place.said.items in
    let at = slice_get-get_or places i 0 c.loop-place-test.true in
    let next = pair_next (IsWorkAt c.args.lines.now) places (said_works said) i (slice_index places i) (said_work c.in-Some.subtask)
    c.loop-place.invariant at c.in-Some.ensures in
    let pushed = ap said_works c.in_ok-push-in-Some.ensures.items ∙ map-append said_work said (c.in-Some.subtask ∷ []) in
    subst (AreWorksAt c.args.lines.now _) (sym pushed) next

pub returns : goal.returns
returns c =
    let all : length c.args.places.now ≤ c.loop-place.place-index = omega (arith, c.loop-place-test.false) in
    subst (λ places. AreWorksAt c.args.lines.now places (said_works c.loop-place.said.items))
    (take_all c.loop-place.place-index c.args.places.now all) c.loop-place.invariant
