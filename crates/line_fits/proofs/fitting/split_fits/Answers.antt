use Rattle.std.proofs.Common.{◌≡◌, ◌+◌, ◌<◌, ◌≤◌, Some, take, length, slice_get, ap, sym, subst, refl, arith}
use Rattle.std.proofs.lemmas.List.{take_all}
use Rattle.std.proofs.lemmas.Option.{slice_get_read}
use Rattle.line_fits.specs.Fitted.{method_of}
use Rattle.line_fits.specs.ByNumbers.{IsTheFit, FitsSplit, AreSplitFits}
use Rattle.line_fits.proofs.PairedLists.{pair_next}
use Rattle.line_fits.proofs.fitting.split_fits.Goals as goal

pub loop-place-preserved : goal.loop-place-preserved
loop-place-preserved c =
    let lines = c.args.lines.now in
    let place = c.loop-place.place in
    let split = c.index-splits-place.result in
    let within : place < length c.as_slice-splits.result.now = omega (arith, c.loop-place-test.true) in
    let read = slice_get_read c.as_slice-splits.result.now _ place split refl within c.index-splits-place.is in
    let at = subst (λ splits. slice_get splits place ≡ Some split) c.loop-place.invariant.splits read in
    let fits = subst (IsTheFit (FitsSplit lines c.args.c.now split)) c.in-Some.is c.in_ok-fit.ensures.fit in
    let next = pair_next (λ split fit. FitsSplit lines c.args.c.now split (method_of fit)) lines.splits c.loop-place.fits place split
    c.in-Some.fit c.loop-place.invariant.fitted at fits in
    record {
      splits = c.loop-place.invariant.splits;
      fitted = subst (AreSplitFits lines c.args.c.now (take (place + 1) lines.splits)) (sym c.in_ok-push-in-Some.ensures.pushed) next;
    }

pub returns-clause-fits : goal.returns-clause-fits
returns-clause-fits c =
    let splits = c.args.lines.now.splits in
    let many = ap length c.loop-place.invariant.splits in
    let all : length splits ≤ c.loop-place.place = omega (arith, many, c.loop-place-test.false) in
    subst (λ seen. AreSplitFits c.args.lines.now c.args.c.now seen c.loop-place.fits) (take_all c.loop-place.place splits all)
    c.loop-place.invariant.fitted
