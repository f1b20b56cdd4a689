use Rattle.std.proofs.Common.{[], refl, subst}
use Rattle.line_fits.specs.ByNumbers.{IsTheFit, Splits}
use Rattle.line_fits.proofs.AllFits.{no_root, are_fits, is_refused}
use Rattle.line_fits.proofs.fitting.fit_lines.Goals as goal

pub returns-in_err-splits-in-Some-clause-refused : goal.returns-in_err-splits-in-Some-clause-refused
returns-in_err-splits-in-Some-clause-refused c =
    let lines = c.args.lines.now in
    let children = c.as_slice.result.now in
    let root = subst (IsTheFit (Splits lines c.args.c.now 0 c.len.result [] children)) c.in-Some.is c.in_ok-root.ensures.fit in
    is_refused c.args.c.now c.requires.soundly lines c.len.result [] children c.len.ensures.length refl c.as_slice.ensures.items
    c.in-Some.root root c.in_err-splits-in-Some.field-0.0 c.in_err-splits-in-Some.ensures.refused
    c.from_residual-in_err-splits-in-Some.result c.from_residual-in_err-splits-in-Some.ensures.1

pub returns-in-Some-clause-fits : goal.returns-in-Some-clause-fits
returns-in-Some-clause-fits c =
    let lines = c.args.lines.now in
    let children = c.as_slice.result.now in
    let root = subst (IsTheFit (Splits lines c.args.c.now 0 c.len.result [] children)) c.in-Some.is c.in_ok-root.ensures.fit in
    are_fits c.args.c.now c.requires.soundly lines c.len.result [] children c.len.ensures.length refl c.as_slice.ensures.items
    c.in-Some.root root c.in_ok-splits-in-Some.splits c.in_ok-splits-in-Some.ensures.fits

pub returns-clause-refused : goal.returns-clause-refused
returns-clause-refused c =
    let lines = c.args.lines.now in
    let children = c.as_slice.result.now in
    let none = subst (IsTheFit (Splits lines c.args.c.now 0 c.len.result [] children)) c.in-None.is c.in_ok-root.ensures.fit in
    no_root c.args.c.now c.requires.soundly lines c.len.result [] children c.len.ensures.length refl c.as_slice.ensures.items none
