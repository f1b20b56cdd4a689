use Rattle.std.proofs.Common.{sym, subst}
use Rattle.plan_model.specs.plan_meaning.Network.{task}
use Rattle.method_fits.specs.Subtasks.{said_works}
use Rattle.method_fits.specs.Fits.{IsTheFit}
use Rattle.line_fits.specs.ByNumbers.{AreWorksAt, AreTheWorks}
use Rattle.line_fits.proofs.WantedFits.{none_splits}
use Rattle.line_fits.proofs.fitting.fit.Goals as goal

pub returns-in-None : goal.returns-in-None
returns-in-None c =
    let lines = c.args.lines.now in
    let w = c.args.wanted.now in
    let works = said_works c.as_slice.result.now in
    let all = subst (λ all. AreTheWorks lines w.children.now all (said_works c.fill.new.said.items)) c.if-not-branch.false
    c.in_ok-fill.ensures in
    let said = subst (λ items. AreWorksAt lines w.children.now (said_works items)) (sym c.as_slice.ensures.value) all in
    let none = subst (IsTheFit c.args.c.now w.method (task w.task w.objects.now) works) c.in-None.is c.in_ok-fit.ensures.fit in
    record { fit = none_splits lines c.args.c.now w.method w.task w.objects.now w.children.now works said none }
