use Rattle.std.proofs.Common.{ap, subst, ◌∙◌}
use Rattle.line_fits.specs.declared.fitted.FitError.{FitError}
use Rattle.line_fits.specs.Fitted.{RefusesFits}
use Rattle.plan_placer.specs.Planting.{id_at}
use Rattle.plan_placer.proofs.Refusals.{few_lines, unmatched}
use Rattle.plan_placer.proofs.planting.planted.Goals as goal

pub fit_lines-requires-clause-few : goal.fit_lines-requires-clause-few
fit_lines-requires-clause-few c = few_lines c.args.c.now c.args.plan.now c.args.lines.now c.requires.numbered c.requires.few

pub returns-in-Err-NoMatch-clause-refused : goal.returns-in-Err-NoMatch-clause-refused
returns-in-Err-NoMatch-clause-refused c =
    let refuses = subst (λ (z : FitError). RefusesFits c.args.c.now c.args.lines.now z) c.in-Err-NoMatch.field-0-is
    c.in-Err-NoMatch.ensures.refused in
    unmatched c.args.c.now c.args.plan.now c.in-Err-NoMatch.line c.id_of-id.result
    (c.id_of-id.ensures ∙ ap (id_at c.args.plan.now) c.in-Err-NoMatch.line-is)
    (refuses c.args.plan.now c.requires.sound c.requires.printable c.requires.numbered)

pub tree_of-requires-clause-few : goal.tree_of-requires-clause-few
tree_of-requires-clause-few c = few_lines c.args.c.now c.args.plan.now c.args.lines.now c.requires.numbered c.requires.few
