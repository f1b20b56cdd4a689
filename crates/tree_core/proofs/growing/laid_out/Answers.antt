use Rattle.std.proofs.Common.{◌<◌, length, Some, None, sym, subst, ◌∙◌}
use Rattle.std.proofs.lemmas.List.{length-map}
use Rattle.tree_core.specs.Labels.{growth_of, growths_of}
use Rattle.tree_core.specs.Growing.{IsLeast}
use Rattle.tree_core.proofs.DefectLaws.{joined_by, unjoined_by, positive_of}
use Rattle.tree_core.proofs.growing.laid_out.Goals as goal

pub returns-in-Some-clause-unjoined : goal.returns-in-Some-clause-unjoined
returns-in-Some-clause-unjoined c =
    let gs = growths_of c.args.steps.now in
    let many = length-map c.args.steps.now growth_of in
    unjoined_by gs (subst (λ n. 0 < n) (sym many) (positive_of (length c.args.steps.now) (sym c.is_empty.ensures ∙ c.if-is_empty.false))) c.in-Some.growth
    (subst (λ n. IsLeast gs (λ l. l < n) (Some c.in-Some.growth)) (sym many) (subst (λ o. IsLeast gs (λ l. l < length c.args.steps.now) o) c.in-Some.is c.first_defect.ensures))

pub joined_laid_out-requires-clause-joined : goal.joined_laid_out-requires-clause-joined
joined_laid_out-requires-clause-joined c =
    let gs = growths_of c.args.steps.now in
    let many = length-map c.args.steps.now growth_of in
    joined_by gs (subst (λ n. 0 < n) (sym many) (positive_of (length c.args.steps.now) (sym c.is_empty.ensures ∙ c.if-is_empty.false)))
    (subst (λ n. IsLeast gs (λ l. l < n) None) (sym many) (subst (λ o. IsLeast gs (λ l. l < length c.args.steps.now) o) c.in-None.is c.first_defect.ensures))
