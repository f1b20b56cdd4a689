use Rattle.std.proofs.Common.{true, false, not, ap, sym, ◌∙◌}
use Rattle.plan_model.specs.declared.formulas.Formula.TheVariants as F
use Rattle.ground_state.proofs.TruthCases.{literal-is-found, same-as-true, not-as-false}
use Rattle.ground_state.proofs.truth.is_literal_found.Goals as goal

pub returns-in-Holds : goal.returns-in-Holds
returns-in-Holds c =
    let w = c.args.wanted in
    literal-is-found c.args.domain.now c.args.s.now w w c.args.body.now true c.in-Holds.atom c.args.env.now.values.items c.finds.result c.in-Holds.is (same-as-true w) c.finds.ensures

pub returns-in-Holds-get : goal.returns-in-Holds-get
returns-in-Holds-get c =
    let w = c.args.wanted in
    let is = c.in-Not.is ∙ ap (λ f. F.Not f) (sym c.get.ensures.value ∙ c.in-Holds-get.is) in
    literal-is-found c.args.domain.now c.args.s.now w (not w) c.args.body.now false c.in-Holds-get.atom c.args.env.now.values.items c.finds-in-Holds-get.result is (not-as-false w) c.finds-in-Holds-get.ensures
