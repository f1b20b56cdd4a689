use Rattle.std.proofs.Common.{sym, ◌∙◌}
use Rattle.plan_model.specs.declared.formulas.Formula.TheVariants.{Forall}
use Rattle.pddl_printer.proofs.SaidOfEach.{says-held, says-denied}
use Rattle.pddl_printer.proofs.written_conditions.literal_of.Goals as goal

pub returns-in-Holds : goal.returns-in-Holds
returns-in-Holds c =
    says-held c.args.range c.args.part.now c.as_slice.result.now c.get.result.now (c.in-Forall.is ∙ sym (λ i. Forall (c.as_slice.ensures.items i) (c.get.ensures.value i)))
    (sym c.if-not-is_over.ensures) c.in-Holds.atom c.in-Holds.is

pub returns-in-Holds-get : goal.returns-in-Holds-get
returns-in-Holds-get c =
    says-denied c.args.range c.args.part.now c.as_slice.result.now c.get.result.now (c.in-Forall.is ∙ sym (λ i. Forall (c.as_slice.ensures.items i) (c.get.ensures.value i)))
    (sym c.if-not-is_over.ensures) c.in-Not.denied c.get-in-Not.result.now c.in-Not.is c.get-in-Not.ensures.value c.in-Holds-get.atom c.in-Holds-get.is
