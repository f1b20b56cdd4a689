use Rattle.std.proofs.Common.{sym, ◌∙◌}
use Rattle.plan_model.specs.declared.effects.Effect.TheVariants.{Forall}
use Rattle.pddl_printer.proofs.SaidOfEach.{says-deleted, says-added}
use Rattle.pddl_printer.proofs.written_effects.literal_of.Goals as goal

pub returns-in-Delete : goal.returns-in-Delete
returns-in-Delete c =
    says-deleted c.args.range c.args.part.now c.as_slice.result.now c.get.result.now (c.in-Forall.is ∙ sym (λ i. Forall (c.as_slice.ensures.items i) (c.get.ensures.value i)))
    (sym c.if-not-is_over.ensures) c.in-Delete.atom c.in-Delete.is

pub returns-in-Add : goal.returns-in-Add
returns-in-Add c =
    says-added c.args.range c.args.part.now c.as_slice.result.now c.get.result.now (c.in-Forall.is ∙ sym (λ i. Forall (c.as_slice.ensures.items i) (c.get.ensures.value i)))
    (sym c.if-not-is_over.ensures) c.in-When.condition c.in-When.change c.get-in-Holds.result.now c.in-When.is c.get-in-Holds.ensures.value c.in-Holds.atom c.in-Holds.is c.in-Add.added c.in-Add.is
