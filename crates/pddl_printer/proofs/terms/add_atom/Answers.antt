use Rattle.pddl_printer.specs.Texts.{applied_text}
use Rattle.pddl_printer.proofs.Batches.{added-as}
use Rattle.pddl_printer.proofs.terms.add_atom.Goals as goal

pub returns : goal.returns
returns c = added-as (λ i. applied_text c.args.p.now c.args.scope.now (c.predicate_word-predicate.ensures i) (c.as_slice.ensures.items i)) c.add_applied.ensures
