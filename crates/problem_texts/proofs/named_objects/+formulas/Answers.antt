use Rattle.std.proofs.Common.{arith}
use Rattle.slot_encoding.specs.encoded_texts.NamedObjects.{of_formula}
use Rattle.problem_texts.proofs.Greatest.{greatest-next}
use Rattle.problem_texts.proofs.named_objects.+formulas.Goals as goal

pub by_formulas-loop-formula-preserved : goal.by_formulas-loop-formula-preserved
by_formulas-loop-formula-preserved t c =
    let next = greatest-next of_formula c.args.formulas.now c.loop-formula.formula-index c.formula-item.result c.loop-formula-test.true c.formula-item.is in
    let before = c.loop-formula.invariant in
    let it = c.by_formula.ensures in
    let most = c.max-most.ensures in
    omega (arith, next, before, it, most)
