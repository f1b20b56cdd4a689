use Rattle.std.proofs.Common.{◌≡◌, ◌<◌, length, get_or, rules, arith}
use Rattle.std.proofs.lemmas.Grind.{common_steps}
use Rattle.name_binding.specs.Unions.{formula_unions}
use Rattle.name_binding.proofs.UnionsLemmas.{joined-read, starts-at}
use Rattle.name_binding.proofs.unions.+formula.Goals as goal

pub put_unions_of_formulas-loop-part-preserved : goal.put_unions_of_formulas-loop-part-preserved
put_unions_of_formulas-loop-part-preserved t c =
    let xs = c.args.formulas.now in
    let i = c.loop-part.part-index in
    let part = c.part-item.result in
    let below : i < length xs = search rules in
    let read : part ≡ get_or xs i part = search rules in
    joined-read (formula_unions c.args.table.now) xs i part c.args.into.now.items c.loop-part.into.items c.put_unions_of_formula.new.into.items below read
    c.loop-part.invariant c.in_ok-put_unions_of_formula.ensures.put

pub put_unions_of_formulas-returns : goal.put_unions_of_formulas-returns
put_unions_of_formulas-returns t c = grind (arith, common_steps)

pub put_unions_of_formulas-returns-in_err-put_unions_of_formula-clause-in_front :
    goal.put_unions_of_formulas-returns-in_err-put_unions_of_formula-clause-in_front
put_unions_of_formulas-returns-in_err-put_unions_of_formula-clause-in_front t c =
    starts-at c.from_residual.result c.args.into.now.items c.loop-part.into.items c.put_unions_of_formula.new.into.items _ c.loop-part.invariant
    c.in_err-put_unions_of_formula.ensures.in_front
