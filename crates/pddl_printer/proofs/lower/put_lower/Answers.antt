use Rattle.std.proofs.Common.{◌≡◌, ◌+◌, ◌-◌, ap, sym, arith}
use Rattle.text_forms.proofs.sheets.Written.{wrote-as, wrote-nothing, wrote-then}
use Rattle.pddl_printer.specs.Behind.{of_each}
use Rattle.pddl_printer.specs.LowerFacts.{facts_of, rows}
use Rattle.pddl_printer.specs.Texts.{fact_text}
use Rattle.pddl_printer.proofs.LowerRows.{rows-next}
use Rattle.pddl_printer.proofs.lower.put_lower.Goals as goal

pub loop-k-init : goal.loop-k-init
loop-k-init c =
    let lower = c.in-Some.lower in
    let from : lower.range.first + 0 ≡ lower.range.first = omega arith in
    let all : lower.range.count - 0 ≡ lower.range.count = omega arith in
    λ end w. wrote-as (λ i. of_each (fact_text c.args.p.now) (rows lower.predicate (from i) (all i))) w

pub loop-k-preserved : goal.loop-k-preserved
loop-k-preserved c =
    let lower = c.in-Some.lower in
    λ end w. c.loop-k.invariant end (wrote-as (rows-next (fact_text c.args.p.now) lower.predicate lower.range.first c.loop-k.k lower.range.count c.loop-k-test.true) (wrote-then c.put_row.ensures w))

pub returns-after-loop-k : goal.returns-after-loop-k
returns-after-loop-k c =
    let text = fact_text c.args.p.now in
    let lower = c.in-Some.lower in
    let sheet = c.loop-k.sheet in
    let none : 0 ≡ lower.range.count - c.loop-k.k = let l = c.loop-k-test.false in omega (arith, l) in
    wrote-as (ap (λ l. of_each text (facts_of l)) (sym c.in-Some.is))
    (c.loop-k.invariant sheet (wrote-as (λ i. of_each text (rows lower.predicate (lower.range.first + c.loop-k.k) (none i))) (wrote-nothing sheet)))
