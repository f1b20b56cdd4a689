use Rattle.std.proofs.Common.{◌≡◌, ap, sym, ◌∙◌, arith}
use Rattle.text_forms.proofs.sheets.Written.{wrote-as}
use Rattle.plan_model.specs.task_networks.Spelling.{numbers}
use Rattle.plan_texts.specs.SpellsPddl.{pddl_words}
use Rattle.plan_texts.specs.Printed.{formula_part}
use Rattle.pddl_printer.specs.Behind.{of_each}
use Rattle.pddl_printer.specs.LowestFree.{is_lowest, lowest_of}
use Rattle.pddl_printer.specs.Scopes.{words_in_force}
use Rattle.pddl_printer.specs.Texts.{formula_text, formulas_text}
use Rattle.pddl_printer.proofs.Batches.{added-all, range-added}
use Rattle.pddl_printer.proofs.Each.{behind-each-made}
use Rattle.pddl_printer.proofs.lowest.put_lowest.Goals as goal

pub loop-k-preserved : goal.loop-k-preserved
loop-k-preserved c = range-added (λ k. formula_text c.args.p.now c.args.scope.now (is_lowest c.in-Some.lowest k)) 1 c.loop-k.k c.loop-k.invariant c.add_lowest.ensures

pub returns-after-loop-k : goal.returns-after-loop-k
returns-after-loop-k c =
    let p = c.args.p.now in
    let scope = c.args.scope.now in
    let l = c.in-Some.lowest in
    let all : c.loop-k.k ≡ c.args.spare = let t = c.loop-k-test.false in let h = c.loop-k.auto.k-end in omega (arith, t, h) in
    wrote-as
    (ap (λ n. of_each (λ k. formula_text p scope (is_lowest l k)) (numbers 1 n)) all
    ∙ behind-each-made (λ f. formula_part (pddl_words p) f (words_in_force p scope)) (is_lowest l) (numbers 1 c.args.spare)
    ∙ ap (λ o. formulas_text p scope (lowest_of o c.args.spare)) (sym c.in-Some.is))
    (added-all c.new-batch.ensures c.loop-k.invariant c.put.ensures.wrote)
