use Rattle.std.proofs.Common.{map, refl, sym}
use Rattle.plan_texts.specs.SpellsPddl.{pddl_words}
use Rattle.plan_texts.specs.Printed.{all_parts, term_part}
use Rattle.pddl_printer.specs.Behind.{behind}
use Rattle.pddl_printer.specs.Scopes.{words_in_force}
use Rattle.pddl_printer.proofs.Batches.{added-as, added-at, added-headed, added-of, added-then, each-added-at, each-added-all}
use Rattle.pddl_printer.proofs.Each.{behind-each}
use Rattle.pddl_printer.proofs.terms.add_applied.Goals as goal
use Rattle.pddl_printer.proofs.terms.add_applied.Goals.{in-Var, in-Obj}

pub loop-term-preserved : goal.loop-term-preserved
loop-term-preserved c =
    let v = pddl_words c.args.p.now in
    let s = words_in_force c.args.p.now c.args.scope.now in
    each-added-at (λ t. behind (term_part v s t)) c.args.terms.now c.loop-term.term-index _ c.loop-term-test.true c.loop-term.invariant
    (elim c.match-term.branch [
      | in-Var w ↦ added-at (sym w.batch-is) (sym w.sheet-is) (added-of (λ t. behind (term_part v s t)) (sym w.in-Var.is) (added-then w.add-in-Var.ensures (added-as w.word_in_force.ensures w.add-in-Var-2.ensures)))
      | in-Obj w ↦ added-at (sym w.batch-is) (sym w.sheet-is) (added-of (λ t. behind (term_part v s t)) (sym w.in-Obj.is) (added-then w.add-in-Obj.ensures (added-as w.object_word.ensures w.add-in-Obj-2.ensures)))
    ])

pub returns : goal.returns
returns c =
    let part = term_part (pddl_words c.args.p.now) (words_in_force c.args.p.now c.args.scope.now) in
    let parts = all_parts (map part c.args.terms.now) in
    added-headed c.args.word.now parts (added-then c.add.ensures c.add-2.ensures)
    (added-as (behind-each part c.args.terms.now) (each-added-all (λ t. behind (part t)) c.args.terms.now c.loop-term.term-index c.loop-term-test.false refl c.loop-term.invariant))
    c.add-3.ensures
