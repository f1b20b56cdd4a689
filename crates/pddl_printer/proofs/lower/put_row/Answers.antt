use Rattle.std.proofs.Common.{◌+◌, ◌-◌, ◌++◌, ap, sym, ◌∙◌, arith}
use Rattle.text_forms.proofs.sheets.Written.{wrote-as}
use Rattle.pddl_printer.specs.LowerFacts.{is_lower, lower_with}
use Rattle.pddl_printer.specs.Texts.{fact_text}
use Rattle.pddl_printer.proofs.Batches.{added-as, added-at, added-put, added-all, range-added}
use Rattle.pddl_printer.proofs.LowerRows.{fact-is, row-done}
use Rattle.pddl_printer.proofs.lower.put_row.Goals.{then-stencil, else-stencil}
use Rattle.pddl_printer.proofs.lower.put_row.Goals as goal

pub loop-j-preserved : goal.loop-j-preserved
loop-j-preserved c =
    let p = c.args.p.now in
    let predicate = c.args.lower.predicate in
    let o = c.args.lower.range.first + c.args.k in
    let j = c.loop-j.j in
    let name = c.predicate_word-name.result.now in
    let word = c.object_word-word.result.now in
    let later = c.object_word-later.result.now in
    let drawn = (λ i. lower_with (c.predicate_word-name.ensures i) (c.object_word-word.ensures i) (c.object_word-later.ensures i)) ∙ fact-is p predicate o (o + 1 + j) in
    range-added (λ u. fact_text p (is_lower predicate o u)) (o + 1) j c.loop-j.invariant
    (elim c.if-stencil.branch [
      | then-stencil w ↦
          let stands = (c.draw_lower.ensures w.if-stencil.true).1 later ∙ ap (λ z. z ++ lower_with name word later) (c.new-stencil.ensures.empty later) in
          added-at (sym w.batch-is) (sym w.sheet-is) (added-as (stands ∙ drawn) w.add.ensures)
      | else-stencil w ↦ added-at (sym w.batch-is) (sym w.sheet-is) (added-put w.put.ensures.empty w.put.ensures.wrote (wrote-as drawn w.draw_lower-else-stencil.ensures))
    ])

pub returns : goal.returns
returns c =
    let p = c.args.p.now in
    let lower = c.args.lower in
    let o = lower.range.first + c.args.k in
    wrote-as (row-done (fact_text p) lower.predicate o c.loop-j.j (lower.range.count - (c.args.k + 1)) (let l = c.loop-j-test.false in let h = c.loop-j.auto.j-end in omega (arith, l, h)))
    (added-all c.new-batch.ensures c.loop-j.invariant c.put-2.ensures.wrote)
