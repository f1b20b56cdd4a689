use Rattle.std.proofs.Common.{ℕ, ◌+◌, ◌++◌, map, refl, ap, sym, ◌∙◌, arith}
use Rattle.std.proofs.lemmas.List.{append-nil}
use Rattle.plan_model.specs.task_networks.Spelling.{numbers}
use Rattle.plan_texts.specs.Declared.{variable}
use Rattle.plan_texts.specs.SpellsPddl.{pddl_words}
use Rattle.plan_texts.specs.Printed.{formula_part}
use Rattle.pddl_printer.specs.Behind.{behind}
use Rattle.pddl_printer.specs.Splits.{unequal, pair_with, open_with, next_with}
use Rattle.text_forms.proofs.sheets.Written.{wrote-as, wrote-nothing, wrote-then}
use Rattle.pddl_printer.proofs.Batches.{added-as, added-at, added-put, added-all, added-then}
use Rattle.pddl_printer.proofs.PairBytes.{pair, pair-is, closed, closed-next}
use Rattle.pddl_printer.proofs.Ranges.{range-more, range-done, behind-made}
use Rattle.pddl_printer.proofs.pairs.put_row.Goals.{then-stencil, else-stencil}
use Rattle.pddl_printer.proofs.pairs.put_row.Goals as goal

pub loop-k-init : goal.loop-k-init
loop-k-init c =
    let v = pddl_words c.args.p.now in
    let s = map (variable v) c.args.params.now in
    let a = c.args.variable in
    let word = c.variable_word-word.result.now in
    let other = c.variable_word.result.now in
    let f = λ (u : ℕ). behind (pair v s a u) in
    let drawn = (λ i. pair_with (c.variable_word-word.ensures i) (c.variable_word.ensures i)) ∙ pair-is v s a (a + 1) in
    (open_with word other, closed word other ∙ drawn ∙ sym (append-nil (f (a + 1))), added-put c.new-batch.ensures (wrote-as (sym c.new-batch.ensures) (wrote-nothing c.args.sheet.now)) c.draw_open.ensures)

pub loop-k-preserved : goal.loop-k-preserved
loop-k-preserved c =
    let v = pddl_words c.args.p.now in
    let s = map (variable v) c.args.params.now in
    let a = c.args.variable in
    let k = c.loop-k.k in
    let so_far = c.loop-k.invariant in
    let word = c.variable_word-word.result.now in
    let other = c.variable_word-other.result.now in
    let f = λ (u : ℕ). behind (pair v s a u) in
    let drawn = (λ i. pair_with (c.variable_word-word.ensures i) (c.variable_word-other.ensures i)) ∙ pair-is v s a (a + 1 + k) in (
      so_far.0 ++ next_with word other,
      closed-next so_far.0 word other ∙ (λ i. so_far.1 i ++ drawn i) ∙ range-more f (a + 1) k,
      added-then so_far.2
          (elim c.if-stencil.branch [
            | then-stencil w ↦
                let stands = (c.draw_next.ensures w.if-stencil.true).1 other ∙ ap (λ z. z ++ next_with word other) (c.new-stencil.ensures.empty other) in
                added-at (sym w.batch-is) (sym w.sheet-is) (added-as stands w.add.ensures)
            | else-stencil w ↦ added-at (sym w.batch-is) (sym w.sheet-is) (added-put w.put.ensures.empty w.put.ensures.wrote w.draw_next-else-stencil.ensures)
          ]),
    )

pub returns : goal.returns
returns c =
    let v = pddl_words c.args.p.now in
    let s = map (variable v) c.args.params.now in
    let a = c.args.variable in
    let so_far = c.loop-k.invariant in
    wrote-as (behind-made (λ f. formula_part v f s) (unequal a) (pair v s a) (λ b. refl) (numbers (a + 1) c.args.count))
    (range-done (pair v s a) (a + 1) c.loop-k.k c.args.count
    (let l = c.loop-k-test.false in let z = c.if-count-eq0.false in let h = c.loop-k.auto.k-end (omega (arith, z)) in omega (arith, l, h))
    (wrote-as so_far.1 (wrote-then (added-all c.new-batch.ensures so_far.2 c.put-2.ensures.wrote) c.put-3.ensures.wrote)))
