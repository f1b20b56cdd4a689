use Rattle.std.proofs.Common.{ℕ, ◌≡◌, ◌+◌, ◌++◌, ap, sym, ◌∙◌, arith}
use Rattle.plan_model.specs.task_networks.Spelling.{numbers}
use Rattle.text_forms.specs.Words.{word_at}
use Rattle.plan_texts.specs.SpellsPddl.{pddl_words}
use Rattle.pddl_printer.specs.Behind.{behind, of_each}
use Rattle.pddl_printer.specs.InstanceTexts.{literal_with, word_between}
use Rattle.pddl_printer.specs.Literals.{literal_part}
use Rattle.pddl_printer.specs.Scopes.{words_in_force}
use Rattle.text_forms.proofs.sheets.Written.{wrote-as}
use Rattle.pddl_printer.proofs.Batches.{added-as, added-at, added-put, added-all, range-added}
use Rattle.pddl_printer.proofs.Each.{behind-each}
use Rattle.pddl_printer.proofs.InstanceBytes.{instance-is}
use Rattle.pddl_printer.proofs.Ranges.{range-done}
use Rattle.pddl_printer.proofs.each_object.put_instances.Goals.{then-stencil, else-stencil}
use Rattle.pddl_printer.proofs.each_object.put_instances.Goals as goal

pub loop-k-preserved : goal.loop-k-preserved
loop-k-preserved c =
    let p = c.args.p.now in
    let scope = c.args.scope.now in
    let d = c.args.of.depth in
    let l = c.args.literal.now in
    let first = c.args.of.written.range.first in
    let k = c.loop-k.k in
    let word = c.object_word-word.result.now in
    let drawn = ap (λ w. literal_with p scope d w l) c.object_word-word.ensures ∙ instance-is p scope d (first + k) l in
    range-added (λ o. behind (literal_part (pddl_words p) (words_in_force p scope) d l o)) first k c.loop-k.invariant
    (elim c.if-stencil.branch [
      | then-stencil w ↦
          let stands = (c.draw_instance.ensures w.if-stencil.true).1 word ∙ ap (λ z. z ++ literal_with p scope d word l) (c.new-stencil.ensures.empty word) in
          added-at (sym w.batch-is) (sym w.sheet-is) (added-as (stands ∙ drawn) w.add.ensures)
      | else-stencil w ↦
          added-at (sym w.batch-is) (sym w.sheet-is) (added-put w.put-else-stencil.ensures.empty w.put-else-stencil.ensures.wrote (wrote-as drawn w.draw_instance-else-stencil.ensures))
    ])

pub returns : goal.returns
returns c =
    range-done (literal_part (pddl_words c.args.p.now) (words_in_force c.args.p.now c.args.scope.now) c.args.of.depth c.args.literal.now) c.args.of.written.range.first c.loop-k.k c.args.of.written.range.count
    (let l = c.loop-k-test.false in let h = c.loop-k.auto.k-end in omega arith) (added-all c.new-batch.ensures c.loop-k.invariant c.put-2.ensures.wrote)

pub returns-in-Some-joined : goal.returns-in-Some-joined
returns-in-Some-joined c =
    let p = c.args.p.now in
    let scope = c.args.scope.now in
    let d = c.args.of.depth in
    let l = c.args.literal.now in
    let r = c.args.of.written.range in
    let drawn : (o : ℕ) → word_between p c.in-Some.before.now c.in-Some.behind.now o ≡ behind (literal_part (pddl_words p) (words_in_force p scope) d l o) = λ o.
    let word = word_at (pddl_words p).objects o in
    sym (c.in-Some.ensures.around word) ∙ (c.draw_instance.ensures c.in-Some.ensures.fits).1 word ∙ ap (λ z. z ++ literal_with p scope d word l) (c.new-stencil.ensures.empty word) ∙ instance-is p scope d o l in
    added-all c.new-batch.ensures
    (added-as ((λ i. of_each (λ o. drawn o i) (numbers r.first r.count)) ∙ behind-each (literal_part (pddl_words p) (words_in_force p scope) d l) (numbers r.first r.count)) c.add_around.ensures)
    c.put.ensures.wrote
