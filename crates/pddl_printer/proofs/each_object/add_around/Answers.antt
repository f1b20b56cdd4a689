use Rattle.std.proofs.Common.{ℕ, ◌≡◌, List, ◌++◌, ap, sym, ◌∙◌, append_assoc, arith}
use Rattle.std.proofs.lemmas.List.{append-nil}
use Rattle.plan_model.specs.task_networks.Spelling.{numbers}
use Rattle.pddl_printer.specs.Behind.{of_each}
use Rattle.pddl_printer.specs.InstanceTexts.{word_between}
use Rattle.pddl_printer.proofs.Batches.{added-as, added-then}
use Rattle.pddl_printer.proofs.Ranges.{range-more}
use Rattle.pddl_printer.proofs.each_object.add_around.Goals as goal

one-more : (text before word behind : List ℕ) → (text ++ ((behind ++ before) ++ word)) ++ behind ≡ (text ++ behind) ++ (before ++ (word ++ behind))
one-more text before word behind = simp append_assoc

pub loop-k-init : goal.loop-k-init
loop-k-init c =
    let before = c.args.before.now in
    let behind = c.args.behind.now in
    let word = c.object_word.result.now in
    let f = word_between c.args.p.now before behind in (
      before ++ word,
      append_assoc before word behind ∙ ap (λ w. before ++ (w ++ behind)) c.object_word.ensures ∙ sym (append-nil (f c.args.range.first)),
      added-then c.add.ensures c.add-2.ensures,
    )

pub loop-k-preserved : goal.loop-k-preserved
loop-k-preserved c =
    let before = c.args.before.now in
    let behind = c.args.behind.now in
    let first = c.args.range.first in
    let k = c.loop-k.k in
    let so_far = c.loop-k.invariant in
    let word = c.object_word-in-loop-k.result.now in
    let f = word_between c.args.p.now before behind in (
      so_far.0 ++ ((behind ++ before) ++ word),
      one-more so_far.0 before word behind ∙ (λ i. so_far.1 i ++ (before ++ (c.object_word-in-loop-k.ensures i ++ behind))) ∙ range-more f first k,
      added-then so_far.2 (added-then (added-as (c.as_slice.ensures.value ∙ c.requires.between) c.add-in-loop-k.ensures) c.add-in-loop-k-2.ensures),
    )

pub returns : goal.returns
returns c =
    let f = word_between c.args.p.now c.args.before.now c.args.behind.now in
    let so_far = c.loop-k.invariant in
    let all : c.loop-k.k ≡ c.args.range.count = let l = c.loop-k-test.false in let z = c.if-range-eq0.false in let h = c.loop-k.auto.k-end (omega (arith, z)) in omega (arith, l, h) in
    added-as (so_far.1 ∙ ap (λ n. of_each f (numbers c.args.range.first n)) all) (added-then so_far.2 c.add-3.ensures)
