use Rattle.std.proofs.Common.{◌≡◌, ◌+◌, ◌-◌, map, ap, ◌∙◌, arith}
use Rattle.plan_model.specs.task_networks.Spelling.{numbers}
use Rattle.plan_texts.specs.Declared.{variable}
use Rattle.plan_texts.specs.SpellsPddl.{pddl_words}
use Rattle.pddl_printer.specs.Splits.{differ_text}
use Rattle.text_forms.proofs.sheets.Written.{wrote-as, wrote-then}
use Rattle.pddl_printer.proofs.PairBytes.{row_to, rows-then, rows-all}
use Rattle.pddl_printer.proofs.Ranges.{range-next}
use Rattle.pddl_printer.proofs.pairs.put_all_differ.Goals as goal

pub loop-k-preserved : goal.loop-k-preserved
loop-k-preserved c =
    let v = pddl_words c.args.p.now in
    let s = map (variable v) c.args.params.now in
    let f = row_to v s c.args.spare in
    range-next f 1 c.loop-k.k c.loop-k.invariant (wrote-as (ap f (let e : c.loop-k.k + 1 ≡ 1 + c.loop-k.k = omega arith in e)) c.put_row.ensures)

pub returns : goal.returns
returns c =
    let v = pddl_words c.args.p.now in
    let s = map (variable v) c.args.params.now in
    wrote-as (rows-all v s c.args.spare c.loop-k.k (let a = c.loop-k-test.false in let b = c.loop-k.auto.k-end in omega (arith, a, b))) c.loop-k.invariant

pub returns-then-not-is_whole : goal.returns-then-not-is_whole
returns-then-not-is_whole c =
    let p = c.args.p.now in
    let xs = c.args.params.now in
    let v = pddl_words p in
    let s = map (variable v) xs in
    let k = c.loop-k.k in
    let n = c.args.spare in
    let t = c.loop-k-test.true in
    let next : k + 1 ≡ 1 + k = omega arith in
    let all : k + (n - k) ≡ n = omega (arith, t) in
    let rest = wrote-as (ap (λ i. differ_text p xs (numbers i (n - k))) next) c.count_all_differ.ensures in
    wrote-as (rows-then v s n k 1 (n - k) (omega (arith, t)) ∙ ap (λ m. differ_text p xs (numbers 1 m)) all) (wrote-then c.loop-k.invariant rest)
