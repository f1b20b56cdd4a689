use Rattle.std.proofs.Common.{◌≡◌, length, ap, ◌∙◌, arith}
use Rattle.std.specs.List.{sum_by}
use Rattle.text_forms.specs.Words.{word_at}
use Rattle.plan_model.specs.task_networks.Spelling.{numbers}
use Rattle.plan_texts.specs.SpellsPddl.{pddl_words}
use Rattle.text_forms.specs.sheets.Sheets.{capped}
use Rattle.pddl_printer.proofs.Ranges.{sum-next}
use Rattle.pddl_printer.proofs.written.Written.new.Goals as goal

pub loop-k-preserved : goal.loop-k-preserved
loop-k-preserved c =
    let e = sum-next (λ o. length (word_at (pddl_words c.args.p.now).objects o)) c.args.range.first c.loop-k.k in
    let a = c.loop-k.invariant in
    let b = ap length c.object_word-word.ensures in
    let d = c.saturating_add-letters.ensures in
    omega (arith, a, b, d, e)

pub returns-clause-measured : goal.returns-clause-measured
returns-clause-measured c =
    let all : c.loop-k.k ≡ c.args.range.count = let a = c.loop-k-test.false in let b = c.loop-k.auto.k-end in omega arith in
    c.loop-k.invariant ∙ ap (λ n. capped (sum_by (λ o. length (word_at (pddl_words c.args.p.now).objects o)) (numbers c.args.range.first n))) all
