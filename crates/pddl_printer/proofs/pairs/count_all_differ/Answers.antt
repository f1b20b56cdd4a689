use Rattle.std.proofs.Common.{◌≡◌, ◌+◌, ◌-◌, ◌*◌, ◌^◌, map, length, ap, sym, ◌∙◌, arith}
use Rattle.std.specs.Prelude.{min}
use Rattle.text_forms.specs.Words.{word_at}
use Rattle.plan_model.specs.task_networks.Spelling.{numbers}
use Rattle.plan_model.proofs.task_networks.Numbers.{length-numbers}
use Rattle.plan_texts.specs.Declared.{variable}
use Rattle.plan_texts.specs.SpellsPddl.{pddl_words}
use Rattle.pddl_printer.specs.Splits.{differ_text, letters}
use Rattle.text_forms.specs.sheets.Sheets.{capped}
use Rattle.text_forms.proofs.sheets.Written.{wrote-counted}
use Rattle.pddl_printer.proofs.PairBytes.{differ-length, differ-counted}
use Rattle.pddl_printer.proofs.Ranges.{sum-next}
use Rattle.pddl_printer.proofs.pairs.count_all_differ.Goals as goal

pub loop-k-preserved : goal.loop-k-preserved
loop-k-preserved c =
    let e = sum-next (λ k. length (word_at (map (variable (pddl_words c.args.p.now)) c.args.params.now) k)) c.args.first c.loop-k.k in
    let a = c.loop-k.invariant in
    let b = ap length c.variable_word-word.ensures in
    let d = c.saturating_add-letters.ensures in
    omega (arith, a, b, d, e)

pub returns : goal.returns
returns c =
    let p = c.args.p.now in
    let xs = c.args.params.now in
    let v = pddl_words p in
    let n = c.args.count in
    let vs = numbers c.args.first n in
    let l = letters p xs vs in
    let long : length (differ_text p xs vs) ≡ 7 * (n * (n - 1)) + (n - 1) * l =
    differ-length v (map (variable v) xs) vs ∙ ap (λ m. 7 * (m * (m - 1)) + (m - 1) * l) (length-numbers c.args.first n) in
    let end : c.loop-k.k ≡ n = let a = c.loop-k-test.false in let b = c.loop-k.auto.k-end in omega arith in
    let letters_are : c.loop-k.letters ≡ capped l = c.loop-k.invariant ∙ ap (λ m. capped (letters p xs (numbers c.args.first m))) end in
    let others : c.saturating_sub-others.result ≡ n - 1 = c.saturating_sub-others.ensures ∙ ap (λ m. m - 1) c.from-count.ensures in
    let made : c.saturating_add.result ≡ capped (min (n * (n - 1) * 7) (2 ^ 64 - 1) + min ((n - 1) * capped l) (2 ^ 64 - 1)) =
    let x : c.saturating_mul.result ≡ min (n * (n - 1) * 7) (2 ^ 64 - 1) = c.saturating_mul.ensures ∙ (λ i. min (c.from-count.ensures i * others i * 7) (2 ^ 64 - 1)) in
    let y : c.saturating_mul-2.result ≡ min ((n - 1) * capped l) (2 ^ 64 - 1) = c.saturating_mul-2.ensures ∙ (λ i. min (others i * letters_are i) (2 ^ 64 - 1)) in
    c.saturating_add.ensures ∙ (λ i. capped (x i + y i)) in
    wrote-counted (differ_text p xs vs) c.saturating_add.result c.requires.over (made ∙ differ-counted n l ∙ ap capped (sym long)) c.skip.ensures.counted
