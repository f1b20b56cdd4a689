use Rattle.std.proofs.Common.{ℕ, ◌≡◌, ◌+◌, ◌-◌, ◌*◌, ◌^◌, ◌<◌, suc, length, ap, sym, ◌∙◌, arith}
use Rattle.std.specs.Prelude.{sum_by}
use Rattle.plan_model.specs.task_networks.Spelling.{numbers}
use Rattle.plan_model.proofs.task_networks.Numbers.{length-numbers}
use Rattle.text_forms.specs.Words.{word_at}
use Rattle.plan_texts.specs.Declared.{named}
use Rattle.plan_texts.specs.SpellsPddl.{pddl_words}
use Rattle.plan_model.specs.declared.types.Object.{Object}
use Rattle.pddl_printer.specs.Behind.{behind}
use Rattle.pddl_printer.specs.Holes.{holes}
use Rattle.pddl_printer.specs.InstanceTexts.{literal_with, literals_text}
use Rattle.pddl_printer.specs.Literals.{literal_part}
use Rattle.pddl_printer.specs.Scopes.{words_in_force}
use Rattle.text_forms.specs.sheets.Sheets.{capped}
use Rattle.text_forms.proofs.sheets.Written.{wrote-as}
use Rattle.pddl_printer.proofs.InstanceBytes.{instance-is}
use Rattle.pddl_printer.proofs.CountedSheets.{wrote-skipped, all-counted}
use Rattle.pddl_printer.proofs.LiteralLengths.{literal-length, behind-length}
use Rattle.pddl_printer.proofs.Places.{past-end}
use Rattle.pddl_printer.proofs.each_object.count_instances.Goals as goal

pub returns : goal.returns
returns c =
    let p = c.args.p.now in
    let v = pddl_words p in
    let s = words_in_force p c.args.scope.now in
    let d = c.args.of.depth in
    let l = c.args.literal.now in
    let r = c.args.of.written.range in
    let none = length p.objects in
    let word = λ (o : ℕ). length (word_at v.objects o) in
    let own = length (behind (literal_part v s d l none)) in
    let letters = sum_by word (numbers r.first r.count) in
    let no = past-end (λ (x : Object). named p.names x.name) p.objects in
    let first = wrote-as (ap (λ w. literal_with p c.args.scope.now d w l) (sym no) ∙ instance-is p c.args.scope.now d none l) c.draw_instance.ensures in
    let all = behind-length (literal_part v s d l) own (holes d l) word (λ o. literal-length v s d none o no l) (numbers r.first r.count) ∙ ap (λ n. n * own + holes d l * letters) (length-numbers r.first r.count) in
    let before = c.args.sheet.now.count in
    let after = c.draw_instance.new.pen.count in
    let a = c.counted-before.ensures.counted in
    let b = c.counted.ensures.counted in
    let below : before < 2 ^ 64 = let e = c.counted-before.type_inv in omega (arith, a, e) in
    let one : after ≡ capped (before + own) = let e = c.counted.type_inv in let f = first.counted in omega (arith, b, e, f) in
    let some : r.count ≡ suc (r.count - 1) = let e = c.requires.some in omega (arith, e) in
    let rest : c.saturating_add.result ≡ capped (capped ((r.count - 1) * (after - before)) + capped (capped (holes d l) * capped letters)) =
    let e : c.from-others.result * (c.counted.result - c.counted-before.result) ≡ (r.count - 1) * (after - before) = λ i. c.from-others.ensures i * (b i - a i) in
    let f : c.holes.result * c.args.of.written.letters ≡ capped (holes d l) * capped letters = λ i. c.holes.ensures i * c.requires.measured i in
    let g = c.saturating_mul.ensures in
    let h = c.saturating_mul-letters.ensures in
    let k = c.saturating_add.ensures in
    omega (arith, e, f, g, h, k) in
    wrote-skipped (literals_text p c.args.scope.now c.args.of l) c.saturating_add.result c.requires.over first c.skip.ensures.counted
    (all-counted before after own r.count (r.count - 1) (holes d l) letters c.saturating_add.result below one some rest ∙ ap (λ n. capped (before + n)) (sym all))
