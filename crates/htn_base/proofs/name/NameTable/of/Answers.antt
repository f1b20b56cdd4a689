use Rattle.std.specs.Option.{option_copied}
use Rattle.std.proofs.Common.{◌<◌, sym, ap, ◌∙◌, subst, arith}
use Rattle.std.proofs.lemmas.List.{take_all}
use Rattle.htn_base.specs.Table.{with_word}
use Rattle.htn_base.specs.Words.{folded}
use Rattle.htn_base.proofs.ReadAt.{next_read, none_read}
use Rattle.htn_base.proofs.TableLemmas.{words-next}
use Rattle.htn_base.proofs.name.NameTable.of.Goals as goal
use Rattle.htn_base.proofs.name.NameTable.of.Goals.{in-Some+in_ok-intern, in_default}

pub loop-number-preserved : goal.loop-number-preserved
loop-number-preserved c =
    let xs = c.args.words.now in
    let i = c.loop-number.number in
    let within = subst (λ n. i < n) c.len-number-end.ensures.length c.loop-number-test.true in
    elim c.match-text.branch [
      | in-Some+in_ok-intern w ↦
          let there = ap (λ found. option_copied found) w.in-Some.is in
          let next = next_read xs i _ c.text.ensures.word w.in-Some.word.now there in
          w.table-is ∙ w.in_ok-intern.ensures.words ∙ ap (λ ys. with_word ys (folded w.in-Some.word.now)) c.loop-number.invariant
          ∙ words-next xs w.in-Some.word.now i c.text.ensures.sound (sym c.text.ensures.word ∙ there) ∙ sym next
      | in_default w ↦ absurd (none_read xs i _ c.text.ensures.word within (ap (λ found. option_copied found) w.in_default.is))
    ]

pub returns : goal.returns
returns c =
    record { words = c.loop-number.invariant ∙ take_all c.loop-number.number c.args.words.now (omega (arith, c.len-number-end.ensures.length, c.loop-number-test.false)) }
