use Rattle.std.specs.Option.{option_copied, option_map}
use Rattle.std.proofs.Common.{◌≡◌, ◌<◌, Some, slice_get, map, refl, sym, ap, ◌∙◌, subst, arith}
use Rattle.std.proofs.lemmas.List.{take_all, length-map}
use Rattle.std.proofs.lemmas.Option.{slice_get-map}
use Rattle.htn_base.specs.Escapes.{escaped}
use Rattle.htn_base.specs.Table.{with_word}
use Rattle.htn_base.specs.Words.{folded}
use Rattle.htn_base.proofs.ReadAt.{next_read, none_read}
use Rattle.htn_base.proofs.TableLemmas.{words-next}
use Rattle.problem_index.proofs.PrintedLaws.{printed_table}
use Rattle.problem_index.proofs.printed.printed_words.Goals as goal
use Rattle.problem_index.proofs.printed.printed_words.Goals.{in-Some+in_ok-intern_printed, in_default}

pub loop-number-preserved : goal.loop-number-preserved
loop-number-preserved c =
    let ws = c.args.words.now in
    let xs = map escaped ws in
    let i = c.loop-number.number in
    let within = subst (λ n. i < n) c.len-number-end.ensures.length c.loop-number-test.true in
    elim c.match-text.branch [
      | in-Some+in_ok-intern_printed w ↦ (
          let there = ap (λ found. option_copied found) w.in-Some.is in
          let word = w.in-Some.word.now in
          let at : slice_get (map escaped c.args.words.now) c.loop-number.number ≡ Some (escaped w.in-Some.word.now) = slice_get-map escaped ws i ∙ ap (option_map escaped) (sym c.text.ensures.word ∙ there) in
          w.table-is ∙ w.in_ok-intern_printed.ensures.interned ∙ ap (λ ys. with_word ys (folded (escaped word))) c.loop-number.invariant
          ∙ words-next xs (escaped word) i (printed_table ws c.text.ensures.sound) at ∙ sym (next_read xs i (slice_get xs i) refl (escaped word) at)
          )
      | in_default w ↦ absurd (none_read ws i _ c.text.ensures.word within (ap (λ found. option_copied found) w.in_default.is))
    ]

pub returns : goal.returns
returns c =
    let few = length-map c.args.words.now escaped in
    record { printed = c.loop-number.invariant ∙ take_all c.loop-number.number (map escaped c.args.words.now) (omega (arith, few, c.len-number-end.ensures.length, c.loop-number-test.false)) }
