use Rattle.std.specs.Option.{option_copied}
use Rattle.std.proofs.Common.{◌<◌, sym, ap, ◌∙◌, subst}
use Rattle.htn_base.proofs.ReadAt.{next_read, none_read}
use Rattle.htn_base.proofs.KeptLemmas.{first_kept}
use Rattle.htn_base.proofs.name.index_of.Goals as goal
use Rattle.htn_base.proofs.name.index_of.Goals.{in-Some+in_ok-put, in_default}

pub loop-number-preserved : goal.loop-number-preserved
loop-number-preserved c =
    let words = c.args.words.now in
    let i = c.loop-number.number in
    let within = subst (λ n. i < n) c.len-number-end.ensures.length c.loop-number-test.true in
    elim c.match-text.branch [
      | in-Some+in_ok-put w ↦
          let word = w.in-Some.word.now in
          let there = ap (λ found. option_copied found) w.in-Some.is in
          let next = next_read words i _ c.text.ensures.word word there in
          rw (w.index-is, next)
          (first_kept c.loop-number.index w.put.new.index words word i c.text.ensures.sound (sym c.text.ensures.word ∙ there)
          c.loop-number.invariant w.in_ok-put.ensures.kept w.put.ensures.before)
      | in_default w ↦ absurd (none_read words i _ c.text.ensures.word within (ap (λ found. option_copied found) w.in_default.is))
    ]
