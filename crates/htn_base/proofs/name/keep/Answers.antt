use Rattle.std.proofs.Common.{sym, subst, arith}
use Rattle.std.proofs.lemmas.Option.{slice_get_within}
use Rattle.htn_base.specs.Table.{IsKept}
use Rattle.htn_base.proofs.name.keep.Goals as goal
use Rattle.htn_base.proofs.name.keep.Goals.{then-len+in_ok-index, else-len}

pub returns-clause-before : goal.returns-clause-before
returns-clause-before c = λ k other at differ kept.
    let words = c.args.words.now in
    let here : IsKept c.if-len.index other k = elim c.if-len.branch [
      | then-len+in_ok-index w ↦ subst (λ index. IsKept index other k) (sym w.index-is) (w.in_ok-index.ensures.kept k other at)
      | else-len w ↦ subst (λ index. IsKept index other k) (sym w.index-is) kept
    ] in
    let count = c.len-3.ensures.length in
    let within = slice_get_within words k other at in
    c.put.ensures.before k other (omega (arith, count, within)) differ here
