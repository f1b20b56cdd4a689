use Rattle.std.proofs.Common.{◌<◌, refl, subst}
use Rattle.htn_base.proofs.ReadAt.{next_read, none_read}
use Rattle.htn_base.proofs.packed.PackedNumbers.widened.Goals as goal
use Rattle.htn_base.proofs.packed.PackedNumbers.widened.Goals.{in-Some+in_ok-push, in_default-get}

pub loop-i-preserved : goal.loop-i-preserved
loop-i-preserved c =
    let xs = c.args.self.now in
    let i = c.loop-i.i in
    let within = subst (λ n. i < n) c.len-i-end.ensures.length c.loop-i-test.true in
    elim c.match-get.branch [
      | in-Some+in_ok-push w ↦
          let next = next_read xs i c.get.result c.get.ensures.number w.in-Some.number w.in-Some.is in
          rw (w.words-is, w.in_ok-push.ensures.items, c.loop-i.invariant, next) refl
      | in_default-get w ↦ absurd (none_read xs i c.get.result c.get.ensures.number within w.in_default-get.is)
    ]
