use Rattle.std.proofs.Common.{◌<◌, refl, subst}
use Rattle.htn_base.proofs.ReadAt.{next_read, none_read}
use Rattle.htn_base.proofs.packed.PackedPart.copy_into.Goals as goal
use Rattle.htn_base.proofs.packed.PackedPart.copy_into.Goals.{in-Some+in_ok-push, in_default}

pub loop-j-preserved : goal.loop-j-preserved
loop-j-preserved c =
    let xs = c.args.self.now in
    let j = c.loop-j.j in
    let within = subst (λ n. j < n) c.len-j-end.ensures.length c.loop-j-test.true in
    elim c.match-get.branch [
      | in-Some+in_ok-push w ↦
          let next = next_read xs j c.get.result c.get.ensures.number w.in-Some.number w.in-Some.is in
          rw (w.into-is, w.in_ok-push.ensures.items, c.loop-j.invariant, next) refl
      | in_default w ↦ absurd (none_read xs j c.get.result c.get.ensures.number within w.in_default.is)
    ]
