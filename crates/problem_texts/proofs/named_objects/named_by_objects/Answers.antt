use Rattle.std.proofs.Common.{◌<◌, arith, subst}
use Rattle.htn_base.proofs.ReadAt.{read_is, none_read}
use Rattle.slot_encoding.specs.encoded_texts.NamedObjects.{of_object}
use Rattle.problem_texts.proofs.Greatest.{greatest-next}
use Rattle.problem_texts.proofs.named_objects.named_by_objects.Goals as goal
use Rattle.problem_texts.proofs.named_objects.named_by_objects.Goals.{in-Some, in_default}

pub loop-j-preserved : goal.loop-j-preserved
loop-j-preserved c =
    let objects = c.args.objects.now in
    let j = c.loop-j.j in
    let within = subst (λ n. j < n) c.len-j-end.ensures.length c.loop-j-test.true in
    elim c.match-get.branch [
      | in-Some w ↦
          let x = w.in-Some.object in
          let next = greatest-next of_object objects j x within (read_is objects j c.get.result c.get.ensures.number x w.in-Some.is) in
          let before = c.loop-j.invariant in
          let most = w.max-most.ensures in
          let is = w.most-is in
          omega (arith, next, before, most, is)
      | in_default w ↦ absurd (none_read objects j c.get.result c.get.ensures.number within w.in_default.is)
    ]
