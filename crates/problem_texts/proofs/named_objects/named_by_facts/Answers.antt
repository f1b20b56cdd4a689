use Rattle.std.proofs.Common.{◌≡◌, ◌<◌, map, arith, ap, subst, ◌∙◌}
use Rattle.plan_model.specs.declared.terms.GroundAtom.{GroundAtom}
use Rattle.htn_base.proofs.ReadAt.{read_is, none_read}
use Rattle.slot_encoding.specs.encoded_texts.NamedObjects.{greatest, of_object, of_fact}
use Rattle.problem_texts.proofs.Greatest.{greatest-next}
use Rattle.problem_texts.proofs.named_objects.named_by_facts.Goals as goal
use Rattle.problem_texts.proofs.named_objects.named_by_facts.Goals.{in-Some, in_default}

pub loop-i-preserved : goal.loop-i-preserved
loop-i-preserved c =
    let facts = c.args.facts.now in
    let i = c.loop-i.i in
    let within = subst (λ n. i < n) c.len-i-end.ensures.length c.loop-i-test.true in
    elim c.match-get.branch [
      | in-Some w ↦
          let x = w.in-Some.fact in
          let next = greatest-next of_fact facts i x within (read_is facts i c.get.result c.get.ensures.fact x w.in-Some.is) in
          let before = c.loop-i.invariant in
          let it : w.named_by_objects.result ≡ of_fact x =
          w.named_by_objects.ensures ∙ ap (λ (g : GroundAtom). greatest (map of_object g.args)) w.fact.view_is in
          let most = w.max-most.ensures in
          let is = w.most-is in
          omega (arith, next, before, it, most, is)
      | in_default w ↦ absurd (none_read facts i c.get.result c.get.ensures.fact within w.in_default.is)
    ]
