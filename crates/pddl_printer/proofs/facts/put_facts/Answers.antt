use Rattle.std.proofs.Common.{rules, refl, subst, ◌<◌}
use Rattle.htn_base.proofs.ReadAt.{read_is, none_read}
use Rattle.pddl_printer.specs.Texts.{fact_text}
use Rattle.pddl_printer.proofs.Batches.{added-all, each-added, each-added-all}
use Rattle.pddl_printer.proofs.facts.put_facts.Goals as goal
use Rattle.pddl_printer.proofs.facts.put_facts.Goals.{in-Some, in_default}

pub loop-i-preserved : goal.loop-i-preserved
loop-i-preserved c =
    let facts = c.args.facts.now in
    let i = c.loop-i.i in
    let within = subst (λ n. i < n) c.len-i-end.ensures.length c.loop-i-test.true in
    elim c.match-get.branch [
      | in-Some w ↦ rw (w.batch-is, w.sheet-is) (each-added (fact_text c.args.p.now) facts i w.in-Some.fact within
          (read_is facts i c.get.result c.get.ensures.fact w.in-Some.fact w.in-Some.is) c.loop-i.invariant w.add_fact.ensures)
      | in_default w ↦ absurd (none_read facts i c.get.result c.get.ensures.fact within w.in_default.is)
    ]

pub returns : goal.returns
returns c = added-all c.new-batch.ensures (each-added-all (fact_text c.args.p.now) c.args.facts.now c.loop-i.i (search rules) refl c.loop-i.invariant) c.put.ensures.wrote
