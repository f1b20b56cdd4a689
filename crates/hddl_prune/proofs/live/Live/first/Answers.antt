use Rattle.std.proofs.Common.{arith}
use Rattle.hddl_prune.proofs.LiveSteps.{first_found, facts_next}
use Rattle.hddl_prune.proofs.live.Live.first.Goals as goal

pub loop-i-preserved : goal.loop-i-preserved
loop-i-preserved c = facts_next c.args.h.now.init c.loop-i.i c.loop-i.predicates c.mark_predicate_of.new.predicates c.loop-i.invariant c.in_ok-mark_predicate_of.ensures

pub returns : goal.returns
returns c = record {
  found = first_found c.args.h.now (record { predicates = c.loop-i.predicates; actions = c.new.result; methods = c.new-2.result; tasks = c.new-3.result }) c.loop-i.i (omega arith) c.loop-i.invariant
      c.new.ensures.none c.new-2.ensures.none c.new-3.ensures.none;
}
