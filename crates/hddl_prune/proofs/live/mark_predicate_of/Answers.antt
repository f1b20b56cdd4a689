use Rattle.std.proofs.Common.{sym, ap}
use Rattle.std.proofs.lemmas.Result.{on_ok_weaker}
use Rattle.plan_model.specs.declared.terms.GroundAtom.{GroundAtom}
use Rattle.hddl_prune.proofs.LiveSteps.{fact_marked}
use Rattle.hddl_prune.proofs.live.mark_predicate_of.Goals as goal

pub returns-in-Some : goal.returns-in-Some
returns-in-Some c = on_ok_weaker c.mark.result
    (fact_marked c.args.init.now c.args.i c.fact.inside.predicate c.in-Some.fact c.args.predicates.now c.mark.new.self (sym c.in-Some.ensures.fact) (ap (λ (z : GroundAtom). z.predicate) c.fact.view_is)) c.mark.ensures.marked
