use Rattle.std.proofs.Common.{◌≡◌, ◌++◌, codes, take_all, ap, sym, subst, ◌∙◌}
use Rattle.bound_calc.specs.stratifier.CycleWords.{method_word}
use Rattle.bound_calc.specs.NoBound.{spaced}
use Rattle.plan_model.specs.plan_meaning.Network.{network}
use Rattle.slot_machine.specs.bound_laws.NetworkEdges.{source}
use Rattle.ground_bound.specs.NoGroundBound.{edge_of}
use Rattle.ground_bound.specs.GroundCycleWords.{ground_task_word}
use Rattle.ground_bound.specs.declared.ground_error.GroundEdge.{GroundEdge}
use Rattle.ground_bound.proofs.CycleTexts.{begun, begun-more, joined, nothing}
use Rattle.ground_bound.proofs.ground_words.ground_cycle_words.Goals as goal

pub loop-edge-preserved : goal.loop-edge-preserved
loop-edge-preserved c =
    let of = c.args.c.now in
    let edges = c.args.edges.now in
    let k = c.loop-edge.edge-index in
    let e = c.edge-item.result in
    begun-more of edges k e c.loop-edge.text c.push_source.new.text c.push_method.new.text c.loop-edge-test.true c.loop-edge.invariant
    (subst (λ (z : GroundEdge). c.push_source.new.text ≡ (c.loop-edge.text ++ codes " ") ++ ground_task_word of (source (network of) (edge_of z))) c.edge-item.is c.in_ok-push_source.ensures.pushed)
    (subst (λ (z : GroundEdge). c.push_method.new.text ≡ (c.push_source.new.text ++ codes " ") ++ method_word of z.method) c.edge-item.is c.in_ok-push_method.ensures.pushed)

pub returns-in_ok-push_target-in-Some : goal.returns-in_ok-push_target-in-Some
returns-in_ok-push_target-in-Some c =
    let told = c.loop-edge.invariant ∙ ap (λ es. spaced (begun c.args.c.now es)) (take_all c.loop-edge.edge-index c.args.edges.now c.loop-edge-test.false) in
    record {
      words = joined c.args.c.now c.args.edges.now c.in-Some.edge.now (sym c.in-Some.ensures.value) c.loop-edge.text c.push_target.new.text told c.in_ok-push_target-in-Some.ensures.pushed;
    }

pub returns-in-None : goal.returns-in-None
returns-in-None c =
    let told = c.loop-edge.invariant ∙ ap (λ es. spaced (begun c.args.c.now es)) (take_all c.loop-edge.edge-index c.args.edges.now c.loop-edge-test.false) in
    record { words = told ∙ sym (nothing c.args.c.now c.args.edges.now (sym c.in-None.ensures.value)) }
