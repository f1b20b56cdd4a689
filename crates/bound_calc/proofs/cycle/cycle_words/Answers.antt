use Rattle.std.proofs.Common.{take_all, sym, ap, ◌∙◌}
use Rattle.bound_calc.specs.declared.stratifier.edge.Edge.{Edge}
use Rattle.bound_calc.specs.NoBound.{spaced}
use Rattle.bound_calc.proofs.Cycles.{begun, begun-more, two_more, joined, nothing}
use Rattle.bound_calc.proofs.cycle.cycle_words.Goals as goal

abbrev none : Edge
none = record { method = 0; child = 0 }

pub loop-edge-preserved : goal.loop-edge-preserved
loop-edge-preserved c =
    let more = begun-more c.args.c.now c.args.edges.now c.loop-edge.edge-index none c.loop-edge-test.true in
    let words = two_more c.loop-edge.text c.source_word.result.now c.method_word.result.now in
    let task = c.source_word.ensures in
    let method = c.method_word.ensures in
    let first = c.in_ok-push_word.ensures.pushed in
    let then_ = c.in_ok-push_word-2.ensures.pushed in
    let before = c.loop-edge.invariant in
    cc

pub returns-in_ok-push_word-in-Some : goal.returns-in_ok-push_word-in-Some
returns-in_ok-push_word-in-Some c =
    let told = c.loop-edge.invariant ∙ ap (λ es. spaced (begun c.args.c.now es)) (take_all c.loop-edge.edge-index c.args.edges.now c.loop-edge-test.false) in
    record {
      words = joined c.args.c.now c.args.edges.now c.in-Some.edge.now (sym c.in-Some.ensures.value) c.loop-edge.text c.push_word-in-Some.new.text c.target_word.result.now told c.target_word.ensures c.in_ok-push_word-in-Some.ensures.pushed;
    }

pub returns-in-None : goal.returns-in-None
returns-in-None c =
    let told = c.loop-edge.invariant ∙ ap (λ es. spaced (begun c.args.c.now es)) (take_all c.loop-edge.edge-index c.args.edges.now c.loop-edge-test.false) in
    record { words = told ∙ sym (nothing c.args.c.now c.args.edges.now (sym c.in-None.ensures.value)) }
