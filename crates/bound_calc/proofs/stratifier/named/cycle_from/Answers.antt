use Rattle.std.proofs.Common.{◌∷◌, ◌++◌, [], ◌<◌, length, get_or, ap, subst, ◌∙◌, arith}
use Rattle.std.proofs.lemmas.Option.{slice_get-get_or, slice_get_within}
use Rattle.std.proofs.lemmas.Grind.{common_steps}
use Rattle.bound_calc.specs.stratifier.NamedSearch.{AreFirstSteps}
use Rattle.bound_calc.proofs.stratifier.NamedWalk.{back_walk, cycle_at, step_at, no_step, followed_none, followed_more, followed_all, step_is_nearer}
use Rattle.bound_calc.proofs.stratifier.named.cycle_from.Invariants.{nothing, nowhere}
use Rattle.bound_calc.proofs.stratifier.named.cycle_from.Goals as goal

pub bounds-edges-k : goal.bounds-edges-k
bounds-edges-k c =
    let step = step_at c.args.ends.now c.in_ok-distances.distances.items _ c.in_ok-steps.steps.items c.loop-k.task c.in-Some.k c.loop-k.invariant.near c.index.result.now c.as_slice.ensures.value c.in_ok-steps.ensures.steps c.loop-k.invariant.has c.index.ensures c.in-Some.is in
    let l = slice_get_within c.args.ends.now c.in-Some.k step.0.0 step.0.1 in
    let r = c.requires.ends.room in
    omega arith

pub offset_bounds-edges-k : goal.offset_bounds-edges-k
offset_bounds-edges-k c =
    let step = step_at c.args.ends.now c.in_ok-distances.distances.items _ c.in_ok-steps.steps.items c.loop-k.task c.in-Some.k c.loop-k.invariant.near c.index.result.now c.as_slice.ensures.value c.in_ok-steps.ensures.steps c.loop-k.invariant.has c.index.ensures c.in-Some.is in
    let l = slice_get_within c.args.ends.now c.in-Some.k step.0.0 step.0.1 in
    let r = c.requires.ends.room in
    omega arith

pub bounds-ends-k : goal.bounds-ends-k
bounds-ends-k c =
    let step = step_at c.args.ends.now c.in_ok-distances.distances.items _ c.in_ok-steps.steps.items c.loop-k.task c.in-Some.k c.loop-k.invariant.near c.index.result.now c.as_slice.ensures.value c.in_ok-steps.ensures.steps c.loop-k.invariant.has c.index.ensures c.in-Some.is in
    slice_get_within c.args.ends.now c.in-Some.k step.0.0 step.0.1

pub loop-k-smaller : goal.loop-k-smaller
loop-k-smaller c =
    let k = c.in-Some.k in
    let ends = c.args.ends.now in
    let step = step_at ends c.in_ok-distances.distances.items _ c.in_ok-steps.steps.items c.loop-k.task k c.loop-k.invariant.near c.index.result.now c.as_slice.ensures.value c.in_ok-steps.ensures.steps c.loop-k.invariant.has c.index.ensures c.in-Some.is in
    let l = slice_get_within ends k step.0.0 step.0.1 in
    step_is_nearer ends c.in_ok-distances.distances.items c.loop-k.task k (get_or ends k nowhere) (slice_get-get_or ends k nowhere l) step.0

pub loop-k-preserved : goal.loop-k-preserved
loop-k-preserved c =
    let k = c.in-Some.k in
    let ends = c.args.ends.now in
    let edges = c.args.edges.now in
    let first = c.args.first in
    let step = step_at ends c.in_ok-distances.distances.items _ c.in_ok-steps.steps.items c.loop-k.task k c.loop-k.invariant.near c.index.result.now c.as_slice.ensures.value c.in_ok-steps.ensures.steps c.loop-k.invariant.has c.index.ensures c.in-Some.is in
    let l = slice_get_within ends k step.0.0 step.0.1 in
    let m : k < length edges = (let r = c.requires.ends.room in omega arith) in
    followed_more c.args.c.now edges ends c.requires.ends (get_or ends first nowhere).from c.in_ok-distances.distances.items c.in_ok-distances.ensures.distances (get_or ends first nowhere).to (get_or edges first nothing)
    c.loop-k.cycle c.push-in-Some.new.self c.loop-k.task k (get_or edges k nothing) (get_or ends k nowhere) (slice_get-get_or edges k nothing m) (slice_get-get_or ends k nowhere l) step c.in_ok-push-2.ensures.pushed c.loop-k.invariant

pub loop-k-init : goal.loop-k-init
loop-k-init c =
    let ends = c.args.ends.now in
    let edges = c.args.edges.now in
    let first = c.args.first in
    let (walk, w) = back_walk c.args.c.now edges ends c.requires.ends first (get_or edges first nothing) (get_or ends first nowhere) (slice_get-get_or edges first nothing (let r = c.requires.ends.room in let l = c.requires.first in omega arith)) (slice_get-get_or ends first nowhere c.requires.first) c.requires.closes in
    followed_none c.args.c.now edges ends c.requires.ends (get_or ends first nowhere).from c.in_ok-distances.distances.items c.in_ok-distances.ensures.distances (get_or ends first nowhere).to (get_or edges first nothing)
    walk w c.push.new.self (c.in_ok-push.ensures.pushed ∙ ap (λ z. z ++ get_or edges first nothing ∷ []) c.new-cycle.ensures.empty)

pub returns : goal.returns
returns c =
    let ends = c.args.ends.now in
    let edges = c.args.edges.now in
    let first = c.args.first in
    let found = c.in_ok-distances.distances.items in
    let none = no_step ends found _ c.in_ok-steps.steps.items c.loop-k.task c.loop-k.invariant.near c.index.result.now c.as_slice.ensures.value c.in_ok-steps.ensures.steps c.loop-k.invariant.has c.index.ensures c.in_default.not-Some in
    let all = followed_all c.args.c.now edges ends c.requires.ends (get_or ends first nowhere).from found c.in_ok-distances.ensures.distances (get_or ends first nowhere).to (get_or edges first nothing)
    c.in_ok-steps.steps.items c.loop-k.cycle c.loop-k.task (subst (λ s. AreFirstSteps ends s c.in_ok-steps.steps.items) c.as_slice.ensures.value c.in_ok-steps.ensures.steps) none c.loop-k.invariant in
    record { cycle = cycle_at c.args.c.now edges ends c.requires.ends first (get_or edges first nothing) (get_or ends first nowhere) (slice_get-get_or edges first nothing (let r = c.requires.ends.room in let l = c.requires.first in omega arith)) (slice_get-get_or ends first nowhere c.requires.first) c.loop-k.cycle all }

pub offset_bounds-ends-k : goal.offset_bounds-ends-k
offset_bounds-ends-k c =
    let step = step_at c.args.ends.now c.in_ok-distances.distances.items _ c.in_ok-steps.steps.items c.loop-k.task c.in-Some.k c.loop-k.invariant.near c.index.result.now c.as_slice.ensures.value c.in_ok-steps.ensures.steps c.loop-k.invariant.has c.index.ensures c.in-Some.is in
    let l = slice_get_within c.args.ends.now c.in-Some.k step.0.0 step.0.1 in
    omega arith

pub bounds-ends-first : goal.bounds-ends-first
bounds-ends-first c = grind (arith, common_steps)

pub distances-requires-clause-goal : goal.distances-requires-clause-goal
distances-requires-clause-goal c = grind (arith, common_steps)

pub distances-requires-clause-within : goal.distances-requires-clause-within
distances-requires-clause-within c = grind (arith, common_steps)

pub first_steps-requires : goal.first_steps-requires
first_steps-requires c = grind (arith, common_steps)

pub bounds-edges-first : goal.bounds-edges-first
bounds-edges-first c = grind (arith, common_steps)

pub index-requires : goal.index-requires
index-requires c = grind (arith, common_steps)
