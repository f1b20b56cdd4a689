use Rattle.std.proofs.Common.{ℕ, ◌≡◌, ◌+◌, ◌*◌, ◌<◌, ◌++◌, not, List, [], ◌∷◌, length, get_or, Some}
use Rattle.plan_model.specs.declared.formulas.Formula.{Formula}
use Rattle.plan_model.specs.Typing.{InType}
use Rattle.plan_model.specs.plan_meaning.Truth.{IsTrueIn, AreTyped}
use Rattle.ground_state.specs.Frames.{frame}
use Rattle.problem_index.specs.Domains.{at}
use Rattle.ground_state.specs.States.{atoms}
use Rattle.ground_state.specs.Search.{Is}
use Rattle.ground_state.proofs.Sizes.{size, sizes}
use Rattle.ground_state.proofs.truth.+holds_in.Given as goal

abbrev pub decreases-holds_in : goal.decreases-holds_in
decreases-holds_in l = 3 * size l.f.now

abbrev pub decreases-is_true : goal.decreases-is_true
decreases-is_true l = 1 + 3 * size l.f.now

abbrev pub decreases-is_among : goal.decreases-is_among
decreases-is_among l = 2 + 3 * sizes l.parts.now

abbrev pub decreases-is_found : goal.decreases-is_found
decreases-is_found l = 2 + 3 * length l.params.now + 3 * size l.body.now

abbrev pub decreases-is_found_in_parts : goal.decreases-is_found_in_parts
decreases-is_found_in_parts l = 4 + 3 * length l.rest.now + 3 * size l.body.now

abbrev pub decreases-is_found_of : goal.decreases-is_found_of
decreases-is_found_of l = 3 + 3 * length l.rest.now + 3 * size l.body.now

-- the parts so far are not as wanted
abbrev pub invariant-is_among-loop-part : goal.invariant-is_among-loop-part
invariant-is_among-loop-part l = (frame l.env ≡ frame l.fn.env) × ((k : ℕ) (d : Formula) → k < l.part-index → Is (not l.wanted) (IsTrueIn (InType l.world.types.now l.world.objects.now) (atoms l.s) (get_or l.parts k d) l.fn.env.values.items))

-- with the objects so far the body is not as wanted
abbrev pub invariant-is_found_of-loop-place : goal.invariant-is_found_of-loop-place
invariant-is_found_of-loop-place l = (frame l.env ≡ frame l.fn.env)
    × ((i o : ℕ) (os : List ℕ) → i < l.place → at l.domain i ≡ Some o → AreTyped (InType l.world.types.now l.world.objects.now) l.rest os → Is (not l.wanted) (IsTrueIn (InType l.world.types.now l.world.objects.now) (atoms l.s) l.body ((l.fn.env.values.items ++ o ∷ []) ++ os)))
