use Rattle.std.proofs.Common.{ℕ, ◌≡◌, ◌+◌, ◌*◌, ◌<◌, ◌++◌, [], ◌∷◌, length, take}
use Rattle.plan_model.specs.Typing.{InType}
use Rattle.ground_state.specs.declared.state.State.{State}
use Rattle.ground_state.specs.Frames.{frame}
use Rattle.ground_state.specs.States.{atoms}
use Rattle.ground_state.specs.Search.{OneTouches, TouchesWithin}
use Rattle.ground_state.specs.Passes.{of_adds, Passes}
use Rattle.ground_state.proofs.EffectSizes.{size, sizes}
use Rattle.ground_state.proofs.DomainLaws.{AtPlace}
use Rattle.ground_state.proofs.state.State.+pass_over.Given as goal

abbrev pub decreases-pass_over : goal.decreases-pass_over
decreases-pass_over l = 3 * size l.eff.now

abbrev pub decreases-pass_over_each : goal.decreases-pass_over_each
decreases-pass_over_each l = 1 + 3 * sizes l.parts.now

abbrev pub decreases-pass_over_within : goal.decreases-pass_over_within
decreases-pass_over_within l = 1 + 3 * length l.params.now + 3 * size l.body.now

abbrev pub decreases-pass_over_in_parts : goal.decreases-pass_over_in_parts
decreases-pass_over_in_parts l = 3 + 3 * length l.rest.now + 3 * size l.body.now

abbrev pub decreases-pass_over_of : goal.decreases-pass_over_of
decreases-pass_over_of l = 2 + 3 * length l.rest.now + 3 * size l.body.now

-- the pass has been made over what the effects so far touch
abbrev pub invariant-pass_over_each-loop-part : goal.invariant-pass_over_each-loop-part
invariant-pass_over_each-loop-part l = (frame l.env ≡ frame l.fn.env)
    × ((s : State) → Passes l.pass (OneTouches (InType l.world.types.now l.world.objects.now) (atoms s) (of_adds l.pass) (take l.part-index l.parts) l.fn.env.values.items) l.fn.self l.self)

-- and over what the effect touches with the objects so far
abbrev pub invariant-pass_over_of-loop-place : goal.invariant-pass_over_of-loop-place
invariant-pass_over_of-loop-place l = (frame l.env ≡ frame l.fn.env)
    × ((s : State) → Passes l.pass (λ g. (i : ℕ) × (i < l.place) × AtPlace l.domain (λ o. TouchesWithin (InType l.world.types.now l.world.objects.now) (atoms s) (of_adds l.pass) l.rest l.body (l.fn.env.values.items ++ o ∷ []) g) i) l.fn.self l.self)
