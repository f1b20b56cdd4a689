use Rattle.std.proofs.Common.{ℕ, ◌≡◌, ◌+◌, ◌*◌, ◌<◌, ◌++◌, [], ◌∷◌, Bool, length, take}
use Rattle.ground_state.specs.Clauses.{IsInType}
use Rattle.ground_state.specs.Search.{Gathers, OneTouches, TouchesWithin}
use Rattle.ground_state.proofs.EffectSizes.{size, sizes}
use Rattle.ground_state.proofs.DomainLaws.{AtPlace}
use Rattle.state_history.specs.Flips.{states}
use Rattle.state_history.specs.Gathered.{side}
use Rattle.state_history.proofs.gather.+gather.Given as goal

abbrev pub decreases-gather : goal.decreases-gather
decreases-gather l = 3 * size l.eff.now

abbrev pub decreases-gather_each : goal.decreases-gather_each
decreases-gather_each l = 1 + 3 * sizes l.parts.now

abbrev pub decreases-gather_within : goal.decreases-gather_within
decreases-gather_within l = 1 + 3 * length l.params.now + 3 * size l.body.now

abbrev pub decreases-gather_in_parts : goal.decreases-gather_in_parts
decreases-gather_in_parts l = 3 + 3 * length l.rest.now + 3 * size l.body.now

abbrev pub decreases-gather_of : goal.decreases-gather_of
decreases-gather_of l = 2 + 3 * length l.rest.now + 3 * size l.body.now

-- what the effects so far touch is gathered
abbrev pub invariant-gather_each-loop-part : goal.invariant-gather_each-loop-part
invariant-gather_each-loop-part l = record {
  kept : l.desk.values.items ≡ l.fn.desk.values.items;
  gathered : (adds : Bool) → Gathers (OneTouches (IsInType l.world) (states l.flips l.flips.last) adds (take l.part-index l.parts) l.fn.desk.values.items) (side adds l.fn.into) (side adds l.into);
}

-- what the effect touches with the objects so far is gathered
abbrev pub invariant-gather_of-loop-place : goal.invariant-gather_of-loop-place
invariant-gather_of-loop-place l = record {
  kept : l.desk.values.items ≡ l.fn.desk.values.items;
  gathered : (adds : Bool) → Gathers (λ g. (i : ℕ) × (i < l.place) × AtPlace l.domain (λ o. TouchesWithin (IsInType l.world) (states l.flips l.flips.last) adds l.rest l.body (l.fn.desk.values.items ++ o ∷ []) g) i) (side adds l.fn.into) (side adds l.into);
}
