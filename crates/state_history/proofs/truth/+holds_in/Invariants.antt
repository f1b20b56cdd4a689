use Rattle.std.proofs.Common.{ℕ, ◌≡◌, ◌+◌, ◌*◌, ◌<◌, ◌++◌, not, List, [], ◌∷◌, length, get_or, Some}
use Rattle.plan_model.specs.declared.formulas.Formula.{Formula}
use Rattle.plan_model.specs.plan_meaning.Truth.{IsTrueIn, AreTyped}
use Rattle.problem_index.specs.Domains.{at}
use Rattle.ground_state.specs.Clauses.{IsInType}
use Rattle.ground_state.specs.Search.{Is}
use Rattle.ground_state.proofs.Sizes.{size, sizes}
use Rattle.state_history.specs.Flips.{IsSoIn}
use Rattle.state_history.specs.Desks.{IsLater}
use Rattle.state_history.proofs.truth.+holds_in.Given as goal

abbrev pub decreases-holds_in : goal.decreases-holds_in
decreases-holds_in l = 3 * size l.f.now

abbrev pub decreases-is_among : goal.decreases-is_among
decreases-is_among l = 1 + 3 * sizes l.parts.now

abbrev pub decreases-is_found : goal.decreases-is_found
decreases-is_found l = 1 + 3 * length l.params.now + 3 * size l.body.now

abbrev pub decreases-is_found_in_parts : goal.decreases-is_found_in_parts
decreases-is_found_in_parts l = 3 + 3 * length l.rest.now + 3 * size l.body.now

abbrev pub decreases-is_found_of : goal.decreases-is_found_of
decreases-is_found_of l = 2 + 3 * length l.rest.now + 3 * size l.body.now

-- the parts so far are not as wanted
abbrev pub invariant-is_among-loop-part : goal.invariant-is_among-loop-part
invariant-is_among-loop-part l = record {
  later : IsLater l.gap l.fn.desk l.desk;
  without : (k : ℕ) (d : Formula) → k < l.part-index → IsSoIn l.flips l.desk.since l.gap (λ S. Is (not l.wanted) (IsTrueIn (IsInType l.world) S (get_or l.parts k d) l.fn.desk.values.items));
}

-- with the objects so far the body is not as wanted
abbrev pub invariant-is_found_of-loop-place : goal.invariant-is_found_of-loop-place
invariant-is_found_of-loop-place l = record {
  later : IsLater l.gap l.fn.desk l.desk;
  without : (i o : ℕ) (os : List ℕ) → i < l.place → at l.domain i ≡ Some o → AreTyped (IsInType l.world) l.rest os
      → IsSoIn l.flips l.desk.since l.gap (λ S. Is (not l.wanted) (IsTrueIn (IsInType l.world) S l.body ((l.fn.desk.values.items ++ o ∷ []) ++ os)));
}
