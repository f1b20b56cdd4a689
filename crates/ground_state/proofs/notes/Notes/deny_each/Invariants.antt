use Rattle.std.proofs.Common.{ℕ, ◌≡◌, ◌<◌, ◌++◌, [], ◌∷◌}
use Rattle.plan_model.specs.plan_meaning.Truth.{values_of}
use Rattle.ground_state.specs.Notes.{AreDenied}
use Rattle.ground_state.proofs.DomainLaws.{AtPlace}
use Rattle.ground_state.proofs.notes.Notes.deny_each.Given as goal

-- with the objects so far it is done
abbrev pub invariant-loop-place : goal.invariant-loop-place
invariant-loop-place l = (l.self.numbers ≡ l.fn.self.numbers)
    × AreDenied l.fn.self (λ list. (i : ℕ) × (i < l.place) × AtPlace l.domain (λ x. list ≡ values_of (l.env.values.items ++ x ∷ []) l.terms) i) l.self
