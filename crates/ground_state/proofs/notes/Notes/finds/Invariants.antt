use Rattle.std.proofs.Common.{ℕ, ◌≡◌, ◌<◌, ◌++◌, [], ◌∷◌, not, Some}
use Rattle.plan_model.specs.plan_meaning.Truth.{values_of}
use Rattle.problem_index.specs.Domains.{at}
use Rattle.ground_state.specs.Notes.{holds}
use Rattle.ground_state.proofs.notes.Notes.finds.Given as goal

-- with the objects so far they are noted otherwise
abbrev pub invariant-loop-place : goal.invariant-loop-place
invariant-loop-place l = (i : ℕ) → i < l.place → (x : ℕ) → at l.domain i ≡ Some x → holds l.self (values_of (l.env.values.items ++ x ∷ []) l.terms) ≡ not l.wanted
