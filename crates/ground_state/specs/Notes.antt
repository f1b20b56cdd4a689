-- What is noted of lists of objects.
-- Source: this project's.
use Rattle.std.specs.Prelude.{ℕ, ◌≡◌, ◌↔◌, ◌++◌, ◌∷◌, [], Bool, IsTrue, false, List, Option, Some, None, IsSome, slice_index_or, unwrap_or}
use Rattle.std.specs.Option.{option_map}
use Rattle.std.specs.Ordering.{nat_cmp}
use Rattle.std.specs.Cmp.Lexicographic.{slice_cmp}
use Rattle.std.specs.BTreeMap as tree
use Rattle.plan_model.specs.declared.terms.Term.{Term}
use Rattle.plan_model.specs.plan_meaning.Truth.{values_of}
use Rattle.problem_index.specs.declared.domain.Domain.{Domain}
use Rattle.problem_index.specs.Domains.{IsIn}
use Rattle.ground_state.specs.declared.notes.Notes.{Notes}
use Rattle.ground_state.specs.Numbers.{number_of}

-- what is noted at the number, or of a list that has none
abbrev pub noted_at : Notes → List ℕ → Option ℕ → Option Bool
noted_at notes args (Some n) = slice_index_or notes.near.items n None
noted_at notes args None = tree.get_by (λ list. slice_cmp nat_cmp args list.items) notes.far

abbrev pub noted : Notes → List ℕ → Option Bool
noted notes args = noted_at notes args (number_of notes.numbers args)

-- whether they are noted as true
abbrev pub holds : Notes → List ℕ → Bool
holds notes args = unwrap_or (noted notes args) false

-- nothing is noted
abbrev pub AreNone : Notes → Type 0
AreNone notes = (args : List ℕ) → noted notes args ≡ None

-- the same is noted of each list
abbrev pub AreSame : Notes → Notes → Type 0
AreSame old new = (args : List ℕ) → noted new args ≡ noted old args

-- the same lists are noted as true
abbrev pub HoldSame : Notes → Notes → Type 0
HoldSame old new = (args : List ℕ) → holds new args ≡ holds old args

-- w is noted of this list now, and of others what was noted before
pub record IsNoted (old : Notes) (args : List ℕ) (w : Option Bool) (new : Notes) : Type 0 where
  pub here : noted new args ≡ w
  pub others : (list : List ℕ) → (list ≡ args → ⊥) → noted new list ≡ noted old list

-- the same, where something was noted of the list
abbrev pub IsSet : Notes → List ℕ → Bool → Notes → Type 0
IsSet old args truth new = IsNoted old args (option_map (λ _. truth) (noted old args)) new

-- the lists that are as P says are not noted as true now, the others as before, and of what something was noted something still is
pub record AreDenied (old : Notes) (P : List ℕ → Type 0) (new : Notes) : Type 0 where
  pub without : (list : List ℕ) → IsTrue (holds new list) ↔ (IsTrue (holds old list) × (P list → ⊥))
  pub kept : (list : List ℕ) → IsSome (noted old list) → IsSome (noted new list)

-- what the terms stand for, with some object of the domain for one more variable
abbrev pub AreOf : Domain → List ℕ → List Term → List ℕ → Type 0
AreOf d values terms list = (x : ℕ) × IsIn d x × (list ≡ values_of (values ++ x ∷ []) terms)
