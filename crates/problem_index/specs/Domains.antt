-- The objects of a type as a quantifier goes over them: place by place.
-- Source: this project's; an object in a type as in Typing.
use Rattle.std.specs.Prelude.{ℕ, ◌≡◌, ◌<◌, ◌^◌, ◌&&◌, ◌↔◌, cond, nat_lt, not, Bool, MatchBool, IsTrue, List, length, slice_get, Option, Some, None}
use Rattle.std.specs.Option.{option_and_then}
use Rattle.plan_model.specs.declared.types.Types.{Types}
use Rattle.plan_model.specs.declared.types.Object.{Object}
use Rattle.plan_model.specs.declared.parts.Parts.{Parts}
use Rattle.plan_model.specs.Typing.{IsPart, InType}
use Rattle.plan_model.specs.Parts.{has}
use Rattle.problem_index.specs.declared.domain.Domain.{Domain}
use Rattle.problem_index.specs.declared.domain.Domain.TheVariants as domain

-- the parts of type of
abbrev pub ArePartsOf : Types → ℕ → Parts → Type 0
ArePartsOf types of parts = (ty : ℕ) → IsTrue (has parts ty) ↔ IsPart types ty of

-- the number of places
abbrev pub places : Domain → ℕ
places (domain.Listed listed) = length listed.now
places (domain.Among objects parts) = length objects.now

-- the object at the place, where its declared type is one of the parts
abbrev pub among : Parts → ℕ → Object → Option ℕ
among parts place object = cond (has parts object.ty && nat_lt place (2 ^ 32)) (Some place) None

abbrev pub at : Domain → ℕ → Option ℕ
at (domain.Listed listed) place = slice_get listed.now place
at (domain.Among objects parts) place = option_and_then (among parts.now place) (slice_get objects.now place)

-- object x stands at a place
abbrev pub IsIn : Domain → ℕ → Type 0
IsIn d x = (i : ℕ) × (i < places d) × (at d i ≡ Some x)

-- at the places stand the objects of the type
abbrev pub IsDomainOf : Types → List Object → ℕ → Domain → Type 0
IsDomainOf types objects ty d = (x : ℕ) → IsIn d x ↔ InType types objects x ty

-- each object of the domain is one of the first n
abbrev pub IsBelow : ℕ → Domain → Type 0
IsBelow n d = (x : ℕ) → IsIn d x → x < n

-- with some object of the domain the answer is the one that is wanted, or with none
abbrev pub IsWithSome : Domain → (ℕ → Bool) → Bool → Bool → Type 0
IsWithSome d answer wanted found = MatchBool found
    ((x : ℕ) × IsIn d x × (answer x ≡ wanted))
    ((x : ℕ) → IsIn d x → answer x ≡ not wanted)
