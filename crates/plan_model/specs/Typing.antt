-- Which objects are in which type.
-- Source: the types of PDDL 2.1, level 1 (Fox and Long, JAIR 20, 2003): a parent of a type, `either`. That a type may have several parents is this project's.
use Rattle.std.specs.Prelude.{◌≡◌, ◌↔◌, ℕ, ◌-◌, List, Option, None, Some, All, Any, Contains, MatchOption, ◌⊎◌, nat_lt, length, slice_get, if◌then◌else◌}
use Rattle.plan_model.specs.declared.types.Types.{Types}
use Rattle.plan_model.specs.declared.types.Parent.{Parent}
use Rattle.plan_model.specs.declared.types.Object.{Object}

-- A chain of listed pairs of a type and its parent leads from one type up to another: of no pair from a type to itself,
-- or first from a type to a parent of it.
pub data Leads (parents : List Parent) : ℕ → ℕ → Type 0 where
  stay : {ty : ℕ} → Leads parents ty ty
  climb : {ty parent of : ℕ} → Contains parents (record { child = ty; parent = parent }) → Leads parents parent of → Leads parents ty of

-- the types of the union of this number, where it is one: the unions are numbered after the names
abbrev pub union_at : Types → ℕ → Option (List ℕ)
union_at types ty = if nat_lt ty (length types.names) then None else slice_get types.unions (ty - length types.names)

-- a type is a part of `object`, which is type 0, and of each type to which a chain leads
abbrev pub IsBelow : Types → ℕ → ℕ → Type 0
IsBelow types ty of = (of ≡ 0) ⊎ Leads types.parents ty of

-- a type is also a part of a union, where it is a part of one of its types
abbrev pub IsPart : Types → ℕ → ℕ → Type 0
IsPart types ty of = IsBelow types ty of ⊎ ((members : List ℕ) × (union_at types of ≡ Some members) × Any (IsBelow types ty) members)

-- object x is in a type where the type that it is declared of is a part of it
abbrev pub InType : Types → List Object → ℕ → ℕ → Type 0
InType types objects x ty = (object : Object) × (slice_get objects x ≡ Some object) × IsPart types object.ty ty

-- an object is listed exactly where it is in the type
abbrev pub AreObjectsOf : Types → List Object → ℕ → List ℕ → Type 0
AreObjectsOf types objects ty members = (x : ℕ) → Contains members x ↔ InType types objects x ty

-- a union is a part of a type where each of its types is
abbrev pub IsA : Types → ℕ → ℕ → Type 0
IsA types ty of = MatchOption (union_at types ty) (IsPart types ty of) (λ members. All (λ member. IsPart types member of) members)
