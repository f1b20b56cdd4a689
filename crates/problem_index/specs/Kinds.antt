-- What is known of types: the parts of each, and the objects of those that are listed.
-- Source: this project's; a part as in Typing.
use Rattle.std.specs.Prelude.{ℕ, ◌≡◌, ◌<◌, ◌^◌, ◌↔◌, IsTrue, IfSome, List, [], Contains, length, get_or, slice_get, Some}
use Rattle.plan_model.specs.declared.types.Types.{Types}
use Rattle.plan_model.specs.declared.types.Object.{Object}
use Rattle.plan_model.specs.declared.parts.Parts.{Parts}
use Rattle.plan_model.specs.Parts.{has, AreListed}
use Rattle.problem_index.specs.declared.kinds.Kind.{Kind}
use Rattle.problem_index.specs.declared.kinds.Kinds.{Kinds}
use Rattle.problem_index.specs.declared.world.World.{World}
use Rattle.problem_index.specs.Domains.{ArePartsOf}

-- object x is declared of the type
abbrev pub IsDeclaredOf : List Object → ℕ → ℕ → Type 0
IsDeclaredOf objects ty x = (object : Object) × (slice_get objects x ≡ Some object) × (object.ty ≡ ty)

-- at each type's number those of the first n objects that are declared of it, and each of these is declared of a type with a list
pub record AreFirstByType (n : ℕ) (objects : List Object) (lists : List (List ℕ)) : Type 0 where
  pub each : (ty x : ℕ) → ty < length lists → Contains (get_or lists ty []) x ↔ ((x < n) × IsDeclaredOf objects ty x)
  pub all : (ty x : ℕ) → x < n → IsDeclaredOf objects ty x → ty < length lists

abbrev pub AreByType : List Object → List (List ℕ) → Type 0
AreByType objects lists = AreFirstByType (length objects) objects lists

-- those of the lists of the parts
abbrev pub AreOfParts : Parts → List (List ℕ) → List ℕ → Type 0
AreOfParts parts lists listed = (x : ℕ) → Contains listed x ↔ ((ty : ℕ) × (ty < length lists) × IsTrue (has parts ty) × Contains (get_or lists ty []) x)

-- object x is declared of one of the parts
abbrev pub IsOfParts : List Object → Parts → ℕ → Type 0
IsOfParts objects parts x = (object : Object) × (slice_get objects x ≡ Some object) × IsTrue (has parts object.ty)

-- what is known of the type that has these parts
pub record IsKind (objects : List Object) (those : Parts) (kind : Kind) : Type 0 where
  pub parts : kind.parts ≡ those
  pub listed : IfSome kind.listed (λ listed. (x : ℕ) → Contains listed.items x ↔ IsOfParts objects those x)

-- at each place what is known of the type of this number
abbrev pub AreInOrder : Types → List Object → List Kind → Type 0
AreInOrder types objects kinds = (n : ℕ) (kind : Kind) → slice_get kinds n ≡ Some kind → ArePartsOf types n kind.parts × IsKind objects kind.parts kind

abbrev pub AreKinds : Types → List Object → Kinds → Type 0
AreKinds types objects kinds = AreInOrder types objects kinds.kinds.items

-- types are listed, objects have numbers of 32 bits, and what is known of the types is
pub record IsWorld (world : World) : Type 0 where
  pub listed : AreListed world.types.now
  pub few : length world.objects.now < 2 ^ 32
  pub kinds : IfSome world.kinds (λ kinds. AreKinds world.types.now world.objects.now kinds.now)
