-- The values that parameters can have, where some are known, and the order in which they are tried.
-- Source: this project's; the order is the lexicographic one, parameter by parameter, of objects as they are declared.
use Rattle.std.specs.Prelude.{ℕ, ◌≡◌, ◌<◌, List, [], ◌∷◌, length, slice_index, Option, Some, None}
use Rattle.plan_model.specs.declared.terms.Param.{Param}
use Rattle.plan_model.specs.plan_meaning.Truth.{AreTyped}

-- the first place at which the lists differ has the smaller number in the first
pub record Precedes (xs ys : List ℕ) : Type 0 where
  pub place : ℕ
  pub within : place < length xs
  pub same : (i : ℕ) → i < place → slice_index xs i ≡ slice_index ys i
  pub smaller : slice_index xs place < slice_index ys place

-- the value, where it is known
abbrev pub Agrees : Option ℕ → ℕ → Type 0
Agrees None x = Unit {0}
Agrees (Some k) x = k ≡ x

-- a value for each place, and the known one where it is known
abbrev pub Agree : List (Option ℕ) → List ℕ → Type 0
Agree [] [] = Unit {0}
Agree (k ∷ ks) (x ∷ xs) = Agrees k x × Agree ks xs
Agree [] (x ∷ xs) = ⊥
Agree (k ∷ ks) [] = ⊥

-- an object of its type for each parameter, and the known one where it is known
pub record CanBe (InType : ℕ → ℕ → Type 0) (params : List Param) (known : List (Option ℕ)) (values : List ℕ) : Type 0 where
  pub typed : AreTyped InType params values
  pub agree : Agree known values

-- the first of those of which P is true
pub record IsFirst (P : List ℕ → Type 0) (values : List ℕ) : Type 0 where
  pub is : P values
  pub none_before : (others : List ℕ) → P others → Precedes others values → ⊥

-- the next one behind others
pub record IsNext (P : List ℕ → Type 0) (old new : List ℕ) : Type 0 where
  pub is : P new
  pub later : Precedes old new
  pub none_between : (others : List ℕ) → P others → Precedes old others → Precedes others new → ⊥

abbrev pub IsLast : (List ℕ → Type 0) → List ℕ → Type 0
IsLast P values = (others : List ℕ) → P others → Precedes values others → ⊥
