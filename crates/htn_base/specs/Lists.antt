-- What holds of one of a list, of each of it, and of the first in it.
use Rattle.std.specs.Prelude.{◌≡◌, ◌⊎◌, List, [], ◌∷◌, ◌++◌}

-- it holds of one of these
abbrev pub One : {X : Type 0} → (X → Type 0) → List X → Type 0
One P [] = ⊥
One P (x ∷ xs) = P x ⊎ One P xs

-- it holds of each of these
abbrev pub Each : {X : Type 0} → (X → Type 0) → List X → Type 0
Each P [] = Unit {0}
Each P (x ∷ xs) = P x × Each P xs

abbrev pub Has : {X : Type 0} → List X → X → Type 0
Has xs x = One (λ y. y ≡ x) xs

-- the first of a list for which it holds with those in front of it
pub record IsFirst {X : Type 0} (P : List X → X → Type 0) (xs : List X) (x : X) : Type 0 where
  pub front : List X
  pub rest : List X
  pub parts : xs ≡ front ++ x ∷ rest
  pub is : P front x
  pub none_before : (before behind : List X) (y : X) → front ≡ before ++ y ∷ behind → P before y → ⊥
