-- Lists in which nothing stands twice.
-- Source: this project's.
use Rattle.std.specs.Prelude.{List, [], ◌∷◌, Contains}

-- no element stands twice
abbrev pub AreDifferent : {A : Type 0} → List A → Type 0
AreDifferent [] = Unit {0}
AreDifferent (x ∷ xs) = (Contains xs x → ⊥) × AreDifferent xs
