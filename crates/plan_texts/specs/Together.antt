-- Two lists that go together.
use Rattle.std.specs.Prelude.{List, [], ◌∷◌}

-- each item of the first list goes with the item of the second that stands in its place
abbrev pub Together : {X Y : Type 0} → (X → Y → Type 0) → List X → List Y → Type 0
Together R [] [] = Unit {0}
Together R (x ∷ xs) (y ∷ ys) = R x y × Together R xs ys
Together R [] (y ∷ ys) = ⊥
Together R (x ∷ xs) [] = ⊥
