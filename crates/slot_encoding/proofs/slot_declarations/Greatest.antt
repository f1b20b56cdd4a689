-- The greatest of the sizes of a list's items.
use Rattle.std.proofs.Common.{ℕ, ◌≤◌, max, List, [], ◌∷◌, arith}
use Rattle.std.specs.List.{fold}
use Rattle.std.proofs.Math.Nat.{le-max_left, le-max_right}
use Rattle.plan_texts.specs.Types.{EachIs}
use Rattle.slot_encoding.specs.slot_declarations.Vocabulary.{most}

module _ {X : Type 0} (size : X → ℕ) where
  from_start : (xs : List X) (a : ℕ) → a ≤ fold (λ a x. max a (size x)) a xs
  from_start [] a = omega arith
  from_start (x ∷ xs) a = let h = from_start xs (max a (size x)) in let l = le-max_left a (size x) in omega (arith, h, l)

  each_from : (xs : List X) (a : ℕ) → EachIs (λ x. size x ≤ fold (λ a x. max a (size x)) a xs) xs
  each_from [] a = tt
  each_from (x ∷ xs) a = ((let h = from_start xs (max a (size x)) in let l = le-max_right a (size x) in omega (arith, h, l)), each_from xs (max a (size x)))

  -- each is at most the greatest
  pub each-most : (xs : List X) → EachIs (λ x. size x ≤ most size xs) xs
  each-most xs = each_from xs 0
