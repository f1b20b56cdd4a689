-- Past the end of a list of words stands the empty word.
use Rattle.std.proofs.Common.{ℕ, zero, suc, ◌≡◌, List, [], ◌∷◌, map, length, slice_get, None, refl}
use Rattle.text_forms.specs.Words.{Word, word_at}

pub word-none : (ws : List Word) (n : ℕ) → None ≡ slice_get ws n → word_at ws n ≡ []
word-none [] n e = refl
word-none (w ∷ ws) zero e = absurd (cc)
word-none (w ∷ ws) (suc n) e = word-none ws n e

pub at-none : {X : Type 0} (f : X → Word) (xs : List X) (n : ℕ) → None ≡ slice_get xs n → word_at (map f xs) n ≡ []
at-none f [] n e = refl
at-none f (y ∷ ys) zero e = absurd (cc)
at-none f (y ∷ ys) (suc n) e = at-none f ys n e

pub past-end : {X : Type 0} (f : X → Word) (xs : List X) → word_at (map f xs) (length xs) ≡ []
past-end f [] = refl
past-end f (x ∷ xs) = past-end f xs
