-- What is drawn once for all words that may stand in the places of a variable: a text for each word.
-- Source: this project's.
use Rattle.std.specs.Prelude.{ℕ, ◌≡◌, true, List, [], ◌++◌}
use Rattle.pddl_printer.specs.declared.stencil.Stencil.{Stencil}
use Rattle.pddl_printer.specs.Behind.{of_each}

-- the laws of what draws, where a text is drawn with a word, from one state to the next: nothing is drawn in place, and what is drawn one
-- after another is drawn as one
abbrev pub Nothing : {S : Type 0} → ((List ℕ → List ℕ) → List ℕ → S → S → Type 0) → Type 0
Nothing {S} draws = (word : List ℕ) (s : S) → draws (λ _. []) word s s

abbrev pub Composes : {S : Type 0} → ((List ℕ → List ℕ) → List ℕ → S → S → Type 0) → Type 0
Composes {S} draws = (f g : List ℕ → List ℕ) (word : List ℕ) (s t u : S) → draws f word s t → draws g word t u → draws (λ w. f w ++ g w) word s u

-- what stands on a stencil, with the word in each place
abbrev pub shown : Stencil → List ℕ → List ℕ
shown s word = of_each (λ piece. piece.items ++ word) s.before.items ++ s.behind.items

-- all that was drawn stands on a stencil, with one place: this before it, and that behind
pub record AreSides (s : Stencil) (before behind : List ℕ) : Type 0 where
  pub fits : s.fits ≡ true
  pub around : (word : List ℕ) → shown s word ≡ before ++ (word ++ behind)

-- a text is drawn on a stencil; or it does not fit
abbrev pub Shows : (List ℕ → List ℕ) → Stencil → Stencil → Type 0
Shows text old new = new.fits ≡ true → (old.fits ≡ true) × ((word : List ℕ) → shown new word ≡ shown old word ++ text word)
