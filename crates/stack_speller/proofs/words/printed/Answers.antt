use Rattle.std.proofs.Common.{ℕ, zero, suc, ◌≡◌, List, [], ◌∷◌, map, Some, None, slice_get, slice_index_or, ap, sym, refl, ◌∙◌}
use Rattle.htn_base.specs.Escapes.{escaped}
use Rattle.stack_speller.proofs.words.printed.Goals as goal

-- the word that stands for a name in the list of printed words is the printed word
looked : (names : List (List ℕ)) (n : ℕ) (word : List ℕ) → slice_get (map escaped names) n ≡ Some word
    → word ≡ escaped (slice_index_or names n [])
looked [] n word e = absurd cc
looked (x ∷ names) zero word e = cc
looked (x ∷ names) (suc n) word e = looked names n word e

-- where there is none, it is that of the empty word
missed : (names : List (List ℕ)) (n : ℕ) → slice_get (map escaped names) n ≡ None → escaped [] ≡ escaped (slice_index_or names n [])
missed [] n e = refl
missed (x ∷ names) zero e = absurd cc
missed (x ∷ names) (suc n) e = missed names n e

pub returns-in-Some : goal.returns-in-Some
returns-in-Some c = looked c.args.c.now.hddl.names c.args.name.number _
    (ap (λ (ws : List (List ℕ)). slice_get ws c.args.name.number) (sym c.requires) ∙ sym c.in-Some.ensures.word)

pub returns-in-None : goal.returns-in-None
returns-in-None c = missed c.args.c.now.hddl.names c.args.name.number
    (ap (λ (ws : List (List ℕ)). slice_get ws c.args.name.number) (sym c.requires) ∙ sym c.in-None.ensures.word)
