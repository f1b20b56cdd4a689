-- Subtasks and orderings of small texts, with their places.
use Rattle.std.proofs.Common.{◌≡◌, ℕ, zero, suc, ◌<◌, Bool, true, false, List, [], ◌∷◌, length, codes, Ok, Some, None, slice_index_or, Contains, refl, arith}
use Rattle.text_forms.specs.Placed.{parts_at}
use Rattle.text_forms.specs.Tokens.{Lexeme, spells, lexemes}
use Rattle.gd_reader.specs.declared.term.RawTerm.{RawTerm}
use Rattle.gd_reader.specs.Answers.{word_due, end_due}
use Rattle.gd_reader.specs.Terms.{Names, used, terms, term, applied}
use Rattle.gd_reader.specs.Words.{sort_of}
use Rattle.hddl_reader.specs.declared.networks.RawSub.{RawSub}
use Rattle.hddl_reader.specs.Networks.{declared, behind_name, sub_headed, sign_due, name_due, then_due, pair_headed, some_of}
use Rattle.text_values.specs.form_spellings.EachPart.{OfSub}
use Rattle.text_values.specs.form_spellings.Places.{OpensWith, IsNameAt}

abbrev term_at : ℕ → Bool → ℕ → RawTerm
term_at n variable at = record { name = record { number = n }; variable = variable; at = at }

-- a is the id of the first; the second has none
abbrev text : List ℕ
text = codes "(and (a (go ?x)) (GO k))"

abbrev table : Names
table = codes "a" ∷ codes "go" ∷ codes "x" ∷ codes "k" ∷ []

abbrev first : RawSub
first = record { id = Some (term_at 0 false 6); atom = record { head = term_at 1 false 9; args = term_at 2 true 12 ∷ [] }; at = 5 }

abbrev second : RawSub
second = record { id = None; atom = record { head = term_at 1 false 18; args = term_at 3 false 21 ∷ [] }; at = 17 }

row_subs : some_of sub_headed [] 0 (parts_at text 1) ≡ Ok (first ∷ second ∷ [], table)
unfolding some_of sub_headed declared behind_name applied terms term used word_due end_due sort_of
row_subs = refl

contains : (t : Lexeme) (k : ℕ) → k < length (lexemes text) → slice_index_or (lexemes text) k t ≡ t → Contains (lexemes text) t
contains t k few e = (k, few, e)

row_first : OfSub (IsNameAt text table) (OpensWith text) first
row_first = record {
  id = (omega arith, contains (spells 6 (codes "a")) 3 (omega arith) refl);
  atom = ((omega arith, contains (spells 9 (codes "go")) 5 (omega arith) refl), ((omega arith, contains (spells 12 (codes "?x")) 6 (omega arith) refl), tt));
  place = (codes "a", (2, refl, refl));
}

row_second : OfSub (IsNameAt text table) (OpensWith text) second
row_second = record {
  id = tt;
  atom = ((omega arith, contains (spells 18 (codes "go")) 10 (omega arith) refl), ((omega arith, contains (spells 21 (codes "k")) 11 (omega arith) refl), tt));
  place = (codes "go", (9, refl, refl));
}

-- with the sign behind the first name, and in front of it
abbrev between : List ℕ
between = codes "(a < b)"

row_between : some_of pair_headed [] 0 (parts_at between 1) ≡ Ok (record { first = term_at 0 false 1; then = term_at 1 false 5; at = 0 } ∷ [], codes "a" ∷ codes "b" ∷ [])
unfolding some_of pair_headed sign_due name_due then_due used word_due end_due sort_of
row_between = refl

row_opens_name : OpensWith between 0 1 (codes "a")
row_opens_name = (0, refl, refl)

abbrev in_front : List ℕ
in_front = codes "(< a b)"

row_in_front : some_of pair_headed [] 0 (parts_at in_front 1) ≡ Ok (record { first = term_at 0 false 3; then = term_at 1 false 5; at = 0 } ∷ [], codes "a" ∷ codes "b" ∷ [])
unfolding some_of pair_headed sign_due name_due then_due used word_due end_due sort_of
row_in_front = refl

row_opens_sign : OpensWith in_front 0 1 (codes "<")
row_opens_sign = (0, refl, refl)

-- a word without its question mark isn't where a variable is written
abbrev unmarked : List ℕ
unmarked = codes "(p x)"

row_unmarked : IsNameAt unmarked (codes "x" ∷ []) true 3 (record { number = 0 }) → ⊥
row_unmarked h = go h.1.0 h.1.1 h.1.2
  where
    go : (k : ℕ) → k < 4 → slice_index_or (lexemes unmarked) k (spells 3 (codes "?x")) ≡ spells 3 (codes "?x") → ⊥
    go zero few e = cc
    go (suc zero) few e = cc
    go (suc (suc zero)) few e = cc
    go (suc (suc (suc zero))) few e = cc
    go (suc (suc (suc (suc k)))) few e = absurd (omega arith)
