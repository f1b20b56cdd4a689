-- A list whose offsets rise and lie in a text has at most as many items as the text has bytes.
use Rattle.std.proofs.Common.{ℕ, suc, ◌<◌, ◌≤◌, ◌+◌, inl, inr, List, [], ◌∷◌, map, length, get_or, subst, arith}
use Rattle.std.proofs.lemmas.List.{length-map}
use Rattle.text_forms.specs.Tokens.{Lexeme, spells, lexemes}
use Rattle.text_forms.specs.Words.{Word}
use Rattle.plan_texts.specs.Types.{EachIs}
use Rattle.text_values.specs.form_spellings.Places.{IsWordAt}
use Rattle.text_values.specs.form_spellings.Rising.{Rise}
use Rattle.text_values.proofs.form_spellings.order.Spans.{AreRising, place, text_rises}
use Rattle.htn_base.specs.Lists.{Has}
use Rattle.text_values.proofs.form_spellings.binding_laws.Numbered.{contains_has}
use Rattle.text_values.proofs.form_spellings.binding_laws.Ones.{each_mapped}

few : (from : ℕ) (ts : List Lexeme) (to : ℕ) → AreRising from ts to → from ≤ to
few from [] to r = r
few from (t ∷ ts) to r = let a = r.0 in let b = few (suc (place t)) ts to r.1 in omega arith

below : (from : ℕ) (ts : List Lexeme) (to : ℕ) → AreRising from ts to → (t : Lexeme) → Has ts t → place t < to
below from [] to r t h = absurd h
below from (x ∷ ts) to r t (inl e) = subst (λ (z : Lexeme). place z < to) e (few (suc (place x)) ts to r.1)
below from (x ∷ ts) to r t (inr h) = below (suc (place x)) ts to r.1 t h

-- the offset of a word lies in its text
pub word_within : (text : List ℕ) (at : ℕ) (w : Word) → IsWordAt text at w → at < length text
word_within text at w c = below 0 (lexemes text) (length text) (text_rises text) (spells at w) (contains_has (lexemes text) (spells at w) c)

each_above : (x : ℕ) (hi : ℕ) (xs : List ℕ) → ((j d : ℕ) → j < length xs → x < get_or xs j d) → EachIs (λ k. k < hi) xs → EachIs (λ k. (suc x ≤ k) × (k < hi)) xs
each_above x hi [] p e = tt
each_above x hi (k ∷ xs) p e = ((p 0 0 (omega arith), e.0), each_above x hi xs (λ j d l. p (suc j) d (omega arith)) e.1)

only_below : (lo hi : ℕ) (xs : List ℕ) → EachIs (λ k. (lo ≤ k) × (k < hi)) xs → EachIs (λ k. k < hi) xs
only_below lo hi [] e = tt
only_below lo hi (k ∷ xs) e = (e.0.1, only_below lo hi xs e.1)

room : (lo hi : ℕ) (xs : List ℕ) → lo ≤ hi → EachIs (λ k. (lo ≤ k) × (k < hi)) xs → Rise xs → length xs + lo ≤ hi
room lo hi [] l e p = omega arith
room lo hi (x ∷ xs) l e p =
    let a = e.0.0 in
    let b = e.0.1 in
    let more = room (suc x) hi xs (omega arith) (each_above x hi xs (λ j d l. p 0 (suc j) d (omega arith) (omega arith)) (only_below lo hi xs e.1)) (λ i j d l m. p (suc i) (suc j) d (omega arith) (omega arith)) in
    omega arith

from_start : (hi : ℕ) (xs : List ℕ) → EachIs (λ k. k < hi) xs → EachIs (λ k. (0 ≤ k) × (k < hi)) xs
from_start hi [] e = tt
from_start hi (x ∷ xs) e = ((omega arith, e.0), from_start hi xs e.1)

pub few_items : {X : Type 0} (at : X → ℕ) (xs : List X) (hi : ℕ) → EachIs (λ x. at x < hi) xs → Rise (map at xs) → length xs ≤ hi
few_items at xs hi e p =
    let l = room 0 hi (map at xs) (omega arith) (from_start hi (map at xs) (each_mapped at (λ k. k < hi) xs e)) p in
    let m = length-map xs at in
    omega arith
