-- The parts of a text are seen in it.
use Rattle.std.proofs.Common.{◌≡◌, ◌∙◌, ℕ, zero, suc, ◌+◌, List, [], ◌∷◌, drop, Some, slice_get, Contains, sym, ap, subst, arith}
use Rattle.std.proofs.lemmas.Option.{slice_get_within, get_or_from_slice_get}
use Rattle.text_forms.specs.Placed.{level, parts_at}
use Rattle.text_forms.specs.Tokens.{Lexeme, opens, closes, spells, lexemes}
use Rattle.text_forms.proofs.Letters.{from_drop}
use Rattle.text_values.specs.form_spellings.Places.{as_written, IsWordAt, OpensWith, IsNameAt}
use Rattle.text_values.proofs.form_spellings.Facts.{Facts, Fronted, AllSeen}
use Rattle.text_values.proofs.form_spellings.KeptWords.{name_stands}
use Rattle.text_values.proofs.form_spellings.TermsBound.{word_stands}

abbrev pub of_text : List ℕ → Facts
of_text text = record {
  Seen = IsWordAt text;
  Opens = OpensWith text;
  Is = IsNameAt text;
  holds = λ names table variable at w k s. (name_stands names w table k, subst (λ w. IsWordAt text at (as_written variable w)) (sym (word_stands names w table k)) s);
}

-- a list from a place on
abbrev From : {X : Type 0} → List X → ℕ → List X → Type 0
From all n xs = (i : ℕ) → slice_get all (n + i) ≡ slice_get xs i

from_next : {X : Type 0} (all : List X) (n : ℕ) (x : X) (xs : List X) → From all n (x ∷ xs) → From all (suc n) xs
from_next all n x xs h i = let e : suc n + i ≡ n + suc i = omega arith in ap (slice_get all) e ∙ h (suc i)

contains : {X : Type 0} (xs : List X) (k : ℕ) (x : X) → slice_get xs k ≡ Some x → Contains xs x
contains xs k x e = (k, slice_get_within xs k x e, get_or_from_slice_get xs k x x e)

module _ (text : List ℕ) where
  first_of : (n : ℕ) (t : Lexeme) (ts : List Lexeme) → From (lexemes text) n (t ∷ ts) → slice_get (lexemes text) n ≡ Some t
  first_of n t ts h = let e : n ≡ n + 0 = omega arith in ap (slice_get (lexemes text)) e ∙ h 0

  fronted : (at n : ℕ) (ts : List Lexeme) → From (lexemes text) n (opens at ∷ ts) → Fronted (of_text text) at (level zero ts)
  fronted at n [] h = tt
  fronted at n (closes b ∷ ts) h = tt
  fronted at n (opens b ∷ ts) h = tt
  fronted at n (spells b w ∷ ts) h = (n, first_of n (opens at) (spells b w ∷ ts) h, h 1)

  seen_from : (k n : ℕ) (ts : List Lexeme) → From (lexemes text) n ts → AllSeen (of_text text) (level k ts)
  seen_from k n [] h = tt
  seen_from zero n (closes at ∷ ts) h = tt
  seen_from (suc k) n (closes at ∷ ts) h = seen_from k (suc n) ts (from_next (lexemes text) n (closes at) ts h)
  seen_from zero n (spells at w ∷ ts) h = (contains (lexemes text) n (spells at w) (first_of n (spells at w) ts h), seen_from zero (suc n) ts (from_next (lexemes text) n (spells at w) ts h))
  seen_from (suc k) n (spells at w ∷ ts) h = seen_from (suc k) (suc n) ts (from_next (lexemes text) n (spells at w) ts h)
  seen_from zero n (opens at ∷ ts) h = let next = from_next (lexemes text) n (opens at) ts h in (fronted at n ts h, seen_from zero (suc n) ts next, seen_from (suc zero) (suc n) ts next)
  seen_from (suc k) n (opens at ∷ ts) h = seen_from (suc (suc k)) (suc n) ts (from_next (lexemes text) n (opens at) ts h)

  pub text_seen : (i : ℕ) → AllSeen (of_text text) (parts_at text i)
  text_seen i = seen_from 0 i (drop i (lexemes text)) (from_drop i (lexemes text))
