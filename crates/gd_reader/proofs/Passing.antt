-- What is whole is passed over.
use Rattle.std.proofs.Common.{◌≡◌, ℕ, zero, suc, ◌+◌, ◌≤◌, Ok, Some, List, [], ◌∷◌, map, refl, ◌∙◌, ap, arith}
use Rattle.text_forms.specs.Closing.{close_by, close_after}
use Rattle.text_forms.specs.Placed.{Placed, cut, close, word, list, level, IsWhole}
use Rattle.text_forms.specs.Tokens.{Kind, Token, lexeme, lexeme_by, letters_of}
use Rattle.text_forms.specs.Tokens as tokens
use Rattle.gd_reader.specs.Answers.{◌>>=◌, passed}

pub passed_whole : (p : Placed) → IsWhole p → passed p ≡ Ok tt
unfolding passed
passed_whole cut h = absurd h
passed_whole (close at) h = refl
passed_whole (word at w p) h = passed_whole p h
passed_whole (list at p q) h = ap (λ r. r >>= (λ _. passed q)) (passed_whole p h.0) ∙ passed_whole q h.1

pub passed_list : (at : ℕ) (p q : Placed) → IsWhole p → passed (list at p q) ≡ passed q
unfolding passed
passed_list at p q h = ap (λ r. r >>= (λ _. passed q)) (passed_whole p h)

pub passed_word : (at : ℕ) (w : List ℕ) (p : Placed) → passed (word at w p) ≡ passed p
unfolding passed
passed_word at w p = refl

-- up to the token that closes a list there is no end of the tokens: d lists are open in it in front of these tokens
pub whole_levels : (text : List ℕ) (ps : List Token) (d e j c : ℕ) → e ≤ d → close_after d j ps ≡ Some c → IsWhole (level e (map (lexeme text) ps))
whole_levels text [] d e j c le h = cc
whole_levels text (p ∷ ps) d e j c le h = by_kind p.kind d e le h
    (λ d' e' le' h'. whole_levels text ps d' e' (j + 1) c le' h')
  where
    by_kind : (kind : Kind) (d e : ℕ) → e ≤ d → close_by kind d j (λ f. close_after f (j + 1) ps) ≡ Some c
        → ((d' e' : ℕ) → e' ≤ d' → close_after d' (j + 1) ps ≡ Some c → IsWhole (level e' (map (lexeme text) ps)))
        → IsWhole (level e (lexeme_by kind p.first (letters_of text p) ∷ map (lexeme text) ps))
    by_kind tokens.word d zero le h more = more d zero le h
    by_kind tokens.word d (suc e) le h more = more d (suc e) le h
    by_kind tokens.start d zero le h more = (more (suc d) zero (omega arith) h, more (suc d) (suc zero) (omega arith) h)
    by_kind tokens.start d (suc e) le h more = more (suc d) (suc (suc e)) (omega arith) h
    by_kind tokens.stop zero zero le h more = tt
    by_kind tokens.stop zero (suc e) le h more = absurd (omega arith)
    by_kind tokens.stop (suc d) zero le h more = tt
    by_kind tokens.stop (suc d) (suc e) le h more = more d e (omega arith) h
