-- Behind a list that stands in a list.
use Rattle.std.proofs.Common.{◌≡◌, ℕ, zero, suc, ◌+◌, drop, map, Option, Some, None, List, [], ◌∷◌, refl, sym, ◌∙◌, ap, subst, arith}
use Rattle.std.specs.Prelude.{slice_get}
use Rattle.std.proofs.lemmas.List.{drop-map, drop-drop}
use Rattle.text_forms.specs.Closing.{close_by, close_after, close_of}
use Rattle.text_forms.specs.Laws.{ShowsBy}
use Rattle.text_forms.specs.Placed.{level}
use Rattle.text_forms.specs.Tokens.{Kind, Token, Lexeme, tokens, lexeme_by, letters_of, lexeme, lexemes}
use Rattle.text_forms.specs.Tokens as kinds
use Rattle.text_forms.proofs.Shown.{shown, drop_get, closes_get}
use Rattle.gd_reader.specs.Shown.{IsList, IsListTo}
use Rattle.gd_reader.specs.ShownFrom.{behind_at}

-- Of the lists that are open in front of these tokens, the first of which has number j, token c closes all but k.
abbrev ClosesAllBut : ℕ → ℕ → ℕ → List Lexeme → Type 0
ClosesAllBut d j c ls = (n : ℕ) × (c ≡ j + n) × ((k : ℕ) → level k (drop (suc n) ls) ≡ level (suc (k + d)) ls)

closes_all_but : (text : List ℕ) (ps : List Token) (d j c : ℕ) → close_after d j ps ≡ Some c → ClosesAllBut d j c (map (lexeme text) ps)
closes_all_but text [] d j c h = cc
closes_all_but text (p ∷ ps) d j c h = by_kind p.kind d h (λ e h'. closes_all_but text ps e (j + 1) c h')
  where
    same : (m n : ℕ) → m ≡ n → level m (map (lexeme text) ps) ≡ level n (map (lexeme text) ps)
    same m n e = ap (λ o. level o (map (lexeme text) ps)) e

    by_kind : (kind : Kind) (d : ℕ) → close_by kind d j (λ e. close_after e (j + 1) ps) ≡ Some c
        → ((e : ℕ) → close_after e (j + 1) ps ≡ Some c → ClosesAllBut e (j + 1) c (map (lexeme text) ps))
        → ClosesAllBut d j c (lexeme_by kind p.first (letters_of text p) ∷ map (lexeme text) ps)
    by_kind kinds.word d h more = let r = more d h in (suc r.0, (let n = r.1 in omega arith), λ k. r.2 k)
    by_kind kinds.start d h more =
        let r = more (suc d) h in
        (suc r.0, (let n = r.1 in omega arith), λ k. r.2 k ∙ same (suc (k + suc d)) (suc (suc (k + d))) (omega arith))
    by_kind kinds.stop zero h more =
        (0, (let here : j ≡ c = cc in omega arith), λ k. same k (k + 0) (omega arith))
    by_kind kinds.stop (suc d) h more =
        let r = more d h in
        (suc r.0, (let n = r.1 in omega arith), λ k. r.2 k ∙ same (suc (k + d)) (k + suc d) (omega arith))

behind_one : (text : List ℕ) (i at inside behind : ℕ) → IsList text i at inside behind → behind_at text behind ≡ behind_at text i
behind_one text i at inside behind l = by_token (slice_get (tokens text) i) refl
  where
    by_kind : (kind : Kind) (p : Token) → close_of kind (0 + i) (drop (suc i) (tokens text)) ≡ Some l.closing
        → behind_at text behind ≡ level 1 (lexeme_by kind p.first (letters_of text p) ∷ drop (suc i) (lexemes text))
    by_kind kinds.stop p h = cc
    by_kind kinds.word p h = cc
    by_kind kinds.start p h =
        let r = closes_all_but text (drop (suc i) (tokens text)) 0 (0 + i + 1) l.closing h in
        let n : behind ≡ suc i + suc r.0 = (let next = l.next in let closing = r.1 in omega arith) in
        ap (λ k. level 1 (drop k (lexemes text))) n
        ∙ sym (ap (level 1) (drop-drop (suc r.0) (suc i) (lexemes text)))
        ∙ ap (λ ls. level 1 (drop (suc r.0) ls)) (drop-map (lexeme text) (suc i) (tokens text))
        ∙ r.2 1
        ∙ sym (ap (level 2) (drop-map (lexeme text) (suc i) (tokens text)))

    by_token : (o : Option Token) → slice_get (tokens text) i ≡ o → behind_at text behind ≡ behind_at text i
    by_token None h = let parts = l.parts in let none = subst (ShowsBy text i) h (shown text i) in cc
    by_token (Some p) h =
        by_kind p.kind p (sym (closes_get (tokens text) 0 i p h) ∙ l.closed)
        ∙ sym (ap (level 1) (drop_get (lexeme text) (tokens text) i p h).1)

pub behind_list : (text : List ℕ) (i inside behind : ℕ) → IsListTo text i inside behind → behind_at text behind ≡ behind_at text i
behind_list text i inside behind l = behind_one text i l.0 inside behind l.1
