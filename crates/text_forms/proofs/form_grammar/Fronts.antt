-- Tokens that begin a text can go on to a whole one, where all that may be due can be made whole.
use Rattle.std.proofs.Common.{◌≡◌, ℕ, suc, Bool, true, false, if◌then◌else◌, Option, None, List, [], ◌∷◌, ◌++◌, refl, sym, ◌∙◌, ap, subst}
use Rattle.text_forms.specs.Placed.{Placed, cut, close, word, list, IsWhole, level}
use Rattle.text_forms.specs.Tokens.{Lexeme, opens, closes, spells}
use Rattle.text_forms.specs.Words.{Word}
use Rattle.text_forms.specs.form_grammar.Codes.{Form, complete, unfinished, wrong, Whole, Begins, ◌followed_by◌}
use Rattle.text_forms.specs.form_grammar.Laws.{BeginsWhatCanBeWhole}
use Rattle.text_forms.specs.form_grammar.Rows.{Next, go, stop, Inner, Rows, form, closed, front}
use Rattle.text_forms.specs.form_grammar.Texts.{TextRows, text_form}
use Rattle.text_forms.proofs.form_grammar.Meaning.{then_whole, form_whole}

-- the tokens of a list up to its closing parenthesis, and others behind them
abbrev pub tokens_of : Placed → List Lexeme → List Lexeme
tokens_of cut ts = ts
tokens_of (close at) ts = closes at ∷ ts
tokens_of (word at w p) ts = spells at w ∷ tokens_of p ts
tokens_of (list at p q) ts = opens at ∷ tokens_of p (tokens_of q ts)

level_behind : (p : Placed) (k : ℕ) (ts : List Lexeme) → IsWhole p → level (suc k) (tokens_of p ts) ≡ level k ts
level_behind cut k ts w = absurd w
level_behind (close at) k ts w = refl
level_behind (word at v p) k ts w = level_behind p k ts w
level_behind (list at p q) k ts w = level_behind p (suc k) (tokens_of q ts) w.0 ∙ level_behind q k ts w.1

level_inside : (p : Placed) (ts : List Lexeme) → IsWhole p → level 0 (tokens_of p ts) ≡ p
level_inside cut ts w = absurd w
level_inside (close at) ts w = refl
level_inside (word at v p) ts w = ap (word at v) (level_inside p ts w)
level_inside (list at p q) ts w =
    ap (λ r. list at r (level 1 (tokens_of p (tokens_of q ts)))) (level_inside p (tokens_of q ts) w.0)
    ∙ ap (list at p) (level_behind p 0 (tokens_of q ts) w.0 ∙ level_inside q ts w.1)

-- the front of a list is there as soon as one token is
front_same : (x : Lexeme) (ts us : List Lexeme) → front (level 0 (x ∷ ts)) ≡ front (level 0 ((x ∷ ts) ++ us))
front_same (opens at) ts us = refl
front_same (closes at) ts us = refl
front_same (spells at w) ts us = refl

-- where the list begins with what is chosen for it
from_front : (f : Option Word → List Lexeme → Form) (q : Placed) → ((us : List Lexeme) × (level 0 us ≡ q) × Whole (f (front q) us)) → (us : List Lexeme) × Whole (f (front (level 0 us)) us)
from_front f q r = (r.0, subst (λ p. Whole (f (front p) r.0)) (sym r.1) r.2)

-- where the list has a token already
with_front : (f : Option Word → List Lexeme → Form) (x : Lexeme) (ts : List Lexeme) → ((us : List Lexeme) × Whole (f (front (level 0 (x ∷ ts))) ((x ∷ ts) ++ us)))
    → (us : List Lexeme) × Whole (f (front (level 0 ((x ∷ ts) ++ us))) ((x ∷ ts) ++ us))
with_front f x ts r = (r.0, subst (λ o. Whole (f o ((x ∷ ts) ++ r.0))) (front_same x ts r.0) r.1)

then_assoc : (a b c : Form) → (a followed_by b) followed_by c ≡ a followed_by (b followed_by c)
then_assoc complete b c = refl
then_assoc unfinished b c = refl
then_assoc (wrong code at) b c = refl

-- a token at a place either may come, and the form goes on, or departs
abbrev chosen : {N : Type 0} → Next N → ℕ → (N → Form) → Form
chosen (go x) at f = f x
chosen (stop code) at f = wrong code at

chosen_then : {N : Type 0} (n : Next N) (at : ℕ) (f : N → Form) (b : Form) → (chosen n at f) followed_by b ≡ chosen n at (λ x. f x followed_by b)
chosen_then (go x) at f b = refl
chosen_then (stop code) at f b = refl

chosen_same : {N : Type 0} (n : Next N) (at : ℕ) (f g : N → Form) → ((x : N) → f x ≡ g x) → chosen n at f ≡ chosen n at g
chosen_same (go x) at f g h = h x
chosen_same (stop code) at f g h = refl

chosen_more : {N : Type 0} (n : Next N) (at : ℕ) (f : N → Form) (g : List Lexeme → N → Form) → Begins (chosen n at f) → ((x : N) → n ≡ go x → Begins (f x) → (us : List Lexeme) × Whole (g us x))
    → (us : List Lexeme) × Whole (chosen n at (g us))
chosen_more (go x) at f g b h = h x refl b
chosen_more (stop code) at f g b h = absurd b

chosen_fewer : {N : Type 0} (n : Next N) (at : ℕ) (f g : N → Form) → Begins (chosen n at g) → ((x : N) → Begins (g x) → Begins (f x)) → Begins (chosen n at f)
chosen_fewer (go x) at f g b h = h x b
chosen_fewer (stop code) at f g b h = absurd b

module _ {X T : Type 0} (rows : Rows X) (texts : TextRows X T) where
  -- the forms of the lists that are open, innermost first, and of what is outside
  abbrev rest : List X → ℕ → T → List Lexeme → Form
  rest [] k t ts = text_form rows texts t (level k ts)
  rest (d ∷ ds) k t ts = form rows d (level k ts) followed_by rest ds (suc k) t ts

  rest_close : (ds : List X) (k : ℕ) (t : T) (at : ℕ) (ts : List Lexeme) → rest ds (suc k) t (closes at ∷ ts) ≡ rest ds k t ts
  rest_close [] k t at ts = refl
  rest_close (d ∷ ds) k t at ts = ap (λ r. form rows d (level k ts) followed_by r) (rest_close ds (suc k) t at ts)

  rest_word : (ds : List X) (k : ℕ) (t : T) (at : ℕ) (w : Word) (ts : List Lexeme) → rest ds (suc k) t (spells at w ∷ ts) ≡ rest ds (suc k) t ts
  rest_word [] k t at w ts = refl
  rest_word (d ∷ ds) k t at w ts = ap (λ r. form rows d (level (suc k) ts) followed_by r) (rest_word ds (suc k) t at w ts)

  rest_open : (ds : List X) (k : ℕ) (t : T) (at : ℕ) (ts : List Lexeme) → rest ds (suc k) t (opens at ∷ ts) ≡ rest ds (suc (suc k)) t ts
  rest_open [] k t at ts = refl
  rest_open (d ∷ ds) k t at ts = ap (λ r. form rows d (level (suc (suc k)) ts) followed_by r) (rest_open ds (suc k) t at ts)

  rest_behind : (ds : List X) (k : ℕ) (t : T) (p : Placed) (ts : List Lexeme) → IsWhole p → rest ds (suc k) t (tokens_of p ts) ≡ rest ds k t ts
  rest_behind [] k t p ts w = ap (text_form rows texts t) (level_behind p k ts w)
  rest_behind (d ∷ ds) k t p ts w = λ i. (form rows d (level_behind p k ts w i)) followed_by (rest_behind ds (suc k) t p ts w i)

  -- one token
  at_close : (d : X) (ds : List X) (t : T) (at : ℕ) (ts : List Lexeme) → rest (d ∷ ds) 0 t (closes at ∷ ts) ≡ chosen (rows d).at_close at (λ _. rest ds 0 t ts)
  at_close d ds t at ts = ap (λ r. closed (rows d).at_close at followed_by r) (rest_close ds 0 t at ts) ∙ by_close (rows d).at_close
    where
      by_close : (n : Next (Unit {0})) → closed n at followed_by rest ds 0 t ts ≡ chosen n at (λ _. rest ds 0 t ts)
      by_close (go x) = refl
      by_close (stop code) = refl

  at_word : (d : X) (ds : List X) (t : T) (at : ℕ) (w : Word) (ts : List Lexeme) → rest (d ∷ ds) 0 t (spells at w ∷ ts) ≡ chosen ((rows d).at_word w) at (λ x. rest (x ∷ ds) 0 t ts)
  at_word d ds t at w ts = ap (λ r. form rows d (word at w (level 0 ts)) followed_by r) (rest_word ds 0 t at w ts) ∙ by_word ((rows d).at_word w)
    where
      by_word : (n : Next X) → ◌≡◌ {A = Form} ((elim n [ go next ↦ form rows next (level 0 ts) | stop code ↦ wrong code at ]) followed_by rest ds 1 t ts) (chosen n at (λ x. rest (x ∷ ds) 0 t ts))
      by_word (go x) = refl
      by_word (stop code) = refl

  at_list : (d : X) (ds : List X) (t : T) (at : ℕ) (ts : List Lexeme) → rest (d ∷ ds) 0 t (opens at ∷ ts) ≡ chosen (rows d).at_list at (λ i. rest (i.inside ∷ i.behind (front (level 0 ts)) ∷ ds) 0 t ts)
  at_list d ds t at ts = ap (λ r. form rows d (list at (level 0 ts) (level 1 ts)) followed_by r) (rest_open ds 0 t at ts) ∙ by_list (rows d).at_list
    where
      by_list : (n : Next (Inner X)) → ◌≡◌ {A = Form} ((elim n [ go i ↦ form rows i.inside (level 0 ts) followed_by form rows (i.behind (front (level 0 ts))) (level 1 ts) | stop code ↦ wrong code at ]) followed_by rest ds 2 t ts)
          (chosen n at (λ i. rest (i.inside ∷ i.behind (front (level 0 ts)) ∷ ds) 0 t ts))
      by_list (go i) = then_assoc (form rows i.inside (level 0 ts)) (form rows (i.behind (front (level 0 ts))) (level 1 ts)) (rest ds 2 t ts)
      by_list (stop code) = refl

  word_outside : (t : T) (at : ℕ) (w : Word) (ts : List Lexeme) → rest [] 0 t (spells at w ∷ ts) ≡ chosen ((texts t).at_word w) at (λ s. rest [] 0 s ts)
  word_outside t at w ts = by_word ((texts t).at_word w)
    where
      by_word : (n : Next T) → ◌≡◌ {A = Form} (elim n [ go next ↦ text_form rows texts next (level 0 ts) | stop code ↦ wrong code at ]) (chosen n at (λ s. rest [] 0 s ts))
      by_word (go x) = refl
      by_word (stop code) = refl

  list_outside : (t : T) (at : ℕ) (ts : List Lexeme) → rest [] 0 t (opens at ∷ ts) ≡ chosen (texts t).at_list at (λ i. rest (i.0 ∷ []) 0 (i.1 (front (level 0 ts))) ts)
  list_outside t at ts = by_list (texts t).at_list
    where
      by_list : (n : Next (X × (Option Word → T))) → ◌≡◌ {A = Form} (elim n [ go i ↦ form rows i.0 (level 0 ts) followed_by text_form rows texts (i.1 (front (level 0 ts))) (level 1 ts) | stop code ↦ wrong code at ])
          (chosen n at (λ i. rest (i.0 ∷ []) 0 (i.1 (front (level 0 ts))) ts))
      by_list (go i) = refl
      by_list (stop code) = refl

  may_end_begins : (b : Bool) → Begins (if b then complete else unfinished)
  may_end_begins true = tt
  may_end_begins false = tt

  none_begins : (ds : List X) (t : T) → Begins (rest ds 0 t [])
  none_begins [] t = may_end_begins (texts t).may_end
  none_begins (d ∷ ds) t = tt

  -- prefixes of what begins begin
  fewer : (ts us : List Lexeme) (ds : List X) (t : T) → Begins (rest ds 0 t (ts ++ us)) → Begins (rest ds 0 t ts)
  fewer [] us ds t b = none_begins ds t
  fewer (closes at ∷ ts) us [] t b = absurd b
  fewer (closes at ∷ ts) us (d ∷ ds) t b =
      subst Begins (sym (at_close d ds t at ts)) (chosen_fewer (rows d).at_close at (λ _. rest ds 0 t ts) (λ _. rest ds 0 t (ts ++ us)) (subst Begins (at_close d ds t at (ts ++ us)) b) (λ x c. fewer ts us ds t c))
  fewer (spells at w ∷ ts) us [] t b =
      subst Begins (sym (word_outside t at w ts)) (chosen_fewer ((texts t).at_word w) at (λ s. rest [] 0 s ts) (λ s. rest [] 0 s (ts ++ us)) (subst Begins (word_outside t at w (ts ++ us)) b) (λ s c. fewer ts us [] s c))
  fewer (spells at w ∷ ts) us (d ∷ ds) t b =
      subst Begins (sym (at_word d ds t at w ts)) (chosen_fewer ((rows d).at_word w) at (λ x. rest (x ∷ ds) 0 t ts) (λ x. rest (x ∷ ds) 0 t (ts ++ us)) (subst Begins (at_word d ds t at w (ts ++ us)) b) (λ x c. fewer ts us (x ∷ ds) t c))
  fewer (opens at ∷ []) us [] t b =
      subst Begins (sym (list_outside t at [])) (chosen_fewer (texts t).at_list at (λ i. rest (i.0 ∷ []) 0 (i.1 None) []) (λ i. rest (i.0 ∷ []) 0 (i.1 (front (level 0 us))) us) (subst Begins (list_outside t at us) b) (λ i c. tt))
  fewer (opens at ∷ []) us (d ∷ ds) t b =
      subst Begins (sym (at_list d ds t at [])) (chosen_fewer (rows d).at_list at (λ i. rest (i.inside ∷ i.behind None ∷ ds) 0 t []) (λ i. rest (i.inside ∷ i.behind (front (level 0 us)) ∷ ds) 0 t us)
      (subst Begins (at_list d ds t at us) b) (λ i c. tt))
  fewer (opens at ∷ x ∷ ts) us [] t b =
      subst Begins (sym (list_outside t at (x ∷ ts))) (chosen_fewer (texts t).at_list at (λ i. rest (i.0 ∷ []) 0 (i.1 (front (level 0 (x ∷ ts)))) (x ∷ ts)) (λ i. rest (i.0 ∷ []) 0 (i.1 (front (level 0 ((x ∷ ts) ++ us)))) ((x ∷ ts) ++ us))
      (subst Begins (list_outside t at ((x ∷ ts) ++ us)) b) (λ i c. fewer (x ∷ ts) us (i.0 ∷ []) (i.1 (front (level 0 (x ∷ ts)))) (subst (λ o. Begins (rest (i.0 ∷ []) 0 (i.1 o) ((x ∷ ts) ++ us))) (sym (front_same x ts us)) c)))
  fewer (opens at ∷ x ∷ ts) us (d ∷ ds) t b =
      subst Begins (sym (at_list d ds t at (x ∷ ts))) (chosen_fewer (rows d).at_list at (λ i. rest (i.inside ∷ i.behind (front (level 0 (x ∷ ts))) ∷ ds) 0 t (x ∷ ts)) (λ i. rest (i.inside ∷ i.behind (front (level 0 ((x ∷ ts) ++ us))) ∷ ds) 0 t ((x ∷ ts) ++ us))
      (subst Begins (at_list d ds t at ((x ∷ ts) ++ us)) b) (λ i c. fewer (x ∷ ts) us (i.inside ∷ i.behind (front (level 0 (x ∷ ts))) ∷ ds) t (subst (λ o. Begins (rest (i.inside ∷ i.behind o ∷ ds) 0 t ((x ∷ ts) ++ us))) (sym (front_same x ts us)) c)))

  -- a whole list in front of what is whole
  pub with_list : (q : Placed) (d : X) (ds : List X) (t : T) → Whole (form rows d q) → (us : List Lexeme) × Whole (rest ds 0 t us) → (us : List Lexeme) × (level 0 us ≡ q) × Whole (rest (d ∷ ds) 0 t us)
  with_list q d ds t w r =
      let is = form_whole rows q d w in (
        tokens_of q r.0,
        level_inside q r.0 is,
        then_whole (form rows d (level 0 (tokens_of q r.0))) (rest ds 1 t (tokens_of q r.0)) (subst (λ p. Whole (form rows d p)) (sym (level_inside q r.0 is)) w) (subst Whole (sym (rest_behind ds 0 t q r.0 is)) r.1),
      )

whole_begins : (f : Form) → Whole f → Begins f
whole_begins complete w = tt
whole_begins unfinished w = absurd w
whole_begins (wrong code at) w = absurd w

-- What is due stays such that it can be made whole, and what is due outside can be.
pub record CanBeWhole {X T : Type 0} (rows : Rows X) (texts : TextRows X T) (Can : X → Type 0) : Type 0 where
  pub ends : (d : X) → Can d → (q : Placed) × Whole (form rows d q)
  pub by_word : (d : X) (w : Word) (x : X) → Can d → (rows d).at_word w ≡ go x → Can x
  pub by_list : (d : X) (i : Inner X) → Can d → (rows d).at_list ≡ go i → Can i.inside × ((o : Option Word) → Can (i.behind o))
  pub outside_ends : (t : T) → (us : List Lexeme) × Whole (text_form rows texts t (level 0 us))
  pub outside_list : (t : T) (i : X × (Option Word → T)) → (texts t).at_list ≡ go i → Can i.0

module _ {X T : Type 0} (rows : Rows X) (texts : TextRows X T) (Can : X → Type 0) (can : CanBeWhole rows texts Can) where
  abbrev AllCan : List X → Type 0
  AllCan [] = Unit {0}
  AllCan (d ∷ ds) = Can d × AllCan ds

  all_end : (ds : List X) (t : T) → AllCan ds → (us : List Lexeme) × Whole (rest rows texts ds 0 t us)
  all_end [] t c = can.outside_ends t
  all_end (d ∷ ds) t c = let e = can.ends d c.0 in let r = with_list rows texts e.0 d ds t e.1 (all_end ds t c.1) in (r.0, r.2)

  -- what begins can go on
  more : (ts : List Lexeme) (ds : List X) (t : T) → AllCan ds → Begins (rest rows texts ds 0 t ts) → (us : List Lexeme) × Whole (rest rows texts ds 0 t (ts ++ us))
  more [] ds t c b = all_end ds t c
  more (closes at ∷ ts) [] t c b = absurd b
  more (closes at ∷ ts) (d ∷ ds) t c b =
      let m = chosen_more (rows d).at_close at (λ _. rest rows texts ds 0 t ts) (λ us _. rest rows texts ds 0 t (ts ++ us)) (subst Begins (at_close rows texts d ds t at ts) b) (λ x e. more ts ds t c.1) in
      (m.0, subst Whole (sym (at_close rows texts d ds t at (ts ++ m.0))) m.1)
  more (spells at w ∷ ts) [] t c b =
      let m = chosen_more ((texts t).at_word w) at (λ s. rest rows texts [] 0 s ts) (λ us s. rest rows texts [] 0 s (ts ++ us)) (subst Begins (word_outside rows texts t at w ts) b) (λ s e. more ts [] s tt) in
      (m.0, subst Whole (sym (word_outside rows texts t at w (ts ++ m.0))) m.1)
  more (spells at w ∷ ts) (d ∷ ds) t c b =
      let m = chosen_more ((rows d).at_word w) at (λ x. rest rows texts (x ∷ ds) 0 t ts) (λ us x. rest rows texts (x ∷ ds) 0 t (ts ++ us)) (subst Begins (at_word rows texts d ds t at w ts) b) (λ x e. more ts (x ∷ ds) t (can.by_word d w x c.0 e, c.1)) in
      (m.0, subst Whole (sym (at_word rows texts d ds t at w (ts ++ m.0))) m.1)
  more (opens at ∷ []) [] t c b =
      let m = chosen_more (texts t).at_list at (λ i. rest rows texts (i.0 ∷ []) 0 (i.1 None) []) (λ us i. rest rows texts (i.0 ∷ []) 0 (i.1 (front (level 0 us))) us) (subst Begins (list_outside rows texts t at []) b)
      (λ i e f. let q = can.ends i.0 (can.outside_list t i e) in
      from_front (λ o us. rest rows texts (i.0 ∷ []) 0 (i.1 o) us) q.0 (with_list rows texts q.0 i.0 [] (i.1 (front q.0)) q.1 (can.outside_ends (i.1 (front q.0))))) in
      (m.0, subst Whole (sym (list_outside rows texts t at m.0)) m.1)
  more (opens at ∷ []) (d ∷ ds) t c b =
      let m = chosen_more (rows d).at_list at (λ i. rest rows texts (i.inside ∷ i.behind None ∷ ds) 0 t []) (λ us i. rest rows texts (i.inside ∷ i.behind (front (level 0 us)) ∷ ds) 0 t us) (subst Begins (at_list rows texts d ds t at []) b)
      (λ i e f. let g = can.by_list d i c.0 e in let q = can.ends i.inside g.0 in
      from_front (λ o us. rest rows texts (i.inside ∷ i.behind o ∷ ds) 0 t us) q.0 (with_list rows texts q.0 i.inside (i.behind (front q.0) ∷ ds) t q.1 (all_end (i.behind (front q.0) ∷ ds) t (g.1 (front q.0), c.1)))) in
      (m.0, subst Whole (sym (at_list rows texts d ds t at m.0)) m.1)
  more (opens at ∷ x ∷ ts) [] t c b =
      let m = chosen_more (texts t).at_list at (λ i. rest rows texts (i.0 ∷ []) 0 (i.1 (front (level 0 (x ∷ ts)))) (x ∷ ts)) (λ us i. rest rows texts (i.0 ∷ []) 0 (i.1 (front (level 0 ((x ∷ ts) ++ us)))) ((x ∷ ts) ++ us))
      (subst Begins (list_outside rows texts t at (x ∷ ts)) b)
      (λ i e f. with_front (λ o us. rest rows texts (i.0 ∷ []) 0 (i.1 o) us) x ts (more (x ∷ ts) (i.0 ∷ []) (i.1 (front (level 0 (x ∷ ts)))) (can.outside_list t i e, tt) f)) in
      (m.0, subst Whole (sym (list_outside rows texts t at ((x ∷ ts) ++ m.0))) m.1)
  more (opens at ∷ x ∷ ts) (d ∷ ds) t c b =
      let m = chosen_more (rows d).at_list at (λ i. rest rows texts (i.inside ∷ i.behind (front (level 0 (x ∷ ts))) ∷ ds) 0 t (x ∷ ts))
      (λ us i. rest rows texts (i.inside ∷ i.behind (front (level 0 ((x ∷ ts) ++ us))) ∷ ds) 0 t ((x ∷ ts) ++ us)) (subst Begins (at_list rows texts d ds t at (x ∷ ts)) b)
      (λ i e f. let g = can.by_list d i c.0 e in
      with_front (λ o us. rest rows texts (i.inside ∷ i.behind o ∷ ds) 0 t us) x ts (more (x ∷ ts) (i.inside ∷ i.behind (front (level 0 (x ∷ ts))) ∷ ds) t (g.0, (g.1 (front (level 0 (x ∷ ts))), c.1)) f)) in
      (m.0, subst Whole (sym (at_list rows texts d ds t at ((x ∷ ts) ++ m.0))) m.1)

  pub begins_what_can_be_whole : (t : T) → BeginsWhatCanBeWhole (text_form rows texts t)
  begins_what_can_be_whole t ts = (λ b. more ts [] t tt b, λ w. fewer rows texts ts w.0 [] t (whole_begins (text_form rows texts t (level 0 (ts ++ w.0))) w.1))
