-- The fault of form of a whole text, where its tokens have no fault.
use Rattle.std.proofs.Common.{◌∙◌, ◌≡◌, ℕ, zero, suc, ◌<◌, inl, inr, Bool, true, Some, None, List, [], ◌∷◌, ◌++◌, length, map, refl, sym, ap, arith, subst}
use Rattle.text_forms.specs.Faults.{Fault, fault, IsFaultless}
use Rattle.text_forms.specs.Lists.{AreMatched}
use Rattle.text_forms.specs.Placed.{Placed, cut, IsWhole, level, parts_at}
use Rattle.text_forms.specs.Tokens.{Token, Lexeme, opens, closes, spells, tokens, lexemes, lexeme, symbol, symbols}
use Rattle.text_forms.specs.Words.{Word}
use Rattle.text_forms.proofs.MatchedFaults.{matched_are_faultless}
use Rattle.text_forms.specs.form_grammar.Codes.{Form, complete, unfinished, wrong, Whole, EndsEarly, Departs}
use Rattle.text_forms.specs.form_grammar.Laws.{EndsInMark, TellsFault, TellsDefineFault, TellsPlanFault}
use Rattle.text_forms.specs.form_grammar.Rows.{Rows}
use Rattle.text_forms.specs.form_grammar.Texts.{mark_or_list, fault_or, define_form, last_word, marked_form}
use Rattle.text_forms.proofs.form_grammar.Ends.{AreClosed, EndsMarked, no_tokens, trailing_mark, early_mark}

-- matched parentheses close each list that is open in front of the tokens
open_closed : (ts : List Lexeme) (k j : ℕ) → AreMatched k (map symbol ts) → j < k → IsWhole (level j ts)
open_closed [] zero j m h = absurd (omega arith)
open_closed [] (suc k) j m h = absurd m
open_closed (opens at ∷ ts) zero j m h = absurd (omega arith)
open_closed (opens at ∷ ts) (suc k) zero m h = (open_closed ts (suc (suc k)) 0 m (omega arith), open_closed ts (suc (suc k)) 1 m (omega arith))
open_closed (opens at ∷ ts) (suc k) (suc j) m h = open_closed ts (suc (suc k)) (suc (suc j)) m (omega arith)
open_closed (closes at ∷ ts) zero j m h = absurd m
open_closed (closes at ∷ ts) (suc k) zero m h = tt
open_closed (closes at ∷ ts) (suc k) (suc j) m h = open_closed ts k j m (omega arith)
open_closed (spells at w ∷ ts) zero j m h = absurd (omega arith)
open_closed (spells at w ∷ ts) (suc k) zero m h = open_closed ts (suc k) 0 m (omega arith)
open_closed (spells at w ∷ ts) (suc k) (suc j) m h = open_closed ts (suc k) (suc j) m h

-- and those outside
outside_closed : (ts : List Lexeme) (k : ℕ) → AreMatched k (map symbol ts) → AreClosed (level k ts)
outside_closed [] zero m = tt
outside_closed [] (suc k) m = absurd m
outside_closed (opens at ∷ ts) zero m = (open_closed ts 1 0 m (omega arith), outside_closed ts 1 m)
outside_closed (opens at ∷ ts) (suc k) m = outside_closed ts (suc (suc k)) m
outside_closed (closes at ∷ ts) zero m = absurd m
outside_closed (closes at ∷ ts) (suc k) m = outside_closed ts k m
outside_closed (spells at w ∷ ts) zero m = outside_closed ts zero m
outside_closed (spells at w ∷ ts) (suc k) m = outside_closed ts (suc k) m

of_lists : (text : List ℕ) → IsFaultless text → AreMatched 0 (symbols text)
of_lists text n = (matched_are_faultless text).1 (λ f i k. n f i)

-- a text without faults of tokens has all its lists closed
all_closed : (text : List ℕ) → IsFaultless text → AreClosed (parts_at text 0)
all_closed text n = outside_closed (lexemes text) 0 (of_lists text n)

none_left : (text : List ℕ) (ts : List Token) → level 0 (map (lexeme text) ts) ≡ cut → ts ≡ []
none_left text [] e = refl
none_left text (t ∷ ts) e = absurd (some_left (lexeme text t) (map (lexeme text) ts) e)
  where
    some_left : (t : Lexeme) (ts : List Lexeme) → level 0 (t ∷ ts) ≡ cut → ⊥
    some_left (opens at) ts e = cc
    some_left (closes at) ts e = cc
    some_left (spells at w) ts e = cc

-- the tokens that a mark behind them ends
marked : (is_mark : Word → Bool) (ts : List Lexeme) (k at : ℕ) → EndsMarked is_mark (level k ts) at → (us : List Lexeme) × (w : Word) × (ts ≡ us ++ spells at w ∷ []) × (is_mark w ≡ true)
marked is_mark [] zero at e = absurd e
marked is_mark [] (suc k) at e = absurd e
marked is_mark (opens a ∷ ts) zero at e = let m = marked is_mark ts 1 at e in (opens a ∷ m.0, m.1, ap (λ us. opens a ∷ us) m.2, m.3)
marked is_mark (opens a ∷ ts) (suc k) at e = let m = marked is_mark ts (suc (suc k)) at e in (opens a ∷ m.0, m.1, ap (λ us. opens a ∷ us) m.2, m.3)
marked is_mark (closes a ∷ ts) zero at e = absurd e
marked is_mark (closes a ∷ ts) (suc k) at e = let m = marked is_mark ts k at e in (closes a ∷ m.0, m.1, ap (λ us. closes a ∷ us) m.2, m.3)
marked is_mark (spells a w ∷ ts) zero at (inl e) = ([], w, last ts e.0, e.2)
  where
    last : (ts : List Lexeme) → level 0 ts ≡ cut → spells a w ∷ ts ≡ spells at w ∷ []
    last [] f = ap (λ b. spells b w ∷ []) (sym e.1)
    last (opens b ∷ ts) f = cc
    last (closes b ∷ ts) f = cc
    last (spells b v ∷ ts) f = cc
marked is_mark (spells a w ∷ ts) zero at (inr e) = let m = marked is_mark ts 0 at e in (spells a w ∷ m.0, m.1, ap (λ us. spells a w ∷ us) m.2, m.3)
marked is_mark (spells a w ∷ ts) (suc k) at e = let m = marked is_mark ts (suc k) at e in (spells a w ∷ m.0, m.1, ap (λ us. spells a w ∷ us) m.2, m.3)

marked_by : (is_mark : Word → Bool) (ts : List Lexeme) (k at : ℕ) (w : Word) → is_mark w ≡ true → AreMatched k (map symbol (ts ++ spells at w ∷ [])) → EndsMarked is_mark (level k (ts ++ spells at w ∷ [])) at
marked_by is_mark [] zero at w e m = inl (refl, refl, e)
marked_by is_mark [] (suc k) at w e m = absurd m
marked_by is_mark (opens a ∷ ts) zero at w e m = marked_by is_mark ts 1 at w e m
marked_by is_mark (opens a ∷ ts) (suc k) at w e m = marked_by is_mark ts (suc (suc k)) at w e m
marked_by is_mark (closes a ∷ ts) zero at w e m = absurd m
marked_by is_mark (closes a ∷ ts) (suc k) at w e m = marked_by is_mark ts k at w e m
marked_by is_mark (spells a v ∷ ts) zero at w e m = inr (marked_by is_mark ts zero at w e m)
marked_by is_mark (spells a v ∷ ts) (suc k) at w e m = marked_by is_mark ts (suc k) at w e m

none_told : (f : Form) (e : Fault) → fault_or e f ≡ None → Whole f
none_told complete e h = tt
none_told unfinished e h = absurd cc
none_told (wrong code at) e h = absurd cc

told_none : (f : Form) (e : Fault) → Whole f → fault_or e f ≡ None
told_none complete e w = refl
told_none unfinished e w = absurd w
told_none (wrong code at) e w = absurd w

told_departs : (f : Form) (e : Fault) (code at : ℕ) → Departs f code at → fault_or e f ≡ Some (fault code at)
told_departs complete e code at d = absurd d
told_departs unfinished e code at d = absurd d
told_departs (wrong c a) e code at d = λ i. Some (fault (sym d.0 i) (sym d.1 i))

told : (form : Placed → Form) (text : List ℕ) (e : Fault) → TellsFault form text (fault_or e (form (parts_at text 0)))
told form text e = record {
  none = (none_told (form (parts_at text 0)) e, told_none (form (parts_at text 0)) e);
  departs = told_departs (form (parts_at text 0)) e;
}

early_told : (f : Form) (e : Fault) → EndsEarly f → fault_or e f ≡ Some e
early_told complete e n = absurd n
early_told unfinished e n = refl
early_told (wrong code at) e n = absurd n

of_mark : (is_mark : Word → Bool) (text : List ℕ) (at : ℕ) → EndsInMark is_mark text at → IsFaultless text → EndsMarked is_mark (parts_at text 0) at
of_mark is_mark text at m n =
    subst (λ ts. EndsMarked is_mark (level 0 ts) at) (sym m.2) (marked_by is_mark m.0 0 at m.1 m.3 (subst (λ ts. AreMatched 0 (map symbol ts)) m.2 (of_lists text n)))

module _ {X : Type 0} (rows : Rows X) (inside : X) where
  pub define_told : (text : List ℕ) → IsFaultless text → TellsDefineFault rows inside text
  define_told text n = record {
    of_form = told (define_form rows inside) text (fault 5 (length text));
    no_tokens = λ e. ap (λ ts. fault_or (fault 5 (length text)) (define_form rows inside (level 0 (map (lexeme text) ts)))) e;
    early = λ b. none_left text (tokens text) (no_tokens rows (parts_at text 0) 5 inside (all_closed text n) b);
  }

  pub plan_told : (is_mark : Word → Bool) (text : List ℕ) → IsFaultless text → TellsPlanFault rows inside is_mark text
  plan_told is_mark text n = record {
    of_form = told (marked_form rows inside is_mark) text (fault 8 (last_word 0 (parts_at text 0)));
    trailing_mark = λ at m b. let e = early_mark rows (parts_at text 0) is_mark inside 0 at mark_or_list (all_closed text n) (of_mark is_mark text at m n) b in
        early_told (marked_form rows inside is_mark (parts_at text 0)) (fault 8 (last_word 0 (parts_at text 0))) e.0 ∙ ap (λ a. Some (fault 8 a)) e.1;
    early = λ b. (last_word 0 (parts_at text 0), marked is_mark (lexemes text) 0 (last_word 0 (parts_at text 0)) (trailing_mark rows (parts_at text 0) is_mark inside 0 (all_closed text n) b));
  }
