-- The index of a text, token by token.
use Rattle.std.proofs.Common.{false, ◌≡◌, ℕ, zero, suc, ◌+◌, ◌<◌, ◌≤◌, ◌⊎◌, inl, inr, length, drop, get_or, slice_set, Some, None, List, [], ◌∷◌, ◌++◌, refl, sym, ap, ◌∙◌, subst, arith}
use Rattle.std.proofs.lemmas.List.{length_push}
use Rattle.std.specs.Prelude.{◌==◌, slice_get, IfSome}
use Rattle.text_forms.specs.Closing.{close_of, close_at}
use Rattle.text_forms.specs.Bytes.{Class, blank, opening, closing, letter, bad}
use Rattle.text_forms.specs.Faults.{innermost, but_innermost, open_after}
use Rattle.text_forms.specs.Tokens.{Kind, start, stop, word, Token, token, tokens, token_count}
use Rattle.text_forms.specs.declared.sexpr_text.index.Entry.{Entry}
use Rattle.text_forms.specs.declared.sexpr_text.index.Index.{Index}
use Rattle.text_forms.specs.declared.sexpr_text.tokens.Piece.{Piece}
use Rattle.text_forms.specs.sexpr_text.Index.{IsEntry, IsIndexOf, IsEarlyEntry, IsIndexedTo, IsEnteredTo, AreBelow, AreOpen, IsOneOf, ended, closed}
use Rattle.text_forms.specs.sexpr_text.Places.{tokens_at, tokens_by, begun, deeper, IsGoodAt, IsPassed}
use Rattle.text_forms.specs.sexpr_text.Seen.{kind_seen, piece_seen}
use Rattle.text_forms.proofs.Shown.{closes_get}
use Rattle.text_forms.proofs.sexpr_text.Numbered.{drop_next, drop_nil, pushed, close_of_here}
use Rattle.text_forms.proofs.sexpr_text.Passed.{deep_passed, closes_one}

below_more : (n : ℕ) (js : List ℕ) → AreBelow n js → AreBelow (n + 1) js
below_more n [] b = tt
below_more n (j ∷ js) b = let l = b.0 in (omega arith, below_more n js b.1)

-- over a word, a list that begins, and a list that ends
open_word : (text : List ℕ) (d i first behind : ℕ) (ts : List Token) (js : List ℕ) → AreOpen text d i (token word first behind ∷ ts) js → AreOpen text d (i + 1) ts js
open_word text d i first behind ts [] o = tt
open_word text d i first behind ts (j ∷ js) o = (o.0, open_word text (suc d) i first behind ts js o.1)

open_start : (text : List ℕ) (d i first behind : ℕ) (ts : List Token) (js : List ℕ) → AreOpen text d i (token start first behind ∷ ts) js → AreOpen text (suc d) (i + 1) ts js
open_start text d i first behind ts [] o = tt
open_start text d i first behind ts (j ∷ js) o = (o.0, open_start text (suc d) i first behind ts js o.1)

open_stop : (text : List ℕ) (d i first behind : ℕ) (ts : List Token) (js : List ℕ) → AreOpen text (suc d) i (token stop first behind ∷ ts) js → AreOpen text d (i + 1) ts js
open_stop text d i first behind ts [] o = tt
open_stop text d i first behind ts (j ∷ js) o = (o.0, open_stop text (suc d) i first behind ts js o.1)

-- what is open at the end is not closed
open_none : (text : List ℕ) (d i j : ℕ) (js : List ℕ) → AreOpen text d i [] js → IsOneOf j js → close_at text j ≡ None
open_none text d i j [] o h = absurd h
open_none text d i j (k ∷ js) o (inl h) = ap (close_at text) h ∙ o.0
open_none text d i j (k ∷ js) o (inr h) = open_none text (suc d) i j js o.1 h

pub begin : (text : List ℕ) → IsIndexedTo text 0 [] []
begin text = record { number = omega arith; here = refl; each = λ i e g. cc; below = tt; still_open = tt }

pub finish : (text : List ℕ) (at : ℕ) (index : Index) (opens : List ℕ) → tokens_at text at ≡ [] → IsIndexedTo text at index.entries.items opens → IsIndexOf text index
finish text at index opens e h = record {
  count = let few = h.number in let all = drop_nil (length index.entries.items) (tokens text) (h.here ∙ e) in omega arith;
  each = λ i x g. known i x (h.each i x g);
}
  where
    known : (i : ℕ) (x : Entry) → IsEarlyEntry text opens i x → IsEntry text i x
    known i x y = record {
      token = y.token;
      stands = y.stands;
      begins = y.begins;
      here = y.here;
      word_ends = y.word_ends;
      list_ends = by y.list_ends;
    }
      where
        by : ((j : ℕ) → close_at text i ≡ Some j → x.end ≡ j) ⊎ IsOneOf i opens → (j : ℕ) → close_at text i ≡ Some j → x.end ≡ j
        by (inl l) j c = l j c
        by (inr o) j c = let none = open_none text 0 (length index.entries.items) i opens (subst (λ ts. AreOpen text 0 (length index.entries.items) ts opens) e h.still_open) o in cc

-- where a list's end is written
ended_get : (j n : ℕ) (xs : List Entry) (i : ℕ) (e : Entry) → slice_get (ended j n xs) i ≡ Some e → ((i ≡ j) × (x : Entry) × (slice_get xs i ≡ Some x) × (e.at ≡ x.at) × (e.end ≡ n)) ⊎ ((i ≡ j → ⊥) × (slice_get xs i ≡ Some e))
ended_get j n [] i e g = cc
ended_get zero n (x ∷ xs) zero e g = inl (refl, x, refl, cc, cc)
ended_get zero n (x ∷ xs) (suc i) e g = inr (λ s. omega arith, g)
ended_get (suc j) n (x ∷ xs) zero e g = inr (λ s. omega arith, g)
ended_get (suc j) n (x ∷ xs) (suc i) e g = further (ended_get j n xs i e g)
  where
    further : ((i ≡ j) × (x : Entry) × (slice_get xs i ≡ Some x) × (e.at ≡ x.at) × (e.end ≡ n)) ⊎ ((i ≡ j → ⊥) × (slice_get xs i ≡ Some e)) → ((suc i ≡ suc j) × (x : Entry) × (slice_get xs i ≡ Some x) × (e.at ≡ x.at) × (e.end ≡ n)) ⊎ ((suc i ≡ suc j → ⊥) × (slice_get xs i ≡ Some e))
    further (inl h) = inl (ap suc h.0, h.1, h.2, h.3, h.4)
    further (inr h) = inr (λ s. h.0 (omega arith), h.1)

ended_length : (j n : ℕ) (xs : List Entry) → length (ended j n xs) ≡ length xs
ended_length j n [] = refl
ended_length zero n (x ∷ xs) = refl
ended_length (suc j) n (x ∷ xs) = ap suc (ended_length j n xs)

-- a word is closed by nothing
no_word : (text : List ℕ) (i j : ℕ) (t : Token) → slice_get (tokens text) i ≡ Some t → t.kind ≡ word → close_at text i ≡ Some j → ⊥
no_word text i j t e w c = let none : close_at text i ≡ None = closes_get (tokens text) 0 i t e ∙ ap (λ k. close_of k (0 + i) (drop (suc i) (tokens text))) w in cc

abbrev pub entry_of : Piece → Entry
entry_of p = record { at = p.span.start; end = p.span.end }

-- one token more
module _ (text : List ℕ) (at : ℕ) (p : Piece) (es : List Entry) (opens : List ℕ) (first : at ≡ p.span.start) (next : tokens_at text at ≡ piece_seen p ∷ tokens_at text p.span.end) (h : IsIndexedTo text at es opens) where
  here : drop (length es) (tokens text) ≡ piece_seen p ∷ tokens_at text p.span.end
  here = h.here ∙ next

  behind : drop (length (es ++ entry_of p ∷ [])) (tokens text) ≡ tokens_at text p.span.end
  behind = let one : length (es ++ entry_of p ∷ []) ≡ suc (length es) = omega (arith, length_push es (entry_of p)) in ap (λ n. drop n (tokens text)) one ∙ (drop_next (length es) (tokens text) (tokens_at text p.span.end) (piece_seen p) here).1

  number : length (es ++ entry_of p ∷ []) ≤ token_count text
  number = let less = (drop_next (length es) (tokens text) (tokens_at text p.span.end) (piece_seen p) here).0 in omega (arith, length_push es (entry_of p))

  close : (k : Kind) → kind_seen p.kind ≡ k → close_at text (length es) ≡ close_of k (length es) (tokens_at text p.span.end)
  close k is = close_of_here text (length es) (piece_seen p) (tokens_at text p.span.end) here ∙ ap (λ q. close_of q (length es) (tokens_at text p.span.end)) is

  -- its entry, while any lists are open
  new : (js : List ℕ) → ((j : ℕ) → close_at text (length es) ≡ Some j → p.span.end ≡ j) ⊎ IsOneOf (length es) js → IsEarlyEntry text js (length es) (entry_of p)
  new js ends = record {
    token = piece_seen p;
    stands = (drop_next (length es) (tokens text) (tokens_at text p.span.end) (piece_seen p) here).2;
    begins = refl;
    here = h.here ∙ ap (tokens_at text) first;
    word_ends = λ w. refl;
    list_ends = ends;
  }

  -- it opens no list
  plain : close_at text (length es) ≡ None → (i : ℕ) (e : Entry) → slice_get (es ++ entry_of p ∷ []) i ≡ Some e → IsEarlyEntry text opens i e
  plain none = pushed (IsEarlyEntry text opens) es (entry_of p) h.each (new opens (inl (λ j c. cc)))

  below : AreBelow (length (es ++ entry_of p ∷ [])) opens
  below = subst (λ n. AreBelow n opens) (sym (length_push es (entry_of p))) (below_more (length es) opens h.below)

  front : (k : Kind) → kind_seen p.kind ≡ k → AreOpen text 0 (length es) (token k p.span.start p.span.end ∷ tokens_at text p.span.end) opens
  front k is = subst (λ q. AreOpen text 0 (length es) (token q p.span.start p.span.end ∷ tokens_at text p.span.end) opens) is (subst (λ ts. AreOpen text 0 (length es) ts opens) next h.still_open)

  word_more : kind_seen p.kind ≡ word → IsIndexedTo text p.span.end (es ++ entry_of p ∷ []) opens
  word_more is = record {
    number = number;
    here = behind;
    each = plain (close word is);
    below = below;
    still_open = subst (λ n. AreOpen text 0 n (tokens_at text p.span.end) opens) (sym (length_push es (entry_of p)))
        (open_word text 0 (length es) p.span.start p.span.end (tokens_at text p.span.end) opens (front word is));
  }

  start_more : kind_seen p.kind ≡ start → IsIndexedTo text p.span.end (es ++ entry_of p ∷ []) (length es ∷ opens)
  start_more is = record {
    number = number;
    here = behind;
    each = pushed (IsEarlyEntry text (length es ∷ opens)) es (entry_of p) (λ i e g. further i e (h.each i e g)) (new (length es ∷ opens) (inr (inl refl)));
    below = (omega (arith, length_push es (entry_of p)), below);
    still_open = subst (λ n. AreOpen text 0 n (tokens_at text p.span.end) (length es ∷ opens)) (sym (length_push es (entry_of p)))
        (close start is, open_start text 0 (length es) p.span.start p.span.end (tokens_at text p.span.end) opens (front start is));
  }
    where
      further : (i : ℕ) (e : Entry) → IsEarlyEntry text opens i e → IsEarlyEntry text (length es ∷ opens) i e
      further i e y = record { token = y.token; stands = y.stands; begins = y.begins; here = y.here; word_ends = y.word_ends; list_ends = by y.list_ends }
        where
          by : ((j : ℕ) → close_at text i ≡ Some j → e.end ≡ j) ⊎ IsOneOf i opens → ((j : ℕ) → close_at text i ≡ Some j → e.end ≡ j) ⊎ IsOneOf i (length es ∷ opens)
          by (inl l) = inl l
          by (inr o) = inr (inr o)

-- with one more token, which stands here, what was indexed of any text is indexed again
abbrev pub GoesOnIndexing : Piece → List Entry → List ℕ → List Entry → List ℕ → Type 0
GoesOnIndexing p es opens next next_opens = (text : List ℕ) (at : ℕ) → at ≡ p.span.start → tokens_at text at ≡ tokens_by text (Some p) → IsIndexedTo text at es opens → IsIndexedTo text p.span.end next next_opens

pub enter_word : (p : Piece) (es : List Entry) (opens : List ℕ) → kind_seen p.kind ≡ word → GoesOnIndexing p es opens (es ++ entry_of p ∷ []) opens
enter_word p es opens is text at first next h = word_more text at p es opens first next h is

pub enter_start : (p : Piece) (es : List Entry) (opens : List ℕ) → kind_seen p.kind ≡ start → GoesOnIndexing p es opens (es ++ entry_of p ∷ []) (length es ∷ opens)
enter_start p es opens is text at first next h = start_more text at p es opens first next h is

pub enter_stop : (p : Piece) (es : List Entry) (opens : List ℕ) → kind_seen p.kind ≡ stop → GoesOnIndexing p es opens (closed (innermost opens) (length es) (es ++ entry_of p ∷ [])) (but_innermost opens)
enter_stop p es [] is text at first next h = record {
  number = number text at p es [] first next h;
  here = behind text at p es [] first next h;
  each = plain text at p es [] first next h (close text at p es [] first next h stop is);
  below = tt;
  still_open = tt;
}
enter_stop p es (j ∷ js) is text at first next h = record {
  number = subst (λ n. n ≤ token_count text) (sym same) (number text at p es (j ∷ js) first next h);
  here = ap (λ n. drop n (tokens text)) same ∙ behind text at p es (j ∷ js) first next h;
  each = λ i e g. by i e (ended_get j (length es) more i e g);
  below = subst (λ n. AreBelow n js) (sym same) (below text at p es (j ∷ js) first next h).1;
  still_open = subst (λ n. AreOpen text 0 n (tokens_at text p.span.end) js) (sym (same ∙ length_push es (entry_of p)))
      (open_stop text 0 (length es) p.span.start p.span.end (tokens_at text p.span.end) js (front text at p es (j ∷ js) first next h stop is).1);
}
  where
    more : List Entry
    more = es ++ entry_of p ∷ []

    same : length (ended j (length es) more) ≡ length more
    same = ended_length j (length es) more

    here_closed : close_at text j ≡ Some (length es)
    here_closed = (front text at p es (j ∷ js) first next h stop is).0

    early : (i : ℕ) (e : Entry) → slice_get more i ≡ Some e → IsEarlyEntry text (j ∷ js) i e
    early = plain text at p es (j ∷ js) first next h (close text at p es (j ∷ js) first next h stop is)

    by : (i : ℕ) (e : Entry) → ((i ≡ j) × (x : Entry) × (slice_get more i ≡ Some x) × (e.at ≡ x.at) × (e.end ≡ length es)) ⊎ ((i ≡ j → ⊥) × (slice_get more i ≡ Some e)) → IsEarlyEntry text js i e
    by i e (inl g) =
        let y = early i g.1 g.2 in
        let c : close_at text i ≡ Some (length es) = ap (close_at text) g.0 ∙ here_closed in
        record {
          token = y.token;
          stands = y.stands;
          begins = g.3 ∙ y.begins;
          here = y.here ∙ ap (tokens_at text) (sym g.3);
          word_ends = λ w. absurd (no_word text i (length es) y.token y.stands w c);
          list_ends = inl (λ l d. let n = g.4 in cc);
        }
    by i e (inr g) = let y = early i e g.1 in record { token = y.token; stands = y.stands; begins = y.begins; here = y.here; word_ends = y.word_ends; list_ends = other y.list_ends }
      where
        other : ((l : ℕ) → close_at text i ≡ Some l → e.end ≡ l) ⊎ IsOneOf i (j ∷ js) → ((l : ℕ) → close_at text i ≡ Some l → e.end ≡ l) ⊎ IsOneOf i js
        other (inl l) = inl l
        other (inr (inl s)) = absurd (g.0 s)
        other (inr (inr o)) = inr o

-- a write of a list's end
pub ended_set : (es : List Entry) (j i : ℕ) (e : Entry) → j < length es → e ≡ get_or es j e → slice_set es j (record { at = e.at; end = i }) ≡ ended j i es
ended_set [] j i e l g = absurd (omega arith)
ended_set (x ∷ es) zero i e l g = ap (λ y. record { at = y.at; end = i } ∷ es) g
ended_set (x ∷ es) (suc j) i e l g = ap (λ ys. x ∷ ys) (ended_set es j i e (omega arith) g)

pub below_innermost : (n : ℕ) (js : List ℕ) → AreBelow n js → IfSome (innermost js) (λ j. j < n + 1)
below_innermost n [] b = tt
below_innermost n (j ∷ js) b = let l = b.0 in omega arith

-- how many lists are open behind a token
pub one_out : (opens : List ℕ) → length (but_innermost opens) ≡ deeper stop (length opens)
one_out [] = refl
one_out (o ∷ opens) = refl

abbrev first_kind : List Token → Kind
first_kind [] = word
first_kind (t ∷ ts) = t.kind

as_deep : (k : Class) (q : Kind) (at end : ℕ) → begun k at end ≡ token q at end ∷ [] → (opens : List ℕ) (d : ℕ) → length opens ≡ d → length (open_after opens at k) ≡ deeper q d
as_deep opening q at end b opens d l = let same : start ≡ q = ap first_kind b in ap suc l ∙ ap (λ x. deeper x d) same
as_deep closing q at end b opens d l = let same : stop ≡ q = ap first_kind b in closes_one opens at d l ∙ ap (λ x. deeper x d) same
as_deep letter q at end b opens d l = let same : word ≡ q = ap first_kind b in l ∙ ap (λ x. deeper x d) same
as_deep blank q at end b opens d l = cc
as_deep bad q at end b opens d l = cc

-- over one token more, in front of which the text has no fault
module _ (text : List ℕ) (at end : ℕ) (k : Class) (q : Kind) (p : Piece) (es next : List Entry) (opens next_opens : List ℕ) where
  pub enter_more : IsEnteredTo text es opens at → IsPassed text at end k → begun k at end ≡ token q at end ∷ [] → p.span.start ≡ at → p.span.end ≡ end → kind_seen p.kind ≡ q → IsGoodAt (length opens) k → GoesOnIndexing p es opens next next_opens → length next_opens ≡ deeper (kind_seen p.kind) (length opens) → IsEnteredTo text next next_opens p.span.end
  enter_more h s b first last kind good goes deep =
      let f = sym first in let l = sym last in let m = sym kind in
      let there : IsPassed text at p.span.end k = subst (λ e. IsPassed text at e k) l s in
      let begins : begun k at p.span.end ≡ piece_seen p ∷ [] = ap (begun k at) last ∙ b ∙ (λ i. token (m i) (f i) (l i) ∷ []) in
      record {
        within = there.within;
        indexed = goes text at f (there.tokens ∙ ap (λ ts. ts ++ tokens_at text p.span.end) begins) h.indexed;
        deep = deep_passed text (record { at = at; depth = length opens }) (record { at = p.span.end; depth = length next_opens }) k there good
            (λ os e. as_deep k q at end b os (length opens) e ∙ ap (λ x. deeper x (length opens)) m ∙ sym deep) h.deep;
      }

pub not_none : (n : ℕ) → (n == 0) ≡ false → 0 < n
not_none zero e = cc
not_none (suc n) e = omega arith
