-- What stands at a place of a text, byte by byte.
use Rattle.std.proofs.Common.{◌≡◌, ◌∙◌, ℕ, ◌+◌, ◌≤◌, ◌<◌, ◌==◌, Bool, true, false, None, List, [], ◌∷◌, map, drop, length, get_or, refl, ap, ap₂, arith}
use Rattle.std.specs.List.{slice_range}
use Rattle.std.proofs.lemmas.List.{at_drop_more, at_drop_all}
use Rattle.htn_base.specs.Words.{IsFolded}
use Rattle.text_forms.specs.Bytes.{Class, letter, opening, closing, blank, bad, is_letter, class_of, classes_from, are_good}
use Rattle.text_forms.specs.Tokens.{word, token, tokens_from, lexeme, symbol, left, right, said}
use Rattle.text_forms.specs.sexpr_text.Places.{classes_at, tokens_at, EndsWord}
use Rattle.plan_text.specs.Coming.{said_at, comment_tokens_at, is_clean_at, is_comment_clean_at, Comes}
use Rattle.plan_text.proofs.Lowered.{range-folded, class-letter}

-- the classes from a place on, where the byte there has this class
pub classes-next : (text : List ℕ) (at : ℕ) (c : Class) (comment : Bool) → at < length text → class_of (get_or text at 0) ≡ c → (get_or text at 0 == 59) ≡ comment → classes_at text at ≡ c ∷ classes_from comment (drop (at + 1) text)
classes-next text at c comment lt e f = at_drop_more (classes_from false) text at 0 lt ∙ ap₂ (λ x y. x ∷ classes_from y (drop (at + 1) text)) e f

-- from one place on the text says what it says from another on, and has a bad byte where it has one there
pub record GoesOn (text : List ℕ) (at end : ℕ) : Type 0 where
  pub tokens : tokens_at text at ≡ tokens_at text end
  pub clean : is_clean_at text at ≡ is_clean_at text end

pub goes-here : (text : List ℕ) (at : ℕ) → GoesOn text at at
goes-here text at = record { tokens = refl; clean = refl }

pub goes-blank : (text : List ℕ) (from at : ℕ) → GoesOn text from at → at < length text → class_of (get_or text at 0) ≡ blank → (get_or text at 0 == 59) ≡ false → GoesOn text from (at + 1)
goes-blank text from at g lt e f =
    let n = classes-next text at blank false lt e f in
    record { tokens = g.tokens ∙ ap (tokens_from None at) n; clean = g.clean ∙ ap are_good n }

pub goes-comment : (text : List ℕ) (from at end : ℕ) → GoesOn text from at → at < length text → class_of (get_or text at 0) ≡ blank → (get_or text at 0 == 59) ≡ true
    → comment_tokens_at text (at + 1) ≡ tokens_at text end → is_comment_clean_at text (at + 1) ≡ is_clean_at text end → GoesOn text from end
goes-comment text from at end g lt e f t s =
    let n = classes-next text at blank true lt e f in
    record { tokens = g.tokens ∙ ap (tokens_from None at) n ∙ t; clean = g.clean ∙ ap are_good n ∙ s }

says : (text : List ℕ) (from at : ℕ) → GoesOn text from at → said_at text from ≡ said_at text at
says text from at g = ap (λ ts. map symbol (map (lexeme text) ts)) g.tokens

-- a parenthesis comes
pub comes-open : (text : List ℕ) (from at : ℕ) → GoesOn text from at → from ≤ at → at < length text → class_of (get_or text at 0) ≡ opening → (get_or text at 0 == 59) ≡ false → Comes text from left (at + 1)
comes-open text from at g le lt e f =
    let n = classes-next text at opening false lt e f in
    record { said = says text from at g ∙ ap (λ cs. map symbol (map (lexeme text) (tokens_from None at cs))) n; clean = g.clean ∙ ap are_good n; later = omega arith; within = omega arith }

pub comes-close : (text : List ℕ) (from at : ℕ) → GoesOn text from at → from ≤ at → at < length text → class_of (get_or text at 0) ≡ closing → (get_or text at 0 == 59) ≡ false → Comes text from right (at + 1)
comes-close text from at g le lt e f =
    let n = classes-next text at closing false lt e f in
    record { said = says text from at g ∙ ap (λ cs. map symbol (map (lexeme text) (tokens_from None at cs))) n; clean = g.clean ∙ ap are_good n; later = omega arith; within = omega arith }

no-semicolon : (b : ℕ) → is_letter b ≡ true → (b == 59) ≡ false
no-semicolon b e = search arith

-- a word comes, which ends at a place
pub comes-word : (text : List ℕ) (from at end : ℕ) → IsFolded text → GoesOn text from at → from ≤ at → at < length text → is_letter (get_or text at 0) ≡ true
    → at + 1 ≤ end → end ≤ length text → EndsWord text (at + 1) end → is_clean_at text (at + 1) ≡ is_clean_at text end
    → Comes text from (said (slice_range text at end)) end × IsFolded (slice_range text at end)
comes-word text from at end lower g le lt e later within ends clean =
    let n = classes-next text at letter false lt (class-letter (get_or text at 0) e) (no-semicolon (get_or text at 0) e) in
    let t : tokens_at text at ≡ token word at end ∷ tokens_at text end = ap (tokens_from None at) n ∙ ends at in
    let w = range-folded text at end lower in (
      record {
        said = says text from at g ∙ ap (λ ts. map symbol (map (lexeme text) ts)) t ∙ ap (λ w. said w ∷ said_at text end) w;
        clean = g.clean ∙ ap are_good n ∙ clean;
        later = omega arith;
        within = within;
      },
      w,
    )

pub bad-byte : (text : List ℕ) (from at : ℕ) (comment : Bool) → GoesOn text from at → at < length text → class_of (get_or text at 0) ≡ bad → (get_or text at 0 == 59) ≡ comment → is_clean_at text from ≡ false
bad-byte text from at comment g lt e f = g.clean ∙ ap are_good (classes-next text at bad comment lt e f)

pub text-ends : (text : List ℕ) (from at : ℕ) → GoesOn text from at → length text ≤ at → (said_at text from ≡ []) × (is_clean_at text from ≡ true)
text-ends text from at g le =
    let n : classes_at text at ≡ [] = at_drop_all (classes_from false) text at le in
    (says text from at g ∙ ap (λ cs. map symbol (map (lexeme text) (tokens_from None at cs))) n, g.clean ∙ ap are_good n)
