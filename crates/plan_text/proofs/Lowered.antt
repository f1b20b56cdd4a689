-- A text says the same in lower case.
use Rattle.std.proofs.Common.{◌≡◌, ◌∙◌, ℕ, ◌+◌, ◌-◌, ◌≤◌, ◌==◌, ◌||◌, Bool, true, false, if◌then◌else◌, not, None, List, [], ◌∷◌, map, take, drop, refl, sym, ap, ap₂, arith}
use Rattle.std.specs.Char.{to_ascii_lowercase}
use Rattle.std.specs.List.{slice_range}
use Rattle.std.proofs.lemmas.List.{take-map, drop-map}
use Rattle.htn_base.specs.Words.{folded, IsFolded}
use Rattle.htn_base.proofs.TableLemmas.{IsFolded-folded}
use Rattle.text_forms.specs.Bytes.{letter, opening, closing, blank, bad, is_letter, is_white, class_of, classes_from, classes, are_good}
use Rattle.text_forms.specs.Tokens.{Token, tokens, tokens_from, lexeme, lexeme_by, symbol, symbols}
use Rattle.plan_model.specs.declared.steps.GroundAction.{GroundAction}
use Rattle.plan_texts.specs.PlanText.{SpellsPlan}
use Rattle.plan_text.specs.Coming.{SpellsFrom}
use Rattle.plan_text.proofs.Marks.{lower-other}

-- folding a letter changes no class
letter-letter : (b : ℕ) → 65 ≤ b → b ≤ 90 → is_letter b ≡ true
letter-letter b l m = search arith

letter-lower : (b : ℕ) → 65 ≤ b → b ≤ 90 → is_letter (b + 32) ≡ true
letter-lower b l m = search arith

pub class-letter : (b : ℕ) → is_letter b ≡ true → class_of b ≡ letter
class-letter b e = ap (λ t. if t then letter else (if b == 40 then opening else (if b == 41 then closing else (if is_white b || b == 59 then blank else bad)))) e

class-lower : (b : ℕ) → class_of (to_ascii_lowercase b) ≡ class_of b
class-lower b = lower-other class_of (λ b l m. class-letter (b + 32) (letter-lower b l m) ∙ sym (class-letter b (letter-letter b l m))) b

semicolon-letter : (b : ℕ) → 65 ≤ b → b ≤ 90 → (b + 32 == 59) ≡ (b == 59)
semicolon-letter b l m = search arith

line-letter : (b : ℕ) → 65 ≤ b → b ≤ 90 → (b + 32 == 10) ≡ (b == 10)
line-letter b l m = search arith

classes-lower : (comment : Bool) (text : List ℕ) → classes_from comment (folded text) ≡ classes_from comment text
classes-lower comment [] = refl
classes-lower true (b ∷ text) =
    let e : not (to_ascii_lowercase b == 10) ≡ not (b == 10) = ap not (lower-other (λ b. b == 10) line-letter b) in
    ap (λ cs. blank ∷ cs) (ap (λ c. classes_from c (folded text)) e ∙ classes-lower (not (b == 10)) text)
classes-lower false (b ∷ text) =
    let e : (to_ascii_lowercase b == 59) ≡ (b == 59) = lower-other (λ b. b == 59) semicolon-letter b in
    ap₂ (λ c cs. c ∷ cs) (class-lower b) (ap (λ c. classes_from c (folded text)) e ∙ classes-lower (b == 59) text)

-- a part of the text in lower case
range-lower : (text : List ℕ) (a b : ℕ) → slice_range (folded text) a b ≡ folded (slice_range text a b)
range-lower text a b = ap (take (b - a)) (drop-map to_ascii_lowercase a text) ∙ take-map to_ascii_lowercase (b - a) (drop a text)

pub range-folded : (text : List ℕ) (a b : ℕ) → IsFolded text → folded (slice_range text a b) ≡ slice_range text a b
range-folded text a b e = sym (range-lower text a b) ∙ ap (λ t. slice_range t a b) e

lexemes-lower : (text : List ℕ) (ts : List Token) → map (lexeme (folded text)) ts ≡ map (lexeme text) ts
lexemes-lower text [] = refl
lexemes-lower text (t ∷ ts) =
    let e : folded (slice_range (folded text) t.first t.behind) ≡ folded (slice_range text t.first t.behind) = ap folded (range-lower text t.first t.behind) ∙ IsFolded-folded (slice_range text t.first t.behind) in
    ap₂ (λ l ls. l ∷ ls) (ap (lexeme_by t.kind t.first) e) (lexemes-lower text ts)

pub symbols-lower : (text : List ℕ) → symbols (folded text) ≡ symbols text
symbols-lower text = ap (map symbol) (ap (λ cs. map (lexeme (folded text)) (tokens_from None 0 cs)) (classes-lower false text) ∙ lexemes-lower text (tokens text))

clean-lower : (text : List ℕ) → are_good (classes (folded text)) ≡ are_good (classes text)
clean-lower text = ap are_good (classes-lower false text)

pub spelled-lower : (text : List ℕ) (steps : List GroundAction) → SpellsPlan text steps → SpellsFrom (folded text) 0 steps
spelled-lower text steps s = record { clean = clean-lower text ∙ s.clean; steps_said = (s.parts, symbols-lower text ∙ s.is, s.spelled) }

pub lower-spelled : (text : List ℕ) (steps : List GroundAction) → SpellsFrom (folded text) 0 steps → SpellsPlan text steps
lower-spelled text steps s = record { parts = s.steps_said.0; clean = sym (clean-lower text) ∙ s.clean; is = sym (symbols-lower text) ∙ s.steps_said.1; spelled = s.steps_said.2 }
