-- Marks by their last byte and what is in front of it, in any case of their letters.
use Rattle.std.proofs.Common.{◌≡◌, ◌∙◌, ℕ, ◌<◌, ◌≤◌, ◌+◌, ◌⊎◌, inl, inr, ◌==◌, ◌&&◌, Bool, true, false, length, List, [], ◌∷◌, ◌++◌, refl, ap, ap₂, arith}
use Rattle.std.specs.Char.{to_ascii_lowercase}
use Rattle.std.specs.List.{list_all}
use Rattle.std.proofs.lemmas.Bool.{cases_lt}
use Rattle.std.proofs.lemmas.Str.Ascii.{lowercase_is}
use Rattle.htn_base.specs.Words.{folded}
use Rattle.text_forms.specs.StepWords.{is_digit, ends_mark, is_mark}

-- folding changes letters alone
pub lower-other : {A : Type 0} (test : ℕ → A) → ((b : ℕ) → 65 ≤ b → b ≤ 90 → test (b + 32) ≡ test b) → (b : ℕ) → test (to_ascii_lowercase b) ≡ test b
lower-other test h b = go (cases_lt b 65) (cases_lt 90 b)
  where
    go : (b < 65) ⊎ (65 ≤ b) → (90 < b) ⊎ (b ≤ 90) → test (to_ascii_lowercase b) ≡ test b
    go (inl l) m = ap test ((lowercase_is b).1 l)
    go (inr l) (inl m) = ap test ((lowercase_is b).2 m)
    go (inr l) (inr m) = ap test ((lowercase_is b).0 (l, m)) ∙ h b l m

digit-letter : (b : ℕ) → 65 ≤ b → b ≤ 90 → is_digit (b + 32) ≡ is_digit b
digit-letter b l m = search arith

colon-letter : (b : ℕ) → 65 ≤ b → b ≤ 90 → (b + 32 == 58) ≡ (b == 58)
colon-letter b l m = search arith

lower-digit : (b : ℕ) → is_digit (to_ascii_lowercase b) ≡ is_digit b
lower-digit b = lower-other is_digit digit-letter b

lower-colon : (b : ℕ) → (to_ascii_lowercase b == 58) ≡ (b == 58)
lower-colon b = lower-other (λ b. b == 58) colon-letter b

and-assoc : (x y z : Bool) → (x && (y && z)) ≡ ((x && y) && z)
and-assoc true y z = refl
and-assoc false y z = refl

ends-with : (ds : List ℕ) (b : ℕ) → ends_mark (folded (ds ++ b ∷ [])) ≡ (list_all is_digit ds && b == 58)
ends-with [] b = lower-colon b
ends-with (d ∷ []) b = ap₂ (λ x y. x && y) (lower-digit d) (lower-colon b) ∙ and-assoc (is_digit d) true (b == 58)
ends-with (d ∷ e ∷ ds) b = ap₂ (λ x y. x && y) (lower-digit d) (ends-with (e ∷ ds) b) ∙ and-assoc (is_digit d) (list_all is_digit (e ∷ ds)) (b == 58)

mark-with : (d : ℕ) (ds : List ℕ) (b : ℕ) → is_mark (folded (d ∷ ds ++ b ∷ [])) ≡ (list_all is_digit (d ∷ ds) && b == 58)
mark-with d ds b = ap₂ (λ x y. x && y) (lower-digit d) (ends-with ds b) ∙ and-assoc (is_digit d) (list_all is_digit ds) (b == 58)

and-true : (x : Bool) → (x && true) ≡ x
and-true true = refl
and-true false = refl

and-false : (x : Bool) → (x && false) ≡ false
and-false true = refl
and-false false = refl

is_colon : (b : ℕ) → b ≡ 58 → (b == 58) ≡ true
is_colon b e = ap (λ b. b == 58) e

no_colon : (b : ℕ) → (b ≡ 58 → ⊥) → (b == 58) ≡ false
no_colon b n = search arith

no_digit : (b : ℕ) → b ≡ 58 → is_digit b ≡ false
no_digit b e = ap is_digit e

pub other_end : (ds : List ℕ) (b : ℕ) → (b ≡ 58 → ⊥) → is_mark (folded (ds ++ b ∷ [])) ≡ false
other_end [] b n = ap (λ x. x && false) (lower-digit b) ∙ and-false (is_digit b)
other_end (d ∷ ds) b n = mark-with d ds b ∙ ap (λ x. list_all is_digit (d ∷ ds) && x) (no_colon b n) ∙ and-false (list_all is_digit (d ∷ ds))

pub colon_alone : (ds : List ℕ) (b : ℕ) → length ds ≡ 0 → is_mark (folded (ds ++ b ∷ [])) ≡ false
colon_alone [] b e = ap (λ x. x && false) (lower-digit b) ∙ and-false (is_digit b)
colon_alone (d ∷ ds) b e = absurd (omega arith)

pub colon_behind : (ds : List ℕ) (b : ℕ) → b ≡ 58 → 0 < length ds → is_mark (folded (ds ++ b ∷ [])) ≡ list_all is_digit ds
colon_behind [] b e l = absurd (omega arith)
colon_behind (d ∷ ds) b e l = mark-with d ds b ∙ ap (λ x. list_all is_digit (d ∷ ds) && x) (is_colon b e) ∙ and-true (list_all is_digit (d ∷ ds))
