-- Words by their first letters.
use Rattle.std.proofs.Common.{◌≡◌, ℕ, ◌<◌, ◌≤◌, ◌==◌, ◌&&◌, ◌||◌, Bool, true, false, not, if◌then◌else◌, length, get_or, drop, List, [], ◌∷◌, refl, sym, ap, ◌∙◌, arith}
use Rattle.std.specs.Char.{to_ascii_lowercase}
use Rattle.htn_base.specs.Words.{folded, is_reserved}
use Rattle.text_forms.specs.Words.{Word, is_name}
use Rattle.gd_reader.specs.declared.words.Sort.TheVariants.{Variable, Name, Other}
use Rattle.gd_reader.specs.TermGrammar.{is_name_sort}
use Rattle.gd_reader.specs.Words.{sort_of, sort_of_one, sort_of_more, begins_reserved}

pub sort_len0 : (w : List ℕ) → length w < 1 → sort_of (folded w) ≡ Other
unfolding sort_of
sort_len0 [] h = refl
sort_len0 (b ∷ w) h = absurd (omega arith)

sort_len1 : (w : List ℕ) → 1 ≤ length w → length w < 2 → sort_of (folded w) ≡ sort_of_one (to_ascii_lowercase (get_or w 0 0)) (is_reserved (folded w))
unfolding sort_of
sort_len1 [] g h = absurd (omega arith)
sort_len1 (b ∷ []) g h = refl
sort_len1 (b ∷ c ∷ w) g h = absurd (omega arith)

sort_len2 : (w : List ℕ) → 2 ≤ length w → sort_of (folded w) ≡ sort_of_more (to_ascii_lowercase (get_or w 0 0)) (is_reserved (folded w))
unfolding sort_of
sort_len2 [] g = absurd (omega arith)
sort_len2 (b ∷ []) g = absurd (omega arith)
sort_len2 (b ∷ c ∷ w) g = refl

-- a word by its first letter
pub sort_variable : (w : List ℕ) (b : ℕ) → 2 ≤ length w → b ≡ to_ascii_lowercase (get_or w 0 0) → b ≡ 63 → sort_of (folded w) ≡ Variable
sort_variable w b g is e = sort_len2 w g ∙ ap (λ b. sort_of_more b (is_reserved (folded w))) (sym is ∙ e)

pub sort_mark : (w : List ℕ) (b : ℕ) → 1 ≤ length w → length w ≤ 1 → b ≡ to_ascii_lowercase (get_or w 0 0) → b ≡ 63 → sort_of (folded w) ≡ Other
sort_mark w b g h is e = sort_len1 w g (omega (arith, h)) ∙ ap (λ b. sort_of_one b (is_reserved (folded w))) (sym is ∙ e)

differs : (n m : ℕ) → (n ≡ m → ⊥) → (n == m) ≡ false
differs n m never = search arith

-- by its first letter that is no question mark
module _ (w : List ℕ) (b : ℕ) (g : 1 ≤ length w) (is : b ≡ to_ascii_lowercase (get_or w 0 0)) (never : b ≡ 63 → ⊥) where
  sort_first : sort_of (folded w) ≡ (if not (b == 58) && not (is_reserved (folded w)) then Name else Other)
  sort_first = by_length w g is
    where
      one : (r : Bool) → sort_of_one b r ≡ (if not (b == 58) && not r then Name else Other)
      one r = ap (λ (t : Bool). if not t && (not (b == 58) && not r) then Name else Other) (differs b 63 never)

      by_length : (w : List ℕ) → 1 ≤ length w → b ≡ to_ascii_lowercase (get_or w 0 0) → sort_of (folded w) ≡ (if not (b == 58) && not (is_reserved (folded w)) then Name else Other)
      by_length [] g is = absurd (omega (arith, g))
      by_length (x ∷ []) g is = sort_len1 (x ∷ []) g (omega arith) ∙ ap (λ b. sort_of_one b (is_reserved (folded (x ∷ [])))) (sym is) ∙ one (is_reserved (folded (x ∷ [])))
      by_length (x ∷ y ∷ w) g is =
          sort_len2 (x ∷ y ∷ w) (omega arith) ∙ ap (λ b. sort_of_more b (is_reserved (folded (x ∷ y ∷ w)))) (sym is)
          ∙ ap (λ (t : Bool). if t then Variable else sort_of_one b (is_reserved (folded (x ∷ y ∷ w)))) (differs b 63 never) ∙ one (is_reserved (folded (x ∷ y ∷ w)))

  pub sort_colon : b ≡ 58 → sort_of (folded w) ≡ Other
  sort_colon e = sort_first ∙ ap (λ b. if not (b == 58) && not (is_reserved (folded w)) then Name else Other) e

  pub sort_reserved : is_reserved (folded w) ≡ true → sort_of (folded w) ≡ Other
  sort_reserved e = sort_first ∙ ap (λ (r : Bool). if not (b == 58) && not r then Name else Other) e ∙ other (not (b == 58))
    where
      other : (x : Bool) → (if x && false then Name else Other) ≡ Other
      other true = refl
      other false = refl

  pub sort_name : (b ≡ 58 → ⊥) → is_reserved (folded w) ≡ false → sort_of (folded w) ≡ Name
  sort_name colon e =
      sort_first ∙ ap (λ (t : Bool). if not t && not (is_reserved (folded w)) then Name else Other) (differs b 58 colon)
      ∙ ap (λ (r : Bool). if not r then Name else Other) e

pub folded_rest : (w : List ℕ) → folded (drop 1 w) ≡ drop 1 (folded w)
folded_rest [] = refl
folded_rest (b ∷ w) = refl

-- a word is sorted as a name exactly where it is one
pub name_test : (w : Word) → is_name_sort (sort_of w) ≡ is_name w
unfolding sort_of
name_test [] = refl
name_test (b ∷ []) = one (not (b == 63) && (not (b == 58) && not (is_reserved (b ∷ []))))
  where
    one : (y : Bool) → is_name_sort (if y then Name else Other) ≡ y
    one true = refl
    one false = refl
name_test (b ∷ c ∷ w) = two (b == 63) (not (b == 58) && not (is_reserved (b ∷ c ∷ w)))
  where
    two : (x y : Bool) → is_name_sort (if x then Variable else (if not x && y then Name else Other)) ≡ not x && y
    two true y = refl
    two false true = refl
    two false false = refl

pub kept_len0 : (w : List ℕ) → length w < 1 → is_reserved (folded w) ≡ false
kept_len0 [] h = refl
kept_len0 (b ∷ w) h = absurd (omega arith)

or-false : (x : Bool) {y : Bool} → x || y ≡ false → (x ≡ false) × (y ≡ false)
or-false true e = absurd (cc e)
or-false false e = (refl, e)

-- a word that begins with another letter is not reserved
not_reserved : (b : ℕ) (w : List ℕ) → begins_reserved b ≡ false → is_reserved (b ∷ w) ≡ false
not_reserved b w none =
    let e0 = or-false (b == 45) none in
    let e1 = or-false (b == 60) e0.1 in
    let e2 = or-false (b == 61) e1.1 in
    let e3 = or-false (b == 97) e2.1 in
    let e4 = or-false (b == 101) e3.1 in
    let e5 = or-false (b == 102) e4.1 in
    let e6 = or-false (b == 105) e5.1 in
    let e7 = or-false (b == 110) e6.1 in
    let e8 = or-false (b == 111) e7.1 in
    rw (e0.0, e1.0, e2.0, e3.0, e4.0, e5.0, e6.0, e7.0, e8.0, e8.1) refl

pub kept_by_first : (w : List ℕ) → 1 ≤ length w → begins_reserved (to_ascii_lowercase (get_or w 0 0)) ≡ false → is_reserved (folded w) ≡ false
kept_by_first [] h none = absurd (omega arith)
kept_by_first (b ∷ w) h none = not_reserved (to_ascii_lowercase b) (folded w) none
