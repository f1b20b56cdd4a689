-- The place of a number is that of its word.
use Rattle.std.proofs.Common.{ℕ, suc, ◌≡◌, ◌<◌, Bool, true, false, cond, eqb, List, [], ◌∷◌, length, Option, Some, None, refl, sym, ap, ◌∙◌}
use Rattle.std.specs.Prelude.{option_map}
use Rattle.std.specs.Str.{bytes_eq}
use Rattle.std.proofs.lemmas.Bool.{eqb-true, eqb-false}
use Rattle.htn_base.specs.Different.{AreDifferent}
use Rattle.text_forms.specs.Words.{word_at}
use Rattle.text_forms.specs.Words as words
use Rattle.gd_reader.specs.Terms.{Names}
use Rattle.plan_texts.proofs.Basics.{bytes_eq-refl, bytes_eq-other}
use Rattle.plan_texts.proofs.Places.{first-different}
use Rattle.name_binding.specs.Places as numbers
use Rattle.text_values.specs.form_spellings.binding_laws.Numbers.{words_of, AreKnown, HaveOnePlace}

-- two numbers of one word are one
pub same_number : (names : Names) (i j : ℕ) → AreDifferent names → i < length names → j < length names → word_at names i ≡ word_at names j → i ≡ j
same_number names i j d l m e =
    let f : Some i ≡ Some j = sym (first-different names i d l) ∙ ap (λ w. words.first_place w names) e ∙ first-different names j d m in
    cc

pub same_word : (names : Names) (i j : ℕ) → AreDifferent names → i < length names → j < length names → bytes_eq (word_at names i) (word_at names j) ≡ eqb i j
same_word names i j d l m = go (eqb i j) refl
  where
    go : (b : Bool) → eqb i j ≡ b → bytes_eq (word_at names i) (word_at names j) ≡ b
    go true e = ap (λ k. bytes_eq (word_at names i) (word_at names k)) (sym (eqb-true i j e)) ∙ bytes_eq-refl (word_at names i)
    go false e = bytes_eq-other (word_at names i) (word_at names j) (λ w. eqb-false i j e (same_number names i j d l m w))

first_words : (names : Names) (n : ℕ) (ns : List ℕ) → AreDifferent names → n < length names → AreKnown names ns → words.first_place (word_at names n) (words_of names ns) ≡ numbers.first_place n ns
first_words names n [] d l k = refl
first_words names n (x ∷ ns) d l k =
    ap (λ b. cond b (Some 0) (option_map suc (words.first_place (word_at names n) (words_of names ns)))) (same_word names n x d l k.0)
    ∙ ap (λ o. cond (eqb n x) (Some 0) (option_map suc o)) (first_words names n ns d l k.1)

later_is : (o : Option ℕ) (b : Bool) → words.later o b ≡ numbers.later o b
later_is None true = refl
later_is None false = refl
later_is (Some k) b = refl

last_words : (names : Names) (n : ℕ) (ns : List ℕ) → AreDifferent names → n < length names → AreKnown names ns → words.last_place (word_at names n) (words_of names ns) ≡ numbers.last_place n ns
last_words names n [] d l k = refl
last_words names n (x ∷ ns) d l k =
    ap (words.later (words.last_place (word_at names n) (words_of names ns))) (same_word names n x d l k.0)
    ∙ ap (λ o. words.later o (eqb n x)) (last_words names n ns d l k.1)
    ∙ later_is (numbers.last_place n ns) (eqb n x)

pub have_one_place : HaveOnePlace
have_one_place names n ns d l k = (first_words names n ns d l k, last_words names n ns d l k)
