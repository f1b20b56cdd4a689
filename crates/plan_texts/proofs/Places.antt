-- The places of words that differ, and what holds of each word.
use Rattle.std.proofs.Common.{ℕ, zero, suc, ◌≡◌, ◌<◌, Bool, true, false, List, [], ◌∷◌, ◌++◌, length, get_or, Option, Some, None, refl, ap, sym, subst, ◌∙◌, arith}
use Rattle.std.specs.Option.{option_map}
use Rattle.std.proofs.lemmas.Bool.{cond-true, cond-false, and_parts}
use Rattle.text_forms.specs.Words.{Word, is_name, is_variable, first_place, last_place, word_at}
use Rattle.std.specs.Str.{bytes_eq}
use Rattle.htn_base.specs.Different.{AreDifferent}
use Rattle.plan_texts.specs.Types.{EachIs}
use Rattle.plan_texts.specs.Printable.{IsPlain, IsPlainVariable}
use Rattle.plan_texts.proofs.Basics.{bytes_eq-true, bytes_eq-refl, bytes_eq-other}
use Rattle.text_forms.specs.Printing.{is_folded_word}
use Rattle.plan_texts.proofs.Members.{lacks-each}

pub each-at : (P : Word → Type 0) (ws : List Word) (k : ℕ) → EachIs P ws → k < length ws → P (word_at ws k)
each-at P [] k e l = absurd (omega arith)
each-at P (w ∷ ws) zero e l = e.0
each-at P (w ∷ ws) (suc k) e l = each-at P ws k e.1 (omega arith)

pub first-different : (ws : List Word) (k : ℕ) → AreDifferent ws → k < length ws → first_place (word_at ws k) ws ≡ Some k
first-different [] k d l = absurd (omega arith)
first-different (w ∷ ws) zero d l = cond-true _ _ _ (bytes_eq-refl w)
first-different (w ∷ ws) (suc k) d l =
    let h : k < length ws = omega arith in
    let n : w ≡ word_at ws k → ⊥ = each-at (λ u. w ≡ u → ⊥) ws k (lacks-each ws w d.0) h in
    cond-false _ _ _ (bytes_eq-other (word_at ws k) w (λ e. n (sym e))) ∙ ap (option_map suc) (first-different ws k d.1 h)

-- what holds of each word in scope holds of one that is found there
pub last-is : (P : Word → Type 0) (w : Word) (ws : List Word) (k : ℕ) → EachIs P ws → last_place w ws ≡ Some k → P w
last-is P w [] k e f = absurd (cc)
last-is P w (u ∷ ws) k e f = go (last_place w ws) refl (bytes_eq w u) refl (last-is P w ws)
  where
    go : (o : Option ℕ) → last_place w ws ≡ o → (x : Bool) → bytes_eq w u ≡ x → ((j : ℕ) → EachIs P ws → last_place w ws ≡ Some j → P w) → P w
    go (Some j) g x h i = i j e.1 g
    go None g true h i = subst P (sym (bytes_eq-true w u h)) e.0
    go None g false h i = absurd (cc)

pub each-append : (P : Word → Type 0) (us ws : List Word) → EachIs P us → EachIs P ws → EachIs P (us ++ ws)
each-append P [] ws e f = f
each-append P (u ∷ us) ws e f = (e.0, each-append P us ws e.1 f)

pub plain-token : (w : Word) → IsPlain w → is_folded_word w ≡ true
plain-token [] e = absurd (let f = e.1 in cc)
plain-token (b ∷ w) e = e.0

pub name-variable : (w : Word) → is_name w ≡ true → is_variable w ≡ true
name-variable [] e = cc
name-variable (b ∷ w) e = (and_parts _ _ (and_parts _ _ e).1).1

pub plain-variable : (w : Word) → IsPlain w → IsPlainVariable w
plain-variable w p = (p.0, name-variable w p.1)

pub each-get : {X : Type 0} (P : X → Type 0) (xs : List X) (k : ℕ) (d : X) → EachIs P xs → k < length xs → P (get_or xs k d)
each-get P [] k d e l = absurd (omega arith)
each-get P (x ∷ xs) zero d e l = e.0
each-get P (x ∷ xs) (suc k) d e l = each-get P xs k d e.1 (omega arith)

pub each-join : {X : Type 0} (P : X → Type 0) (xs ys : List X) → EachIs P xs → EachIs P ys → EachIs P (xs ++ ys)
each-join P [] ys e f = f
each-join P (x ∷ xs) ys e f = (e.0, each-join P xs ys e.1 f)
