-- What is printed for the type of a variable spells it.
use Rattle.std.proofs.Common.{ℕ, ◌≡◌, ◌<◌, ◌||◌, true, false, List, [], ◌∷◌, map, length, Some, refl, ap, sym, ◌∙◌, arith}
use Rattle.std.proofs.lemmas.Bool.{cond-true, cond-false}
use Rattle.text_forms.specs.Lists.{name}
use Rattle.text_forms.specs.Words.{Word, is_among}
use Rattle.text_forms.specs.Printing.{IsPrintablePart, ArePrintableParts}
use Rattle.plan_texts.specs.Declared.{Declared, one_word, kinds, kind_at}
use Rattle.plan_texts.specs.TypedLists.{first_seen, words_in, kind_said, are_names}
use Rattle.htn_base.specs.Different.{AreDifferent}
use Rattle.plan_texts.specs.Types.{Has, EachIs}
use Rattle.plan_texts.specs.Printed.{all_parts, kind_part}
use Rattle.plan_texts.specs.Printable.{IsPlain, IsUnion, HasWords}
use Rattle.plan_texts.proofs.Basics.{bytes_eq-other}
use Rattle.plan_texts.proofs.Members.{each-has, lacks-each}
use Rattle.plan_texts.proofs.Places.{each-get, each-join, plain-token}

words-parts : (ws : List Word) → words_in (all_parts (map name ws)) ≡ ws
words-parts [] = refl
words-parts (w ∷ ws) = ap (λ t. w ∷ t) (words-parts ws)

-- a word that isn't seen yet
abbrev IsNew : List Word → Word → Type 0
IsNew seen w = is_among w seen ≡ false

still-new : (seen : List Word) (w : Word) (ws : List Word) → EachIs (IsNew seen) ws → EachIs (λ u. w ≡ u → ⊥) ws → EachIs (IsNew (w ∷ seen)) ws
still-new seen w [] e f = tt
still-new seen w (u ∷ ws) e f = ((λ i. bytes_eq-other u w (λ g. f.0 (sym g)) i || e.0 i), still-new seen w ws e.1 f.1)

seen-different : (seen ws : List Word) → EachIs (IsNew seen) ws → AreDifferent ws → first_seen seen ws ≡ ws
seen-different seen [] e d = refl
seen-different seen (w ∷ ws) e d = cond-false _ _ _ e.0 ∙ ap (λ t. w ∷ t) (seen-different (w ∷ seen) ws (still-new seen w ws e.1 (lacks-each ws w d.0)) d.1)

all-new : (ws : List Word) → EachIs (IsNew []) ws
all-new [] = tt
all-new (w ∷ ws) = (refl, all-new ws)

plain-names : (w : Word) (ws : List Word) → IsPlain w → EachIs IsPlain ws → are_names (w ∷ ws) ≡ true
plain-names w [] e f = e.1
plain-names w (u ∷ ws) e f = cond-true _ _ _ e.1 ∙ plain-names u ws f.0 f.1

plain-parts : (ws : List Word) → EachIs IsPlain ws → ArePrintableParts (all_parts (map name ws))
plain-parts [] e = tt
plain-parts (w ∷ ws) e = (plain-token w e.0, plain-parts ws e.1)

abbrev IsGood : List Word → Type 0
IsGood ws = (kind_said (Some (kind_part ws)) ≡ ws) × (are_names ws ≡ true) × IsPrintablePart (kind_part ws)

good-words : (ws : List Word) → EachIs IsPlain ws → EachIs IsGood (map one_word ws)
good-words [] e = tt
good-words (w ∷ ws) e = ((refl, e.0.1, plain-token w e.0), good-words ws e.1)

module _ (v : Declared) (arities : List ℕ) (has : HasWords v arities) where
  plain-union : (ws : List Word) → EachIs (Has v.types) ws → EachIs IsPlain ws
  plain-union [] e = tt
  plain-union (w ∷ ws) e = (each-has IsPlain v.types w has.types e.0, plain-union ws e.1)

  good-union : (ws : List Word) → IsUnion v arities ws → IsGood ws
  good-union [] e = absurd (let l = e.0 in omega arith)
  good-union (w ∷ []) e = absurd (let l = e.0 in omega arith)
  good-union (w ∷ u ∷ ws) e =
      let p = plain-union (w ∷ u ∷ ws) e.1 in
      (ap (first_seen []) (words-parts (w ∷ u ∷ ws)) ∙ seen-different [] (w ∷ u ∷ ws) (all-new (w ∷ u ∷ ws)) e.2, plain-names w (u ∷ ws) p.0 p.1, (refl, plain-parts (w ∷ u ∷ ws) p))

  good-unions : (ks : List (List Word)) → EachIs (IsUnion v arities) ks → EachIs IsGood ks
  good-unions [] e = tt
  good-unions (k ∷ ks) e = (good-union k e.0, good-unions ks e.1)

  pub good-kind : (t : ℕ) → t < length (kinds v) → IsGood (kind_at v t)
  good-kind t l = each-get IsGood (kinds v) t [] (each-join IsGood (map one_word v.types) v.unions (good-words v.types has.types) (good-unions v.unions has.unions)) l
