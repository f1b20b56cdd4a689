-- What is added to a name table, word by word.
use Rattle.std.proofs.Common.{◌≡◌, ℕ, zero, suc, true, false, Bool, if◌then◌else◌, List, [], ◌∷◌, ◌++◌, drop, All, Contains, refl, ap, subst, arith}
use Rattle.std.proofs.lemmas.List.Elements.{All-append, All-nil, All-cons, All-contains}
use Rattle.std.specs.List.{list_any}
use Rattle.std.specs.Str.{bytes_eq}
use Rattle.htn_base.specs.Table.{with_word}
use Rattle.text_forms.specs.Placed.{Placed, word, level, parts_at}
use Rattle.text_forms.specs.Tokens.{Lexeme, opens, closes, spells, lexemes}
use Rattle.text_forms.specs.Words.{Word}
use Rattle.gd_reader.specs.Added.{Has, HasAll, Says, bare, bare_by, bare_words, words_in}
use Rattle.gd_reader.specs.Terms.{Names}
use Rattle.gd_reader.specs.Words.{sort_of, head_of, plain_by, effect_head_of, plain_effect_by}
use Rattle.gd_reader.specs.declared.words.EffectHead.TheVariants as effect
use Rattle.gd_reader.specs.declared.words.Head.TheVariants as head
use Rattle.gd_reader.specs.declared.words.Sort.{Sort}
use Rattle.gd_reader.specs.declared.words.Sort.TheVariants.{Variable, Name, Other}

pub adds_word : (a : Names) (w : Word) (all : List Word) → Has all w → HasAll all a → HasAll all (with_word a w)
unfolding Has HasAll
adds_word a w all h old = by_test (list_any (bytes_eq w) a)
  where
    by_test : (b : Bool) → All (Contains all) (if b then a else a ++ w ∷ [])
    by_test true = old
    by_test false = All-append (Contains all) a (w ∷ []) old (All-cons (Contains all) w [] h (All-nil (Contains all)))

-- by the sort of a word
pub bare_variable : (w : Word) → sort_of w ≡ Variable → bare w ≡ drop 1 w
unfolding bare
bare_variable w e = ap (λ s. bare_by s w) e

pub bare_name : (w : Word) → sort_of w ≡ Name → bare w ≡ w
unfolding bare
bare_name w e = ap (λ s. bare_by s w) e

-- a word that stands at a token
first_of : (w : Word) (ws : List Word) → Contains (w ∷ ws) w
first_of w ws = (0, omega arith, refl)

later_of : (w v : Word) (ws : List Word) → Contains ws w → Contains (v ∷ ws) w
later_of w v ws h = let few = h.1 in (suc h.0, omega arith, h.2)

said_among : (ts : List Lexeme) (i at : ℕ) (w : Word) (q : Placed) → level 0 (drop i ts) ≡ word at w q → Contains (bare_words ts) (bare w)
said_among [] zero at w q e = cc
said_among [] (suc i) at w q e = cc
said_among (opens b ∷ ts) zero at w q e = cc
said_among (closes b ∷ ts) zero at w q e = cc
said_among (spells b letters ∷ ts) zero at w q e =
    let same : letters ≡ w = cc in
    subst (λ v. Contains (bare letters ∷ bare_words ts) (bare v)) same (first_of (bare letters) (bare_words ts))
said_among (opens b ∷ ts) (suc i) at w q e = said_among ts i at w q e
said_among (closes b ∷ ts) (suc i) at w q e = said_among ts i at w q e
said_among (spells b letters ∷ ts) (suc i) at w q e = later_of (bare w) (bare letters) (bare_words ts) (said_among ts i at w q e)

pub says : (text : List ℕ) (i at : ℕ) (w : Word) (q : Placed) → parts_at text i ≡ word at w q → Says text w
unfolding words_in Has HasAll
says text i at w q e all h = All-contains (Contains all) (words_in text) (bare w) h (said_among (lexemes text) i at w q e)

-- a word that begins an atom is a name
skip : {H : Type 0} (b : Bool) (x y z : H) → (x ≡ z → ⊥) → (if b then x else y) ≡ z → y ≡ z
skip true x y z never e = absurd (never e)
skip false x y z never e = e

plain_is_name : (s : Sort) → plain_by s ≡ head.Plain → s ≡ Name
plain_is_name Name e = refl
plain_is_name Variable e = cc
plain_is_name Other e = cc

plain_effect_is_name : (s : Sort) → plain_effect_by s ≡ effect.Plain → s ≡ Name
plain_effect_is_name Name e = refl
plain_effect_is_name Variable e = cc
plain_effect_is_name Other e = cc

pub bare_plain : (w : Word) → head_of w ≡ head.Plain → bare w ≡ w
unfolding head_of
bare_plain w e =
    bare_name w (plain_is_name (sort_of w)
    (skip _ head.Equal _ head.Plain (λ h. cc) (skip _ head.Exists _ head.Plain (λ h. cc) (skip _ head.Forall _ head.Plain (λ h. cc)
    (skip _ head.Imply _ head.Plain (λ h. cc) (skip _ head.Not _ head.Plain (λ h. cc) (skip _ head.Or _ head.Plain (λ h. cc)
    (skip _ head.And _ head.Plain (λ h. cc) e))))))))

pub bare_plain_effect : (w : Word) → effect_head_of w ≡ effect.Plain → bare w ≡ w
unfolding effect_head_of
bare_plain_effect w e =
    bare_name w (plain_effect_is_name (sort_of w)
    (skip _ effect.Increase _ effect.Plain (λ h. cc) (skip _ effect.Not _ effect.Plain (λ h. cc) (skip _ effect.When _ effect.Plain (λ h. cc)
    (skip _ effect.Forall _ effect.Plain (λ h. cc) (skip _ effect.And _ effect.Plain (λ h. cc) e))))))
