-- The number of a type, from its words.
use Rattle.std.proofs.Common.{ℕ, zero, suc, ◌≡◌, ◌<◌, ◌&&◌, Bool, true, false, cond, List, [], ◌∷◌, ◌++◌, map, length, get_or, refl, ap, sym, subst, ◌∙◌, arith}
use Rattle.std.proofs.lemmas.Bool.{cond-true, cond-false, or_parts}
use Rattle.std.specs.List.{list_any}
use Rattle.std.specs.Str.{bytes_eq}
use Rattle.std.specs.Cmp.Lexicographic.{pointwise}
use Rattle.text_forms.specs.Words.{Word, word_at, first_place}
use Rattle.plan_texts.specs.Declared.{Declared, one_word, kinds}
use Rattle.htn_base.specs.Different.{AreDifferent}
use Rattle.plan_texts.specs.Types.{EachIs}
use Rattle.plan_texts.specs.Printable.{IsPlain, IsUnion, HasWords}
use Rattle.plan_texts.specs.FirstSeen.{first_unions}
use Rattle.plan_texts.proofs.Basics.{bytes_eq-refl, bytes_eq-other}
use Rattle.plan_texts.proofs.Members.{lacks-each}
use Rattle.plan_texts.proofs.Places.{first-different, each-get, each-join}

-- the place of the first of these that has these words; zero where none has
abbrev pub place : List (List Word) → List Word → ℕ
place [] k = 0
place (x ∷ xs) k = cond (pointwise bytes_eq k x) 0 (suc (place xs k))

-- no two have the same words
abbrev pub AreApart : List (List Word) → Type 0
AreApart [] = Unit {0}
AreApart (x ∷ xs) = EachIs (λ y. pointwise bytes_eq y x ≡ false) xs × AreApart xs

same_words : (k : List Word) → pointwise bytes_eq k k ≡ true
same_words [] = refl
same_words (w ∷ k) = λ i. bytes_eq-refl w i && same_words k i

pub place-at : (ks : List (List Word)) → AreApart ks → (t : ℕ) → t < length ks → place ks (get_or ks t []) ≡ t
place-at [] a t l = absurd (omega arith)
place-at (k ∷ ks) a zero l = cond-true _ _ _ (same_words k)
place-at (k ∷ ks) a (suc t) l =
    let h : t < length ks = omega arith in
    cond-false _ _ _ (each-get (λ y. pointwise bytes_eq y k ≡ false) ks t [] a.0 h) ∙ ap suc (place-at ks a.1 t h)

-- a kind that has words is one of these
pub kind-within : {X : Type 0} (ks : List (List X)) (t : ℕ) → (get_or ks t [] ≡ [] → ⊥) → t < length ks
kind-within [] t n = absurd (n refl)
kind-within (k ∷ ks) zero n = omega arith
kind-within (k ∷ ks) (suc t) n = let h = kind-within ks t n in omega arith

pub word-within : (ws : List Word) (t : ℕ) → (word_at ws t ≡ [] → ⊥) → t < length ws
word-within [] t n = absurd (n refl)
word-within (w ∷ ws) zero n = omega arith
word-within (w ∷ ws) (suc t) n = let h = word-within ws t n in omega arith

-- of words that differ each has one place
pub word-once : (ws : List Word) (s t : ℕ) → AreDifferent ws → s < length ws → t < length ws → word_at ws s ≡ word_at ws t → s ≡ t
word-once ws s t d i j e = let f = first-different ws s d i in let g = first-different ws t d j in let h = ap (λ w. first_place w ws) e in cc

abbrev IsNew : List (List Word) → List Word → Type 0
IsNew seen u = list_any (pointwise bytes_eq u) seen ≡ false

-- what is kept of some unions is new, and apart
pub unions-apart : (seen us : List (List Word)) → EachIs (IsNew seen) (first_unions seen us) × AreApart (first_unions seen us)
unions-apart seen [] = (tt, tt)
unions-apart seen (u ∷ us) = go (list_any (pointwise bytes_eq u) seen) refl (unions-apart seen us) (unions-apart (u ∷ seen) us)
  where
    parted : (xs : List (List Word)) → EachIs (IsNew (u ∷ seen)) xs → EachIs (λ y. pointwise bytes_eq y u ≡ false) xs × EachIs (IsNew seen) xs
    parted [] e = (tt, tt)
    parted (x ∷ xs) e =
        let h = or_parts (pointwise bytes_eq x u) (list_any (pointwise bytes_eq x) seen) e.0 in
        let g = parted xs e.1 in
        ((h.0, g.0), (h.1, g.1))

    go : (x : Bool) → list_any (pointwise bytes_eq u) seen ≡ x → EachIs (IsNew seen) (first_unions seen us) × AreApart (first_unions seen us)
        → EachIs (IsNew (u ∷ seen)) (first_unions (u ∷ seen) us) × AreApart (first_unions (u ∷ seen) us)
        → EachIs (IsNew seen) (first_unions seen (u ∷ us)) × AreApart (first_unions seen (u ∷ us))
    go true e a b = subst (λ xs. EachIs (IsNew seen) xs × AreApart xs) (sym (cond-true _ _ _ e)) a
    go false e a b = let g = parted (first_unions (u ∷ seen) us) b.0 in subst (λ xs. EachIs (IsNew seen) xs × AreApart xs) (sym (cond-false _ _ _ e)) ((e, g.1), (g.0, b.1))

module _ (us : List (List Word)) (long : EachIs (λ u. 1 < length u) us) (apart : AreApart us) where
  from_unions : (w : Word) (xs : List (List Word)) → EachIs (λ u. 1 < length u) xs → EachIs (λ y. pointwise bytes_eq y (one_word w) ≡ false) xs
  from_unions w [] e = tt
  from_unions w ([] ∷ xs) e = absurd (let l = e.0 in omega arith)
  from_unions w ((u ∷ []) ∷ xs) e = absurd (let l = e.0 in omega arith)
  from_unions w ((u ∷ x ∷ more) ∷ xs) e = (no_more (bytes_eq u w), from_unions w xs e.1)
    where
      no_more : (a : Bool) → (a && false) ≡ false
      no_more true = refl
      no_more false = refl

  from_words : (w : Word) (ws : List Word) → EachIs (λ u. w ≡ u → ⊥) ws → EachIs (λ y. pointwise bytes_eq y (one_word w) ≡ false) (map one_word ws)
  from_words w [] e = tt
  from_words w (u ∷ ws) e = ((λ i. bytes_eq-other u w (λ f. e.0 (sym f)) i && true), from_words w ws e.1)

  kinds-apart : (ws : List Word) → AreDifferent ws → AreApart (map one_word ws ++ us)
  kinds-apart [] d = apart
  kinds-apart (w ∷ ws) d = (each-join (λ y. pointwise bytes_eq y (one_word w) ≡ false) (map one_word ws) us (from_words w ws (lacks-each ws w d.0)) (from_unions w us long), kinds-apart ws d.1)

words_kinds : (ws : List Word) → EachIs (λ k. k ≡ [] → ⊥) (map one_word ws)
words_kinds [] = tt
words_kinds (w ∷ ws) = ((λ e. cc), words_kinds ws)

module _ (v : Declared) (arities : List ℕ) where
  union_kinds : (us : List (List Word)) → EachIs (IsUnion v arities) us → EachIs (λ k. k ≡ [] → ⊥) us × EachIs (λ (u : List Word). 1 < length u) us
  union_kinds [] e = (tt, tt)
  union_kinds (u ∷ us) e = let h = union_kinds us e.1 in let l = e.0.0 in (((λ f. let g = ap length f in omega arith), h.0), (l, h.1))

  module _ (has : HasWords v arities) where
    -- each kind has words
    pub kind-has : (t : ℕ) → t < length (kinds v) → get_or (kinds v) t [] ≡ [] → ⊥
    kind-has t l = each-get (λ k. k ≡ [] → ⊥) (kinds v) t [] (each-join (λ k. k ≡ [] → ⊥) (map one_word v.types) v.unions (words_kinds v.types) (union_kinds v.unions has.unions).0) l

    pub all_apart : AreApart v.unions → AreApart (kinds v)
    all_apart a = kinds-apart v.unions (union_kinds v.unions has.unions).1 a v.types has.types_differ

pub plain-some : (w : Word) → IsPlain w → w ≡ [] → ⊥
plain-some [] e f = let g = e.1 in cc
plain-some (b ∷ w) e f = cc
