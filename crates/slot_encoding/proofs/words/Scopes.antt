-- The places of variables in force: behind other words, under escapes, and where all words differ.
use Rattle.std.proofs.Common.{ℕ, zero, suc, ◌≡◌, ◌+◌, ◌<◌, Bool, true, false, List, [], ◌∷◌, ◌++◌, map, length, Option, Some, None, refl, ap, sym, ◌∙◌, arith, true≢false}
use Rattle.std.specs.Str.{bytes_eq}
use Rattle.text_forms.specs.Words.{Word, later, last_place, word_at}
use Rattle.htn_base.specs.Different.{AreDifferent}
use Rattle.plan_texts.specs.Types.{EachIs}
use Rattle.plan_texts.proofs.Basics.{bytes_eq-true, bytes_eq-refl, bytes_eq-other}
use Rattle.plan_texts.proofs.Members.{lacks-each}

pub last-behind : (w : Word) (us ws : List Word) (k : ℕ) → last_place w ws ≡ Some k → last_place w (us ++ ws) ≡ Some (length us + k)
last-behind w [] ws k e = let f : k ≡ 0 + k = omega arith in e ∙ ap Some f
last-behind w (u ∷ us) ws k e = let f : suc (length us + k) ≡ suc (length us) + k = omega arith in ap (λ z. later z (bytes_eq w u)) (last-behind w us ws k e) ∙ ap Some f

pub last-within : (w : Word) (ws : List Word) (k : ℕ) → last_place w ws ≡ Some k → k < length ws
last-within w [] k e = absurd cc
last-within w (v ∷ ws) k e = go (last_place w ws) (last-within w ws) (bytes_eq w v) e
  where
    go : (o : Option ℕ) → ((j : ℕ) → o ≡ Some j → j < length ws) → (t : Bool) → later o t ≡ Some k → k < suc (length ws)
    go (Some j) f t g = let l = f j refl in let h : suc j ≡ k = cc in omega arith
    go None f true g = let h : 0 ≡ k = cc in omega arith
    go None f false g = absurd cc

pub word-behind : (us ws : List Word) (k : ℕ) → word_at (us ++ ws) (length us + k) ≡ word_at ws k
word-behind [] ws k = let f : 0 + k ≡ k = omega arith in ap (word_at ws) f
word-behind (u ∷ us) ws k = let f : suc (length us) + k ≡ suc (length us + k) = omega arith in ap (word_at (u ∷ (us ++ ws))) f ∙ word-behind us ws k

pub word-map : (f : Word → Word) (ws : List Word) (k : ℕ) → k < length ws → word_at (map f ws) k ≡ f (word_at ws k)
word-map f [] k l = absurd (omega arith)
word-map f (w ∷ ws) zero l = refl
word-map f (w ∷ ws) (suc k) l = word-map f ws k (omega arith)

module _ (f : Word → Word) (once : (u w : Word) → f u ≡ f w → u ≡ w) where
  same_test : (u w : Word) → bytes_eq (f u) (f w) ≡ bytes_eq u w
  same_test u w = go (bytes_eq u w) refl
    where
      go : (t : Bool) → bytes_eq u w ≡ t → bytes_eq (f u) (f w) ≡ t
      go true e = ap (λ z. bytes_eq (f u) (f z)) (sym (bytes_eq-true u w e)) ∙ bytes_eq-refl (f u)
      go false e = bytes_eq-other (f u) (f w) (λ h. true≢false (sym (bytes_eq-refl u) ∙ ap (bytes_eq u) (once u w h) ∙ e))

  pub last-map : (w : Word) (ws : List Word) → last_place (f w) (map f ws) ≡ last_place w ws
  last-map w [] = refl
  last-map w (v ∷ ws) = ap (λ z. later z (bytes_eq (f w) (f v))) (last-map w ws) ∙ ap (later (last_place w ws)) (same_test w v)

last-absent : (w : Word) (ws : List Word) → EachIs (λ u. w ≡ u → ⊥) ws → last_place w ws ≡ None
last-absent w [] e = refl
last-absent w (u ∷ ws) e = ap (λ z. later z (bytes_eq w u)) (last-absent w ws e.1) ∙ ap (later None) (bytes_eq-other w u e.0)

-- where all words differ, none hides another
pub last-different : (ws : List Word) (k : ℕ) → AreDifferent ws → k < length ws → last_place (word_at ws k) ws ≡ Some k
last-different [] k d l = absurd (omega arith)
last-different (w ∷ ws) zero d l = ap (λ z. later z (bytes_eq w w)) (last-absent w ws (lacks-each ws w d.0)) ∙ ap (later None) (bytes_eq-refl w)
last-different (w ∷ ws) (suc k) d l = ap (λ z. later z (bytes_eq (word_at ws k) w)) (last-different ws k d.1 (omega arith))
