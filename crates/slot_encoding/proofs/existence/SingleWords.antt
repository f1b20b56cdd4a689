-- Words that are each listed once differ, and no word is lost.
use Rattle.std.proofs.Common.{◌≡◌, ◌≢◌, ◌⊎◌, inl, inr, Bool, true, false, not, List, [], ◌∷◌, refl, ap, sym, subst, ◌∙◌, Contains, true≢false}
use Rattle.std.specs.Str.{bytes_eq}
use Rattle.htn_base.specs.Different.{AreDifferent}
use Rattle.plan_model.proofs.task_networks.Filters.{filter_to, different-filter}
use Rattle.text_forms.specs.Words.{Word}
use Rattle.plan_texts.proofs.Basics.{bytes_eq-true, bytes_eq-refl}
use Rattle.plan_model.specs.plan_meaning.Compilation.{once}
use Rattle.plan_model.proofs.plan_meaning.Pairs.{to_once}

abbrev pub single_words : List Word → List Word
single_words = once bytes_eq

tells : (u w : Word) → (bytes_eq u w ≡ false) ⊎ (u ≡ w)
tells u w = go (bytes_eq u w) refl
  where
    go : (b : Bool) → bytes_eq u w ≡ b → (bytes_eq u w ≡ false) ⊎ (u ≡ w)
    go true e = inr (bytes_eq-true u w e)
    go false e = inl e

pub to_single : (ws : List Word) (w : Word) → Contains ws w → Contains (single_words ws) w
to_single = to_once bytes_eq tells

not_same : (w u : Word) → not (bytes_eq w u) ≡ true → w ≢ u
not_same w u t e = true≢false (sym t ∙ ap not (subst (λ z. bytes_eq w z ≡ true) e (bytes_eq-refl w)))

pub single_differ : (ws : List Word) → AreDifferent (single_words ws)
single_differ [] = tt
single_differ (w ∷ ws) = (
  λ c. not_same w w (filter_to (λ u. not (bytes_eq w u)) (single_words ws) w c).1 refl,
  different-filter (λ u. not (bytes_eq w u)) (single_words ws) (single_differ ws),
)
