-- A test of whether words differ.
use Rattle.std.proofs.Common.{◌≡◌, Bool, true, not, ◌&&◌, List, [], ◌∷◌, ap, sym, subst, ◌∙◌, true≢false}
use Rattle.std.specs.List.{list_all}
use Rattle.std.specs.Str.{bytes_eq}
use Rattle.std.proofs.lemmas.Bool.{and_parts}
use Rattle.htn_base.specs.Different.{AreDifferent}
use Rattle.text_forms.specs.Words.{Word}
use Rattle.plan_texts.specs.Types.{EachIs}
use Rattle.plan_texts.proofs.Basics.{bytes_eq-refl}
use Rattle.plan_texts.proofs.Members.{each-lacks}

abbrev pub are_different : List Word → Bool
are_different [] = true
are_different (w ∷ ws) = list_all (λ u. not (bytes_eq w u)) ws && are_different ws

each-other : (w : Word) (ws : List Word) → list_all (λ u. not (bytes_eq w u)) ws ≡ true → EachIs (λ u. w ≡ u → ⊥) ws
each-other w [] e = tt
each-other w (u ∷ ws) e = let h = and_parts _ _ e in ((λ f. true≢false (sym h.0 ∙ ap not (subst (λ z. bytes_eq w z ≡ true) f (bytes_eq-refl w)))), each-other w ws h.1)

pub different_by : (ws : List Word) → are_different ws ≡ true → AreDifferent ws
different_by [] e = tt
different_by (w ∷ ws) e = let h = and_parts _ _ e in (each-lacks ws w (each-other w ws h.0), different_by ws h.1)
