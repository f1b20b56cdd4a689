-- Spots among others, and words among others.
use Rattle.std.proofs.Common.{ℕ, suc, ◌≡◌, Bool, true, false, cond, inl, inr, List, [], ◌∷◌, ◌++◌, Option, Some, None, refl, sym, ap, ◌∙◌}
use Rattle.std.specs.Prelude.{◌⊎◌, ◌↔◌, option_map, flat_map}
use Rattle.std.specs.Str.{bytes_eq}
use Rattle.text_forms.specs.Words.{Word, first_place, last_place, later}
use Rattle.plan_texts.proofs.Basics.{bytes_eq-refl, bytes_eq-other}
use Rattle.htn_base.specs.Lists.{One, Has}
use Rattle.name_binding.specs.Spots.{spot}
use Rattle.name_binding.specs.Terms.{unless_found}
use Rattle.name_binding.specs.declared.faults.Spot.{Spot}

none_behind : (o : Option ℕ) → option_map suc o ≡ None → o ≡ None
none_behind None f = refl
none_behind (Some k) f = absurd (cc)

-- a word that has no place stands nowhere, and conversely
pub no_first : (w : Word) (ws : List Word) → first_place w ws ≡ None → Has ws w → ⊥
no_first w [] e h = absurd h
no_first w (u ∷ ws) e (inl h) = let f = ap (λ x. cond x (Some 0) (option_map suc (first_place w ws))) (ap (bytes_eq w) h ∙ bytes_eq-refl w) in absurd (cc)
no_first w (u ∷ ws) e (inr h) = go (bytes_eq w u) e (λ f. no_first w ws f h)
  where
    go : (x : Bool) → cond x (Some 0) (option_map suc (first_place w ws)) ≡ None → (first_place w ws ≡ None → ⊥) → ⊥
    go true f more = absurd (cc)
    go false f more = more (none_behind (first_place w ws) f)

pub lacks_first : (w : Word) (ws : List Word) → (Has ws w → ⊥) → first_place w ws ≡ None
lacks_first w [] n = refl
lacks_first w (u ∷ ws) n =
    ap (λ x. cond x (Some 0) (option_map suc (first_place w ws))) (bytes_eq-other w u (λ e. n (inl (sym e))))
    ∙ ap (option_map suc) (lacks_first w ws (λ h. n (inr h)))

pub no_last : (w : Word) (ws : List Word) → last_place w ws ≡ None → Has ws w → ⊥
no_last w [] e h = absurd h
no_last w (u ∷ ws) e h = go (last_place w ws) refl (bytes_eq w u) refl e h (no_last w ws)
  where
    go : (o : Option ℕ) → last_place w ws ≡ o → (x : Bool) → bytes_eq w u ≡ x → later o x ≡ None → Has (u ∷ ws) w → (last_place w ws ≡ None → Has ws w → ⊥) → ⊥
    go (Some k) g x i f j more = absurd (cc)
    go None g true i f j more = absurd (cc)
    go None g false i f (inl j) more = let k = ap (bytes_eq w) j ∙ bytes_eq-refl w in absurd (cc)
    go None g false i f (inr j) more = more g j

pub lacks_last : (w : Word) (ws : List Word) → (Has ws w → ⊥) → last_place w ws ≡ None
lacks_last w [] n = refl
lacks_last w (u ∷ ws) n =
    ap (λ o. later o (bytes_eq w u)) (lacks_last w ws (λ h. n (inr h)))
    ∙ ap (later None) (bytes_eq-other w u (λ e. n (inl (sym e))))

-- the fault of what was not found
unless_there : (code' at' : ℕ) (o : Option ℕ) (code at : ℕ) → Has (unless_found code' at' o) (spot at code) → (o ≡ None) × (at' ≡ at) × (code' ≡ code)
unless_there code' at' None code at (inl e) = (refl, ap (λ (s : Spot). s.at) e, ap (λ (s : Spot). s.code) e)
unless_there code' at' None code at (inr e) = absurd e
unless_there code' at' (Some k) code at e = absurd e

unless_back : (code' at' : ℕ) (o : Option ℕ) (code at : ℕ) → (o ≡ None) × (at' ≡ at) × (code' ≡ code) → Has (unless_found code' at' o) (spot at code)
unless_back code' at' None code at e = inl (ap (λ a. spot a code') e.1 ∙ ap (spot at) e.2)
unless_back code' at' (Some k) code at e = let f = e.0 in absurd (cc)

pub unless_has : (code' at' : ℕ) (o : Option ℕ) (code at : ℕ) → Has (unless_found code' at' o) (spot at code) ↔ ((o ≡ None) × (at' ≡ at) × (code' ≡ code))
unless_has code' at' o code at = (unless_there code' at' o code at, unless_back code' at' o code at)

-- what stands in two lists, and in a list made of each
pub append_there : {X : Type 0} (xs ys : List X) (x : X) → Has (xs ++ ys) x → Has xs x ⊎ Has ys x
append_there [] ys x h = inr h
append_there (z ∷ xs) ys x (inl e) = inl (inl e)
append_there (z ∷ xs) ys x (inr h) = elim (append_there xs ys x h) [ inl i ↦ inl (inr i) | inr i ↦ inr i ]

pub append_left : {X : Type 0} (xs ys : List X) (x : X) → Has xs x → Has (xs ++ ys) x
append_left [] ys x h = absurd h
append_left (z ∷ xs) ys x (inl e) = inl e
append_left (z ∷ xs) ys x (inr h) = inr (append_left xs ys x h)

pub append_right : {X : Type 0} (xs ys : List X) (x : X) → Has ys x → Has (xs ++ ys) x
append_right [] ys x h = h
append_right (z ∷ xs) ys x h = inr (append_right xs ys x h)

pub flat_there : {X Y : Type 0} (f : X → List Y) (xs : List X) (y : Y) → Has (flat_map f xs) y → One (λ x. Has (f x) y) xs
flat_there f [] y h = absurd h
flat_there f (x ∷ xs) y h = elim (append_there (f x) (flat_map f xs) y h) [ inl i ↦ inl i | inr i ↦ inr (flat_there f xs y i) ]

pub flat_back : {X Y : Type 0} (f : X → List Y) (xs : List X) (y : Y) → One (λ x. Has (f x) y) xs → Has (flat_map f xs) y
flat_back f [] y h = absurd h
flat_back f (x ∷ xs) y (inl h) = append_left (f x) (flat_map f xs) y h
flat_back f (x ∷ xs) y (inr h) = append_right (f x) (flat_map f xs) y (flat_back f xs y h)
