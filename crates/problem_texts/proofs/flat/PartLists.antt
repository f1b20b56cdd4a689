-- Lists of parts, where each part gives a list.
use Rattle.std.proofs.Common.{◌≡◌, ◌∙◌, List, [], ◌∷◌, ◌++◌, Bool, true, false, cond, map, refl, sym, ap, ap₂, append_assoc, append-nil}
use Rattle.pddl_printer.specs.WrittenOut.{joined}

-- these parts become those
pub record Become {A : Type 0} (f : A → List A) (xs ys : List A) : Type 0 where
  pub are : joined (map f xs) ≡ ys

module _ {A : Type 0} {f : A → List A} where
  pub kept : {xs zs : List A} (x : A) → f x ≡ x ∷ [] → Become f xs zs → Become f (x ∷ xs) (x ∷ zs)
  kept x e h = record { are = ap₂ (λ u v. u ++ v) e h.are }

  -- a single part
  pub alone : (x : A) (ys : List A) → f x ≡ ys → Become f (x ∷ []) ys
  alone x ys e = record { are = append-nil (f x) ∙ e }

  pub both : {xs ys us vs : List A} → Become f xs us → Become f ys vs → Become f (xs ++ ys) (us ++ vs)
  both {xs = xs} {ys = ys} h k = record { are = at xs ∙ ap₂ (λ u v. u ++ v) h.are k.are }
    where
      at : (xs : List A) → joined (map f (xs ++ ys)) ≡ joined (map f xs) ++ joined (map f ys)
      at [] = refl
      at (x ∷ xs) = ap (λ z. f x ++ z) (at xs) ∙ sym (append_assoc (f x) (joined (map f xs)) (joined (map f ys)))

  pub all_kept : {B : Type 0} (g : B → A) (bs : List B) → ((b : B) → f (g b) ≡ g b ∷ []) → Become f (map g bs) (map g bs)
  all_kept g [] h = record { are = refl }
  all_kept g (b ∷ bs) h = kept (g b) (h b) (all_kept g bs h)

  pub all_become : {B : Type 0} (g h : B → A) (bs : List B) → ((b : B) → f (g b) ≡ h b ∷ []) → Become f (map g bs) (map h bs)
  all_become g h [] e = record { are = refl }
  all_become g h (b ∷ bs) e = record { are = ap₂ (λ u v. u ++ v) (e b) (all_become g h bs e).are }

  pub kept_if : (t : Bool) (x : A) → f x ≡ x ∷ [] → Become f (cond t [] (x ∷ [])) (cond t [] (x ∷ []))
  kept_if true x e = record { are = refl }
  kept_if false x e = alone x (x ∷ []) e
