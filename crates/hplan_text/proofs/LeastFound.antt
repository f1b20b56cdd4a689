-- The least of some faults, where two lists of them are joined.
use Rattle.std.proofs.Common.{◌≡◌, ◌⊎◌, inl, inr, Option, Some, List, [], ◌∷◌, ◌++◌, refl, sym, ap, subst, ◌∙◌, arith}
use Rattle.std.proofs.lemmas.List.{append-nil}
use Rattle.plan_texts.specs.Types.{Has}
use Rattle.text_forms.specs.Faults.{Fault, IsBefore}
use Rattle.hplan_text.specs.declared.least.Found.{Found}
use Rattle.hplan_text.specs.LeastOf.{as_fault, IsLeastOf}
use Rattle.hplan_text.proofs.PhaseFaults.{itself}

pub has-split : {X : Type 0} (xs ys : List X) (x : X) → Has (xs ++ ys) x → Has xs x ⊎ Has ys x
has-split [] ys x h = inr h
has-split (y ∷ xs) ys x (inl e) = inl (inl e)
has-split (y ∷ xs) ys x (inr h) = elim (has-split xs ys x h) [ inl i ↦ inl (inr i) | inr i ↦ inr i ]

pub has-left : {X : Type 0} (xs ys : List X) (x : X) → Has xs x → Has (xs ++ ys) x
has-left [] ys x h = absurd h
has-left (y ∷ xs) ys x (inl e) = inl e
has-left (y ∷ xs) ys x (inr h) = inr (has-left xs ys x h)

pub has-right : {X : Type 0} (xs ys : List X) (x : X) → Has ys x → Has (xs ++ ys) x
has-right [] ys x h = h
has-right (y ∷ xs) ys x h = inr (has-right xs ys x h)

pub before-then : (f g h : Fault) → IsBefore f g → IsBefore g h → IsBefore f h
before-then f g h (inl a) (inl b) = inl (omega arith)
before-then f g h (inl a) (inr b) = let e = b.0 in inl (omega arith)
before-then f g h (inr a) (inl b) = let e = a.0 in inl (omega arith)
before-then f g h (inr a) (inr b) = let e = a.0 in let d = b.0 in let l = a.1 in let m = b.1 in inr (omega arith, omega arith)

pub least-one : (f : Found) → IsLeastOf (Some f) (as_fault f ∷ [])
least-one f = (inl refl, one)
  where
    one : (g : Fault) → Has (as_fault f ∷ []) g → IsBefore (as_fault f) g
    one g (inl e) = subst (λ z. IsBefore (as_fault f) z) e (itself (as_fault f))
    one g (inr h) = absurd h

module _ (fs gs : List Fault) where
  pub least-none : (o : Option Found) → fs ≡ [] → IsLeastOf o gs → IsLeastOf o (fs ++ gs)
  least-none o e h = subst (λ z. IsLeastOf o (z ++ gs)) (sym e) h

  pub least-only : (o : Option Found) → IsLeastOf o fs → gs ≡ [] → IsLeastOf o (fs ++ gs)
  least-only o h e = subst (λ z. IsLeastOf o z) (sym (ap (λ z. fs ++ z) e ∙ append-nil fs)) h

  pub least-left : (f g : Found) → IsLeastOf (Some f) fs → IsLeastOf (Some g) gs → IsBefore (as_fault f) (as_fault g) → IsLeastOf (Some f) (fs ++ gs)
  least-left f g a b l = (has-left fs gs (as_fault f) a.0, each)
    where
      each : (h : Fault) → Has (fs ++ gs) h → IsBefore (as_fault f) h
      each h i = elim (has-split fs gs h i) [ inl j ↦ a.1 h j | inr j ↦ before-then (as_fault f) (as_fault g) h l (b.1 h j) ]

  pub least-right : (f g : Found) → IsLeastOf (Some f) fs → IsLeastOf (Some g) gs → IsBefore (as_fault g) (as_fault f) → IsLeastOf (Some g) (fs ++ gs)
  least-right f g a b l = (has-right fs gs (as_fault g) b.0, each)
    where
      each : (h : Fault) → Has (fs ++ gs) h → IsBefore (as_fault g) h
      each h i = elim (has-split fs gs h i) [ inl j ↦ before-then (as_fault g) (as_fault f) h l (a.1 h j) | inr j ↦ b.1 h j ]
