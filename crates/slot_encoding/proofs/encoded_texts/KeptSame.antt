-- What is kept by two tests that tell the same is the same.
use Rattle.std.proofs.Common.{◌≡◌, inl, inr, List, [], ◌∷◌, ap, sym, ◌∙◌}
use Rattle.plan_model.specs.plan_meaning.Compilation.{Keeps}

module _ {A : Type 0} (P Q : A → Type 0) (to : (x : A) → P x → Q x) (from : (x : A) → Q x → P x) where
  pub keeps-same : (xs ks ls : List A) → Keeps P xs ks → Keeps Q xs ls → ks ≡ ls
  keeps-same [] ks ls k l = k ∙ sym l
  keeps-same (x ∷ xs) ks ls (inl (h, r, e, k)) (inl (g, s, f, l)) = e ∙ ap (λ z. x ∷ z) (keeps-same xs r s k l) ∙ sym f
  keeps-same (x ∷ xs) ks ls (inl (h, r, e, k)) (inr (n, l)) = absurd (n (to x h))
  keeps-same (x ∷ xs) ks ls (inr (n, k)) (inl (g, s, f, l)) = absurd (n (from x g))
  keeps-same (x ∷ xs) ks ls (inr (n, k)) (inr (m, l)) = keeps-same xs ks ls k l
