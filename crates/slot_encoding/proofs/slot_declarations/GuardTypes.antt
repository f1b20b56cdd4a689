-- The types of guards, as the list grows.
use Rattle.std.proofs.Common.{ℕ, ◌≡◌, Bool, true, false, not, cond, List, [], ◌∷◌, ◌++◌, map, nat_eq, refl, ap, sym, ◌∙◌, append_assoc}
use Rattle.std.proofs.lemmas.Bool.{eqb-true}
use Rattle.std.proofs.lemmas.List.{append-nil}
use Rattle.plan_model.specs.declared.networks.Guard.{Guard}
use Rattle.plan_model.specs.declared.schemas.MethodPlan.{MethodPlan}
use Rattle.plan_model.specs.plan_meaning.Compilation.{once}
use Rattle.slot_encoding.specs.EncodedNames.{joined}
use Rattle.slot_encoding.specs.slot_declarations.Guards.{with_type, with_types, with_all_types}
use Rattle.plan_model.proofs.plan_meaning.Once.{has, once_push}

same_follows : (x u y : ℕ) → nat_eq u y ≡ true → nat_eq x u ≡ nat_eq x y
same_follows x u y e = ap (nat_eq x) (eqb-true u y e)

with_type-once : (xs : List ℕ) (y : ℕ) → with_type (once nat_eq xs) y ≡ once nat_eq (xs ++ y ∷ [])
with_type-once xs y = go (has nat_eq y (once nat_eq xs)) ∙ sym (once_push nat_eq same_follows xs y)
  where
    go : (b : Bool) → cond (not b) (once nat_eq xs ++ y ∷ []) (once nat_eq xs) ≡ cond b (once nat_eq xs) (once nat_eq xs ++ y ∷ [])
    go true = refl
    go false = refl

with_types-once : (xs : List ℕ) (gs : List Guard) → with_types (once nat_eq xs) gs ≡ once nat_eq (xs ++ map (λ (g : Guard). g.ty) gs)
with_types-once xs [] = ap (once nat_eq) (sym (append-nil xs))
with_types-once xs (g ∷ gs) =
    ap (λ ts. with_types ts gs) (with_type-once xs g.ty) ∙ with_types-once (xs ++ g.ty ∷ []) gs
    ∙ ap (once nat_eq) (append_assoc xs (g.ty ∷ []) (map (λ (g : Guard). g.ty) gs))

with_all_types-once : (xs : List ℕ) (plans : List MethodPlan)
    → with_all_types (once nat_eq xs) plans ≡ once nat_eq (xs ++ joined (map (λ (plan : MethodPlan). map (λ (g : Guard). g.ty) plan.guards) plans))
with_all_types-once xs [] = ap (once nat_eq) (sym (append-nil xs))
with_all_types-once xs (plan ∷ plans) =
    ap (λ ts. with_all_types ts plans) (with_types-once xs plan.guards) ∙ with_all_types-once (xs ++ map (λ (g : Guard). g.ty) plan.guards) plans
    ∙ ap (once nat_eq) (append_assoc xs (map (λ (g : Guard). g.ty) plan.guards) (joined (map (λ (plan : MethodPlan). map (λ (g : Guard). g.ty) plan.guards) plans)))

pub with_all_types-empty : (plans : List MethodPlan) → with_all_types [] plans ≡ once nat_eq (joined (map (λ (plan : MethodPlan). map (λ (g : Guard). g.ty) plan.guards) plans))
with_all_types-empty plans = with_all_types-once [] plans
