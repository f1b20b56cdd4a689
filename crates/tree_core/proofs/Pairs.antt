-- Pairs of numbers by their order.
use Rattle.std.proofs.Common.{ℕ, ◌≡◌, ◌⊎◌, inl, inr, Bool, true, false, cond, Some, Option, refl, ap, subst, ◌∙◌}
use Rattle.std.specs.Ordering.{is_eq, nat_cmp}
use Rattle.std.specs.declared.cmp.Ordering.{Ordering}
use Rattle.std.specs.declared.cmp.Ordering.TheVariants.{Less, Equal, Greater}
use Rattle.std.proofs.lemmas.Cmp.{nat_cmp_total, tied_itself}
use Rattle.std.proofs.lemmas.Map.Lookups.{exact_pairs, exact_unsigned}
use Rattle.tree_core.specs.Rooms.{pair_cmp}

equal_of : (o : Ordering) → is_eq o ≡ true → o ≡ Equal
equal_of Less e = absurd cc
equal_of Equal e = refl
equal_of Greater e = absurd cc

pub pair_itself : (x i : ℕ) → pair_cmp (x, i) (x, i) ≡ Equal
pair_itself x i = let a = tied_itself nat_cmp_total x in let b = tied_itself nat_cmp_total i in cc

-- what stands at a pair after another was put
pub pair_put : (x i y j n : ℕ) (more was : Option ℕ) → more ≡ cond (is_eq (pair_cmp (x, i) (y, j))) (Some n) was
    → ((x ≡ y) × (i ≡ j) × (more ≡ Some n)) ⊎ (((x ≡ y) × (i ≡ j) → ⊥) × (more ≡ was))
pair_put x i y j n more was e = go (is_eq (pair_cmp (x, i) (y, j))) refl
  where
    go : (b : Bool) → is_eq (pair_cmp (x, i) (y, j)) ≡ b → ((x ≡ y) × (i ≡ j) × (more ≡ Some n)) ⊎ (((x ≡ y) × (i ≡ j) → ⊥) × (more ≡ was))
    go true f =
        let g = exact_pairs nat_cmp nat_cmp exact_unsigned exact_unsigned (x, i) (y, j) (equal_of (pair_cmp (x, i) (y, j)) f) in
        inl (ap (λ p. p.0) g, ap (λ p. p.1) g, e ∙ ap (λ b. cond b (Some n) was) f)
    go false f = inr (
      λ h. (
          let p : pair_cmp (x, i) (y, j) ≡ Equal = subst (λ u. pair_cmp (x, i) (u, j) ≡ Equal) h.0 (subst (λ v. pair_cmp (x, i) (x, v) ≡ Equal) h.1 (pair_itself x i)) in
          let q = ap is_eq p in
          cc
          ),
      e ∙ ap (λ b. cond b (Some n) was) f,
    )
