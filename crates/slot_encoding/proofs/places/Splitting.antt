-- The effect of a method with children, with its last part by recursion on the copiers.
use Rattle.std.proofs.Common.{ℕ, ◌≡◌, List, [], ◌∷◌, ◌++◌, slice_index, map, refl, ap}
use Rattle.plan_model.specs.declared.options.Style.{Style}
use Rattle.plan_model.specs.declared.terms.Term.TheVariants.{Var}
use Rattle.plan_model.specs.declared.networks.Pair.{Pair}
use Rattle.plan_model.specs.declared.effects.Effect.{Effect}
use Rattle.plan_model.specs.declared.effects.Effect.TheVariants as E
use Rattle.plan_model.specs.declared.schemas.MethodPlan.{MethodPlan}
use Rattle.plan_model.specs.declared.values.Compiled.{Compiled}
use Rattle.plan_model.specs.task_networks.Spelling.{numbers}
use Rattle.slot_encoding.specs.EncodedNames.{order_numbers}
use Rattle.order_encoder.specs.OrderFormulas.{copy_parts, pair_of}
use Rattle.slot_encoding.specs.EncodedActions.{splitting, children_slots, depth, held_task, is_free, spare, child_atoms}

cancel : (pre xs ys : List Effect) → pre ++ xs ≡ pre ++ ys → xs ≡ ys
cancel [] xs ys e = e
cancel (x ∷ pre) xs ys e = cancel pre xs ys cc

module _ (c : Compiled) (names : List (List ℕ)) (b : ℕ) (style : Style) (m : ℕ) (plan : MethodPlan) where
  abbrev pub frees : List Effect
  frees = map (λ v. E.Delete (is_free c names b style v)) (numbers 1 (spare c names b style m plan))

  abbrev pub kids : List Effect
  kids = map E.Add (child_atoms c names b style m plan (children_slots c names b style m plan) plan.schema.children)

  abbrev pub links : List Effect
  links = map (λ (p : Pair). E.Add (pair_of (order_numbers c names b) b (Var (slice_index (children_slots c names b style m plan) p.first)) (Var (slice_index (children_slots c names b style m plan) p.then)))) plan.schema.pairs

  abbrev pub copies_of : List ℕ → List Effect
  copies_of [] = []
  copies_of (i ∷ is) = copy_parts (order_numbers c names b) b (depth c names b style m plan) style (Var 0) (Var (slice_index (children_slots c names b style m plan) i)) ++ copies_of is

  abbrev whole : List Effect → List Effect
  whole xs = E.Delete (held_task c names b style m plan) ∷ frees ++ (kids ++ (links ++ xs))

  whole_same : (xs ys : List Effect) → whole xs ≡ whole ys → xs ≡ ys
  whole_same xs ys e = cancel links xs ys (cancel kids (links ++ xs) (links ++ ys) (cancel frees (kids ++ (links ++ xs)) (kids ++ (links ++ ys)) cc))

  splits : (is : List ℕ) → splitting c names b style m (record plan { copiers = is }) ≡ whole (copies_of is)
  splits [] = refl
  splits (i ∷ is) = ap (λ z. whole (copy_parts (order_numbers c names b) b (depth c names b style m plan) style (Var 0) (Var (slice_index (children_slots c names b style m plan) i)) ++ z)) (whole_same _ (copies_of is) (splits is))

  pub splitting_parts : splitting c names b style m plan ≡ E.Delete (held_task c names b style m plan) ∷ frees ++ (kids ++ (links ++ copies_of plan.copiers))
  splitting_parts = splits plan.copiers
