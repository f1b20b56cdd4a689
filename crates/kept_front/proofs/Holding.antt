-- What stands at a child of a growth is what its method says of the child.
use Rattle.std.proofs.Common.{ℕ, ◌≡◌, List, [], Option, Some, None, option_map, slice_get, refl, ap, ◌∙◌}
use Rattle.std.specs.Option.{option_map_or, option_and_then, unwrap_or}
use Rattle.std.proofs.lemmas.Option.{slice_get-map}
use Rattle.plan_model.specs.declared.networks.Child.{Child}
use Rattle.plan_model.specs.declared.schemas.MethodPlan.{MethodPlan}
use Rattle.plan_model.specs.declared.values.Compiled.{Compiled}
use Rattle.plan_model.specs.plan_meaning.Network.{task, GroundMethod, child_of, subtasks_of}
use Rattle.tree_core.specs.declared.label.Label.{Label}
use Rattle.tree_core.specs.declared.label.Label.TheVariants.{Abstract}
use Rattle.kept_front.specs.Works.{child_at}
use Rattle.kept_front.specs.Fronts.{label_in, work_below}

works_get : (g : GroundMethod) (o : Option MethodPlan) (i : ℕ)
    → slice_get (option_map_or (subtasks_of g) o []) i ≡ option_map (child_of g) (option_and_then (λ (plan : MethodPlan). slice_get plan.schema.children i) o)
works_get g None i = refl
works_get g (Some plan) i = slice_get-map (child_of g) plan.schema.children i

module _ (c : Compiled) (label : Label) (t : ℕ) (args : List ℕ) (m : ℕ) (values : List ℕ) (is : label ≡ Abstract t args m values) (i : ℕ) where
  abbrev method : GroundMethod
  method = record { number = m; values = values }

  below : work_below c (label_in c label) i ≡ unwrap_or (option_map (child_of method) (child_at c m i)) (task 0 [])
  below = ap (λ z. work_below c (label_in c z) i) is ∙ ap (λ z. unwrap_or z (task 0 [])) (works_get method (slice_get c.methods m) i)

  pub below_some : (child : Child) → child_at c m i ≡ Some child → work_below c (label_in c label) i ≡ child_of method child
  below_some child e = below ∙ ap (λ z. unwrap_or (option_map (child_of method) z) (task 0 [])) e

  pub below_none : child_at c m i ≡ None → work_below c (label_in c label) i ≡ task 0 []
  below_none e = below ∙ ap (λ z. unwrap_or (option_map (child_of method) z) (task 0 [])) e
