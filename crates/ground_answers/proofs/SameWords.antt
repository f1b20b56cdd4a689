-- Two compiled values of the same texts tell a cycle of ground edges in the same words.
use Rattle.std.proofs.Common.{ℕ, ◌≡◌, ◌++◌, List, [], ◌∷◌, codes, map, Option, Some, None, slice_get, refl, ap, ◌∙◌}
use Rattle.plan_model.specs.declared.types.Object.{Object}
use Rattle.plan_model.specs.declared.schemas.TaskSchema.{TaskSchema}
use Rattle.plan_model.specs.declared.schemas.MethodPlan.{MethodPlan}
use Rattle.plan_model.specs.declared.values.Compiled.{Compiled}
use Rattle.plan_model.specs.plan_meaning.Network.{Work, action, check, task, GroundMethod, network}
use Rattle.decode_answers.proofs.AlikeValues.{StandTogether, SamePlan, SameTask, SameObject, AreTwins, plan_place, task_place, object_place}
use Rattle.decode_answers.proofs.AlikeReaders.{head_same, works_same}
use Rattle.bound_calc.specs.stratifier.CycleWords.{task_by, method_by, method_word}
use Rattle.bound_calc.specs.NoBound.{spaced}
use Rattle.slot_machine.specs.bound_laws.NetworkEdges.{Edge, source, target_by, target}
use Rattle.ground_bound.specs.GroundCycleWords.{object_by, object_word, ground_task_word, ground_cycle_words}

module _ (c d : Compiled) (t : AreTwins c d) where
  object_same : (o : ℕ) → object_word c o ≡ object_word d o
  object_same o = go (slice_get c.hddl.objects o) (slice_get d.hddl.objects o) (object_place c d t o)
    where
      go : (x y : Option Object) → StandTogether (SameObject c d) x y → object_by c x ≡ object_by d y
      go None None r = refl
      go (Some x) (Some y) r = ap (λ z. z.0) r
      go None (Some y) r = absurd r
      go (Some x) None r = absurd r

  task_same : (k : ℕ) → task_by c (slice_get c.hddl.tasks k) ≡ task_by d (slice_get d.hddl.tasks k)
  task_same k = go (slice_get c.hddl.tasks k) (slice_get d.hddl.tasks k) (task_place c d t k)
    where
      go : (o u : Option TaskSchema) → StandTogether (SameTask c d) o u → task_by c o ≡ task_by d u
      go None None r = refl
      go (Some s) (Some u) r = ap (λ z. z.0) r.0
      go None (Some u) r = absurd r
      go (Some s) None r = absurd r

  method_same : (m : ℕ) → method_word c m ≡ method_word d m
  method_same m = go (slice_get c.methods m) (slice_get d.methods m) (plan_place c d t m)
    where
      go : (o u : Option MethodPlan) → StandTogether (SamePlan c d) o u → method_by c o ≡ method_by d u
      go None None r = refl
      go (Some p) (Some q) r = ap (λ z. z.0) r.0.schema
      go None (Some q) r = absurd r
      go (Some p) None r = absurd r

  work_same : (w : Work) → ground_task_word c w ≡ ground_task_word d w
  work_same (task k args) = let e = task_same k in λ i. codes "(" ++ e i ++ spaced (map (λ o. object_same o i) args) ++ codes ")"
  work_same (action a args) = refl
  work_same (check m values) = refl

  source_same : (e : Edge GroundMethod) → ground_task_word c (source (network c) e) ≡ ground_task_word d (source (network d) e)
  source_same e = ap (ground_task_word c) (head_same c d t e.method) ∙ work_same (source (network d) e)

  target_same : (e : Edge GroundMethod) → ground_task_word c (target (network c) e) ≡ ground_task_word d (target (network d) e)
  target_same e =
      ap (λ z. ground_task_word c (target_by (network c) z (slice_get ((network c).works e.method) e.child))) (head_same c d t e.method)
      ∙ ap (λ z. ground_task_word c (target_by (network c) (source (network d) e) (slice_get z e.child))) (works_same c d t e.method)
      ∙ either (slice_get ((network d).works e.method) e.child)
    where
      either : (o : Option Work) → ground_task_word c (target_by (network c) (source (network d) e) o) ≡ ground_task_word d (target_by (network d) (source (network d) e) o)
      either None = work_same (source (network d) e)
      either (Some w) = work_same w

  pub words_same : (edges : List (Edge GroundMethod)) → ground_cycle_words c edges ≡ ground_cycle_words d edges
  words_same [] = refl
  words_same (e ∷ []) = let a = source_same e in let b = method_same e.method.number in let f = target_same e in λ i. a i ∷ b i ∷ f i ∷ []
  words_same (e ∷ next ∷ edges) = let a = source_same e in let b = method_same e.method.number in let f = words_same (next ∷ edges) in λ i. a i ∷ b i ∷ f i
