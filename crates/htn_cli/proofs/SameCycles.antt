-- Compiled problems with one graph have one named cycle, and the same words on it.
use Rattle.std.proofs.Common.{ℕ, ◌≡◌, List, [], ◌∷◌, Option, Some, None, option_map, slice_get, refl, ap, ◌∙◌}
use Rattle.plan_model.specs.declared.schemas.TaskSchema.{TaskSchema}
use Rattle.plan_model.specs.declared.schemas.MethodPlan.{MethodPlan}
use Rattle.plan_model.specs.declared.values.Compiled.{Compiled}
use Rattle.plan_model.specs.plan_meaning.Schemas.{Schema, action, check, task}
use Rattle.plan_model.specs.plan_meaning.Strata.{Edge, source, target}
use Rattle.plan_proof.specs.OneGraph.{HaveOneGraph}
use Rattle.plan_proof.proofs.one.OneGraph.{task_word-same, method_word-same}
use Rattle.bound_calc.specs.stratifier.NamedCycle.{IsNamed}
use Rattle.bound_calc.specs.stratifier.CycleWords.{written, task_by, method_by, task_word, method_word, cycle_words}

module _ (c d : Compiled) (graph : HaveOneGraph c d) where
  pub named_back : (edges : List Edge) → IsNamed d edges → IsNamed c edges
  named_back [] named = named
  named_back (e ∷ walk) named = (graph.named_cycle e walk).1 named

  task_word_same : (s : Schema) → task_word c s ≡ task_word d s
  task_word_same (action a) = refl
  task_word_same (check m) = refl
  task_word_same (task t) = go (slice_get c.hddl.tasks t) (slice_get d.hddl.tasks t) (task_word-same c d graph t)
    where
      go : (o p : Option TaskSchema) → option_map (λ (s : TaskSchema). written c s.name.number) o ≡ option_map (λ (s : TaskSchema). written d s.name.number) p → task_by c o ≡ task_by d p
      go None None e = refl
      go (Some s) (Some t) e = cc
      go None (Some t) e = absurd (cc)
      go (Some s) None e = absurd (cc)

  method_word_same : (m : ℕ) → method_word c m ≡ method_word d m
  method_word_same m = go (slice_get c.methods m) (slice_get d.methods m) (method_word-same c d graph m)
    where
      go : (o p : Option MethodPlan) → option_map (λ (p : MethodPlan). written c p.schema.name.number) o ≡ option_map (λ (p : MethodPlan). written d p.schema.name.number) p → method_by c o ≡ method_by d p
      go None None e = refl
      go (Some s) (Some t) e = cc
      go None (Some t) e = absurd (cc)
      go (Some s) None e = absurd (cc)

  source_word : (e : Edge) → task_word c (source c e) ≡ task_word d (source d e)
  source_word e = task_word_same (source c e) ∙ ap (task_word d) (graph.sources e)

  target_word : (e : Edge) → task_word c (target c e) ≡ task_word d (target d e)
  target_word e = task_word_same (target c e) ∙ ap (task_word d) (graph.targets e)

  pub words_same : (edges : List Edge) → cycle_words c edges ≡ cycle_words d edges
  words_same [] = refl
  words_same (e ∷ []) = λ i. source_word e i ∷ method_word_same e.method i ∷ target_word e i ∷ []
  words_same (e ∷ f ∷ edges) = let more = words_same (f ∷ edges) in λ i. source_word e i ∷ method_word_same e.method i ∷ more i
