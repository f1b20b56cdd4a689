-- The network of a compiled problem's schemas is finite, so what is proved of finite networks holds of it.
use Rattle.std.proofs.Common.{ℕ, ◌≡◌, ◌<◌, inl, inr, List, [], ◌∷◌, ◌++◌, length, Option, Some, None, slice_get, refl, arith}
use Rattle.std.proofs.lemmas.Option.{slice_get_within}
use Rattle.plan_model.specs.declared.schemas.MethodPlan.{MethodPlan}
use Rattle.plan_model.specs.declared.values.Compiled.{Compiled}
use Rattle.plan_model.specs.task_networks.Net.{count}
use Rattle.plan_model.specs.task_networks.Order.{IsLine}
use Rattle.plan_model.specs.task_networks.Spelling.{numbers}
use Rattle.plan_model.proofs.task_networks.Numbers.{numbers_to, to_numbers}
use Rattle.plan_model.proofs.task_networks.BoundLaws.{by_size}
use Rattle.plan_model.specs.plan_meaning.Schemas.{Schema, action, check, task, IsPrimitive, schemas}
use Rattle.plan_model.proofs.plan_meaning.MethodParts.{head_schema_by, schemas_by, IsPairBy}
use Rattle.plan_model.proofs.plan_meaning.BoundParts.{there_at}
use Rattle.slot_machine.specs.bound_laws.Finite.{IsDecided, IsFinite}
use Rattle.slot_machine.proofs.bound_laws.Decided.{Or_not}
use Rattle.slot_machine.proofs.bound_laws.Lines.{HasLines}
use Rattle.slot_machine.proofs.bound_laws.ProblemEdges.{schema_told, plan_told}

simple_told : (s : Schema) → Or_not (IsPrimitive s)
simple_told (action a) = inl tt
simple_told (check m) = inl tt
simple_told (task t) = inr (λ e. e)

pub no_cut : (before rest : List ℕ) (i : ℕ) → [] ≡ before ++ i ∷ rest → ⊥
no_cut [] rest i e = cc
no_cut (x ∷ before) rest i e = cc

module _ (c : Compiled) where
  head_is_task : (m : ℕ) → IsPrimitive ((schemas c).head m) → ⊥
  head_is_task m s = go (slice_get c.methods m) s
    where
      go : (o : Option MethodPlan) → IsPrimitive (head_schema_by o) → ⊥
      go None x = x
      go (Some plan) x = x

  pub decided : IsDecided (schemas c) ◌<◌
  decided = record {
    methods = numbers 0 (length c.methods);
    listed = λ m. (
      λ k. there_at c.methods m (let x = (numbers_to 0 (length c.methods) m k).1 in omega arith),
      λ g. to_numbers 0 (length c.methods) m (omega arith) (let l = slice_get_within c.methods m g.0 g.1 in omega arith),
    );
    head_is_task = head_is_task;
    same = schema_told;
    simple = simple_told;
    precedes = λ m i j. plan_told (slice_get c.methods m) i j;
    either = λ m n a b. by_size m n;
    before_then = λ l m n a b. omega arith;
    not_itself = λ m a. absurd (omega arith);
  }

  lines : HasLines c → (m : ℕ) → (line : List ℕ) × IsLine ((schemas c).Pair m) (count (schemas c) m) line
  lines known m = go (slice_get c.methods m) refl
    where
      go : (o : Option MethodPlan) → slice_get c.methods m ≡ o → (line : List ℕ) × IsLine (IsPairBy o) (length (schemas_by m o)) line
      go None e = ([], record { whole = λ i l. absurd (let x : i < 0 = l in omega arith); each = λ before rest i f. absurd (no_cut before rest i f) })
      go (Some plan) e = (plan.line, known m plan e)

  pub finite : HasLines c → IsFinite (schemas c) ◌<◌
  finite known = record { decided = decided; lines = lines known }
