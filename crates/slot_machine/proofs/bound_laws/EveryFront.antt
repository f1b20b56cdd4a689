-- No schedule of any front of a compiled problem has more pending than the bound.
use Rattle.std.proofs.Common.{ℕ, ◌≡◌, ◌<◌, List, [], ◌∷◌, map, length, slice_get, Option, Some, None, refl, subst, arith}
use Rattle.plan_model.specs.declared.options.Checks.{Checks}
use Rattle.plan_model.specs.declared.networks.Head.{Head}
use Rattle.plan_model.specs.declared.networks.Head.TheVariants.{Task, Action, Check}
use Rattle.plan_model.specs.declared.networks.Child.{Child}
use Rattle.plan_model.specs.declared.schemas.MethodPlan.{MethodPlan}
use Rattle.plan_model.specs.declared.values.Hddl.{Hddl}
use Rattle.plan_model.specs.declared.values.Compiled.{Compiled}
use Rattle.plan_model.specs.task_networks.Order.{IsLine}
use Rattle.plan_model.specs.task_networks.Tree.{Tree, Address}
use Rattle.plan_model.specs.task_networks.Pending.{IsWithin}
use Rattle.plan_model.specs.task_networks.Front.{IsFront}
use Rattle.plan_model.specs.task_networks.Lifted.{IsLifted}
use Rattle.plan_model.specs.task_networks.Bound.{AreBlocks}
use Rattle.plan_model.specs.task_networks.Bound as Bounds
use Rattle.plan_model.proofs.task_networks.BoundLaws.{the_bound_is_large_enough, lifted_bound_is_bound}
use Rattle.slot_machine.proofs.Width.{bound_holds}
use Rattle.plan_model.specs.plan_meaning.Network as Network
use Rattle.plan_model.specs.plan_meaning.Network.{Work, GroundMethod, network, child_of, ground_work, top_task}
use Rattle.plan_model.specs.plan_meaning.Schemas as Schemas
use Rattle.plan_model.specs.plan_meaning.Schemas.{Schema, schemas, schema_of}
use Rattle.plan_model.specs.plan_meaning.Compilation.{IsCompiled}
use Rattle.plan_model.specs.plan_meaning.Solution.{top_work}
use Rattle.plan_model.specs.plan_meaning.Bound.{group_of, IsBound}
use Rattle.plan_model.proofs.plan_meaning.MethodParts.{head_by, works_by, IsPairBy, head_schema_by, schemas_by}
use Rattle.plan_model.specs.plan_meaning.Truth.{values_of}
use Rattle.plan_model.proofs.task_networks.Lists.{not-in_empty}
use Rattle.slot_machine.specs.bound_laws.Laws.{EveryFrontIsWithinTheBound}
use Rattle.slot_machine.proofs.bound_laws.Lines.{HasLines, has_lines}
use Rattle.slot_machine.proofs.bound_laws.SchemaNetwork.{no_cut}

-- what a ground work is an instance of
abbrev schema : Work → Schema
schema (Network.action a args) = Schemas.action a
schema (Network.check m values) = Schemas.check m
schema (Network.task t args) = Schemas.task t

module _ (c : Compiled) where
  schema-head : (g : GroundMethod) (o : Option MethodPlan) → schema (head_by g o) ≡ head_schema_by o
  schema-head g None = refl
  schema-head g (Some plan) = refl

  schema-work : (g : GroundMethod) (hd : Head) (args : List ℕ) → schema (ground_work g hd args) ≡ schema_of g.number hd
  schema-work g (Task t) args = refl
  schema-work g (Action a) args = refl
  schema-work g Check args = refl

  schema-children : (g : GroundMethod) (cs : List Child) → map schema (map (child_of g) cs) ≡ map (λ (child : Child). schema_of g.number child.head) cs
  schema-children g [] = refl
  schema-children g (child ∷ cs) =
      let e = schema-work g child.head (values_of g.values child.args) in
      let f = schema-children g cs in
      cc

  schema-works : (g : GroundMethod) (o : Option MethodPlan) → map schema (works_by g o) ≡ schemas_by g.number o
  schema-works g None = refl
  schema-works g (Some plan) = schema-children g plan.schema.children

  lifted : IsLifted (network c) (schemas c) schema (λ (g : GroundMethod). g.number)
  lifted = record {
    head = λ g. schema-head g (slice_get c.methods g.number);
    works = λ g. schema-works g (slice_get c.methods g.number);
    pairs = λ g i j q. q;
    ground = λ g k. (k.plan, k.is);
  }

module _ (c : Compiled) (known : HasLines c) (n : ℕ) (bound : IsBound c n) where
  abbrev pub HasBlocks : ℕ → Option MethodPlan → Type 0
  HasBlocks m o = (line : List ℕ) × IsLine (IsPairBy o) (length (schemas_by m o)) line × AreBlocks (IsPairBy o) line (bound.block m)

  pub blocks : (m : ℕ) → HasBlocks m (slice_get c.methods m)
  blocks m = go (slice_get c.methods m) refl
    where
      go : (o : Option MethodPlan) → slice_get c.methods m ≡ o → (line : List ℕ) × IsLine (IsPairBy o) (length (schemas_by m o)) line × AreBlocks (IsPairBy o) line (bound.block m)
      go None e = ([], record { whole = λ i l. absurd (let x : i < 0 = l in omega arith); each = λ before rest i f. absurd (no_cut before rest i f) }, λ i j x y. absurd (not-in_empty i x))
      go (Some plan) e = (plan.line, known m plan e, bound.blocks m plan e)

  -- its numbers are large enough for the network of schemas
  pub schema_bound : Bounds.AreLargeEnough (schemas c) bound.block bound.number (Schemas.task (top_task c))
  schema_bound = the_bound_is_large_enough (schemas c) (Schemas.task (top_task c)) bound.block bound.number (group_of bound.group) blocks bound.numbers

module _ (h : Hddl) (mode : Checks) (c : Compiled) (compiled : IsCompiled h mode c) (n : ℕ) (bound : IsBound c n) where
  within_bound : (tree : Tree (network c)) (order : List Address) → IsFront (network c) (top_work c) tree order → IsWithin (network c) n tree order
  within_bound tree order front = subst (λ z. IsWithin (network c) z tree order) bound.is
      (bound_holds (network c) (λ (g : GroundMethod). bound.block g.number) (λ w. bound.number (schema w)) (top_work c)
      (lifted_bound_is_bound (network c) (schemas c) schema (λ (g : GroundMethod). g.number) (lifted c) (top_work c) bound.block bound.number (schema_bound c (has_lines h mode c compiled) n bound)) tree order front)

pub every_front_is_within : (h : Hddl) (mode : Checks) (c : Compiled) → IsCompiled h mode c → EveryFrontIsWithinTheBound c
every_front_is_within h mode c compiled n bound tree order front = within_bound h mode c compiled n bound tree order front
