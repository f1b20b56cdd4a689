-- What the steps of the printed problem stand on.
use Rattle.std.specs.Prelude.{ℕ, ◌≡◌, ◌<◌, ◌≤◌, IsTrue, List, map, length, slice_get, Some, Contains}
use Rattle.plan_model.specs.declared.options.Style.{Style}
use Rattle.plan_model.specs.declared.terms.Term.TheVariants.{Var}
use Rattle.plan_model.specs.declared.terms.GroundAtom.{GroundAtom}
use Rattle.plan_model.specs.declared.networks.Head.TheVariants.{Check}
use Rattle.plan_model.specs.declared.networks.Child.{Child}
use Rattle.plan_model.specs.declared.schemas.ActionSchema.{ActionSchema}
use Rattle.plan_model.specs.declared.schemas.MethodPlan.{MethodPlan}
use Rattle.plan_model.specs.declared.values.Compiled.{Compiled}
use Rattle.plan_model.specs.declared.values.Pddl.{Pddl}
use Rattle.plan_model.specs.task_networks.Spelling.{numbers}
use Rattle.plan_model.specs.task_networks.Lawful.{IsLawful}
use Rattle.plan_model.specs.plan_meaning.Truth.{State}
use Rattle.plan_model.specs.plan_meaning.ClassicalPlan as Printed
use Rattle.plan_model.specs.plan_meaning.Network.{network}
use Rattle.slot_encoding.specs.EncodedNames.{order_numbers}
use Rattle.slot_encoding.specs.EncodedValue.{IsEncoded}
use Rattle.order_encoder.specs.OrderMeaning.{OrderMeaning}
use Rattle.slot_encoding.proofs.Pieces.{PredicatesDiffer, SourceAgrees, GuardsDeclare, GuardAtomsAgree, IsSoundCondition, IsSoundChange}

-- the numbers and parts of a compiled problem fit together
pub record FitsTogether (c : Compiled) : Type 0 where
  pub tasks : (m : ℕ) (plan : MethodPlan) → slice_get c.methods m ≡ Some plan → plan.schema.task ≤ length c.hddl.tasks
  pub checks : (m : ℕ) (plan : MethodPlan) (child : Child) → slice_get c.methods m ≡ Some plan → Contains plan.schema.children child → child.head ≡ Check → IsTrue plan.checked
  pub check_args : (m : ℕ) (plan : MethodPlan) (child : Child) → slice_get c.methods m ≡ Some plan → Contains plan.schema.children child → child.head ≡ Check → child.args ≡ map Var (numbers 0 (length plan.schema.params))
  pub method_pre : (m : ℕ) (plan : MethodPlan) → slice_get c.methods m ≡ Some plan → IsSoundCondition c plan.schema.pre
  pub action_pre : (n : ℕ) (s : ActionSchema) → slice_get c.hddl.actions n ≡ Some s → IsSoundCondition c s.pre
  pub action_eff : (n : ℕ) (s : ActionSchema) → slice_get c.hddl.actions n ≡ Some s → IsSoundChange c s.eff
  pub goal : IsSoundCondition c c.hddl.goal
  pub init : (g : GroundAtom) → Contains c.hddl.init g → g.predicate < length c.hddl.predicates

-- and the pieces of the printed one mean what they should
pub record PiecesMean (c : Compiled) (b : ℕ) (style : Style) (p : Pddl) : Type 1 where
  pub lawful : IsLawful (network c)
  pub encoded : IsEncoded c b style p
  pub fits : FitsTogether c
  pub differ : PredicatesDiffer c
  pub order : (S : State) (values : List ℕ) → OrderMeaning (order_numbers c p.names b) b (Printed.InTypeOf p) S values style
  pub source : SourceAgrees c b style p
  pub guards_declare : GuardsDeclare c
  pub guard_atoms : GuardAtomsAgree c b style p
