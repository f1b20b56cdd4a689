-- Compiled methods of three kinds: without a precondition, with a check of their own, and tested where they are applied.
-- Their pairs go up.
use Rattle.std.proofs.Common.{ℕ, ◌≡◌, ◌<◌, ◌&&◌, ◌∙◌, true, false, not, [], ◌∷◌, filter, length, refl, sym, subst, arith}
use Rattle.std.specs.List.Sorted.{IsStrictlyIncreasing}
use Rattle.plan_model.specs.declared.terms.Atom.{Atom}
use Rattle.plan_model.specs.declared.formulas.Formula.TheVariants.{Holds}
use Rattle.plan_model.specs.declared.networks.Pair.{Pair}
use Rattle.plan_model.specs.declared.options.Checks.{Checks}
use Rattle.plan_model.specs.declared.options.Checks.TheVariants.{Leaf, AtOnce}
use Rattle.plan_model.specs.declared.schemas.MethodSchema.{MethodSchema}
use Rattle.plan_model.specs.declared.schemas.MethodPlan.{MethodPlan}
use Rattle.plan_model.specs.declared.values.Hddl.{Hddl}
use Rattle.plan_model.specs.task_networks.Order.{IsLine}
use Rattle.plan_model.specs.task_networks.Spelling.{numbers, is_heir}
use Rattle.plan_model.specs.plan_meaning.Truth.{IsTrueIn}
use Rattle.plan_model.specs.plan_meaning.Compilation.{AsksSomething, children, pairs, last_of, AreGuards, IsMethodPlan}
use Rattle.plan_model.specs.Pairs.{Pairs}
use Rattle.plan_model.proofs.plan_meaning.TruthEquations.{truth-Holds}
use Rattle.plan_model.proofs.plan_meaning.examples.TruthExamples.{to}
use Rattle.plan_model.proofs.plan_meaning.examples.RowValues.{always}
use Rattle.plan_model.proofs.plan_meaning.ListedItems.{Every, of_each}
use Rattle.plan_model.proofs.plan_meaning.examples.RowChecks.{always_true, untested}
use Rattle.plan_model.proofs.plan_meaning.examples.PlanChecks.{line_up, copiers_by, is_top}

-- an atom is no empty conjunction: it isn't true everywhere
pub holds_counts : (a : Atom) → AsksSomething (Holds a)
holds_counts a e = to (λ i. truth-Holds (λ o t. ⊥) (λ g. ⊥) a i []) (subst (λ f. IsTrueIn (λ o t. ⊥) (λ g. ⊥) f []) (sym e) (always_true (λ o t. ⊥) (λ g. ⊥) []))

pub leaf_is_not_at_once : Leaf ≡ AtOnce → ⊥
leaf_is_not_at_once e = absurd cc

pub none_rise : IsStrictlyIncreasing []
none_rise k l = absurd (omega arith)

pub one_rises : (x : ℕ) → IsStrictlyIncreasing (x ∷ [])
one_rises x k l = absurd (omega arith)

-- what computes of both kinds
pub record Fits (h : Hddl) (s : MethodSchema) (plan : MethodPlan) : Type 0 where
  pub schema : plan.schema ≡ record s { children = children plan.checked s; pairs = pairs plan.checked s }
  pub up : Every (λ (p : Pair). p.first < p.then) plan.schema.pairs
  pub line : plan.line ≡ numbers 0 (length plan.schema.children)
  pub heir : plan.heir ≡ last_of plan.line
  pub copiers : plan.copiers ≡ filter (λ i. is_top plan.schema.pairs i && not (is_heir plan.heir i)) (numbers 0 (length plan.schema.children))
  pub rising : IsStrictlyIncreasing plan.copiers
  pub guards : AreGuards h s plan.guards

line_of : (h : Hddl) (s : MethodSchema) (plan : MethodPlan) → Fits h s plan → IsLine (Pairs plan.schema.pairs) (length plan.schema.children) plan.line
line_of h s plan f = subst (IsLine (Pairs plan.schema.pairs) (length plan.schema.children)) (sym f.line) (line_up (length plan.schema.children) (λ i j c. of_each (λ (p : Pair). p.first < p.then) plan.schema.pairs f.up (record { first = i; then = j }) c))

pub plain : (h : Hddl) (mode : Checks) (s : MethodSchema) (plan : MethodPlan) → s.pre ≡ always → plan.checked ≡ false → plan.tested ≡ false → Fits h s plan → IsMethodPlan h mode s plan
plain h mode s plan pre checked tested f = record {
  checked = (λ t. (let e : false ≡ true = sym checked ∙ t in untested e), λ k. absurd (k.1 pre));
  tested = (λ t. (let e : false ≡ true = sym tested ∙ t in untested e), λ k. absurd (k.1 pre));
  schema = f.schema;
  line = line_of h s plan f;
  heir = f.heir;
  copiers = copiers_by plan.schema.pairs (length plan.schema.children) plan.heir plan.copiers f.copiers;
  copiers_in_order = f.rising;
  guards = f.guards;
}

pub with_check : (h : Hddl) (s : MethodSchema) (plan : MethodPlan) → AsksSomething s.pre → plan.checked ≡ true → plan.tested ≡ false → Fits h s plan → IsMethodPlan h Leaf s plan
with_check h s plan pre checked tested f = record {
  checked = (λ t. (refl, pre), λ k. checked);
  tested = (λ t. (let e : false ≡ true = sym tested ∙ t in untested e), λ k. absurd (leaf_is_not_at_once k.0));
  schema = f.schema;
  line = line_of h s plan f;
  heir = f.heir;
  copiers = copiers_by plan.schema.pairs (length plan.schema.children) plan.heir plan.copiers f.copiers;
  copiers_in_order = f.rising;
  guards = f.guards;
}

pub when_applied : (h : Hddl) (s : MethodSchema) (plan : MethodPlan) → AsksSomething s.pre → plan.checked ≡ false → plan.tested ≡ true → Fits h s plan → IsMethodPlan h AtOnce s plan
when_applied h s plan pre checked tested f = record {
  checked = (λ t. (let e : false ≡ true = sym checked ∙ t in untested e), λ k. absurd (leaf_is_not_at_once (sym k.0)));
  tested = (λ t. (refl, pre), λ k. tested);
  schema = f.schema;
  line = line_of h s plan f;
  heir = f.heir;
  copiers = copiers_by plan.schema.pairs (length plan.schema.children) plan.heir plan.copiers f.copiers;
  copiers_in_order = f.rising;
  guards = f.guards;
}
