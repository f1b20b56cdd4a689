-- The methods of a compiled problem have lines.
use Rattle.std.proofs.Common.{ℕ, ◌≡◌, ◌∷◌, length, Some, slice_get, sym, subst}
use Rattle.std.proofs.lemmas.List.{length-map}
use Rattle.plan_model.specs.declared.options.Checks.{Checks}
use Rattle.plan_model.specs.declared.networks.Child.{Child}
use Rattle.plan_model.specs.declared.schemas.MethodPlan.{MethodPlan}
use Rattle.plan_model.specs.declared.values.Hddl.{Hddl}
use Rattle.plan_model.specs.declared.values.Compiled.{Compiled}
use Rattle.plan_model.specs.task_networks.Order.{IsLine}
use Rattle.plan_model.specs.plan_meaning.Schemas.{schema_of}
use Rattle.plan_model.specs.plan_meaning.Compilation.{IsCompiled}
use Rattle.plan_model.proofs.plan_meaning.MethodParts.{IsPairBy, schemas_by}
use Rattle.plan_model.proofs.plan_meaning.CompiledNetworks.{plan_of}

abbrev pub HasLines : Compiled → Type 0
HasLines c = (m : ℕ) (plan : MethodPlan) → slice_get c.methods m ≡ Some plan → IsLine (IsPairBy (Some plan)) (length (schemas_by m (Some plan))) plan.line

pub has_lines : (h : Hddl) (mode : Checks) (c : Compiled) → IsCompiled h mode c → HasLines c
has_lines h mode c compiled m plan e =
    let (s, k, is) = plan_of h mode (h.top ∷ h.methods) c.methods m plan compiled.methods e in
    let many = length-map plan.schema.children (λ (child : Child). schema_of m child.head) in
    subst (λ z. IsLine (IsPairBy (Some plan)) z plan.line) (sym many) is.line
