-- What was read of a predicate, a task, an action, a method or the network of a problem is bound to exactly the values that it spells.
use Rattle.std.specs.Prelude.{◌↔◌, List, Option, Some, None, codes}
use Rattle.text_forms.specs.Lists.{group}
use Rattle.text_forms.specs.Placed.{Placed}
use Rattle.text_forms.specs.Printing.{headed}
use Rattle.text_forms.specs.Words.{Word}
use Rattle.plan_texts.specs.Declared.{Declared}
use Rattle.plan_texts.specs.Networks.{IsTask, IsMethod, IsTop}
use Rattle.plan_texts.specs.Schemas.{IsPredicate, IsAction}
use Rattle.plan_model.specs.declared.schemas.ActionSchema.{ActionSchema}
use Rattle.plan_model.specs.declared.schemas.MethodSchema.{MethodSchema}
use Rattle.plan_model.specs.declared.schemas.Predicate.{Predicate}
use Rattle.plan_model.specs.declared.schemas.TaskSchema.{TaskSchema}
use Rattle.gd_reader.specs.declared.term.RawTerm.{RawTerm}
use Rattle.gd_reader.specs.Terms.{Names}
use Rattle.hddl_reader.specs.declared.parts.RawParts.{RawParts}
use Rattle.hddl_reader.specs.declared.sections.RawHead.{RawHead}
use Rattle.hddl_reader.specs.declared.sections.RawMethod.{RawMethod}
use Rattle.hddl_reader.specs.Sections.{or_none, head_of, network_of, action_of, method_of}
use Rattle.text_values.specs.form_spellings.BoundSchemas.{IsBoundPredicate, IsBoundTask, IsBoundAction, IsBoundMethod, IsBoundTop}
use Rattle.text_values.specs.form_spellings.SpellsSome.{StandUpToEnd}

-- inside the list of a predicate
abbrev pub IsReadPredicate : Names → RawHead → Placed → Type 0
IsReadPredicate table r p = (v : Declared) (x : Predicate) → IsBoundPredicate v table r x ↔ StandUpToEnd (λ ps. IsPredicate v x (group ps)) p

-- A name and its parts, behind the keyword.
abbrev pub IsReadTask : Names → RawTerm × RawParts → Placed → Type 0
IsReadTask table r p = (v : Declared) (x : TaskSchema) → IsBoundTask v table (head_of r.0 r.1) x ↔ StandUpToEnd (λ ps. IsTask v x (headed (codes ":task") ps)) p

abbrev pub IsReadAction : Names → RawTerm × RawParts → Placed → Type 0
IsReadAction table r p = (v : Declared) (x : ActionSchema) → IsBoundAction v table (action_of r.0 r.1) x ↔ StandUpToEnd (λ ps. IsAction v x (headed (codes ":action") ps)) p

-- there is a method, and it is bound
abbrev pub IsBoundIfThere : Declared → Names → List Word → List Word → Option RawMethod → MethodSchema → Type 0
IsBoundIfThere v table tasks actions None x = ⊥
IsBoundIfThere v table tasks actions (Some r) x = IsBoundMethod v table tasks actions r x

abbrev pub IsReadMethod : Names → RawTerm × RawParts → Placed → Type 0
IsReadMethod table r p =
    (v : Declared) (tasks actions : List Word) (x : MethodSchema)
    → IsBoundIfThere v table tasks actions (method_of r.0 r.1) x ↔ StandUpToEnd (λ ps. IsMethod v tasks actions x (headed (codes ":method") ps)) p

-- the parts behind the keyword of a problem's network
abbrev pub IsReadTop : Names → RawParts → Placed → Type 0
IsReadTop table r p = (v : Declared) (tasks actions : List Word) (x : MethodSchema) → IsBoundTop v table tasks actions (or_none r.params) (network_of r) x ↔ StandUpToEnd (IsTop v tasks actions x) p
