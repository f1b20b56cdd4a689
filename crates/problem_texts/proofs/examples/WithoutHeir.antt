-- Why the problem must be compiled: where a method without parameters has no heir among its children, the last child's slot has the number of
-- the variable that ranges over all slots, and what is copied for this child in style adl is copied for each slot.
use Rattle.std.proofs.Common.{◌≡◌, ◌∙◌, Bool, true, false, List, [], ◌∷◌, ◌++◌, None, refl, sym, ap, true≢false}
use Rattle.plan_model.specs.declared.options.Style.TheVariants.{Adl, Flat}
use Rattle.plan_model.specs.declared.networks.Head.TheVariants.{Task}
use Rattle.plan_model.specs.declared.terms.Term.{Term}
use Rattle.plan_model.specs.declared.terms.Term.TheVariants.{Var, Obj}
use Rattle.plan_model.specs.declared.terms.Atom.{Atom}
use Rattle.plan_model.specs.declared.terms.Param.{Param}
use Rattle.plan_model.specs.declared.formulas.Formula.TheVariants.{Holds}
use Rattle.plan_model.specs.declared.effects.Effect.{Effect, out-Effect}
use Rattle.plan_model.specs.declared.effects.Effect.TheOpen.{Effect-F}
use Rattle.plan_model.specs.declared.effects.Effect.TheVariants as E
use Rattle.plan_model.specs.declared.schemas.ActionSchema.{ActionSchema}
use Rattle.plan_model.specs.declared.schemas.MethodSchema.{MethodSchema}
use Rattle.plan_model.specs.declared.values.Compiled.{Compiled}
use Rattle.plan_model.specs.declared.values.Pddl.{Pddl}
use Rattle.slot_encoding.specs.EncodedValue.{first_atoms, IsEncoded}
use Rattle.slot_encoding.proofs.ValueOver.{over, over_is_encoded}
use Rattle.plan_model.proofs.plan_meaning.examples.RowValues.{child, always, problem, method_schema, method_plan, task_schema}
use Rattle.pddl_printer.specs.WrittenOut.{effect, written_out}
use Rattle.pddl_printer.proofs.written_out.Equations.{out-Add, out-Both, out-When, effect-And, parts-Each, change-When}
use Rattle.problem_texts.specs.Slots.{slots_of}
use Rattle.problem_texts.proofs.flat.PartLists.{Become, kept, alone}
use Rattle.problem_texts.proofs.flat.OtherParts.{changes, changes-Add, changes-Delete}

-- its one method has one child, which is no heir but a copier
abbrev top : MethodSchema
top = method_schema 0 1 always (child (Task 0) ∷ []) []

abbrev headless : Compiled
headless = record { hddl = problem [] [] (task_schema 0 ∷ []) [] [] top; methods = method_plan top false (0 ∷ []) None (0 ∷ []) ∷ [] }

abbrev value : Pddl
value = over headless 1 Adl [] (first_atoms headless [] 1 Adl ++ [])

is_encoded : IsEncoded headless 1 Adl value
is_encoded = over_is_encoded headless 1 Adl [] [] refl

abbrev before : Term → Term → Atom
before s t = record { predicate = 2; args = s ∷ t ∷ [] }

abbrev held : Atom
held = record { predicate = 0; args = Var 0 ∷ [] }

abbrev pending : Atom
pending = record { predicate = 3; args = Var 1 ∷ [] }

-- where the method's slot comes before the one slot, the object 0, this term comes before it too
abbrev copied : Term → Effect
copied t = E.When (Holds (before (Var 0) (Obj 0))) (E.Add (before t (Obj 0)))

abbrev effects : Term → List Effect
effects t = E.Delete held ∷ E.Add pending ∷ copied t ∷ []

-- variable 1 is the child's slot, and the quantified one as well
abbrev slot : Param
slot = record { name = record { number = 0 }; ty = 1 }

abbrev copied_for_all : Effect
copied_for_all = E.When (Holds (before (Var 0) (Var 1))) (E.Add (before (Var 1) (Var 1)))

abbrev in_adl : List Effect
in_adl = E.Delete held ∷ E.Add pending ∷ E.Forall (slot ∷ []) copied_for_all ∷ []

become : Become (changes headless 1 1) in_adl (effects (Obj 0))
become =
    kept (E.Delete held) (changes-Delete headless 1 1 held)
    (kept (E.Add pending) (changes-Add headless 1 1 pending)
    (alone (E.Forall (slot ∷ []) copied_for_all) (copied (Obj 0) ∷ [])
    (parts-Each (slots_of headless 1) 1 slot copied_for_all ∙ change-When (slots_of headless 1) 1 (E.Forall (slot ∷ []) copied_for_all) (before (Var 0) (Var 1)) (before (Var 1) (Var 1)))))

-- whether the third effect adds something of an object
abbrev of_object : List Term → Bool
of_object [] = false
of_object (Var k ∷ ts) = false
of_object (Obj o ∷ ts) = true

abbrev adds : Effect-F Effect → Bool
adds (Effect-F.Add a) = of_object a.args
adds other = false

abbrev copies : Effect-F Effect → Bool
copies (Effect-F.When f e) = adds (out-Effect e)
copies other = false

abbrev third : List Effect → Bool
third [] = false
third (e ∷ []) = false
third (e ∷ f ∷ []) = false
third (e ∷ f ∷ g ∷ es) = copies (out-Effect g)

abbrev tells : Effect-F Effect → Bool
tells (Effect-F.And es) = third es
tells other = false

tells-effects : (t : Term) → tells (out-Effect (E.And (effects t))) ≡ of_object (t ∷ [])
tells-effects t = ap tells (out-Both (effects t)) ∙ ap copies (out-When (Holds (before (Var 0) (Obj 0))) (E.Add (before t (Obj 0)))) ∙ ap adds (out-Add (before t (Obj 0))) ∙ same t
  where
    same : (t : Term) → of_object (t ∷ Obj 0 ∷ []) ≡ of_object (t ∷ [])
    same (Var k) = refl
    same (Obj o) = refl

abbrev first_effect : List ActionSchema → Effect
first_effect [] = E.And []
first_effect (a ∷ actions) = a.eff

not_flat : IsEncoded headless 1 Flat (written_out (slots_of headless 1) value) → ⊥
not_flat is =
    let e : effect (slots_of headless 1) 1 (E.And in_adl) ≡ E.And (effects (Var 1)) = ap first_effect is.actions in
    let f : E.And (effects (Obj 0)) ≡ E.And (effects (Var 1)) = sym (effect-And (slots_of headless 1) 1 in_adl ∙ ap E.And become.are) ∙ e in
    true≢false (sym (tells-effects (Obj 0)) ∙ ap (λ z. tells (out-Effect z)) f ∙ tells-effects (Var 1))
