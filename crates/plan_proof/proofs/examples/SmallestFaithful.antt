-- The smallest problem, m: t -> a with t on top, in one slot: what the laws ask is true of it, and its two texts, byte for byte, are faithful to it.
use Rattle.std.proofs.Common.{ℕ, ◌≡◌, Bool, true, cond, [], ◌∷◌, ◌++◌, refl, ap, sym, subst, ◌∙◌}
use Rattle.plan_model.specs.declared.options.Checks.{Checks}
use Rattle.plan_model.specs.declared.options.Checks.TheVariants.{Leaf}
use Rattle.plan_model.specs.declared.options.Style.TheVariants.{Adl}
use Rattle.plan_model.specs.declared.terms.Term.TheVariants.{Var}
use Rattle.plan_model.specs.declared.terms.Atom.{Atom}
use Rattle.plan_model.specs.declared.formulas.Formula.{Formula}
use Rattle.plan_model.specs.declared.formulas.Formula.TheFolds.{fold-roll-Formula}
use Rattle.plan_model.specs.declared.formulas.Formula.TheOpen.{Formula-F}
use Rattle.plan_model.specs.declared.formulas.Formula.TheVariants.{Holds, And, Forall, rolls-And}
use Rattle.plan_model.specs.declared.effects.Effect.{Effect}
use Rattle.plan_model.specs.declared.effects.Effect.TheFolds.{fold-roll-Effect}
use Rattle.plan_model.specs.declared.effects.Effect.TheOpen.{Effect-F}
use Rattle.plan_model.specs.declared.effects.Effect.TheVariants as E
use Rattle.plan_model.specs.declared.schemas.ActionSchema.{ActionSchema}
use Rattle.plan_texts.proofs.examples.SmallestRow.{h, x, wait, clear, held, turned, domain_bytes, problem_bytes, domain_row, problem_row}
use Rattle.plan_texts.proofs.examples.SmallestRow.{smallest as printed}
use Rattle.plan_texts.proofs.examples.SmallestPrintable.{smallest_printable}
use Rattle.slot_encoding.specs.SourceParts.{name, source_formula, source_effect}
use Rattle.slot_encoding.specs.EncodedNames.{encoded_objects}
use Rattle.slot_encoding.specs.EncodedActions.{no_part, is_empty, no_effect, is_empty_effect, source_condition, source_change}
use Rattle.slot_encoding.specs.EncodedValue.{encoded_actions, IsEncoded}
use Rattle.plan_model.proofs.plan_meaning.examples.RowValues.{always, nothing}
use Rattle.plan_model.proofs.plan_meaning.examples.RowWords.{slot_1}
use Rattle.plan_model.proofs.plan_meaning.examples.SmallestRow.{smallest, smallest_names, smallest_hddl, steps}
use Rattle.plan_proof.specs.Headline.{IsFaithful, SpellsSolution}
use Rattle.plan_proof.proofs.examples.SmallestPlan.{plan_row}
use Rattle.slot_encoding.specs.Printed.{IsPrinted}
use Rattle.plan_model.specs.plan_meaning.SpelledPlan.{IsSpelling}
use Rattle.plan_proof.proofs.machine.PrintedMeans.{printed_faithful, faithful_texts}
use Rattle.plan_proof.proofs.examples.RowPlans.{smallest_row}

-- an empty conjunction is no part of a condition, and no change
no_condition : (front : ℕ) → source_condition smallest printed.names 1 Adl front always ≡ []
no_condition front = ap (λ b. cond b [] (source_formula printed.names smallest_names front always ∷ [])) (ap is_empty (sym (rolls-And [])) ∙ fold-roll-Formula Bool no_part (Formula-F.And []))

no_change : source_change smallest printed.names 1 Adl 1 nothing ≡ []
no_change = ap (λ b. cond b [] (source_effect printed.names smallest_names 1 nothing ∷ [])) (ap is_empty_effect (sym (E.rolls-And [])) ∙ fold-roll-Effect Bool no_effect (Effect-F.And []))

abbrev of_h : ℕ → Atom
of_h k = record { predicate = k; args = Var 0 ∷ [] }

abbrev named : ℕ → Formula → Effect → ActionSchema
named word pre eff = record { name = record { number = word }; params = h ∷ []; pre = pre; eff = eff }

actions_are : printed.actions ≡ encoded_actions smallest printed.names 1 Adl
actions_are = λ i. named 13 (held 0) (turned 0 3) ∷ named 14 (held 3) (turned 3 4)
    ∷ named 15 (And (Holds (of_h 4) ∷ wait ∷ sym (no_condition 1) i)) (E.And (E.Delete (of_h 4) ∷ E.Add (of_h 1) ∷ clear ∷ sym no_change i)) ∷ []

objects_are : printed.objects ≡ encoded_objects smallest printed.names 1
objects_are = λ i. record { name = name printed.names (sym slot_1 i); ty = 1; constant = true } ∷ []

encoded : IsEncoded smallest 1 Adl printed
encoded = record {
  domain = refl;
  problem = refl;
  types = refl;
  objects = objects_are;
  predicates = refl;
  actions = actions_are;
  init = ([], refl, refl);
  goal = λ i. And (sym (no_condition 0) i ++ Forall (x ∷ []) (Holds (of_h 1)) ∷ []);
}

pub smallest_is_printed : (mode : Checks) → IsPrinted smallest_hddl mode smallest 1 Adl printed
smallest_is_printed mode = record { sound = (smallest_row mode).sound; compiled = (smallest_row mode).compiled; printable = smallest_printable; encoded = encoded }

pub smallest_is_faithful : (mode : Checks) → IsFaithful smallest 1 domain_bytes problem_bytes
smallest_is_faithful mode =
    subst (λ z. IsFaithful smallest 1 z problem_bytes) domain_row (subst (IsFaithful smallest 1 _) problem_row
    (faithful_texts IsSpelling smallest 1 printed smallest_printable (printed_faithful smallest_hddl mode smallest 1 Adl printed (smallest_row mode).ordered (smallest_is_printed mode))))

-- its plan of three steps, of the two texts, is a schedule of a solution tree
pub smallest_plan_spells : SpellsSolution smallest 1 steps
smallest_plan_spells = ((smallest_is_faithful Leaf).plans steps).0 plan_row
