-- Something is printed for the task that calls itself, so the law on it is about something: in one slot the value of the smallest problem, but that
-- m puts t in the place of t.
use Rattle.std.proofs.Common.{ℕ, ◌≡◌, Bool, true, cond, [], ◌∷◌, ◌++◌, refl, ap, sym, ◌∙◌}
use Rattle.plan_model.specs.declared.options.Checks.{Checks}
use Rattle.plan_model.specs.declared.options.Style.TheVariants.{Adl}
use Rattle.plan_model.specs.declared.terms.Term.TheVariants.{Var}
use Rattle.plan_model.specs.declared.terms.Atom.{Atom}
use Rattle.plan_model.specs.declared.formulas.Formula.{Formula}
use Rattle.plan_model.specs.declared.formulas.Formula.TheFolds.{fold-roll-Formula}
use Rattle.plan_model.specs.declared.formulas.Formula.TheOpen.{Formula-F}
use Rattle.plan_model.specs.declared.formulas.Formula.TheVariants.{Holds, And, Forall, rolls-And}
use Rattle.plan_model.specs.declared.effects.Effect.{Effect}
use Rattle.plan_model.specs.declared.effects.Effect.TheFolds.{fold-roll-Effect}
use Rattle.plan_model.specs.declared.effects.Effect.TheOpen.{Effect-F}
use Rattle.plan_model.specs.declared.effects.Effect.TheVariants as E
use Rattle.plan_model.specs.declared.schemas.ActionSchema.{ActionSchema}
use Rattle.plan_model.specs.declared.values.Pddl.{Pddl}
use Rattle.plan_texts.specs.SpellsPddl.{pddl_words}
use Rattle.plan_texts.specs.PrintableValue.{arities_of, IsPrintable}
use Rattle.plan_texts.proofs.examples.SmallestRow.{h, x, wait, clear, held, turned}
use Rattle.plan_texts.proofs.examples.SmallestRow.{smallest as printed_smallest}
use Rattle.plan_texts.proofs.examples.SmallestPrintable.{smallest_printable}
use Rattle.slot_encoding.specs.SourceParts.{name, source_formula, source_effect}
use Rattle.slot_encoding.specs.EncodedNames.{encoded_objects}
use Rattle.slot_encoding.specs.EncodedActions.{no_part, is_empty, no_effect, is_empty_effect, source_condition, source_change}
use Rattle.slot_encoding.specs.EncodedValue.{encoded_actions, IsEncoded}
use Rattle.plan_model.proofs.plan_meaning.examples.RowValues.{always, nothing}
use Rattle.plan_model.proofs.plan_meaning.examples.RowWords.{slot_1}
use Rattle.slot_encoding.specs.Printed.{IsPrinted}
use Rattle.plan_proof.proofs.examples.SoundChecks.{sound-Add, sound-Delete, sound-Both}
use Rattle.plan_proof.specs.Problems.{calls_itself, words}
use Rattle.plan_proof.proofs.rows.CallsItself.{calls_itself_compiled, calls_itself_row}

abbrev of_h : ℕ → Atom
of_h k = record { predicate = k; args = Var 0 ∷ [] }

abbrev named : ℕ → Formula → Effect → ActionSchema
named word pre eff = record { name = record { number = word }; params = h ∷ []; pre = pre; eff = eff }

abbrev freed : Effect
freed = E.And (E.Delete (of_h 4) ∷ E.Add (of_h 1) ∷ clear ∷ [])

abbrev pub printed : Pddl
printed = record printed_smallest { actions = named 13 (held 0) (turned 0 3) ∷ named 14 (held 3) (turned 3 3) ∷ named 15 (held 4) freed ∷ [] }

printable : IsPrintable printed
printable =
    let s = smallest_printable in
    let w = pddl_words printed in
    record {
      domain = s.domain;
      problem = s.problem;
      words = s.words;
      first = s.first;
      parents = s.parents;
      has_parent = s.has_parent;
      no_cycle = s.no_cycle;
      objects = s.objects;
      predicates = s.predicates;
      actions_named = s.actions_named;
      actions_differ = s.actions_differ;
      params = s.params;
      pre = s.pre;
      eff = (s.eff.0, (sound-Both w (arities_of printed) _ (E.Delete (of_h 3) ∷ E.Add (of_h 3) ∷ []) (sound-Delete w (arities_of printed) _ (of_h 3) refl, (sound-Add w (arities_of printed) _ (of_h 3) refl, tt)), s.eff.1.1));
      init = s.init;
      goal = s.goal;
    }

-- an empty conjunction is no part of a condition, and no change
no_condition : (front : ℕ) → source_condition calls_itself_compiled printed.names 1 Adl front always ≡ []
no_condition front = ap (λ b. cond b [] (source_formula printed.names words front always ∷ [])) (ap is_empty (sym (rolls-And [])) ∙ fold-roll-Formula Bool no_part (Formula-F.And []))

no_change : source_change calls_itself_compiled printed.names 1 Adl 1 nothing ≡ []
no_change = ap (λ b. cond b [] (source_effect printed.names words 1 nothing ∷ [])) (ap is_empty_effect (sym (E.rolls-And [])) ∙ fold-roll-Effect Bool no_effect (Effect-F.And []))

actions_are : printed.actions ≡ encoded_actions calls_itself_compiled printed.names 1 Adl
actions_are = λ i. named 13 (held 0) (turned 0 3) ∷ named 14 (held 3) (turned 3 3)
    ∷ named 15 (And (Holds (of_h 4) ∷ wait ∷ sym (no_condition 1) i)) (E.And (E.Delete (of_h 4) ∷ E.Add (of_h 1) ∷ clear ∷ sym no_change i)) ∷ []

objects_are : printed.objects ≡ encoded_objects calls_itself_compiled printed.names 1
objects_are = λ i. record { name = name printed.names (sym slot_1 i); ty = 1; constant = true } ∷ []

encoded : IsEncoded calls_itself_compiled 1 Adl printed
encoded = record {
  domain = refl;
  problem = refl;
  types = refl;
  objects = objects_are;
  predicates = refl;
  actions = actions_are;
  init = ([], refl, refl);
  goal = λ i. And (sym (no_condition 0) i ++ Forall (x ∷ []) (Holds (of_h 1)) ∷ []);
}

pub calls_itself_is_printed : (mode : Checks) → IsPrinted calls_itself mode calls_itself_compiled 1 Adl printed
calls_itself_is_printed mode = record { sound = (calls_itself_row mode).sound; compiled = (calls_itself_row mode).compiled; printable = printable; encoded = encoded }
