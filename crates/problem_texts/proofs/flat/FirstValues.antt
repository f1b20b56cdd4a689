-- The same where a method takes the lowest free slots: what is asked of them is no literal, and stays as it is.
use Rattle.std.proofs.Common.{ℕ, zero, suc, ◌≡◌, ◌∙◌, List, [], ◌∷◌, ◌++◌, map, codes, refl, ap, ap₂}
use Rattle.std.proofs.lemmas.List.{map-append}
use Rattle.plan_model.specs.declared.options.Checks.{Checks}
use Rattle.plan_model.specs.declared.options.Slots.{Slots}
use Rattle.plan_model.specs.declared.options.Slots.TheVariants.{Any, First}
use Rattle.plan_model.specs.declared.options.Style.TheVariants.{Adl, Flat}
use Rattle.plan_model.specs.declared.terms.Param.{Param}
use Rattle.plan_model.specs.declared.terms.Term.TheVariants.{Var}
use Rattle.plan_model.specs.declared.formulas.Formula.{Formula, out-Formula}
use Rattle.plan_model.specs.declared.formulas.Formula.TheVariants.{Equal, Not, And, Or, Imply, Forall}
use Rattle.plan_model.specs.declared.schemas.MethodPlan.{MethodPlan}
use Rattle.plan_model.specs.declared.values.Hddl.{Hddl}
use Rattle.plan_model.specs.declared.values.Compiled.{Compiled}
use Rattle.plan_model.specs.declared.values.Pddl.{Pddl}
use Rattle.plan_model.specs.task_networks.Spelling.{numbers}
use Rattle.plan_model.specs.plan_meaning.Compilation.{IsCompiled}
use Rattle.plan_texts.specs.Types.{EachIs}
use Rattle.slot_encoding.specs.EncodedNames.{slot_param}
use Rattle.slot_encoding.specs.EncodedActions.{spare}
use Rattle.slot_encoding.specs.EncodedValue.{encoded_checks, encoded_source}
use Rattle.slot_encoding.specs.FirstFree.{less, less_facts, is_free_below, lowest_slot, lowest_slots, first_method, first_methods, first_actions, IsEncodedBy}
use Rattle.pddl_printer.specs.WrittenOut.{literal, negated_literal, quantified, action, written_out}
use Rattle.pddl_printer.proofs.written_out.Equations.{out-Not, out-And, out-Imply, parts-Forall}
use Rattle.problem_texts.specs.Slots.{slots_of}
use Rattle.problem_texts.proofs.flat.PartLists.{Become, both, all_become}
use Rattle.problem_texts.proofs.flat.OtherParts.{parts}
use Rattle.problem_texts.proofs.flat.Works.{schema_written}
use Rattle.problem_texts.proofs.flat.Methods.{AreLow, d, conditions, change, in_force}
use Rattle.problem_texts.proofs.flat.Values.{write, all_low, checks_written, source_written, flat_is_written_out}

module _ (c : Compiled) (names : List (List ℕ)) (b depth : ℕ) where
  abbrev slot : Param
  slot = slot_param c names b (codes "htn_x")

  -- of each slot, what is no literal
  stays : (f : Formula) → literal (slots_of c b) depth (Forall (slot ∷ []) f) (out-Formula f) ≡ Forall (slot ∷ []) f ∷ [] → parts c b depth (Forall (slot ∷ []) f) ≡ Forall (slot ∷ []) f ∷ []
  stays f e = parts-Forall (slots_of c b) depth slot f ∙ e

  lowest-stays : (x k : ℕ) → parts c b depth (lowest_slot c names b Adl x k) ≡ lowest_slot c names b Flat x k ∷ []
  lowest-stays x zero = ap (quantified (slots_of c b) depth (And [])) (out-And [])
  lowest-stays x (suc zero) =
      let below = is_free_below c names b Adl x 1 in
      let whole = Forall (slot ∷ []) (Not below) in
      stays (Not below) (ap (literal (slots_of c b) depth whole) (out-Not below) ∙ ap (negated_literal (slots_of c b) depth whole) (out-And _))
  lowest-stays x (suc (suc k)) =
      let below = is_free_below c names b Adl x (suc (suc k)) in
      let taken = Or (map (λ j. Equal (Var x) (Var j)) (numbers 1 (suc k))) in
      stays (Imply below taken) (ap (literal (slots_of c b) depth (Forall (slot ∷ []) (Imply below taken))) (out-Imply below taken))

  lowest : (x count : ℕ) → Become (parts c b depth) (lowest_slots c names b Adl x count) (lowest_slots c names b Flat x count)
  lowest x count = all_become (lowest_slot c names b Adl x) (lowest_slot c names b Flat x) (numbers 1 count) (lowest-stays x)

module _ (c : Compiled) (names : List (List ℕ)) (b : ℕ) where
  method_written : (m : ℕ) (plan : MethodPlan) → AreLow plan → action (slots_of c b) (first_method c names b Adl m plan) ≡ first_method c names b Flat m plan
  method_written m plan low =
      let x = d c names b m plan low in
      schema_written c names b _ _ x _ _ _ _ (in_force c names b m plan low)
      (both (conditions c names b m plan low) (lowest c names b x x (spare c names b Adl m plan)))
      (change c names b m plan low plan.schema.children)

  methods_written : (m : ℕ) (plans : List MethodPlan) → EachIs AreLow plans → write c names b (first_methods c names b Adl m plans) ≡ first_methods c names b Flat m plans
  methods_written m [] l = refl
  methods_written m (plan ∷ plans) l = ap₂ (λ x xs. x ∷ xs) (method_written m plan l.0) (methods_written (suc m) plans l.1)

  actions_written : EachIs AreLow c.methods → write c names b (first_actions c names b Adl) ≡ first_actions c names b Flat
  actions_written l =
      map-append (action (slots_of c b)) (first_methods c names b Adl 0 c.methods ++ encoded_checks c names b Adl 0 c.methods) (encoded_source c names b Adl 0 c.hddl.actions)
      ∙ ap₂ (λ u v. u ++ v)
      (map-append (action (slots_of c b)) (first_methods c names b Adl 0 c.methods) (encoded_checks c names b Adl 0 c.methods) ∙ ap₂ (λ u v. u ++ v) (methods_written 0 c.methods l) (checks_written c names b 0 c.methods))
      (source_written c names b 0 c.hddl.actions)

pub flat_written-by : (rule : Slots) (h : Hddl) (mode : Checks) (c : Compiled) (b : ℕ) (p : Pddl) → IsCompiled h mode c → IsEncodedBy rule c b Adl p → IsEncodedBy rule c b Flat (written_out (slots_of c b) p)
flat_written-by Any h mode c b p compiled is = flat_is_written_out h mode c b p compiled is
flat_written-by First h mode c b p compiled is =
    let plain = written_out (slots_of c b) is.plain in
    let low = all_low h mode (h.top ∷ h.methods) c.methods compiled.methods in
    record {
      plain = plain;
      encoded = flat_is_written_out h mode c b is.plain compiled is.encoded;
      value_is = ap (written_out (slots_of c b)) is.value_is ∙ ap (λ actions. record {
        names = is.plain.names;
        domain = is.plain.domain;
        problem = is.plain.problem;
        types = is.plain.types;
        objects = is.plain.objects;
        predicates = is.plain.predicates ++ less c is.plain.names b Flat ∷ [];
        actions = actions;
        init = is.plain.init ++ less_facts c is.plain.names b Flat;
        goal = plain.goal;
      }) (actions_written c is.plain.names b low);
    }
