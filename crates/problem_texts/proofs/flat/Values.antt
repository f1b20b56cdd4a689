-- The whole value: its actions, its initial atoms, which are the same in both styles, and its goal.
use Rattle.std.proofs.Common.{ℕ, suc, ◌≡◌, ◌∙◌, Bool, true, false, cond, List, [], ◌∷◌, ◌++◌, map, refl, ap, ap₂}
use Rattle.std.proofs.lemmas.List.{map-append}
use Rattle.plan_model.specs.declared.options.Checks.{Checks}
use Rattle.plan_model.specs.declared.options.Style.TheVariants.{Adl, Flat}
use Rattle.plan_model.specs.declared.formulas.Formula.TheVariants.{And}
use Rattle.plan_model.specs.declared.schemas.ActionSchema.{ActionSchema}
use Rattle.plan_model.specs.declared.schemas.MethodSchema.{MethodSchema}
use Rattle.plan_model.specs.declared.schemas.MethodPlan.{MethodPlan}
use Rattle.plan_model.specs.declared.values.Hddl.{Hddl}
use Rattle.plan_model.specs.declared.values.Compiled.{Compiled}
use Rattle.plan_model.specs.declared.values.Pddl.{Pddl}
use Rattle.plan_texts.specs.Types.{EachIs}
use Rattle.plan_model.specs.plan_meaning.Compilation.{AreMethodPlans, IsCompiled}
use Rattle.plan_model.specs.Pairs.{Pairs}
use Rattle.slot_encoding.specs.EncodedNames.{free_predicate, order_numbers}
use Rattle.order_encoder.specs.OrderFormulas.{free_parts}
use Rattle.slot_encoding.specs.EncodedActions.{encoded_check, source_condition}
use Rattle.slot_encoding.specs.EncodedValue.{encoded_methods, encoded_checks, encoded_source, encoded_actions, IsEncoded}
use Rattle.slot_encoding.proofs.words.PlanParts.{slots_below}
use Rattle.pddl_printer.specs.WrittenOut.{action, condition, written_out}
use Rattle.pddl_printer.proofs.written_out.Equations.{condition-And}
use Rattle.problem_texts.specs.Slots.{slots_of}
use Rattle.problem_texts.proofs.flat.PartLists.{both}
use Rattle.problem_texts.proofs.flat.OrderParts.{frees}
use Rattle.problem_texts.proofs.flat.Works.{source_parts, action_written, check_written}
use Rattle.problem_texts.proofs.flat.Methods.{AreLow, method_written}

-- an heir is the last of the line of all children
pub all_low : (h : Hddl) (mode : Checks) (ss : List MethodSchema) (ps : List MethodPlan) → AreMethodPlans h mode ss ps → EachIs AreLow ps
all_low h mode [] [] a = tt
all_low h mode [] (p ∷ ps) a = absurd a
all_low h mode (s ∷ ss) [] a = absurd a
all_low h mode (s ∷ ss) (p ∷ ps) a = (slots_below (Pairs p.schema.pairs) _ p.line p.heir a.0.line a.0.heir, all_low h mode ss ps a.1)

module _ (c : Compiled) (names : List (List ℕ)) (b : ℕ) where
  abbrev pub write : List ActionSchema → List ActionSchema
  write = map (action (slots_of c b))

  methods_written : (m : ℕ) (plans : List MethodPlan) → EachIs AreLow plans → write (encoded_methods c names b Adl m plans) ≡ encoded_methods c names b Flat m plans
  methods_written m [] l = refl
  methods_written m (plan ∷ plans) l = ap₂ (λ x xs. x ∷ xs) (method_written c names b m plan l.0) (methods_written (suc m) plans l.1)

  with_check : (t : Bool) (x y : ActionSchema) (xs ys : List ActionSchema) → action (slots_of c b) x ≡ y → write xs ≡ ys → write (cond t (x ∷ xs) xs) ≡ cond t (y ∷ ys) ys
  with_check true x y xs ys e h = ap₂ (λ z zs. z ∷ zs) e h
  with_check false x y xs ys e h = h

  pub checks_written : (m : ℕ) (plans : List MethodPlan) → write (encoded_checks c names b Adl m plans) ≡ encoded_checks c names b Flat m plans
  checks_written m [] = refl
  checks_written m (plan ∷ plans) = with_check plan.checked (encoded_check c names b Adl m plan) (encoded_check c names b Flat m plan) _ _ (check_written c names b m plan) (checks_written (suc m) plans)

  pub source_written : (a : ℕ) (ss : List ActionSchema) → write (encoded_source c names b Adl a ss) ≡ encoded_source c names b Flat a ss
  source_written a [] = refl
  source_written a (s ∷ ss) = ap₂ (λ x xs. x ∷ xs) (action_written c names b a s) (source_written (suc a) ss)

  actions_written : EachIs AreLow c.methods → write (encoded_actions c names b Adl) ≡ encoded_actions c names b Flat
  actions_written l =
      map-append (action (slots_of c b)) (encoded_methods c names b Adl 0 c.methods ++ encoded_checks c names b Adl 0 c.methods) (encoded_source c names b Adl 0 c.hddl.actions)
      ∙ ap₂ (λ u v. u ++ v)
      (map-append (action (slots_of c b)) (encoded_methods c names b Adl 0 c.methods) (encoded_checks c names b Adl 0 c.methods) ∙ ap₂ (λ u v. u ++ v) (methods_written 0 c.methods l) (checks_written 0 c.methods))
      (source_written 0 c.hddl.actions)

  goal_written : condition (slots_of c b) 0 (And (source_condition c names b Adl 0 c.hddl.goal ++ free_parts (order_numbers c names b) b 0 Adl (free_predicate c)))
      ≡ And (source_condition c names b Flat 0 c.hddl.goal ++ free_parts (order_numbers c names b) b 0 Flat (free_predicate c))
  goal_written = condition-And (slots_of c b) 0 _ ∙ ap And (both (source_parts c names b 0 0 c.hddl.goal) (frees c names b 0 (free_predicate c))).are

module _ (c : Compiled) (b : ℕ) (p : Pddl) (low : EachIs AreLow c.methods) (is : IsEncoded c b Adl p) where
  pub flat-written : IsEncoded c b Flat (written_out (slots_of c b) p)
  flat-written = record {
    domain = is.domain;
    problem = is.problem;
    types = is.types;
    objects = is.objects;
    predicates = is.predicates;
    actions = ap (map (action (slots_of c b))) is.actions ∙ actions_written c p.names b low;
    init = is.init;
    goal = ap (condition (slots_of c b) 0) is.goal ∙ goal_written c p.names b;
  }

pub flat_is_written_out : (h : Hddl) (mode : Checks) (c : Compiled) (b : ℕ) (p : Pddl) → IsCompiled h mode c → IsEncoded c b Adl p → IsEncoded c b Flat (written_out (slots_of c b) p)
flat_is_written_out h mode c b p compiled is = flat-written c b p (all_low h mode (h.top ∷ h.methods) c.methods compiled.methods) is
