-- A method decomposes a task into subtasks where its values agree with what these tell of them.
use Rattle.std.proofs.Common.{ℕ, zero, suc, ◌≡◌, ◌↔◌, inl, inr, Bool, true, false, not, List, [], ◌∷◌, map, filter, length, Option, Some, None, MatchOption, slice_get, refl, ap, sym, subst, ◌∙◌, Contains, replicate}
use Rattle.std.specs.Option.{option_map_or}
use Rattle.plan_model.specs.declared.networks.Head.{Head}
use Rattle.plan_model.specs.declared.networks.Head.TheVariants.{Task, Action, Check}
use Rattle.plan_model.specs.declared.networks.Child.{Child}
use Rattle.plan_model.specs.declared.networks.Constraint.{Constraint}
use Rattle.plan_model.specs.declared.terms.Param.{Param}
use Rattle.plan_model.specs.declared.schemas.MethodPlan.{MethodPlan}
use Rattle.plan_model.specs.declared.types.Types.{Types}
use Rattle.plan_model.specs.declared.types.Object.{Object}
use Rattle.plan_model.specs.declared.values.Compiled.{Compiled}
use Rattle.plan_model.specs.Typing.{InType}
use Rattle.plan_model.specs.plan_meaning.Truth.{values_of, AreTyped}
use Rattle.plan_model.specs.plan_meaning.Network.{Work, action, check, task, GroundMethod, network, child_of, ground_work, decomposed, subtasks_of, IsDeclared, InTypeOf}
use Rattle.plan_model.proofs.task_networks.Lists.{head_or_tail, not-in_empty, Contains-here, Contains-later}
use Rattle.plan_texts.specs.Types.{EachIs}
use Rattle.value_choices.specs.Choices.{Agree, Precedes}
use Rattle.value_choices.specs.Meeting.{AreMet, CanMeet, AreTheFirst}
use Rattle.value_choices.specs.Settled.{Settles}
use Rattle.value_choices.proofs.Known.{agree_none}
use Rattle.method_fits.specs.declared.fit.Fit.{Fit}
use Rattle.plan_encoder.specs.Calls.{is_check, subtasks}
use Rattle.method_fits.specs.Subtasks.{with_values, works_of, ArePut, AreWorksOf, IsSaid}
use Rattle.method_fits.specs.Fits.{Decomposes, SaysTheSame, IsFit}
use Rattle.value_choices.proofs.TypedObjects.{typed_length}

abbrev task_of : Work → ℕ
task_of (action a args) = a
task_of (check m values) = m
task_of (task t args) = t

abbrev args_of : Work → List ℕ
args_of (action a args) = args
args_of (check m values) = values
args_of (task t args) = args

-- the works of children are as said where they are these works and of declared types
module _ (c : Compiled) (g : GroundMethod) where
  abbrev Are : List Work → List Work → Type 0
  Are ws works = (ws ≡ works) × EachIs (IsDeclared c) ws

  pub works_are : (children : List Child) (works : List Work) → AreWorksOf c g children works ↔ Are (works_of g children) works
  works_are [] works = (λ e. (sym e, tt), λ a. sym a.0)
  works_are (child ∷ children) works = by (works_are children) child.head (values_of g.values child.args) works
    where
      by : ((ws : List Work) → AreWorksOf c g children ws ↔ Are (works_of g children) ws) → (head : Head) (args : List ℕ)
          (works : List Work)
          → ArePut c (AreWorksOf c g children) head (ground_work g head args) works
          ↔ Are (filter (λ w. not (is_check w)) (ground_work g head args ∷ map (child_of g) children)) works
      by rest Check args works = rest works
      by rest (Task t) args [] = (λ a. absurd a, λ a. (let e = a.0 in absurd cc))
      by rest (Task t) args (v ∷ vs) = (
        λ a. (let r = (rest vs).0 a.1 in ((λ i. sym a.0.0 i ∷ r.0 i), (a.0.1, r.1))),
        λ a. (
            let e : task t args ≡ v = (let f = a.0 in cc) in
            let f : works_of g children ≡ vs = (let f = a.0 in cc) in
            ((sym e, a.1.0), (rest vs).1 (f, a.1.1))),
      )
      by rest (Action n) args [] = (λ a. absurd a, λ a. (let e = a.0 in absurd cc))
      by rest (Action n) args (v ∷ vs) = (
        λ a. (let r = (rest vs).0 a.1 in ((λ i. sym a.0.0 i ∷ r.0 i), (a.0.1, r.1))),
        λ a. (
            let e : action n args ≡ v = (let f = a.0 in cc) in
            let f : works_of g children ≡ vs = (let f = a.0 in cc) in
            ((sym e, a.1.0), (rest vs).1 (f, a.1.1))),
      )

  -- what is declared of the children
  declared_some : (children : List Child) → EachIs (IsDeclared c) (works_of g children) → IsDeclared c (check g.number g.values)
      → (child : Child) → Contains children child → IsDeclared c (child_of g child)
  declared_some [] each own child d = absurd (not-in_empty child d)
  declared_some (x ∷ children) each own child d = by (λ rest r. declared_some children rest own child r) x.head
      (values_of g.values x.args) refl each
    where
      there : (EachIs (IsDeclared c) (works_of g children) → Contains children child → IsDeclared c (child_of g child))
          → EachIs (IsDeclared c) (works_of g children) → IsDeclared c (child_of g x) → IsDeclared c (child_of g child)
      there later rest here = elim (head_or_tail x children child d) [
        | inl e ↦ subst (λ (z : Child). IsDeclared c (child_of g z)) e here
        | inr r ↦ later rest r
      ]

      by : (EachIs (IsDeclared c) (works_of g children) → Contains children child → IsDeclared c (child_of g child))
          → (head : Head) (args : List ℕ) → ground_work g head args ≡ child_of g x
          → EachIs (IsDeclared c) (filter (λ w. not (is_check w)) (ground_work g head args ∷ map (child_of g) children)) → IsDeclared c
          (child_of g child)
      by later Check args e all = there later all (subst (IsDeclared c) e own)
      by later (Task t) args e all = there later all.1 (subst (IsDeclared c) e all.0)
      by later (Action a) args e all = there later all.1 (subst (IsDeclared c) e all.0)

  declared_each : (children : List Child) → ((child : Child) → Contains children child → IsDeclared c (child_of g child))
      → EachIs (IsDeclared c) (works_of g children)
  declared_each [] all = tt
  declared_each (x ∷ children) all =
      by (declared_each children (λ child d. all child (Contains-later x children child d))) x.head (values_of g.values x.args)
      (all x (Contains-here x children))
    where
      by : EachIs (IsDeclared c) (works_of g children) → (head : Head) (args : List ℕ) → IsDeclared c (ground_work g head args)
          → EachIs (IsDeclared c) (filter (λ w. not (is_check w)) (ground_work g head args ∷ map (child_of g) children))
      by rest Check args here = rest
      by rest (Task t) args here = (here, rest)
      by rest (Action a) args here = (here, rest)

-- what the task's objects tell of the values, and then what the children do
pub said_both : (c : Compiled) (p : MethodPlan) (m : ℕ) (objects : List ℕ) (works : List Work) (old mid new : List (Option ℕ))
    (found : Bool)
    → length mid ≡ length old → Settles (λ values. values_of values p.schema.task_args ≡ objects) old mid true
    → Settles (λ values. AreWorksOf c (with_values m values) p.schema.children works) mid new found → Settles
    (IsSaid c p m objects works) old new found
said_both c p m objects works old mid new true e s t = λ values l. (
  λ x. (t values (l ∙ sym e)).0 ((s values l).0 (x.0, x.1.head), x.1.children),
  λ a. (
      let y = (t values (l ∙ sym e)).1 a in
      let x = (s values l).1 y.0 in
      (x.0, record { head = x.1; children = y.1 })),
)
said_both c p m objects works old mid new false e s t = λ values l a x. t values (l ∙ sym e) ((s values l).0 (a, x.head)) x.children

-- a number that names no method, or one of another task
pub no_plan : (c : Compiled) (m : ℕ) (w : Work) (works : List Work) → slice_get c.methods m ≡ None → (values : List ℕ)
    → Decomposes c (with_values m values) w works → ⊥
no_plan c m w works e values d = let f : None ≡ Some d.ground.plan = sym e ∙ d.ground.is in absurd cc

module _ (c : Compiled) (m : ℕ) (p : MethodPlan) (at : slice_get c.methods m ≡ Some p) where
  head_is : (values : List ℕ) → (network c).head (with_values m values) ≡ task p.schema.task (values_of values p.schema.task_args)
  head_is values = ap (λ o. option_map_or (decomposed (with_values m values)) o (task 0 [])) at

  subtasks_are : (values : List ℕ) → subtasks c (with_values m values) ≡ works_of (with_values m values) p.schema.children
  subtasks_are values = ap (λ o. filter (λ w. not (is_check w)) (option_map_or (subtasks_of (with_values m values)) o [])) at

  pub other_task : (t : ℕ) (objects : List ℕ) (works : List Work) → (p.schema.task ≡ t → ⊥) → (values : List ℕ)
      → Decomposes c (with_values m values) (task t objects) works → ⊥
  other_task t objects works n values d = n (ap task_of (sym (head_is values) ∙ d.head))

  module _ (t : ℕ) (objects : List ℕ) (works : List Work) (is_task : p.schema.task ≡ t) where
    -- what is asked of the values
    abbrev IsAsked : List ℕ → Type 0
    IsAsked values = AreTyped (InTypeOf c) p.schema.params values × IsSaid c p m objects works values × AreMet p.schema.constraints values

    asked_fits : (values : List ℕ) → IsAsked values → Decomposes c (with_values m values) (task t objects) works
    asked_fits values a =
        let said = (works_are c (with_values m values) p.schema.children works).0 a.1.children in
        record {
          ground = record {
            plan = p;
            is = at;
            typed = a.0;
            met = record {
              constraints = a.2;
              declared = declared_some c (with_values m values) p.schema.children said.1 (p.schema.params, (p, at, refl), a.0);
            };
          };
          head = head_is values ∙ (λ i. task (is_task i) (a.1.head i));
          children = subtasks_are values ∙ said.0;
        }

    fits_asked : (values : List ℕ) → Decomposes c (with_values m values) (task t objects) works → IsAsked values
    fits_asked values f =
        let same : f.ground.plan ≡ p = (let x : Some f.ground.plan ≡ Some p = sym f.ground.is ∙ at in cc) in
        let head : task p.schema.task (values_of values p.schema.task_args) ≡ task t objects = sym (head_is values) ∙ f.head in
        let typed : AreTyped (InTypeOf c) p.schema.params values = subst
        (λ (z : MethodPlan). AreTyped (InTypeOf c) z.schema.params values) same f.ground.typed in
        let declared : (child : Child) → Contains p.schema.children child → IsDeclared c (child_of (with_values m values) child) =
        subst (λ (z : MethodPlan). (child : Child) → Contains z.schema.children child → IsDeclared c
        (child_of (with_values m values) child)) same f.ground.met.declared in
        let meets : AreMet p.schema.constraints values = subst (λ (z : MethodPlan). AreMet z.schema.constraints values) same
        f.ground.met.constraints in (
          typed,
          record {
            head = ap args_of head;
            children = (works_are c (with_values m values) p.schema.children works).1
                (sym (subtasks_are values) ∙ f.children, declared_each c (with_values m values) p.schema.children declared);
          },
          meets,
        )

    pub unsaid : (old new : List (Option ℕ)) → old ≡ replicate (length p.schema.params) None → Settles
        (IsSaid c p m objects works) old new false
        → (values : List ℕ) → Decomposes c (with_values m values) (task t objects) works → ⊥
    unsaid old new none s values d =
        let a = fits_asked values d in
        let l = typed_length (InTypeOf c) p.schema.params values a.0 in
        let e : replicate (length values) None ≡ old = ap (λ n. replicate n None) l ∙ sym none in
        s values (l ∙ sym (length_none (length p.schema.params)) ∙ sym (ap length none))
        (subst (λ z. Agree z values) e (agree_none values)) a.1
      where
        length_none : (n : ℕ) → length (replicate {A = Option ℕ} n None) ≡ n
        length_none zero = refl
        length_none (suc n) = ap suc (length_none n)

    module _ (old new : List (Option ℕ)) (none : old ≡ replicate (length p.schema.params) None)
        (said : Settles (IsSaid c p m objects works) old new true) where
      length_none : (n : ℕ) → length (replicate {A = Option ℕ} n None) ≡ n
      length_none zero = refl
      length_none (suc n) = ap suc (length_none n)

      -- the values that agree are those that say so
      agree_said : (values : List ℕ) → length values ≡ length p.schema.params → Agree new values ↔ IsSaid c p m objects works values
      agree_said values l =
          let s = said values (l ∙ sym (length_none (length p.schema.params)) ∙ sym (ap length none)) in
          let e : replicate (length values) None ≡ old = ap (λ n. replicate n None) l ∙ sym none in
          let start : Agree old values = subst (λ z. Agree z values) e (agree_none values) in
          (λ a. (s.1 a).1, λ x. s.0 (start, x))

      can_fits : (values : List ℕ) → CanMeet (InTypeOf c) p.schema.params p.schema.constraints new values → Decomposes c
          (with_values m values) (task t objects) works
      can_fits values a = asked_fits values (
        a.can.typed,
        (agree_said values
            (typed_length (InTypeOf c) p.schema.params values a.can.typed)).0 a.can.agree,
        a.meets,
      )

      fits_can : (values : List ℕ) → Decomposes c (with_values m values) (task t objects) works → CanMeet
          (InTypeOf c) p.schema.params p.schema.constraints new values
      fits_can values d =
          let a = fits_asked values d in
          record {
            can = record { typed = a.0; agree = (agree_said values (typed_length (InTypeOf c) p.schema.params values a.0)).1 a.1 };
            meets = a.2;
          }

      -- the values that agree with what is known are those with which the method says the same as with values that fit
      known_same : (own values : List ℕ) → Decomposes c (with_values m own) (task t objects) works → length values ≡ length own
          → Agree new values ↔ SaysTheSame c (with_values m own) values
      known_same own values d l =
          let a = fits_asked own d in
          let k = typed_length (InTypeOf c) p.schema.params own a.0 in
          let here = (works_are c (with_values m own) p.schema.children works).0 a.1.children in (
            λ b. (
                let x = (agree_said values (l ∙ k)).0 b in
                let there = (works_are c (with_values m values) p.schema.children works).0 x.children in
                record {
                  head = head_is values ∙ ap (task p.schema.task) (x.head ∙ sym a.1.head) ∙ sym (head_is own);
                  children = subtasks_are values ∙ there.0 ∙ sym here.0 ∙ sym (subtasks_are own);
                }),
            λ s. (
                let ws : works_of (with_values m own) p.schema.children ≡ works_of (with_values m values) p.schema.children = sym
                (subtasks_are own) ∙ sym s.children ∙ subtasks_are values in
                let head : task p.schema.task (values_of values p.schema.task_args) ≡ task p.schema.task
                (values_of own p.schema.task_args) = sym (head_is values) ∙ s.head ∙ head_is own in
                (agree_said values (l ∙ k)).1 (record {
                  head = ap args_of head ∙ a.1.head;
                  children = (works_are c (with_values m values) p.schema.children works).1
                      (sym ws ∙ here.0, subst (EachIs (IsDeclared c)) ws here.1);
                })),
          )

      pub fit_found : (found : Option (List ℕ)) → AreTheFirst (InTypeOf c) p.schema.params p.schema.constraints new found
          → MatchOption found ((values : List ℕ) → Decomposes c (with_values m values) (task t objects) works → ⊥)
          (λ values. (fit : Fit) → fit.values ≡ values → fit.known.items ≡ new → IsFit c m (task t objects) works fit)
      fit_found None n = λ values d. n values (fits_can values d)
      fit_found (Some values) f = λ fit e k. record {
        fits = subst (λ vs. Decomposes c (with_values m vs) (task t objects) works) (sym e) (can_fits values f.is);
        first = λ others d q. f.none_before others (fits_can others d) (subst (Precedes others) e q);
        known = λ others l. subst (λ ks. Agree ks others ↔ SaysTheSame c (with_values m fit.values) others) (sym k)
            (known_same fit.values others (subst (λ vs. Decomposes c (with_values m vs) (task t objects) works) (sym e)
            (can_fits values f.is)) l);
      }

      -- the same, as a search in a world finds it
      pub found_in : (types : Types) (all : List Object) (params : List Param) (constraints : List Constraint) (known : List (Option ℕ))
          (found : Option (List ℕ))
          → types ≡ c.hddl.types → all ≡ c.hddl.objects → params ≡ p.schema.params → constraints ≡ p.schema.constraints → known ≡ new
          → AreTheFirst (InType types all) params constraints known found → AreTheFirst
          (InTypeOf c) p.schema.params p.schema.constraints new found
      found_in types all params constraints known found e f g h k a =
          let x : AreTheFirst (InType c.hddl.types all) params constraints known found = subst
          (λ z. AreTheFirst (InType z all) params constraints known found) e a in
          let y : AreTheFirst (InTypeOf c) params constraints known found = subst
          (λ z. AreTheFirst (InType c.hddl.types z) params constraints known found) f x in
          let z : AreTheFirst (InTypeOf c) p.schema.params constraints known found = subst
          (λ z. AreTheFirst (InTypeOf c) z constraints known found) g y in
          let w : AreTheFirst (InTypeOf c) p.schema.params p.schema.constraints known found = subst
          (λ z. AreTheFirst (InTypeOf c) p.schema.params z known found) h z in
          subst (λ z. AreTheFirst (InTypeOf c) p.schema.params p.schema.constraints z found) k w
