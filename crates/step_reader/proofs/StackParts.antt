-- A step of a stack is read by the parts of its arguments: its cells and its objects.
use Rattle.std.proofs.Common.{ℕ, ◌≡◌, ◌≤◌, ◌<◌, ◌^◌, ◌++◌, List, [], ◌∷◌, map, length, slice_get, Option, refl, ap, sym, subst, ◌∙◌, Contains, arith}
use Rattle.std.specs.Option.{option_map_or}
use Rattle.std.proofs.lemmas.List.{length-map}
use Rattle.htn_base.specs.Escapes.{slot_word}
use Rattle.htn_base.proofs.EscapeLemmas.{names_apart}
use Rattle.plan_model.specs.declared.terms.Param.{Param}
use Rattle.plan_model.specs.declared.schemas.MethodPlan.{MethodPlan}
use Rattle.plan_model.specs.declared.steps.GroundAction.{GroundAction}
use Rattle.plan_model.specs.declared.values.Compiled.{Compiled}
use Rattle.plan_model.specs.task_networks.Spelling.{Act, run, apply}
use Rattle.plan_model.specs.plan_meaning.Truth.{AreTyped}
use Rattle.plan_model.specs.plan_meaning.Network.{action, check, task, GroundMethod, network, InTypeOf, child_of, subtasks_of}
use Rattle.plan_model.specs.plan_meaning.SpelledPlan.{object_word, step_of}
use Rattle.plan_model.proofs.task_networks.Lists.{Contains-here, Contains-later}
use Rattle.problem_index.specs.declared.printed_index.PrintedName.{PrintedName}
use Rattle.problem_index.specs.declared.printed_index.PrintedName.TheVariants.{Action, Check, Method}
use Rattle.problem_index.specs.Printed.{IsThere, word_of}
use Rattle.stack_encoding.specs.StackSpelling.{cells_of, stack_step}
use Rattle.decoding.specs.FailingAct.{slot_in}
use Rattle.decoding.specs.PrintedSteps.{HasParams, own_objects, HasSoundChecks}
use Rattle.stack_decoding.specs.StackSteps.{children_of, named_cells, HasCells, AreUpTo, HasArguments, IsStepOf}
use Rattle.stack_decoding.proofs.StepNames.{as_many, IsSameKind, same_kind}
use Rattle.stack_decoding.proofs.CellSteps.{as_many_cells}
use Rattle.step_reader.specs.Arguments.{params_of}
use Rattle.step_reader.specs.Cells.{children_at}
use Rattle.step_reader.specs.Readings.{act_of, IsReadable}
use Rattle.step_reader.proofs.ReadLaws.{action_params, method_params}

module _ (c : Compiled) (is : IsReadable c) (checks : HasSoundChecks c) (b : ℕ) (name : PrintedName) (step : GroundAction) (there : IsThere c name) (word : word_of c name ≡ step.name) where
  -- the act of the name has its parameters, its word and its number of children
  has_params : (n : PrintedName) (h : ℕ) (new objects : List ℕ) → IsThere c n → HasParams c (act_of c n h new objects) (params_of c n)
  has_params (Action a) h new objects (s, at) = (s, at, sym (ap (action_params c) at))
  has_params (Check m) h new objects (p, at, checked) = (p, at, checked, sym (ap (method_params c) at))
  has_params (Method m) h new objects (p, at) = (p, at, sym (ap (method_params c) at))

  name_same : (n : PrintedName) (h : ℕ) (new objects : List ℕ) → (step_of c (act_of c n h new objects)).name ≡ word_of c n
  name_same (Action a) h new objects = refl
  name_same (Check m) h new objects = refl
  name_same (Method m) h new objects = refl

  children_same : (n : PrintedName) (h : ℕ) (new objects : List ℕ) → IsThere c n → children_of c (act_of c n h new objects) ≡ children_at c n
  children_same (Action a) h new objects t = refl
  children_same (Check m) h new objects t = refl
  children_same (Method m) h new objects (p, at) =
      let g : GroundMethod = record { number = m; values = objects } in
      ap (λ o. length (option_map_or (subtasks_of g) o [])) at ∙ length-map p.schema.children (child_of g)
      ∙ sym (ap (λ (o : Option MethodPlan). option_map_or (λ (plan : MethodPlan). length plan.schema.children) o 0) at)

  -- an act of the step's name has these too
  kind : (a : Act (network c)) (ps : List Param) → HasParams c a ps → step.name ≡ (step_of c a).name → IsSameKind c is.apart checks a (act_of c name 0 [] [])
  kind a ps has e = same_kind c is.apart checks a (act_of c name 0 [] []) ps (params_of c name) has (has_params name 0 [] [] there) (sym e ∙ sym word ∙ sym (name_same name 0 [] []))

  same_params : (n : PrintedName) (a : Act (network c)) (ps : List Param) → HasParams c a ps → IsSameKind c is.apart checks a (act_of c n 0 [] []) → ps ≡ params_of c n
  same_params (Action k) (run h (action a v)) ps (s, at, e) same = sym e ∙ sym (ap (action_params c) at) ∙ ap (λ z. action_params c (slice_get c.hddl.actions z)) same
  same_params (Check k) (run h (check m v)) ps (p, at, checked, e) same = sym e ∙ sym (ap (method_params c) at) ∙ ap (λ z. method_params c (slice_get c.methods z)) same
  same_params (Method k) (apply h new g) ps (p, at, e) same = sym e ∙ sym (ap (method_params c) at) ∙ ap (λ z. method_params c (slice_get c.methods z)) same
  same_params (Action k) (run h (check m v)) ps has same = absurd same
  same_params (Action k) (run h (task m v)) ps has same = absurd same
  same_params (Action k) (apply h new g) ps has same = absurd same
  same_params (Check k) (run h (action m v)) ps has same = absurd same
  same_params (Check k) (run h (task m v)) ps has same = absurd same
  same_params (Check k) (apply h new g) ps has same = absurd same
  same_params (Method k) (run h (action m v)) ps has same = absurd same
  same_params (Method k) (run h (check m v)) ps has same = absurd same
  same_params (Method k) (run h (task m v)) ps has same = absurd same

  children_alike : (n : PrintedName) (a : Act (network c)) → IsSameKind c is.apart checks a (act_of c n 0 [] []) → children_of c a ≡ children_of c (act_of c n 0 [] [])
  children_alike (Action k) (run h w) same = refl
  children_alike (Check k) (run h w) same = refl
  children_alike (Method k) (apply h new g) same = as_many c g (record { number = k; values = [] }) same
  children_alike (Action k) (apply h new g) same = absurd same
  children_alike (Check k) (apply h new g) same = absurd same
  children_alike (Method k) (run h (action m v)) same = absurd same
  children_alike (Method k) (run h (check m v)) same = absurd same
  children_alike (Method k) (run h (task m v)) same = absurd same

  children_are : (a : Act (network c)) (ps : List Param) → HasParams c a ps → step.name ≡ (step_of c a).name → children_of c a ≡ children_at c name
  children_are a ps has e = children_alike name a (kind a ps has e) ∙ children_same name 0 [] [] there

  -- the arguments are those that are due for the name
  pub record AreDueCells (cells objects : List ℕ) : Type 0 where
    pub many : length cells ≡ length (cells_of 0 (children_at c name))
    pub within : AreUpTo c b cells
    pub typed : AreTyped (InTypeOf c) (params_of c name) objects
    pub are : step.args ≡ map slot_word cells ++ map (object_word c) objects

  pub due_of : (x : HasArguments c b step) → AreDueCells x.cells (own_objects c x.act)
  due_of x = record {
    many = x.many ∙ as_many_cells (slot_in (network c) x.act) 0 (children_of c x.act) ∙ ap (λ n. length (cells_of 0 n)) (children_are x.act x.params x.has x.name);
    within = x.within;
    typed = subst (λ ps. AreTyped (InTypeOf c) ps (own_objects c x.act)) (same_params name x.act x.params x.has (kind x.act x.params x.has x.name)) x.typed;
    are = x.args;
  }

  own_same : (n : PrintedName) (h : ℕ) (new objects : List ℕ) → own_objects c (act_of c n h new objects) ≡ objects
  own_same (Action a) h new objects = refl
  own_same (Check m) h new objects = refl
  own_same (Method m) h new objects = refl

  pub arguments_of : (cells objects : List ℕ) → AreDueCells cells objects → HasArguments c b step
  arguments_of cells objects x = record {
    act = act_of c name 0 [] objects;
    params = params_of c name;
    has = has_params name 0 [] objects there;
    typed = subst (AreTyped (InTypeOf c) (params_of c name)) (sym (own_same name 0 [] objects)) x.typed;
    cells = cells;
    many = x.many ∙ as_many_cells 0 (slot_in (network c) (act_of c name 0 [] objects)) (children_at c name) ∙ ap (λ n. length (cells_of (slot_in (network c) (act_of c name 0 [] objects)) n)) (sym (children_same name 0 [] objects there));
    within = x.within;
    name = sym word ∙ sym (name_same name 0 [] objects);
    args = x.are ∙ ap (λ os. map slot_word cells ++ map (object_word c) os) (sym (own_same name 0 [] objects));
  }

  stack_same : (n : PrintedName) (h : ℕ) (new objects : List ℕ) → IsThere c n → (cells : List ℕ) → cells ≡ cells_of h (children_at c n) → step.name ≡ word_of c n → step.args ≡ map slot_word cells ++ map (object_word c) objects
      → step ≡ stack_step c (act_of c n h new objects)
  stack_same (Action a) h new objects t cells e f g = let args = g ∙ ap (λ z. map slot_word z ++ map (object_word c) objects) e in λ i. record { name = f i; args = args i }
  stack_same (Check m) h new objects t cells e f g = let args = g ∙ ap (λ z. map slot_word z ++ map (object_word c) objects) e in λ i. record { name = f i; args = args i }
  stack_same (Method m) h new objects t cells e f g =
      let args = g ∙ ap (λ z. map slot_word z ++ map (object_word c) objects) (e ∙ ap (cells_of h) (sym (children_same (Method m) h new objects t))) in
      λ i. record { name = f i; args = args i }

  slot_of : (n : PrintedName) (h : ℕ) (new objects : List ℕ) → slot_in (network c) (act_of c n h new objects) ≡ h
  slot_of (Action a) h new objects = refl
  slot_of (Check m) h new objects = refl
  slot_of (Method m) h new objects = refl

  -- where the cells lie one above the other, the step is the act's
  pub step_is : (cells objects new : List ℕ) (h : ℕ) → AreDueCells cells objects → 1 ≤ h → cells ≡ cells_of h (children_at c name) → HasCells c (act_of c name h new objects) → IsStepOf c b step (act_of c name h new objects)
  step_is cells objects new h x l e has = record {
    params = params_of c name;
    has = has_params name h new objects there;
    typed = subst (AreTyped (InTypeOf c) (params_of c name)) (sym (own_same name h new objects)) x.typed;
    own = subst (λ z. 1 ≤ z) (sym (slot_of name h new objects)) l;
    within = λ y k. x.within y (subst (λ z. Contains z y) (ap (λ z. cells_of z (children_of c (act_of c name h new objects))) (slot_of name h new objects) ∙ ap (cells_of h) (children_same name h new objects there) ∙ sym e) k);
    cells = has;
    is = stack_same name h new objects there cells e (sym word) x.are;
  }

  -- the cells that words tell are one list
  module _ (few : b < 2 ^ 32) where
    pub cells_once : (xs ys : List ℕ) → AreUpTo c b xs → AreUpTo c b ys → map slot_word xs ≡ map slot_word ys → xs ≡ ys
    cells_once [] [] u v e = refl
    cells_once [] (y ∷ ys) u v e = absurd cc
    cells_once (x ∷ xs) [] u v e = absurd cc
    cells_once (x ∷ xs) (y ∷ ys) u v e =
        let l = u x (Contains-here x xs) in
        let r = v y (Contains-here y ys) in
        let here : x ≡ y = names_apart.slots x y (omega (l, few, arith)) (omega (r, few, arith)) cc in
        let rest : xs ≡ ys = cells_once xs ys (λ z k. u z (Contains-later x xs z k)) (λ z k. v z (Contains-later y ys z k)) cc in
        λ i. here i ∷ rest i

  -- an act's step names its cells in order
  pub row_of_step : (a : Act (network c)) → IsStepOf c b step a → (h : ℕ) × (1 ≤ h) × AreUpTo c b (cells_of h (children_at c name)) × (step.args ≡ map slot_word (cells_of h (children_at c name)) ++ map (object_word c) (own_objects c a))
  row_of_step a r =
      let named_as : step.name ≡ (step_of c a).name = ap (λ (z : GroundAction). z.name) r.is ∙ stack_name a in
      let n = children_are a r.params r.has named_as in (
        slot_in (network c) a,
        r.own,
        subst (λ z. AreUpTo c b (cells_of (slot_in (network c) a) z)) n r.within,
        ap (λ (z : GroundAction). z.args) r.is ∙ stack_args a ∙ ap (λ z. map slot_word (cells_of (slot_in (network c) a) z) ++ map (object_word c) (own_objects c a)) n,
      )
    where
      stack_name : (a : Act (network c)) → (stack_step c a).name ≡ (step_of c a).name
      stack_name (run h w) = refl
      stack_name (apply h new g) = refl

      stack_args : (a : Act (network c)) → (stack_step c a).args ≡ map slot_word (named_cells c a) ++ map (object_word c) (own_objects c a)
      stack_args (run h w) = refl
      stack_args (apply h new g) = refl
