-- The step of an act has its action's word and its objects, and equal steps are those of one act.
-- Source: this project's.
use Rattle.std.proofs.Common.{ℕ, zero, suc, ◌≡◌, List, [], ◌∷◌, ◌++◌, map, length, slice_get, refl, ap, sym, subst, ◌∙◌, arith}
use Rattle.std.proofs.lemmas.List.{length-map}
use Rattle.htn_base.specs.Escapes.{slot_word}
use Rattle.plan_model.specs.declared.options.Style.TheVariants.{Adl}
use Rattle.plan_model.specs.declared.options.Checks.{Checks}
use Rattle.plan_model.specs.declared.schemas.ActionSchema.{ActionSchema}
use Rattle.plan_model.specs.declared.schemas.MethodPlan.{MethodPlan}
use Rattle.plan_model.specs.declared.steps.GroundAction.{GroundAction}
use Rattle.plan_model.specs.declared.values.Hddl.{Hddl}
use Rattle.plan_model.specs.declared.values.Compiled.{Compiled}
use Rattle.plan_model.specs.declared.values.Pddl.{Pddl}
use Rattle.plan_model.specs.task_networks.Spelling.{Act, run, apply}
use Rattle.plan_model.proofs.task_networks.Numbers.{length-numbers}
use Rattle.text_forms.specs.Words.{Word}
use Rattle.plan_texts.specs.Types.{EachIs}
use Rattle.plan_model.specs.plan_meaning.Truth.{State, AreTyped, IsTrueIn}
use Rattle.plan_model.specs.plan_meaning.Network.{action, check, task, network}
use Rattle.plan_model.specs.plan_meaning.ClassicalPlan as Printed
use Rattle.plan_model.specs.plan_meaning.ClassicalPlan.{AreObjects, IsApplicable}
use Rattle.plan_model.specs.plan_meaning.SpelledPlan.{object_word, work_name, method_name}
use Rattle.slot_encoding.specs.SourceParts.{source_param}
use Rattle.slot_encoding.proofs.places.ListPlaces.{get_within, get_contains, append_same}
use Rattle.slot_encoding.proofs.places.ActionPlaces.{check_place, action_place}
use Rattle.slot_encoding.proofs.places.Predicates.{is_checked, passed_once, passed_within}
use Rattle.stack_machine.specs.Stack.{AreCellsFrom}
use Rattle.stack_encoding.specs.StackNames.{cell_object}
use Rattle.stack_encoding.specs.StackActions.{stack_method, stack_check, stack_action}
use Rattle.stack_encoding.specs.StackSpelling.{cells_of, stack_step}
use Rattle.stack_encoding.proofs.places.StackWorded.{IsStackWorded}
use Rattle.stack_proof.proofs.machine.StackReading.{IsCell, IsActBy}
use Rattle.stack_proof.proofs.words.Cells.{IsCellNumber, same_cells, put_together}
use Rattle.stack_proof.proofs.words.CellWords.{same_objects, worded}
use Rattle.stack_encoding.proofs.places.StackPlaces.{method_at, check_at, action_at}
use Rattle.stack_proof.proofs.words.ActionNames.{IsNamed, same_action, method_named, check_named, action_named, cell_params, method_params_are, length-cells, are_cells}
use Rattle.stack_proof.proofs.words.Lines.{one_row}
use Rattle.stack_proof.proofs.words.StepWords.{cells_within, plan_line, method_step}

-- cells of as many children are those of one cell
same_rows : (j k n : ℕ) → cells_of j n ≡ cells_of k n → j ≡ k
same_rows j k zero e = let f : j ∷ [] ≡ k ∷ [] = cc in cc
same_rows j k (suc n) e = cc

as_long : (j k n : ℕ) → length (cells_of j n) ≡ length (cells_of k n)
as_long j k n = length-rows j n ∙ sym (length-rows k n)
  where
    after : ℕ → ℕ
    after zero = 2
    after (suc n) = suc n

    length-rows : (j n : ℕ) → length (cells_of j n) ≡ after n
    length-rows j zero = refl
    length-rows j (suc n) = ap suc (length-numbers (suc j) n)

module _ (h : Hddl) (mode : Checks) (c : Compiled) (b : ℕ) (p : Pddl) (is : IsStackWorded h mode c b p) where
  abbrev InP : ℕ → ℕ → Type 0
  InP = Printed.InTypeOf p

  abbrev the_step : Word → List Word → GroundAction
  the_step name args = record { name = name; args = args }

  abbrev method : ℕ → MethodPlan → ActionSchema
  method = stack_method c p.names b

  abbrev checking : ℕ → MethodPlan → ActionSchema
  checking = stack_check c p.names b

  abbrev acting : ℕ → ActionSchema → ActionSchema
  acting = stack_action c p.names b

  abbrev IsBy : Act (network c) → ActionSchema → List ℕ → Type 0
  IsBy = IsActBy c b p

  abbrev args_of : List ℕ → List ℕ → List Word
  args_of ks values = map slot_word ks ++ map (object_word c) values

  abbrev objects_of : List ℕ → List ℕ → List ℕ
  objects_of ks values = map (cell_object c) ks ++ values

  -- the place of an act's action
  abbrev pub place_of : Act (network c) → ℕ
  place_of (apply k new g) = g.number
  place_of (run k (check m values)) = check_place c p.names b Adl m
  place_of (run k (action n args)) = action_place c p.names b Adl n
  place_of (run k (task t args)) = 0

  -- an act's action, with its word, cells and objects
  pub record Shows (act : Act (network c)) (a : ActionSchema) (os : List ℕ) : Type 0 where
    pub named : IsNamed h mode c b p is (place_of act) a (stack_step c act).name
    pub objects : AreObjects p os (stack_step c act).args
    pub typed : AreTyped (Printed.InTypeOf p) a.params os

  row : (k : ℕ) → IsCell c b p k → EachIs (IsCellNumber b) (cells_of k 0)
  row k cell = cells_within b k 0 cell.0 cell.1 (let l = cell.1 in omega arith)

  shown : (act : Act (network c)) (a : ActionSchema) (os : List ℕ) → IsBy act a os → Shows act a os
  shown (apply k new g) a os r =
      let m = g.number in
      let n = length r.plan.schema.children in
      let ks = cells_of k n in
      let front = cell_params h mode c b p is n in
      let within = cells_within b k n r.cell.0 r.cell.1 r.room in
      let named = method_named h mode c b p is m m r.plan r.is (method_at c p.names b m r.plan r.is) in
      let args = ap (λ (z : GroundAction). z.args) (method_step h mode c b p is k new g r.plan r.is) in
      let typed = put_together h mode c b p is front r.plan.schema.params ks g.values (are_cells h mode c b p is n) (length-cells h mode c b p is k n) within r.typed in
      record {
        named = subst (λ z. IsNamed h mode c b p is m z (method_name c m)) (sym r.action) named;
        objects = subst (AreObjects p os) args (subst (λ z. AreObjects p z (args_of ks g.values)) (sym r.objects) (worded h mode c b p is ks g.values r.plan.schema.params within r.typed));
        typed = subst (λ (z : ActionSchema). AreTyped InP z.params os) (sym r.action) (subst (λ z. AreTyped InP z os) (sym (method_params_are h mode c b p is m r.plan n)) (subst (AreTyped InP (front ++ map (source_param p.names c.hddl.names) r.plan.schema.params)) (sym r.objects) typed));
      }
  shown (run k (check m values)) a os r =
      let ks = cells_of k 0 in
      let front = cell_params h mode c b p is 0 in
      let named = check_named h mode c b p is m (check_place c p.names b Adl m) r.plan values r.is (check_at c p.names b m r.plan r.is r.checked) in
      let typed = put_together h mode c b p is front r.plan.schema.params ks values (are_cells h mode c b p is 0) refl (row k r.cell) r.typed in
      record {
        named = subst (λ z. IsNamed h mode c b p is (check_place c p.names b Adl m) z (work_name c (check m values))) (sym r.action) named;
        objects = subst (λ z. AreObjects p z (args_of ks values)) (sym r.objects) (worded h mode c b p is ks values r.plan.schema.params (row k r.cell) r.typed);
        typed = subst (λ (z : ActionSchema). AreTyped InP z.params os) (sym r.action) (subst (AreTyped InP (checking m r.plan).params) (sym r.objects) typed);
      }
  shown (run k (action n args)) a os r =
      let ks = cells_of k 0 in
      let front = cell_params h mode c b p is 0 in
      let named = action_named h mode c b p is n (action_place c p.names b Adl n) r.schema args r.is (action_at c p.names b n r.schema r.is) in
      let typed = put_together h mode c b p is front r.schema.params ks args (are_cells h mode c b p is 0) refl (row k r.cell) r.typed in
      record {
        named = subst (λ z. IsNamed h mode c b p is (action_place c p.names b Adl n) z (work_name c (action n args))) (sym r.action) named;
        objects = subst (λ z. AreObjects p z (args_of ks args)) (sym r.objects) (worded h mode c b p is ks args r.schema.params (row k r.cell) r.typed);
        typed = subst (λ (z : ActionSchema). AreTyped InP z.params os) (sym r.action) (subst (AreTyped InP (acting n r.schema).params) (sym r.objects) typed);
      }
  shown (run k (task t args)) a os r = absurd r

  pub from_act : (S : State) (act : Act (network c)) (a : ActionSchema) (os : List ℕ) → IsActBy c b p act a os → IsTrueIn (Printed.InTypeOf p) S a.pre os → IsApplicable p S (stack_step c act) a os
  from_act S act a os r t =
      let s = shown act a os r in
      record { action = get_contains p.actions (place_of act) a s.named.at; name = s.named.word; objects_are = s.objects; typed = s.typed; condition = t }

  -- acts with one place and the same objects are one
  same_work : (k k' : ℕ) (us vs : List ℕ) (os : List ℕ) → os ≡ objects_of (cells_of k 0) us → os ≡ objects_of (cells_of k' 0) vs → (k ≡ k') × (us ≡ vs)
  same_work k k' us vs os e f =
      let (q, v) = append_same (map (cell_object c) (cells_of k 0)) us (map (cell_object c) (cells_of k' 0)) vs refl (sym e ∙ f) in
      (same_rows k k' 0 (same_cells c (cells_of k 0) (cells_of k' 0) q), v)

  same_act : (act act' : Act (network c)) (a a' : ActionSchema) (os : List ℕ) → IsBy act a os → IsBy act' a' os → place_of act ≡ place_of act' → act ≡ act'
  same_act (apply k new g) (apply k' new' g') a a' os r s e =
      let f = ap (slice_get c.methods) e in
      let i = r.is in
      let j = s.is in
      let same : s.plan ≡ r.plan = cc in
      let n = length r.plan.schema.children in
      let other : os ≡ objects_of (cells_of k' n) g'.values = subst (λ (z : MethodPlan). os ≡ objects_of (cells_of k' (length z.schema.children)) g'.values) same s.objects in
      let l : length (map (cell_object c) (cells_of k n)) ≡ length (map (cell_object c) (cells_of k' n)) = length-map (cells_of k n) (cell_object c) ∙ as_long k k' n ∙ sym (length-map (cells_of k' n) (cell_object c)) in
      let (q, v) = append_same (map (cell_object c) (cells_of k n)) g.values (map (cell_object c) (cells_of k' n)) g'.values l (sym r.objects ∙ other) in
      let x : k ≡ k' = same_rows k k' n (same_cells c (cells_of k n) (cells_of k' n) q) in
      let y : g ≡ g' = λ t. record { number = e t; values = v t } in
      let theirs : AreCellsFrom (network c) k g new' = subst (λ z. AreCellsFrom (network c) z g new') (sym x) (subst (λ z. AreCellsFrom (network c) k' z new') (sym y) s.new_cells) in
      let z : new ≡ new' = one_row c g r.plan r.is (plan_line h mode c b p is g.number r.plan r.is) k new new' r.new_cells theirs in
      λ t. apply (x t) (z t) (y t)
  same_act (run k (check m us)) (run k' (check n vs)) a a' os r s e =
      let f : m ≡ n = passed_once is_checked c.methods m n r.plan s.plan r.is r.checked s.is s.checked (omega arith) in
      let (x, y) = same_work k k' us vs os r.objects s.objects in
      λ t. run (x t) (check (f t) (y t))
  same_act (run k (action m us)) (run k' (action n vs)) a a' os r s e =
      let f : m ≡ n = omega arith in
      let (x, y) = same_work k k' us vs os r.objects s.objects in
      λ t. run (x t) (action (f t) (y t))
  same_act (apply k new g) (run k' (check n vs)) a a' os r s e = absurd (let l = get_within c.methods g.number r.plan r.is in omega arith)
  same_act (apply k new g) (run k' (action n vs)) a a' os r s e = absurd (let l = get_within c.methods g.number r.plan r.is in omega arith)
  same_act (run k (check m us)) (apply k' new g) a a' os r s e = absurd (let l = get_within c.methods g.number s.plan s.is in omega arith)
  same_act (run k (action m us)) (apply k' new g) a a' os r s e = absurd (let l = get_within c.methods g.number s.plan s.is in omega arith)
  same_act (run k (check m us)) (run k' (action n vs)) a a' os r s e = absurd (let l = passed_within is_checked c.methods m r.plan r.is r.checked in omega arith)
  same_act (run k (action m us)) (run k' (check n vs)) a a' os r s e = absurd (let l = passed_within is_checked c.methods n s.plan s.is s.checked in omega arith)
  same_act (run k (task t us)) act' a a' os r s e = absurd r
  same_act (apply k new g) (run k' (task t vs)) a a' os r s e = absurd s
  same_act (run k (check m us)) (run k' (task t vs)) a a' os r s e = absurd s
  same_act (run k (action m us)) (run k' (task t vs)) a a' os r s e = absurd s

  pub one_act : (act act' : Act (network c)) (a a' : ActionSchema) (os os' : List ℕ) → IsActBy c b p act a os → IsActBy c b p act' a' os' → stack_step c act ≡ stack_step c act' → (act ≡ act') × (a ≡ a') × (os ≡ os')
  one_act act act' a a' os os' r s e =
      let x = shown act a os r in
      let y = shown act' a' os' s in
      let (k, f) = same_action h mode c b p is (place_of act) (place_of act') a a' (stack_step c act).name x.named (subst (IsNamed h mode c b p is (place_of act') a') (sym (ap (λ (z : GroundAction). z.name) e)) y.named) in
      let g : os ≡ os' = same_objects h mode c b p is os os' (stack_step c act).args x.objects (subst (AreObjects p os') (sym (ap (λ (z : GroundAction). z.args) e)) y.objects) in
      (same_act act act' a a' os r (subst (IsBy act' a') (sym g) s) k, f, g)
