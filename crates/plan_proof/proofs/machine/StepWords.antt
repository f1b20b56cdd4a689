-- A step that is applicable is the step of one act, and each act's step names its action and its objects.
use Rattle.std.proofs.Common.{ℕ, suc, ◌≡◌, ◌+◌, ◌-◌, ◌<◌, inl, inr, true, List, [], ◌∷◌, ◌++◌, map, length, slice_get, Some, refl, ap, sym, subst, ◌∙◌, arith}
use Rattle.std.specs.Prelude.{codes}
use Rattle.std.proofs.lemmas.List.{length-map}
use Rattle.htn_base.specs.Escapes.{slot_word}
use Rattle.plan_model.specs.declared.options.Style.{Style}
use Rattle.plan_model.specs.declared.options.Checks.{Checks}
use Rattle.plan_model.specs.declared.terms.Param.{Param}
use Rattle.plan_model.specs.declared.schemas.ActionSchema.{ActionSchema}
use Rattle.plan_model.specs.declared.schemas.MethodPlan.{MethodPlan}
use Rattle.plan_model.specs.declared.steps.GroundAction.{GroundAction}
use Rattle.plan_model.specs.declared.values.Hddl.{Hddl}
use Rattle.plan_model.specs.declared.values.Compiled.{Compiled}
use Rattle.plan_model.specs.declared.values.Pddl.{Pddl}
use Rattle.plan_model.specs.task_networks.Spelling.{Act, run, apply}
use Rattle.text_forms.specs.Words.{Word}
use Rattle.plan_texts.specs.Types.{EachIs}
use Rattle.plan_model.specs.plan_meaning.Truth.{State, AreTyped, IsTrueIn}
use Rattle.plan_model.specs.plan_meaning.Network.{action, check, task, network, InTypeOf}
use Rattle.plan_model.specs.plan_meaning.ClassicalPlan as Printed
use Rattle.plan_model.specs.plan_meaning.ClassicalPlan.{AreObjects, IsApplicable}
use Rattle.plan_model.specs.plan_meaning.SpelledPlan.{object_word, work_name, method_name, step_of}
use Rattle.slot_encoding.specs.SourceParts.{source_param}
use Rattle.slot_encoding.specs.EncodedNames.{slot_type, first_slot, slot_param}
use Rattle.slot_encoding.specs.EncodedActions.{spare, encoded_method, encoded_check, encoded_action}
use Rattle.slot_encoding.specs.EncodedValue.{encoded_actions}
use Rattle.slot_encoding.proofs.places.WellWorded.{IsWellWorded}
use Rattle.slot_encoding.proofs.Pieces.{IsSlotObject, IsSlot, slot_object, IsActBy, StepsAreActs}
use Rattle.slot_encoding.proofs.places.ListPlaces.{get_within, get_contains, contains_get, append_same}
use Rattle.slot_encoding.proofs.places.Predicates.{is_checked, passed_once, passed_within}
use Rattle.slot_encoding.proofs.places.ObjectTypes.{lists_agree}
use Rattle.plan_proof.proofs.machine.ObjectWords.{same_objects, same_words, join_objects, slots_worded, source_worded}
use Rattle.slot_encoding.proofs.places.ActionPlaces.{check_place, action_place, method_at, check_at, action_at, IsOfMethod, IsOfCheck, IsOfAction, action_cases}
use Rattle.plan_proof.proofs.machine.ActionWords.{IsNamed, same_action, method_named, check_named, action_named, method_slots, length-slots, are_slots, work_slots}

module _ (h : Hddl) (mode : Checks) (c : Compiled) (b : ℕ) (style : Style) (p : Pddl) (is : IsWellWorded h mode c b style p) where
  abbrev slot : ℕ → ℕ
  slot = slot_object c b style p

  abbrev IsHere : ℕ → Type 0
  IsHere = IsSlot c b style p

  abbrev InC : ℕ → ℕ → Type 0
  InC = InTypeOf c

  -- objects of slots are those of slot numbers
  numbered : (hs : List ℕ) → EachIs (IsSlotObject c b style p) hs → (ks : List ℕ) × EachIs IsHere ks × (hs ≡ map slot ks) × (length ks ≡ length hs)
  numbered [] e = ([], tt, refl, refl)
  numbered (o ∷ hs) e =
      let (ks, f, g, l) = numbered hs e.1 in
      let low = e.0.0 in
      let high = e.0.1 in
      let i : o ≡ first_slot c + (suc (o - first_slot c) - 1) = omega arith in
      (suc (o - first_slot c) ∷ ks, ((omega arith, omega arith), f), (λ j. i j ∷ g j), ap suc l)

  slot_once : (j k : ℕ) → IsHere j → IsHere k → slot j ≡ slot k → j ≡ k
  slot_once j k (a, d) (e, f) g = omega arith

  slots_once : (js ks : List ℕ) → EachIs IsHere js → EachIs IsHere ks → map slot js ≡ map slot ks → js ≡ ks
  slots_once [] [] a d e = refl
  slots_once [] (k ∷ ks) a d e = absurd cc
  slots_once (j ∷ js) [] a d e = absurd cc
  slots_once (j ∷ js) (k ∷ ks) a d e =
      let f = slot_once j k a.0 d.0 cc in
      let g = slots_once js ks a.1 d.1 cc in
      cc

  typed_objects : (params : List Param) (os : List ℕ) → AreTyped InC params os → EachIs (λ o. o < length c.hddl.objects) os
  typed_objects [] [] t = tt
  typed_objects [] (o ∷ os) t = absurd t
  typed_objects (x ∷ params) [] t = absurd t
  typed_objects (x ∷ params) (o ∷ os) t = (get_within c.hddl.objects o t.0.0 t.0.1, typed_objects params os t.1)

  -- the words of slots and objects
  worded : (ks values : List ℕ) (params : List Param) → EachIs IsHere ks → AreTyped InC params values → AreObjects p (map slot ks ++ values) (map slot_word ks ++ map (object_word c) values)
  worded ks values params e t = join_objects h mode c b style p is (map slot ks) values (map slot_word ks) (map (object_word c) values) (slots_worded h mode c b style p is ks e) (source_worded h mode c b style p is values (typed_objects params values t))

  -- parameters that are slots and then those of the source, taken apart
  record Taken (count : ℕ) (params : List Param) (os : List ℕ) : Type 0 where
    hs : List ℕ
    values : List ℕ
    slots : EachIs IsHere hs
    long : length hs ≡ count
    typed : AreTyped InC params values
    objects : os ≡ map slot hs ++ values

  take_apart : (front params : List Param) (os : List ℕ) → EachIs (λ (x : Param). x.ty ≡ slot_type) front → AreTyped (Printed.InTypeOf p) (front ++ map (source_param p.names c.hddl.names) params) os → Taken (length front) params os
  take_apart front params os e t =
      let (hs, values, f, l, s, v) = (lists_agree h mode c b style p is front params os e).0 t in
      let (ks, i, g, k) = numbered hs s in
      record { hs = ks; values = values; slots = i; long = k ∙ l; typed = v; objects = f ∙ ap (λ z. z ++ values) g }

  put_together : (front params : List Param) (ks values : List ℕ) → EachIs (λ (x : Param). x.ty ≡ slot_type) front → length ks ≡ length front → EachIs IsHere ks → AreTyped InC params values
      → AreTyped (Printed.InTypeOf p) (front ++ map (source_param p.names c.hddl.names) params) (map slot ks ++ values)
  put_together front params ks values e l s t = (lists_agree h mode c b style p is front params (map slot ks ++ values) e).1 (map slot ks, values, refl, length-map ks slot ∙ l, each ks s, t)
    where
      each : (ks : List ℕ) → EachIs IsHere ks → EachIs (IsSlotObject c b style p) (map slot ks)
      each [] s = tt
      each (k ∷ ks) s = let low = s.0.0 in let high = s.0.1 in ((omega arith, omega arith), each ks s.1)

  abbrev the_step : Word → List Word → GroundAction
  the_step name args = record { name = name; args = args }

  abbrev method : ℕ → MethodPlan → ActionSchema
  method = encoded_method c p.names b style

  abbrev checking : ℕ → MethodPlan → ActionSchema
  checking = encoded_check c p.names b style

  abbrev acting : ℕ → ActionSchema → ActionSchema
  acting = encoded_action c p.names b style

  abbrev IsBy : Act (network c) → ActionSchema → List ℕ → Type 0
  IsBy = IsActBy c b style p

  -- the step with these words, slots and objects is that of an act
  abbrev HasAct : GroundAction → ActionSchema → List ℕ → Type 0
  HasAct step a os = (act : Act (network c)) × (step ≡ step_of c act) × IsBy act a os

  abbrev args_of : List ℕ → List ℕ → List Word
  args_of ks values = map slot_word ks ++ map (object_word c) values

  method_act : (m : ℕ) (plan : MethodPlan) (args : List Word) (os hs values : List ℕ) → slice_get c.methods m ≡ Some plan → EachIs IsHere hs → length hs ≡ suc (spare c p.names b style m plan)
      → AreTyped InC plan.schema.params values → os ≡ map slot hs ++ values → args ≡ args_of hs values → HasAct (the_step (method_name c m) args) (method m plan) os
  method_act m plan args os [] values e s l t o w = absurd (omega arith)
  method_act m plan args os (k ∷ ks) values e s l t o w = (
    apply k ks (record { number = m; values = values }),
    ap (the_step (method_name c m)) w,
    record { plan = plan; is = e; action = refl; slot = s.0; new_slots = s.1; count = omega arith; typed = t; objects = o },
  )

  check_act : (m : ℕ) (plan : MethodPlan) (args : List Word) (os hs values : List ℕ) → slice_get c.methods m ≡ Some plan → plan.checked ≡ true → EachIs IsHere hs → length hs ≡ 1
      → AreTyped InC plan.schema.params values → os ≡ map slot hs ++ values → args ≡ args_of hs values → HasAct (the_step (work_name c (check m values)) args) (checking m plan) os
  check_act m plan args os [] values e d s l t o w = absurd (omega arith)
  check_act m plan args os (k ∷ j ∷ ks) values e d s l t o w = absurd (omega arith)
  check_act m plan args os (k ∷ []) values e d s l t o w = (
    run k (check m values),
    ap (the_step (work_name c (check m values))) w,
    record { plan = plan; is = e; checked = d; action = refl; slot = s.0; typed = t; objects = o },
  )

  action_act : (n : ℕ) (schema : ActionSchema) (args : List Word) (os hs values : List ℕ) → slice_get c.hddl.actions n ≡ Some schema → EachIs IsHere hs → length hs ≡ 1
      → AreTyped InC schema.params values → os ≡ map slot hs ++ values → args ≡ args_of hs values → HasAct (the_step (work_name c (action n values)) args) (acting n schema) os
  action_act n schema args os [] values e s l t o w = absurd (omega arith)
  action_act n schema args os (k ∷ j ∷ ks) values e s l t o w = absurd (omega arith)
  action_act n schema args os (k ∷ []) values e s l t o w = (
    run k (action n values),
    ap (the_step (work_name c (action n values))) w,
    record { schema = schema; is = e; action = refl; slot = s.0; typed = t; objects = o },
  )

  -- what the objects of a list that is taken apart are named by
  taken_args : (count : ℕ) (params : List Param) (os : List ℕ) (args : List Word) (t : Taken count params os) → AreObjects p os args → args ≡ args_of t.hs t.values
  taken_args count params os args t o = same_words h mode c b style p is (map slot t.hs ++ t.values) args (args_of t.hs t.values) (subst (λ z. AreObjects p z args) t.objects o) (worded t.hs t.values params t.slots t.typed)

  same_name : (k : ℕ) (a d : ActionSchema) (w u : Word) → a ≡ d → slice_get p.names a.name.number ≡ Some w → IsNamed h mode c b style p is k d u → w ≡ u
  same_name k a d w u e f n =
      let g = ap (λ (z : ActionSchema). slice_get p.names z.name.number) e in
      let i = n.word in
      cc

  module _ (S : State) (step : GroundAction) (a : ActionSchema) (os : List ℕ) (app : IsApplicable p S step a os) where
    of_method : (k : ℕ) → slice_get (encoded_actions c p.names b style) k ≡ Some a → IsOfMethod c p.names b style a → HasAct step a os
    of_method k f (m, plan, e, i) =
        let named = method_named h mode c b style p is m k plan e (f ∙ ap Some i) in
        let name = same_name k a (method m plan) step.name (method_name c m) i app.name named in
        let t = take_apart (method_slots h mode c b style p is m plan) plan.schema.params os (are_slots h mode c b style p is m plan) (subst (λ (z : ActionSchema). AreTyped (Printed.InTypeOf p) z.params os) i app.typed) in
        let args = taken_args (length (method_slots h mode c b style p is m plan)) plan.schema.params os step.args t app.objects_are in
        let r = method_act m plan step.args os t.hs t.values e t.slots (t.long ∙ length-slots h mode c b style p is m plan) t.typed t.objects args in
        subst (λ z. HasAct step z os) (sym i) (subst (λ z. HasAct (the_step z step.args) (method m plan) os) (sym name) r)

    of_check : (k : ℕ) → slice_get (encoded_actions c p.names b style) k ≡ Some a → IsOfCheck c p.names b style a → HasAct step a os
    of_check k f (m, plan, e, d, i) =
        let t = take_apart (slot_param c p.names b (codes "htn_h") ∷ []) plan.schema.params os (work_slots h mode c b style p is) (subst (λ (z : ActionSchema). AreTyped (Printed.InTypeOf p) z.params os) i app.typed) in
        let named = check_named h mode c b style p is m k plan t.values e (f ∙ ap Some i) in
        let name = same_name k a (checking m plan) step.name (work_name c (check m t.values)) i app.name named in
        let args = taken_args 1 plan.schema.params os step.args t app.objects_are in
        let r = check_act m plan step.args os t.hs t.values e d t.slots t.long t.typed t.objects args in
        subst (λ z. HasAct step z os) (sym i) (subst (λ z. HasAct (the_step z step.args) (checking m plan) os) (sym name) r)

    of_action : (k : ℕ) → slice_get (encoded_actions c p.names b style) k ≡ Some a → IsOfAction c p.names b style a → HasAct step a os
    of_action k f (n, schema, e, i) =
        let t = take_apart (slot_param c p.names b (codes "htn_h") ∷ []) schema.params os (work_slots h mode c b style p is) (subst (λ (z : ActionSchema). AreTyped (Printed.InTypeOf p) z.params os) i app.typed) in
        let named = action_named h mode c b style p is n k schema t.values e (f ∙ ap Some i) in
        let name = same_name k a (acting n schema) step.name (work_name c (action n t.values)) i app.name named in
        let args = taken_args 1 schema.params os step.args t app.objects_are in
        let r = action_act n schema step.args os t.hs t.values e t.slots t.long t.typed t.objects args in
        subst (λ z. HasAct step z os) (sym i) (subst (λ z. HasAct (the_step z step.args) (acting n schema) os) (sym name) r)

    to_act : HasAct step a os
    to_act =
        let (k, e) = contains_get p.actions a app.action in
        let f : slice_get (encoded_actions c p.names b style) k ≡ Some a = ap (λ z. slice_get z k) (sym is.encoded.actions) ∙ e in
        elim (action_cases c p.names b style k a f) [ inl m ↦ of_method k f m | inr r ↦ elim r [ inl m ↦ of_check k f m | inr m ↦ of_action k f m ] ]

  -- the place of an act's action
  abbrev pub place_of : Act (network c) → ℕ
  place_of (apply k new g) = g.number
  place_of (run k (check m values)) = check_place c p.names b style m
  place_of (run k (action n args)) = action_place c p.names b style n
  place_of (run k (task t args)) = 0

  -- an act's action, with its word, slots and objects
  pub record Shows (act : Act (network c)) (a : ActionSchema) (os : List ℕ) : Type 0 where
    pub named : IsNamed h mode c b style p is (place_of act) a (step_of c act).name
    pub objects : AreObjects p os (step_of c act).args
    pub typed : AreTyped (Printed.InTypeOf p) a.params os

  pub shown : (act : Act (network c)) (a : ActionSchema) (os : List ℕ) → IsBy act a os → Shows act a os
  shown (apply k new g) a os r =
      let m = g.number in
      let front = method_slots h mode c b style p is m r.plan in
      let l : length (k ∷ new) ≡ length front = omega (arith, r.count, length-slots h mode c b style p is m r.plan) in
      let named = method_named h mode c b style p is m m r.plan r.is (method_at c p.names b style m r.plan r.is) in
      record {
        named = subst (λ z. IsNamed h mode c b style p is m z (method_name c m)) (sym r.action) named;
        objects = subst (λ z. AreObjects p z (args_of (k ∷ new) g.values)) (sym r.objects) (worded (k ∷ new) g.values r.plan.schema.params (r.slot, r.new_slots) r.typed);
        typed = subst (λ (z : ActionSchema). AreTyped (Printed.InTypeOf p) z.params os) (sym r.action) (subst (AreTyped (Printed.InTypeOf p) (method m r.plan).params) (sym r.objects) (put_together front r.plan.schema.params (k ∷ new) g.values (are_slots h mode c b style p is m r.plan) l (r.slot, r.new_slots) r.typed));
      }
  shown (run k (check m values)) a os r =
      let named = check_named h mode c b style p is m (check_place c p.names b style m) r.plan values r.is (check_at c p.names b style m r.plan r.is r.checked) in
      record {
        named = subst (λ z. IsNamed h mode c b style p is (check_place c p.names b style m) z (work_name c (check m values))) (sym r.action) named;
        objects = subst (λ z. AreObjects p z (args_of (k ∷ []) values)) (sym r.objects) (worded (k ∷ []) values r.plan.schema.params (r.slot, tt) r.typed);
        typed = subst (λ (z : ActionSchema). AreTyped (Printed.InTypeOf p) z.params os) (sym r.action) (subst (AreTyped (Printed.InTypeOf p) (checking m r.plan).params) (sym r.objects) (put_together (slot_param c p.names b (codes "htn_h") ∷ []) r.plan.schema.params (k ∷ []) values (work_slots h mode c b style p is) refl (r.slot, tt) r.typed));
      }
  shown (run k (action n args)) a os r =
      let named = action_named h mode c b style p is n (action_place c p.names b style n) r.schema args r.is (action_at c p.names b style n r.schema r.is) in
      record {
        named = subst (λ z. IsNamed h mode c b style p is (action_place c p.names b style n) z (work_name c (action n args))) (sym r.action) named;
        objects = subst (λ z. AreObjects p z (args_of (k ∷ []) args)) (sym r.objects) (worded (k ∷ []) args r.schema.params (r.slot, tt) r.typed);
        typed = subst (λ (z : ActionSchema). AreTyped (Printed.InTypeOf p) z.params os) (sym r.action) (subst (AreTyped (Printed.InTypeOf p) (acting n r.schema).params) (sym r.objects) (put_together (slot_param c p.names b (codes "htn_h") ∷ []) r.schema.params (k ∷ []) args (work_slots h mode c b style p is) refl (r.slot, tt) r.typed));
      }
  shown (run k (task t args)) a os r = absurd r

  from_act : (S : State) (act : Act (network c)) (a : ActionSchema) (os : List ℕ) → IsBy act a os → IsTrueIn (Printed.InTypeOf p) S a.pre os → IsApplicable p S (step_of c act) a os
  from_act S act a os r t =
      let s = shown act a os r in
      record { action = get_contains p.actions (place_of act) a s.named.at; name = s.named.word; objects_are = s.objects; typed = s.typed; condition = t }

  -- acts with one place and the same objects are one
  same_work : (k k' : ℕ) (us vs : List ℕ) (os : List ℕ) → IsHere k → IsHere k' → os ≡ slot k ∷ us → os ≡ slot k' ∷ vs → (k ≡ k') × (us ≡ vs)
  same_work k k' us vs os s s' e f =
      let g : slot k ∷ us ≡ slot k' ∷ vs = sym e ∙ f in
      let i : slot k ≡ slot k' = cc in
      (slot_once k k' s s' i, cc)

  same_act : (act act' : Act (network c)) (a a' : ActionSchema) (os : List ℕ) → IsBy act a os → IsBy act' a' os → place_of act ≡ place_of act' → act ≡ act'
  same_act (apply k new g) (apply k' new' g') a a' os r s e =
      let f = ap (slice_get c.methods) e in
      let i = r.is in
      let j = s.is in
      let same : r.plan ≡ s.plan = cc in
      let l = ap (λ (z : MethodPlan). spare c p.names b style g.number z) same in
      let m : length (map slot (k ∷ new)) ≡ length (map slot (k' ∷ new')) = omega (arith, r.count, s.count, l, length-map (k ∷ new) slot, length-map (k' ∷ new') slot) in
      let (q, v) = append_same (map slot (k ∷ new)) g.values (map slot (k' ∷ new')) g'.values m (sym r.objects ∙ s.objects) in
      let w : k ∷ new ≡ k' ∷ new' = slots_once (k ∷ new) (k' ∷ new') (r.slot, r.new_slots) (s.slot, s.new_slots) q in
      let x : k ≡ k' = cc in
      let y : new ≡ new' = cc in
      λ t. apply (x t) (y t) (record { number = e t; values = v t })
  same_act (run k (check m us)) (run k' (check n vs)) a a' os r s e =
      let f : m ≡ n = passed_once is_checked c.methods m n r.plan s.plan r.is r.checked s.is s.checked (omega arith) in
      let (x, y) = same_work k k' us vs os r.slot s.slot r.objects s.objects in
      λ t. run (x t) (check (f t) (y t))
  same_act (run k (action m us)) (run k' (action n vs)) a a' os r s e =
      let f : m ≡ n = omega arith in
      let (x, y) = same_work k k' us vs os r.slot s.slot r.objects s.objects in
      λ t. run (x t) (action (f t) (y t))
  same_act (apply k new g) (run k' (check n vs)) a a' os r s e = absurd (let l = get_within c.methods g.number r.plan r.is in omega arith)
  same_act (apply k new g) (run k' (action n vs)) a a' os r s e = absurd (let l = get_within c.methods g.number r.plan r.is in omega arith)
  same_act (run k (check m us)) (apply k' new g) a a' os r s e = absurd (let l = get_within c.methods g.number s.plan s.is in omega arith)
  same_act (run k (action m us)) (apply k' new g) a a' os r s e = absurd (let l = get_within c.methods g.number s.plan s.is in omega arith)
  same_act (run k (check m us)) (run k' (action n vs)) a a' os r s e = absurd (let l = passed_within is_checked c.methods m r.plan r.is r.checked in omega arith)
  same_act (run k (action m us)) (run k' (check n vs)) a a' os r s e = absurd (let l = passed_within is_checked c.methods n s.plan s.is s.checked in omega arith)
  same_act (run k (task t us)) act' a a' os r s e = absurd r
  same_act (apply k new g) (run k' (task t vs)) a a' os r s e = absurd s
  same_act (run k (check m us)) (run k' (task t vs)) a a' os r s e = absurd s
  same_act (run k (action m us)) (run k' (task t vs)) a a' os r s e = absurd s

  one_act : (act act' : Act (network c)) (a a' : ActionSchema) (os os' : List ℕ) → IsBy act a os → IsBy act' a' os' → step_of c act ≡ step_of c act' → (act ≡ act') × (a ≡ a') × (os ≡ os')
  one_act act act' a a' os os' r s e =
      let x = shown act a os r in
      let y = shown act' a' os' s in
      let (k, f) = same_action h mode c b style p is (place_of act) (place_of act') a a' (step_of c act).name x.named (subst (IsNamed h mode c b style p is (place_of act') a') (sym (ap (λ (z : GroundAction). z.name) e)) y.named) in
      let g : os ≡ os' = same_objects h mode c b style p is os os' (step_of c act).args x.objects (subst (AreObjects p os') (sym (ap (λ (z : GroundAction). z.args) e)) y.objects) in
      (same_act act act' a a' os r (subst (IsBy act' a') (sym g) s) k, f, g)

  pub steps_are_acts : StepsAreActs c b style p
  steps_are_acts = record { to_act = to_act; from_act = from_act; one_act = one_act }
