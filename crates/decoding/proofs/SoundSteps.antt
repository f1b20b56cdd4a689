-- Where words are apart a step is read in one way at most: its name tells what it is of, its arguments the slots and the objects.
use Rattle.std.proofs.Common.{ℕ, zero, suc, ◌≡◌, ◌<◌, ◌≤◌, ◌^◌, inl, inr, true, false, not, IsTrue, List, [], ◌∷◌, ◌++◌, map, filter, length, Option, Some, None, slice_get, slice_index_or, refl, ap, sym, subst, ◌∙◌, Contains, arith}
use Rattle.std.specs.Prelude.{codes, nat_eq}
use Rattle.std.specs.List.{starts_with}
use Rattle.std.specs.Option.{option_map_or}
use Rattle.std.proofs.lemmas.List.{length-map}
use Rattle.htn_base.specs.Escapes.{escaped, slot_word}
use Rattle.htn_base.proofs.EscapeLemmas.{names_apart}
use Rattle.plan_model.specs.declared.types.Object.{Object}
use Rattle.plan_model.specs.declared.terms.Param.{Param}
use Rattle.plan_model.specs.declared.schemas.ActionSchema.{ActionSchema}
use Rattle.plan_model.specs.declared.schemas.MethodPlan.{MethodPlan}
use Rattle.plan_model.specs.declared.steps.GroundAction.{GroundAction}
use Rattle.plan_model.specs.declared.values.Compiled.{Compiled}
use Rattle.plan_model.specs.task_networks.Net.{count}
use Rattle.plan_model.specs.task_networks.Spelling.{Act, run, apply, is_heir, numbers, others}
use Rattle.plan_model.specs.plan_meaning.Truth.{AreTyped}
use Rattle.plan_model.specs.plan_meaning.Network.{action, check, task, GroundMethod, network, InTypeOf, child_of, subtasks_of, IsMet, IsGroundMethod}
use Rattle.plan_model.specs.plan_meaning.SpelledPlan.{object_word, object_by, action_by, method_by, method_name, step_of}
use Rattle.plan_model.proofs.task_networks.Lists.{Contains-here, Contains-later, head_or_tail}
use Rattle.decoding.specs.FailingAct.{IsFormed}
use Rattle.decoding.specs.PrintedSteps.{HasParams, own_objects, IsReadAs, AreNamedApart, HasSoundChecks, HasSoundSteps}
use Rattle.decoding.specs.PrintedLaws.{WordsApartAreSound, ReadIsGround}

abbrev fifth : List ℕ → ℕ
fifth (a ∷ b ∷ c ∷ d ∷ e ∷ rest) = e
fifth _ = 0

abbrev behind_sixth : List ℕ → List ℕ
behind_sixth (a ∷ b ∷ c ∷ d ∷ e ∷ f ∷ rest) = rest
behind_sixth _ = []

module _ (c : Compiled) (b : ℕ) (few : b < 2 ^ 32) (apart : AreNamedApart c) (checks : HasSoundChecks c) where
  abbrev IsSlot : ℕ → Type 0
  IsSlot k = (1 ≤ k) × (k ≤ b)

  slot_once : (j k : ℕ) → IsSlot j → IsSlot k → slot_word j ≡ slot_word k → j ≡ k
  slot_once j k s t e = names_apart.slots j k (let l = s.1 in omega arith) (let l = t.1 in omega arith) e

  abbrev AreSlots : List ℕ → Type 0
  AreSlots ks = (x : ℕ) → Contains ks x → IsSlot x

  -- slots and objects behind them
  split : (new new' : List ℕ) (v v' : List ℕ) → AreSlots new → AreSlots new' → length new ≡ length new' → map slot_word new ++ map (object_word c) v ≡ map slot_word new' ++ map (object_word c) v'
      → (new ≡ new') × (map (object_word c) v ≡ map (object_word c) v')
  split [] [] v v' s t l e = (refl, e)
  split [] (k ∷ ks) v v' s t l e = absurd (omega arith)
  split (j ∷ js) [] v v' s t l e = absurd (omega arith)
  split (j ∷ js) (k ∷ ks) v v' s t l e =
      let i = slot_once j k (s j (Contains-here j js)) (t k (Contains-here k ks)) cc in
      let r = split js ks v v' (λ x m. s x (Contains-later j js x m)) (λ x m. t x (Contains-later k ks x m)) (omega arith) cc in
      (let f = r.0 in cc, r.1)

  object_once : (x y : ℕ) (o u : Object) → slice_get c.hddl.objects x ≡ Some o → slice_get c.hddl.objects y ≡ Some u → object_word c x ≡ object_word c y → x ≡ y
  object_once x y o u f g e = apart.objects x y o u f g (names_apart.one_to_one (slice_index_or c.hddl.names o.name.number []) (slice_index_or c.hddl.names u.name.number [])
      (sym (ap (object_by c) f) ∙ e ∙ ap (object_by c) g))

  objects_once : (ps qs : List Param) (v w : List ℕ) → AreTyped (InTypeOf c) ps v → AreTyped (InTypeOf c) qs w → map (object_word c) v ≡ map (object_word c) w → v ≡ w
  objects_once ps qs [] [] s t e = refl
  objects_once ps qs [] (y ∷ w) s t e = absurd cc
  objects_once ps qs (x ∷ v) [] s t e = absurd cc
  objects_once [] qs (x ∷ v) (y ∷ w) s t e = absurd s
  objects_once (p ∷ ps) [] (x ∷ v) (y ∷ w) s t e = absurd t
  objects_once (p ∷ ps) (q ∷ qs) (x ∷ v) (y ∷ w) s t e =
      let f = object_once x y s.0.0 t.0.0 s.0.1 t.0.1 cc in
      let g = objects_once ps qs v w s.1 t.1 cc in
      cc

  -- the word of an action is no generated one
  no_generated : (word rest : List ℕ) → escaped word ≡ codes "htn_" ++ rest → starts_with nat_eq rest (codes "u_") ≡ false → ⊥
  no_generated word rest e f = let t = names_apart.no_generated word rest e in cc

  module _ (a : ℕ) (s : ActionSchema) (is : slice_get c.hddl.actions a ≡ Some s) where
    abbrev the_word : List ℕ
    the_word = slice_index_or c.hddl.names s.name.number []

    printed_action : action_by c (slice_get c.hddl.actions a) ≡ escaped the_word
    printed_action = ap (action_by c) is

    no_check : (rest : List ℕ) → action_by c (slice_get c.hddl.actions a) ≡ codes "htn_c_" ++ rest → ⊥
    no_check rest e = no_generated the_word (codes "c_" ++ rest) (sym printed_action ∙ e) refl

    no_method : (m : ℕ) → action_by c (slice_get c.hddl.actions a) ≡ method_name c m → ⊥
    no_method zero e = no_generated the_word (codes "start") (sym printed_action ∙ e) refl
    no_method (suc m) e = no_generated the_word (codes "m_" ++ method_by c (slice_get c.methods (suc m))) (sym printed_action ∙ e) refl

  no_check_method : (rest : List ℕ) (m : ℕ) → codes "htn_c_" ++ rest ≡ method_name c m → ⊥
  no_check_method rest zero e = let f : true ≡ false = ap (λ w. nat_eq 99 (fifth w)) e in cc
  no_check_method rest (suc m) e = let f : true ≡ false = ap (λ w. nat_eq 99 (fifth w)) e in cc

  same_method_word : (m n : ℕ) (p q : MethodPlan) → slice_get c.methods (suc m) ≡ Some p → slice_get c.methods (suc n) ≡ Some q → method_by c (slice_get c.methods (suc m)) ≡ method_by c (slice_get c.methods (suc n)) → suc m ≡ suc n
  same_method_word m n p q f g e = ap suc (apart.methods m n p q f g (names_apart.one_to_one (slice_index_or c.hddl.names p.schema.name.number []) (slice_index_or c.hddl.names q.schema.name.number [])
      (sym (ap (method_by c) f) ∙ e ∙ ap (method_by c) g)))

  same_method : (m n : ℕ) (p q : MethodPlan) → slice_get c.methods m ≡ Some p → slice_get c.methods n ≡ Some q → method_name c m ≡ method_name c n → m ≡ n
  same_method zero zero p q f g e = refl
  same_method zero (suc n) p q f g e = absurd (let k : true ≡ false = ap (λ w. nat_eq 115 (fifth w)) e in cc)
  same_method (suc m) zero p q f g e = absurd (let k : true ≡ false = ap (λ w. nat_eq 109 (fifth w)) e in cc)
  same_method (suc m) (suc n) p q f g e = same_method_word m n p q f g (ap behind_sixth e)

  same_check : (m n : ℕ) (p q : MethodPlan) → slice_get c.methods m ≡ Some p → IsTrue p.checked → slice_get c.methods n ≡ Some q → IsTrue q.checked
      → codes "htn_c_" ++ method_by c (slice_get c.methods m) ≡ codes "htn_c_" ++ method_by c (slice_get c.methods n) → m ≡ n
  same_check zero n p q f k g l e = absurd (checks.unchecked p f k)
  same_check (suc m) zero p q f k g l e = absurd (checks.unchecked q g l)
  same_check (suc m) (suc n) p q f k g l e = same_method_word m n p q f g (ap behind_sixth e)

  -- as many slots are due for a method, whatever its values
  as_many : (m : ℕ) (v w : List ℕ) → length (others (network c) (record { number = m; values = v })) ≡ length (others (network c) (record { number = m; values = w }))
  as_many m v w = ap (λ n. length (filter (λ i. not (is_heir ((network c).heir (record { number = m; values = v })) i)) (numbers 0 n))) same
    where
      same : count (network c) (record { number = m; values = v }) ≡ count (network c) (record { number = m; values = w })
      same = go (slice_get c.methods m)
        where
          go : (o : Option MethodPlan) → length (option_map_or (subtasks_of (record { number = m; values = v })) o []) ≡ length (option_map_or (subtasks_of (record { number = m; values = w })) o [])
          go None = refl
          go (Some plan) = length-map plan.schema.children (child_of (record { number = m; values = v })) ∙ sym (length-map plan.schema.children (child_of (record { number = m; values = w })))

  as_many_of : (g g' : GroundMethod) → g.number ≡ g'.number → length (others (network c) g) ≡ length (others (network c) g')
  as_many_of g g' e = subst (λ n. length (others (network c) g) ≡ length (others (network c) (record { number = n; values = g'.values }))) e (as_many g.number g.values g'.values)

  are_slots : (h : ℕ) (new : List ℕ) → IsSlot h → AreSlots new → AreSlots (h ∷ new)
  are_slots h new s t x k = elim (head_or_tail h new x k) [ inl e ↦ subst IsSlot e s | inr d ↦ t x d ]

  abbrev Formed : Act (network c) → Type 0
  Formed = IsFormed (network c) b

  abbrev Typed : List Param → List ℕ → Type 0
  Typed = AreTyped (InTypeOf c)

  one_act : (a other : Act (network c)) → Formed a → Formed other → (ps qs : List Param) → HasParams c a ps → HasParams c other qs → Typed ps (own_objects c a) → Typed qs (own_objects c other)
      → (step_of c a).name ≡ (step_of c other).name → (step_of c a).args ≡ (step_of c other).args → a ≡ other
  one_act (run h (task t v)) other f g ps qs k l s u n e = absurd k
  one_act (run h (action a v)) (run h' (task t w)) f g ps qs k l s u n e = absurd l
  one_act (run h (check m v)) (run h' (task t w)) f g ps qs k l s u n e = absurd l
  one_act (apply h new m) (run h' (task t w)) f g ps qs k l s u n e = absurd l
  one_act (run h (action a v)) (run h' (action d w)) f g ps qs k l s u n e =
      let x = apart.actions a d k.0 l.0 k.1 l.1 (names_apart.one_to_one (slice_index_or c.hddl.names k.0.name.number []) (slice_index_or c.hddl.names l.0.name.number []) (sym (ap (action_by c) k.1) ∙ n ∙ ap (action_by c) l.1)) in
      let y = slot_once h h' f.slot g.slot cc in
      let z = objects_once ps qs v w s u cc in
      λ i. run (y i) (action (x i) (z i))
  one_act (run h (check a v)) (run h' (check d w)) f g ps qs k l s u n e =
      let x = same_check a d k.0 l.0 k.1 k.2 l.1 l.2 n in
      let y = slot_once h h' f.slot g.slot cc in
      let z = objects_once ps qs v w s u cc in
      λ i. run (y i) (check (x i) (z i))
  one_act (apply h new m) (apply h' new' m') f g ps qs k l s u n e =
      let x = same_method m.number m'.number k.0 l.0 k.1 l.1 n in
      let long = as_many_of m m' x in
      let a = f.form in
      let d = g.form in
      let (y, z) = split (h ∷ new) (h' ∷ new') m.values m'.values (are_slots h new f.slot f.new) (are_slots h' new' g.slot g.new) (omega arith) e in
      let y0 : h ≡ h' = cc in
      let y1 : new ≡ new' = cc in
      let v = objects_once ps qs m.values m'.values s u z in
      λ i. apply (y0 i) (y1 i) (record { number = x i; values = v i })
  one_act (run h (action a v)) (run h' (check d w)) f g ps qs k l s u n e = absurd (no_check a k.0 k.1 (method_by c (slice_get c.methods d)) n)
  one_act (run h (check a v)) (run h' (action d w)) f g ps qs k l s u n e = absurd (no_check d l.0 l.1 (method_by c (slice_get c.methods a)) (sym n))
  one_act (run h (action a v)) (apply h' new m) f g ps qs k l s u n e = absurd (no_method a k.0 k.1 m.number n)
  one_act (apply h new m) (run h' (action a v)) f g ps qs k l s u n e = absurd (no_method a l.0 l.1 m.number (sym n))
  one_act (run h (check a v)) (apply h' new m) f g ps qs k l s u n e = absurd (no_check_method (method_by c (slice_get c.methods a)) m.number n)
  one_act (apply h new m) (run h' (check a v)) f g ps qs k l s u n e = absurd (no_check_method (method_by c (slice_get c.methods a)) m.number (sym n))

  same_act : (step : GroundAction) (a other : Act (network c)) → IsReadAs c b step a → IsReadAs c b step other → a ≡ other
  same_act step a other r t =
      let e = sym r.is ∙ t.is in
      one_act a other r.formed t.formed r.params t.params r.has t.has r.typed t.typed (ap (λ (z : GroundAction). z.name) e) (ap (λ (z : GroundAction). z.args) e)

  sound_steps : HasSoundSteps c b
  sound_steps = record { one = same_act; marked = checks.marked }

pub words_apart_are_sound : (c : Compiled) → WordsApartAreSound c
words_apart_are_sound c b few apart checks = sound_steps c b few apart checks

-- a method that is read has values of their types, so what is left to ask are its constraints and its children
pub read_is_ground : (c : Compiled) → ReadIsGround c
read_is_ground c b step h new g plan r is = (
  λ (ground : IsGroundMethod c g). subst (IsMet c g) (some_once (sym ground.is ∙ is)) ground.met,
  λ m. record { plan = plan; is = is; typed = subst (λ z. AreTyped (InTypeOf c) z g.values) (sym params) r.typed; met = m },
)
  where
    some_once : {A : Type 0} {x y : A} → Some x ≡ Some y → x ≡ y
    some_once e = cc

    params : plan.schema.params ≡ r.params
    params = let e : r.has.0 ≡ plan = some_once (sym r.has.1 ∙ is) in sym (ap (λ (z : MethodPlan). z.schema.params) e) ∙ r.has.2
