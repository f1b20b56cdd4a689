-- The printed action of a method is sound.
use Rattle.std.proofs.Common.{ℕ, zero, suc, ◌≡◌, ◌+◌, ◌-◌, ◌<◌, ◌^◌, ◌==◌, inl, inr, Bool, true, false, cond, List, [], ◌∷◌, ◌++◌, map, length, slice_get, slice_index, Some, codes, refl, ap, sym, subst, ◌∙◌, arith}
use Rattle.std.proofs.lemmas.Bool.Decides.{eqb_tells}
use Rattle.std.proofs.lemmas.Option.{slice_get_within}
use Rattle.text_forms.specs.Words.{Word}
use Rattle.plan_model.specs.declared.options.Style.{Style}
use Rattle.plan_model.specs.declared.terms.Term.{Term}
use Rattle.plan_model.specs.declared.terms.Term.TheVariants.{Var}
use Rattle.plan_model.specs.declared.terms.Atom.{Atom}
use Rattle.plan_model.specs.declared.networks.Head.{Head}
use Rattle.plan_model.specs.declared.networks.Head.TheVariants.{Task, Action, Check}
use Rattle.plan_model.specs.declared.networks.Child.{Child}
use Rattle.plan_model.specs.declared.networks.Pair.{Pair}
use Rattle.plan_model.specs.declared.networks.Constraint.{Constraint}
use Rattle.plan_model.specs.declared.networks.Guard.{Guard}
use Rattle.plan_model.specs.declared.formulas.Formula.{Formula}
use Rattle.plan_model.specs.declared.formulas.Formula.TheVariants.{Holds, Equal, Not}
use Rattle.plan_model.specs.declared.effects.Effect.{Effect}
use Rattle.plan_model.specs.declared.effects.Effect.TheVariants as E
use Rattle.plan_model.specs.declared.schemas.MethodPlan.{MethodPlan}
use Rattle.plan_model.specs.declared.values.Compiled.{Compiled}
use Rattle.plan_texts.specs.Declared.{Declared}
use Rattle.htn_base.specs.Different.{AreDifferent}
use Rattle.plan_texts.specs.Types.{Has, EachIs}
use Rattle.plan_texts.specs.SpellsHddl.{hddl_words}
use Rattle.plan_texts.specs.Printable.{IsInForce, IsSoundAtom, IsSound, IsSoundEffect}
use Rattle.plan_texts.specs.SoundValue.{IsSoundHddl, IsSoundConstraint, arities, scope_of}
use Rattle.plan_texts.proofs.Members.{each-has, has-contains, length-map}
use Rattle.plan_texts.proofs.Places.{each-join}
use Rattle.plan_model.specs.task_networks.Spelling.{numbers}
use Rattle.plan_model.proofs.task_networks.Numbers.{numbers_to}
use Rattle.slot_encoding.specs.SourceParts.{moved}
use Rattle.order_encoder.specs.OrderFormulas.{pair_of, copy_parts}
use Rattle.slot_encoding.specs.EncodedNames.{first_task, top_predicate, task_predicate, action_predicate, check_predicate, guard_predicate, order_numbers}
use Rattle.slot_encoding.specs.EncodedActions.{is_free, waiting, depth, children_slots, held_task, child_atom, child_atoms, differ, test, constraints, guards, tested, source_condition, method_pre, splitting, method_eff, encoded_method}
use Rattle.slot_encoding.proofs.places.Guards.{guard_type}
use Rattle.slot_encoding.proofs.places.Splitting.{frees, kids, links, copies_of, splitting_parts}
use Rattle.slot_encoding.specs.EncodedWords.{HasEncodedWords}
use Rattle.slot_encoding.proofs.words.Lists.{each-map}
use Rattle.slot_encoding.proofs.words.PrintedWords.{printed_words, printed_arities}
use Rattle.slot_encoding.proofs.words.PlanParts.{IsPlanHead, IsPlanChild, IsPlanGuard, IsPlanTask, IsSoundPlan}
use Rattle.slot_encoding.proofs.words.KnownMethods.{IsKnownMethod}
use Rattle.slot_encoding.proofs.words.PredicatePlaces.{HasArity, top_arity, task_arity, action_arity, check_arity, guard_arity}
use Rattle.slot_encoding.proofs.words.SoundEquations.{sound-Holds, sound-Equal, sound-Not, sound-And, sound-Add, sound-Delete, sound-Both}
use Rattle.slot_encoding.proofs.words.SlotScopes.{action_scope, scope-named, scope_x_apart, length-scope, params_sound}
use Rattle.slot_encoding.proofs.words.SlotParts.{free_sound, pair_sound, here, waits, copies}
use Rattle.slot_encoding.proofs.words.ActionParts.{moved_in_force, each_moved, condition_sound}
use Rattle.slot_encoding.proofs.words.Works.{IsSoundAction, freeing_sound}

index_below : (m : ℕ) (vs : List ℕ) (i : ℕ) → 0 < m → EachIs (λ x. x < m) vs → slice_index vs i < m
index_below m [] i p e = p
index_below m (x ∷ vs) zero p e = e.0
index_below m (x ∷ vs) (suc i) p e = index_below m vs i p e.1

module _ (c : Compiled) (names : List Word) (b : ℕ) where
  -- the predicate of a task has a slot and the task's arguments
  pub held_arity : (t n : ℕ) → IsPlanTask c t n → HasArity c names b (task_predicate c t) (suc n)
  held_arity t n is = elim (eqb_tells t (length c.hddl.tasks)) [
    | inl h ↦ elim is [
      | inl (e, f) ↦ (let g = top_arity c names b in let k : 1 ≡ suc n = omega arith in subst (λ z. HasArity c names b z (suc n)) (sym (at h.0)) (g.0, g.1 ∙ k))
      | inr (s, e, f) ↦ absurd (let l = slice_get_within c.hddl.tasks t s e in let d = h.1 in omega arith)
    ]
    | inr h ↦ elim is [
      | inl (e, f) ↦ absurd (h.1 e)
      | inr (s, e, f) ↦ (let g = task_arity c names b t s e in subst (λ z. HasArity c names b z (suc n)) (sym (at h.0)) (g.0, g.1 ∙ ap suc (sym f)))
    ]
  ]
    where
      at : {q : Bool} → (t == length c.hddl.tasks) ≡ q → task_predicate c t ≡ cond q (top_predicate c) (first_task c + t)
      at e = ap (λ z. cond z (top_predicate c) (first_task c + t)) e

module _ (c : Compiled) (names : List Word) (b : ℕ) (style : Style) (sound : IsSoundHddl c.hddl) (has : HasEncodedWords c b names)
    (m : ℕ) (plan : MethodPlan) (is : slice_get c.methods m ≡ Some plan) (sp : IsSoundPlan c plan) (km : IsKnownMethod c names m plan) (short : length plan.schema.children < 2 ^ 64) where
  abbrev v : Declared
  v = hddl_words c.hddl

  abbrev v' : Declared
  v' = printed_words c names b

  abbrev ar' : List ℕ
  ar' = printed_arities c names b

  -- the new slots
  abbrev n : ℕ
  n = length plan.schema.children - 1

  few : n < 2 ^ 64
  few = omega arith

  abbrev scope : List Word
  scope = action_scope c names b sound has n plan.schema.params few km.slots km.params sp.parts.params

  apart : AreDifferent (scope ++ codes "htn_x" ∷ [])
  apart = scope_x_apart c names b sound has n plan.schema.params few km.slots km.params sp.parts.params

  long : length scope ≡ suc n + length plan.schema.params
  long = length-scope c names b sound has n plan.schema.params few km.slots km.params sp.parts.params

  depth_is : depth c names b style m plan ≡ length scope
  depth_is = sym long

  some : 0 < length scope
  some = let e = long in omega arith

  abbrev Force : Term → Type 0
  Force = IsInForce v' ar' scope

  abbrev Sound : Formula → Type 0
  Sound f = IsSound v' ar' f scope

  abbrev SoundEffect : Effect → Type 0
  SoundEffect e = IsSoundEffect v' ar' e scope

  slot : (k : ℕ) → k < suc n → Force (Var k)
  slot k l = here c names b sound has scope apart k (let e = long in omega arith)

  abbrev put : Term → Term
  put = moved names c.hddl.names (suc n)

  put_force : (t : Term) → IsInForce v (arities c.hddl) (scope_of c.hddl plan.schema.params) t → Force (put t)
  put_force = moved_in_force c names b style sound has n plan.schema.params few km.slots km.params sp.parts.params

  puts_force : (ts : List Term) → EachIs (IsInForce v (arities c.hddl) (scope_of c.hddl plan.schema.params)) ts → EachIs Force (map put ts)
  puts_force = each_moved c names b style sound has n plan.schema.params few km.slots km.params sp.parts.params

  -- something held by a slot, with source arguments
  held_sound : (predicate k : ℕ) (ts : List Term) → HasArity c names b predicate (suc (length ts)) → k < suc n → EachIs (IsInForce v (arities c.hddl) (scope_of c.hddl plan.schema.params)) ts
      → IsSoundAtom v' ar' scope predicate (Var k ∷ map put ts)
  held_sound predicate k ts a l f = (a.0, ap suc (length-map put ts) ∙ sym a.1, (slot k l, puts_force ts f))

  abbrev task_atom : Atom
  task_atom = held_task c names b style m plan

  task_sound : IsSoundAtom v' ar' scope task_atom.predicate task_atom.args
  task_sound = held_sound (task_predicate c plan.schema.task) 0 plan.schema.task_args (held_arity c names b plan.schema.task (length plan.schema.task_args) sp.parts.task) (omega arith) sp.parts.task_args

  -- the condition
  new_slot : (k : ℕ) → Has (numbers 1 n) k → k < suc n
  new_slot k h = let r = (numbers_to 1 n k (has-contains (numbers 1 n) k h)).1 in omega arith

  are_free : EachIs Sound (map (λ v. Holds (is_free c names b style v)) (numbers 1 n))
  are_free = each-map Sound (λ v. Holds (is_free c names b style v)) (numbers 1 n) (λ k h. sound-Holds v' ar' scope (is_free c names b style k) (free_sound c names b sound has scope (Var k) (slot k (new_slot k h))))

  differ_sound : (vs : List ℕ) → ((k : ℕ) → Has vs k → k < suc n) → EachIs Sound (differ vs)
  differ_sound [] l = tt
  differ_sound (k ∷ vs) l = each-join Sound (map (λ u. Not (Equal (Var k) (Var u))) vs) (differ vs)
      (each-map Sound (λ u. Not (Equal (Var k) (Var u))) vs (λ u h. sound-Not v' ar' scope (Equal (Var k) (Var u)) (sound-Equal v' ar' scope (Var k) (Var u) (slot k (l k (inl refl))) (slot u (l u (inr h))))))
      (differ_sound vs (λ u h. l u (inr h)))

  test_sound : (q : Bool) (s t : Term) → Force s → Force t → Sound (test q s t)
  test_sound true s t i j = sound-Equal v' ar' scope s t i j
  test_sound false s t i j = sound-Not v' ar' scope (Equal s t) (sound-Equal v' ar' scope s t i j)

  constraints_sound : EachIs Sound (constraints c names b style m plan)
  constraints_sound = each-map Sound (λ (con : Constraint). test con.equal (put con.left) (put con.right)) plan.schema.constraints (λ con h.
      (let s = each-has (IsSoundConstraint c.hddl (scope_of c.hddl plan.schema.params)) plan.schema.constraints con sp.parts.constraints h in test_sound con.equal (put con.left) (put con.right) (put_force con.left s.0) (put_force con.right s.1)))

  guards_sound : EachIs Sound (guards c names b style m plan)
  guards_sound = each-map Sound (λ (g : Guard). Holds (record { predicate = guard_predicate c g.ty; args = put g.term ∷ [] })) plan.guards (λ g h. (
      let s = each-has (IsPlanGuard c plan.schema.params) plan.guards g sp.guards h in
      let a = guard_arity c names b g.ty (guard_type c m plan g is (has-contains plan.guards g h)) in
      sound-Holds v' ar' scope (record { predicate = guard_predicate c g.ty; args = put g.term ∷ [] }) (a.0, sym a.1, (put_force g.term s.1, tt))
      ))

  tested_sound : EachIs Sound (tested c names b style m plan)
  tested_sound = go plan.tested
    where
      go : (q : Bool) → EachIs Sound (cond q (source_condition c names b style (suc n) plan.schema.pre) [])
      go true = condition_sound c names b style sound has n plan.schema.params few km.slots km.params sp.parts.params plan.schema.pre sp.parts.pre km.pre
      go false = tt

  pre_sound : EachIs Sound (method_pre c names b style m plan)
  pre_sound =
      let fs = map (λ v. Holds (is_free c names b style v)) (numbers 1 n) in
      let ds = differ (numbers 1 n) in
      let cs = constraints c names b style m plan in
      let gs = guards c names b style m plan in
      let ts = tested c names b style m plan in
      each-join Sound (Holds task_atom ∷ waiting c names b style (depth c names b style m plan)) (fs ++ (ds ++ (cs ++ (gs ++ ts))))
      (sound-Holds v' ar' scope task_atom task_sound, waits c names b sound has scope apart (depth c names b style m plan) depth_is style 0 some)
      (each-join Sound fs (ds ++ (cs ++ (gs ++ ts))) are_free (each-join Sound ds (cs ++ (gs ++ ts)) (differ_sound (numbers 1 n) new_slot) (each-join Sound cs (gs ++ ts) constraints_sound (each-join Sound gs ts guards_sound tested_sound))))

  -- the effect
  abbrev IsAtom : Atom → Type 0
  IsAtom a = IsSoundAtom v' ar' scope a.predicate a.args

  child_sound : (k : ℕ) (child : Child) → k < suc n → IsPlanChild c plan.checked plan.schema.params child → IsAtom (child_atom c names b style m plan k child)
  child_sound k child l s = go child.head s.0
    where
      go : (hd : Head) → IsPlanHead c plan.checked (length plan.schema.params) hd (length child.args) → IsAtom (child_atom c names b style m plan k (record child { head = hd }))
      go (Task t) h = held_sound (task_predicate c t) k child.args (held_arity c names b t (length child.args) (inr h)) l s.1
      go (Action a) (x, e, f) = let g = action_arity c names b a x e in held_sound (action_predicate c a) k child.args (g.0, g.1 ∙ ap suc (sym f)) l s.1
      go Check (e, f) = let g = check_arity c names b m plan is e in held_sound (check_predicate c m) k child.args (g.0, g.1 ∙ ap suc (sym f)) l s.1

  kids_sound : (ks : List ℕ) (children : List Child) → EachIs (λ x. x < suc n) ks → EachIs (IsPlanChild c plan.checked plan.schema.params) children → EachIs SoundEffect (map E.Add (child_atoms c names b style m plan ks children))
  kids_sound [] [] l s = tt
  kids_sound [] (x ∷ children) l s = tt
  kids_sound (k ∷ ks) [] l s = tt
  kids_sound (k ∷ ks) (x ∷ children) l s = (sound-Add v' ar' scope (child_atom c names b style m plan k x) (child_sound k x l.0 s.0), kids_sound ks children l.1 s.1)

  abbrev slots : List ℕ
  slots = children_slots c names b style m plan

  slot_of : (i : ℕ) → Force (Var (slice_index slots i))
  slot_of i = slot (slice_index slots i) (index_below (suc n) slots i (omega arith) sp.slots)

  links_sound : EachIs SoundEffect (links c names b style m plan)
  links_sound = each-map SoundEffect (λ (p : Pair). E.Add (pair_of (order_numbers c names b) b (Var (slice_index slots p.first)) (Var (slice_index slots p.then)))) plan.schema.pairs (λ p h.
      sound-Add v' ar' scope (pair_of (order_numbers c names b) b (Var (slice_index slots p.first)) (Var (slice_index slots p.then))) (pair_sound c names b sound has scope (Var (slice_index slots p.first)) (Var (slice_index slots p.then)) (slot_of p.first) (slot_of p.then)))

  copies_sound : (ks : List ℕ) → EachIs SoundEffect (copies_of c names b style m plan ks)
  copies_sound [] = tt
  copies_sound (i ∷ ks) = each-join SoundEffect (copy_parts (order_numbers c names b) b (depth c names b style m plan) style (Var 0) (Var (slice_index slots i))) (copies_of c names b style m plan ks)
      (copies c names b sound has scope apart (depth c names b style m plan) depth_is style 0 (slice_index slots i) some (let l = index_below (suc n) slots i (omega arith) sp.slots in let e = long in omega arith))
      (copies_sound ks)

  splitting_sound : EachIs SoundEffect (splitting c names b style m plan)
  splitting_sound =
      let fs = frees c names b style m plan in
      let ks = kids c names b style m plan in
      let ls = links c names b style m plan in
      let cs = copies_of c names b style m plan plan.copiers in
      subst (EachIs SoundEffect) (sym (splitting_parts c names b style m plan))
      (each-join SoundEffect (E.Delete task_atom ∷ fs) (ks ++ (ls ++ cs))
      (sound-Delete v' ar' scope task_atom task_sound, each-map SoundEffect (λ v. E.Delete (is_free c names b style v)) (numbers 1 n) (λ k h. sound-Delete v' ar' scope (is_free c names b style k) (free_sound c names b sound has scope (Var k) (slot k (new_slot k h)))))
      (each-join SoundEffect ks (ls ++ cs) (kids_sound slots plan.schema.children sp.slots sp.parts.children) (each-join SoundEffect ls cs links_sound (copies_sound plan.copiers))))

  eff_sound : (children : List Child) → EachIs SoundEffect (method_eff c names b style m plan children)
  eff_sound [] = freeing_sound c names b style sound has scope apart some task_atom task_sound (depth c names b style m plan) depth_is
  eff_sound (x ∷ children) = splitting_sound

  pub method_sound : IsSoundAction v' ar' (encoded_method c names b style m plan)
  method_sound =
      let named = scope-named c names b sound has n plan.schema.params few km.slots km.params sp.parts.params in
      record {
        params = params_sound c names b sound has n plan.schema.params few km.slots km.params sp.parts.params;
        pre = subst (IsSound v' ar' (encoded_method c names b style m plan).pre) (sym named) (sound-And v' ar' scope (method_pre c names b style m plan) pre_sound);
        eff = subst (IsSoundEffect v' ar' (encoded_method c names b style m plan).eff) (sym named) (sound-Both v' ar' scope (method_eff c names b style m plan plan.schema.children) (eff_sound plan.schema.children));
      }
