-- Each printed action of a stack is sound.
use Rattle.std.proofs.Common.{ℕ, zero, suc, ◌≡◌, ◌-◌, ◌<◌, ◌≤◌, ◌==◌, ◌^◌, inl, inr, Bool, true, false, cond, List, [], ◌∷◌, ◌++◌, map, length, slice_get, Some, codes, refl, sym, subst, ◌∙◌, arith}
use Rattle.htn_base.specs.declared.name.Name.{Name}
use Rattle.text_forms.specs.Words.{Word}
use Rattle.plan_model.specs.declared.options.Checks.{Checks}
use Rattle.plan_model.specs.declared.terms.Term.TheVariants.{Var}
use Rattle.plan_model.specs.declared.terms.Atom.{Atom}
use Rattle.plan_model.specs.declared.terms.Param.{Param}
use Rattle.plan_model.specs.declared.formulas.Formula.{Formula}
use Rattle.plan_model.specs.declared.formulas.Formula.TheVariants.{Holds, And}
use Rattle.plan_model.specs.declared.effects.Effect.{Effect}
use Rattle.plan_model.specs.declared.effects.Effect.TheVariants as E
use Rattle.plan_model.specs.declared.schemas.ActionSchema.{ActionSchema}
use Rattle.plan_model.specs.declared.schemas.MethodPlan.{MethodPlan}
use Rattle.plan_model.specs.declared.values.Compiled.{Compiled}
use Rattle.plan_model.specs.task_networks.Spelling.{numbers}
use Rattle.plan_model.specs.plan_meaning.Compilation.{IsCompiled}
use Rattle.plan_model.specs.Pairs.{Pairs}
use Rattle.plan_model.proofs.task_networks.Numbers.{length-numbers, numbers_to}
use Rattle.plan_texts.specs.Declared.{Declared}
use Rattle.plan_texts.specs.Types.{Has, EachIs}
use Rattle.plan_texts.specs.SpellsHddl.{hddl_words}
use Rattle.plan_texts.specs.Printable.{IsInForce, IsSoundAtom, AreSoundParams, IsSound, IsSoundEffect}
use Rattle.plan_texts.specs.SoundValue.{IsSoundHddl, arities, scope_of}
use Rattle.plan_texts.proofs.Members.{has-contains, length-map}
use Rattle.plan_texts.proofs.Places.{each-join}
use Rattle.slot_encoding.specs.EncodedNames.{action_predicate, check_predicate}
use Rattle.slot_encoding.specs.SourceParts.{name, source_param}
use Rattle.slot_encoding.specs.EncodedWords.{own_word, param_words, formula_words, numbered}
use Rattle.slot_encoding.specs.MethodParts.{condition_part, change_part, task_in, children_in}
use Rattle.slot_encoding.proofs.places.Guards.{method_of}
use Rattle.slot_encoding.proofs.places.Places.{each-at-some}
use Rattle.slot_encoding.proofs.words.KnownMethods.{IsKnownMethod}
use Rattle.slot_encoding.proofs.words.Lists.{each-map, each-from_get}
use Rattle.slot_encoding.proofs.words.PlanParts.{IsSoundPlan, sound_plans}
use Rattle.slot_encoding.proofs.words.PredicatePlaces.{HasArity, action_arity, check_arity}
use Rattle.slot_encoding.proofs.words.SlotScopes.{slot_names}
use Rattle.slot_encoding.proofs.words.SoundEquations.{sound-Holds, sound-And, sound-Add, sound-Delete, sound-Both}
use Rattle.slot_encoding.proofs.words.Works.{IsSoundAction}
use Rattle.stack_machine.specs.Stack.{behind}
use Rattle.stack_machine.proofs.Heights.{whole_length}
use Rattle.stack_encoding.specs.StackActions.{is_tip, is_up, at_tip, falling, held_at_tip, tip_action, asked, rising, child_cells, climbing, method_params, method_pre, method_eff, stack_method}
use Rattle.stack_encoding.specs.StackValue.{stack_actions}
use Rattle.stack_encoding.proofs.places.StackPlaces.{IsOfMethod, IsOfCheck, IsOfAction, action_cases}
use Rattle.stack_encoding.proofs.words.FewCells.{known_plan}
use Rattle.stack_encoding.proofs.words.KnownEach.{known_action}
use Rattle.stack_encoding.proofs.words.KnownParts.{AreKnown, check_word}
use Rattle.stack_encoding.proofs.words.StackDeclared.{stack_declared, stack_arities, takes}
use Rattle.stack_encoding.proofs.words.StackFronts.{climbing_cells, climbing_front, falling_cells, falling_front}
use Rattle.stack_encoding.proofs.words.StackMethodParts.{task_sound, asked_sound, children_sound}
use Rattle.stack_encoding.proofs.words.StackScopes.{IsFront, stack_scope, stack_scope-named, stack_params_sound, variable_sound, condition_sound, change_sound, tip_sound, up_sound}

-- fewer stand after one of a line than the line has
behind_below : (line : List ℕ) (i n : ℕ) → length line ≤ suc n → behind line i < suc n
behind_below [] i n l = omega arith
behind_below (x ∷ line) i n l = go (x == i) (behind_below line i n (omega arith))
  where
    go : (t : Bool) → behind line i < suc n → cond t (length line) (behind line i) < suc n
    go true h = omega arith
    go false h = h

module _ (c : Compiled) (names : List Word) (b : ℕ) (sound : IsSoundHddl c.hddl) (known : AreKnown c b names) where
  abbrev v' : Declared
  v' = stack_declared c names b

  abbrev ar' : List ℕ
  ar' = stack_arities c names b

  abbrev IsGood : ActionSchema → Type 0
  IsGood = IsSoundAction v' ar'

  -- an action with these variables, whose condition and effect have sound parts
  module _ (at : ℕ) (cells : List Param) (words : List Word) (params : List Param) (f : IsFront c names b sound known at cells words params) where
    abbrev scope : List Word
    scope = stack_scope c names b sound known at cells words params f

    made_sound : (n : Name) (fs : List Formula) (es : List Effect) → EachIs (λ g. IsSound v' ar' g scope) fs → EachIs (λ e. IsSoundEffect v' ar' e scope) es
        → IsSoundAction v' ar' (record { name = n; params = cells ++ map (source_param names c.hddl.names) params; pre = And fs; eff = E.And es })
    made_sound n fs es s t =
        let named = sym (stack_scope-named c names b sound known at cells words params f) in
        record {
          params = stack_params_sound c names b sound known at cells words params f;
          pre = subst (IsSound v' ar' (And fs)) named (sound-And v' ar' scope fs s);
          eff = subst (IsSoundEffect v' ar' (E.And es)) named (sound-Both v' ar' scope es t);
        }

  -- where nothing comes in its place
  module _ (params : List Param) (params_known : EachIs (Has names) (param_words c.hddl.names params)) (are : AreSoundParams (hddl_words c.hddl) (arities c.hddl) params) where
    abbrev two : List Param
    two = falling_cells c names b sound known params params_known are

    abbrev two_words : List Word
    two_words = codes "htn_d" ∷ codes "htn_h" ∷ []

    front : IsFront c names b sound known 2 two two_words params
    front = falling_front c names b sound known params params_known are

    abbrev low : List Word
    low = stack_scope c names b sound known 2 two two_words params front

    tip : (k : ℕ) → k < 2 → IsSoundAtom v' ar' low (is_tip c names b k).predicate (is_tip c names b k).args
    tip = tip_sound c names b sound known 2 two two_words params front

    at_tip_sound : (held : Atom) → IsSoundAtom v' ar' low held.predicate held.args → EachIs (λ g. IsSound v' ar' g low) (at_tip c names b held)
    at_tip_sound held s = (
      sound-Holds v' ar' low held s,
      (
        sound-Holds v' ar' low (is_tip c names b 1) (tip 1 (omega arith)),
        (sound-Holds v' ar' low (is_up c names b 0 1) (up_sound c names b sound known 2 two two_words params front 0 1 (omega arith) (omega arith)), tt),
      ),
    )

    falling_sound : (held : Atom) → IsSoundAtom v' ar' low held.predicate held.args → EachIs (λ e. IsSoundEffect v' ar' e low) (falling c names b held)
    falling_sound held s = (
      sound-Delete v' ar' low held s,
      (sound-Delete v' ar' low (is_tip c names b 1) (tip 1 (omega arith)), (sound-Add v' ar' low (is_tip c names b 0) (tip 0 (omega arith)), tt)),
    )

    module _ (word : List ℕ) (predicate : ℕ) (arity : HasArity c names b predicate (suc (length params))) where
      abbrev held : Atom
      held = held_at_tip c names b predicate (length params)

      held_sound : IsSoundAtom v' ar' low held.predicate held.args
      held_sound =
          let vars = numbers 1 (suc (length params)) in
          let takes_all = takes c names b predicate (suc (length params)) arity in
          let each = each-map (IsInForce v' ar' low) Var vars (λ k h. variable_sound c names b sound known 2 two two_words params front k (let r = (numbers_to 1 (suc (length params)) k (has-contains vars k h)).1 in omega arith)) in
          (takes_all.0, length-map Var vars ∙ length-numbers 1 (suc (length params)) ∙ sym takes_all.1, each)

      tip_action_sound : (pre : Formula) (change : List Effect) → IsSound (hddl_words c.hddl) (arities c.hddl) pre (scope_of c.hddl params) → EachIs (Has names) (formula_words c.hddl.names pre)
          → EachIs (λ e. IsSoundEffect v' ar' e low) change → IsSoundAction v' ar' (tip_action c names b word predicate params pre change)
      tip_action_sound pre change s h changes =
          let fs = at_tip c names b held in let gs = condition_part c names 2 pre in
          let es = falling c names b held in
          made_sound 2 two two_words params front (name names word) (fs ++ gs) (es ++ change)
          (each-join (λ g. IsSound v' ar' g low) fs gs (at_tip_sound held held_sound) (condition_sound c names b sound known 2 two two_words params front pre s h))
          (each-join (λ e. IsSoundEffect v' ar' e low) es change (falling_sound held held_sound) changes)

  module _ (mode : Checks) (compiled : IsCompiled c.hddl mode c) (short : EachIs (λ (plan : MethodPlan). length plan.schema.children < 2 ^ 64) c.methods) where
    module _ (m : ℕ) (plan : MethodPlan) (is : slice_get c.methods m ≡ Some plan) where
      sp : IsSoundPlan c plan
      sp = each-at-some (IsSoundPlan c) c.methods m plan (sound_plans c mode compiled sound) is

      km : IsKnownMethod c names m plan
      km = known_plan c b names known m plan is

      -- no more stand after a child than there are others
      kids_below : (n : ℕ) → length plan.schema.children ≡ suc n → EachIs (λ k. k < suc n) (child_cells c names b plan)
      kids_below n e =
          let (s, k, _) = method_of mode c compiled sound m plan is in
          let whole = whole_length (Pairs plan.schema.pairs) (length plan.schema.children) plan.line k.line in
          each-map (λ k. k < suc n) (behind plan.line) (numbers 0 (length plan.schema.children)) (λ i h. behind_below plan.line i n (omega arith))

      -- the printed action, where these are its variables, its condition and its effect
      abbrev with_count : ℕ → ActionSchema
      with_count n = record { name = (stack_method c names b m plan).name; params = method_params c names b m plan n; pre = And (method_pre c names b m plan n); eff = E.And (method_eff c names b m plan n) }

      -- without children
      none_sound : IsGood (with_count 0)
      none_sound =
          let params = plan.schema.params in let k = km.params in let are = sp.parts.params in
          let xs = two params k are in let f = front params k are in let scope = low params k are in
          let task = task_in c names 2 1 plan in
          let s = task_sound c names b sound known m plan is sp km 2 xs (codes "htn_d" ∷ codes "htn_h" ∷ []) f 1 (omega arith) in
          made_sound 2 xs (codes "htn_d" ∷ codes "htn_h" ∷ []) params f (stack_method c names b m plan).name (method_pre c names b m plan 0) (method_eff c names b m plan 0)
          (each-join (λ g. IsSound v' ar' g scope) (at_tip c names b task) (asked c names b 2 plan) (at_tip_sound params k are task s) (asked_sound c names b sound known m plan is sp km 2 xs (codes "htn_d" ∷ codes "htn_h" ∷ []) f))
          (falling_sound params k are task s)

      -- with children
      module _ (n : ℕ) (e : length plan.schema.children ≡ suc n) (few : n < 2 ^ 64) (cells_known : EachIs (Has names) (numbered (codes "htn_h") n)) where
        abbrev xs : List Param
        xs = climbing_cells c names b sound known plan.schema.params km.params sp.parts.params n

        f : IsFront c names b sound known (suc n) xs (slot_names n) plan.schema.params
        f = climbing_front c names b sound known plan.schema.params km.params sp.parts.params n few cells_known

        abbrev high : List Word
        high = stack_scope c names b sound known (suc n) xs (slot_names n) plan.schema.params f

        tip_high : (k : ℕ) → k < suc n → IsSoundAtom v' ar' high (is_tip c names b k).predicate (is_tip c names b k).args
        tip_high = tip_sound c names b sound known (suc n) xs (slot_names n) plan.schema.params f

        ups : EachIs (λ g. IsSound v' ar' g high) (rising c names b (suc n))
        ups = each-map (λ g. IsSound v' ar' g high) (λ k. Holds (is_up c names b k (suc k))) (numbers 0 n) (λ k h. (
            let r = (numbers_to 0 n k (has-contains (numbers 0 n) k h)).1 in
            sound-Holds v' ar' high (is_up c names b k (suc k)) (up_sound c names b sound known (suc n) xs (slot_names n) plan.schema.params f k (suc k) (omega arith) (omega arith))
            ))

        climb : (k : ℕ) → k < suc n → EachIs (λ e. IsSoundEffect v' ar' e high) (climbing c names b k)
        climb zero l = tt
        climb (suc k) l = (sound-Delete v' ar' high (is_tip c names b 0) (tip_high 0 (omega arith)), (sound-Add v' ar' high (is_tip c names b (suc k)) (tip_high (suc k) l), tt))

        some_sound : IsGood (with_count (suc n))
        some_sound =
            let task = task_in c names (suc n) 0 plan in
            let s = task_sound c names b sound known m plan is sp km (suc n) xs (slot_names n) f 0 (omega arith) in
            let kids = map E.Add (children_in c names (suc n) m (child_cells c names b plan) plan.schema.children) in
            made_sound (suc n) xs (slot_names n) plan.schema.params f (stack_method c names b m plan).name (method_pre c names b m plan (suc n)) (method_eff c names b m plan (suc n))
            (each-join (λ g. IsSound v' ar' g high) (Holds task ∷ Holds (is_tip c names b 0) ∷ rising c names b (suc n)) (asked c names b (suc n) plan)
            (sound-Holds v' ar' high task s, (sound-Holds v' ar' high (is_tip c names b 0) (tip_high 0 (omega arith)), ups))
            (asked_sound c names b sound known m plan is sp km (suc n) xs (slot_names n) f))
            (each-join (λ g. IsSoundEffect v' ar' g high) (E.Delete task ∷ kids) (climbing c names b n)
            (sound-Delete v' ar' high task s, children_sound c names b sound known m plan is sp km (suc n) xs (slot_names n) f (child_cells c names b plan) plan.schema.children (kids_below n e) sp.parts.children)
            (climb n (omega arith)))

      method_sound : IsGood (stack_method c names b m plan)
      method_sound = go (length plan.schema.children) refl
        where
          go : (k : ℕ) → length plan.schema.children ≡ k → IsGood (with_count k)
          go zero e = none_sound
          go (suc n) e =
              let l = each-at-some (λ (plan : MethodPlan). length plan.schema.children < 2 ^ 64) c.methods m plan short is in
              let less : length plan.schema.children - 1 ≡ n = omega arith in
              some_sound n e (omega arith) (subst (λ z. EachIs (Has names) (numbered (codes "htn_h") z)) less km.slots)

    of_check : (a : ActionSchema) → IsOfCheck c names b a → IsGood a
    of_check a (m, plan, e, t, g) =
        let s = (sp m plan e).parts in let k = km m plan e in
        subst IsGood (sym g) (tip_action_sound plan.schema.params k.params s.params (check_word c plan) (check_predicate c m) (check_arity c names b m plan e t) plan.schema.pre [] s.pre k.pre tt)

    of_action : (a : ActionSchema) → IsOfAction c names b a → IsGood a
    of_action a (n, s, e, g) =
        let k = known_action c b names known n s e in
        let are = each-at-some (λ (a : ActionSchema). AreSoundParams (hddl_words c.hddl) (arities c.hddl) a.params) c.hddl.actions n s sound.action_params e in
        let pre = each-at-some (λ (a : ActionSchema). IsSound (hddl_words c.hddl) (arities c.hddl) a.pre (scope_of c.hddl a.params)) c.hddl.actions n s sound.pre e in
        let eff = each-at-some (λ (a : ActionSchema). IsSoundEffect (hddl_words c.hddl) (arities c.hddl) a.eff (scope_of c.hddl a.params)) c.hddl.actions n s sound.eff e in
        let xs = two s.params k.params are in let f = front s.params k.params are in
        let change = change_sound c names b sound known 2 xs (codes "htn_d" ∷ codes "htn_h" ∷ []) s.params f s.eff eff k.eff in
        subst IsGood (sym g) (tip_action_sound s.params k.params are (own_word c s.name) (action_predicate c n) (action_arity c names b n s e) s.pre (change_part c names 2 s.eff) pre k.pre change)

    of_method : (a : ActionSchema) → IsOfMethod c names b a → IsGood a
    of_method a (m, plan, e, g) = subst IsGood (sym g) (method_sound m plan e)

    pub stack_actions_sound : EachIs (IsSoundAction (stack_declared c names b) (stack_arities c names b)) (stack_actions c names b)
    stack_actions_sound = each-from_get IsGood (stack_actions c names b) (λ k a e. elim (action_cases c names b k a e) [
      | inl x ↦ of_method a x
      | inr y ↦ elim y [ inl x ↦ of_check a x | inr x ↦ of_action a x ]
    ])
