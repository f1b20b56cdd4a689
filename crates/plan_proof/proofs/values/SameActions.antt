-- Compiled values that are the same but for names have the same printed actions.
use Rattle.std.proofs.Common.{ℕ, zero, suc, ◌≡◌, ◌+◌, ◌-◌, ◌==◌, nat_eq, cond, List, [], ◌∷◌, ◌++◌, map, filter, take, length, slice_index, position, unwrap_or, codes, decimal, refl, ap, sym, ◌∙◌}
use Rattle.htn_base.specs.Escapes.{escaped}
use Rattle.text_forms.specs.Words.{Word}
use Rattle.plan_texts.specs.Declared.{Declared}
use Rattle.plan_texts.specs.Types.{EachIs}
use Rattle.plan_texts.specs.SpellsHddl.{hddl_words}
use Rattle.plan_texts.specs.Printable.{AreSoundParams, IsSound, IsSoundEffect}
use Rattle.plan_texts.specs.SoundValue.{IsSoundHddl, scope_of, arities}
use Rattle.plan_texts.specs.Said.{typed, said, done}
use Rattle.plan_texts.specs.Alike.{object_said, predicate_said, action_said, task_said, child_said}
use Rattle.plan_model.specs.declared.options.Style.{Style}
use Rattle.plan_model.specs.declared.terms.Term.TheVariants.{Var}
use Rattle.plan_model.specs.declared.terms.Param.{Param}
use Rattle.plan_model.specs.declared.formulas.Formula.{Formula}
use Rattle.plan_model.specs.declared.formulas.Formula.TheVariants.{Holds, And}
use Rattle.plan_model.specs.declared.effects.Effect.{Effect}
use Rattle.plan_model.specs.declared.effects.Effect.TheVariants as E
use Rattle.plan_model.specs.declared.networks.Head.{Head}
use Rattle.plan_model.specs.declared.networks.Head.TheVariants.{Task, Action, Check}
use Rattle.plan_model.specs.declared.networks.Child.{Child}
use Rattle.plan_model.specs.declared.networks.Pair.{Pair}
use Rattle.plan_model.specs.declared.networks.Constraint.{Constraint}
use Rattle.plan_model.specs.declared.networks.Guard.{Guard}
use Rattle.plan_model.specs.declared.schemas.ActionSchema.{ActionSchema}
use Rattle.plan_model.specs.declared.schemas.MethodPlan.{MethodPlan}
use Rattle.plan_model.specs.declared.values.Compiled.{Compiled}
use Rattle.plan_model.specs.task_networks.Spelling.{numbers}
use Rattle.plan_model.specs.plan_meaning.Compilation.{once}
use Rattle.slot_encoding.specs.SourceParts.{name, moved}
use Rattle.order_encoder.specs.OrderFormulas.{pair_of, wait_parts, clear_parts, copy_parts}
use Rattle.slot_encoding.specs.EncodedNames.{joined, guard_types, checked_methods, free_predicate, first_check, first_guard, task_predicate, action_predicate, check_predicate, guard_predicate, slot_param, order_numbers}
use Rattle.slot_encoding.specs.EncodedActions.{slot_vars, differ, test, source_condition, source_change, held_work, work_action, encoded_action, encoded_check, spare, front, depth, children_slots, held_task, child_atom, child_atoms, constraints, guards, tested, method_pre, splitting, method_eff, method_word, encoded_method}
use Rattle.slot_encoding.specs.EncodedValue.{encoded_methods, encoded_checks, encoded_source, encoded_actions}
use Rattle.slot_encoding.proofs.places.Splitting.{frees, kids, links, copies_of, splitting_parts}
use Rattle.plan_proof.specs.Same.{AreSameButNames}
use Rattle.plan_texts.specs.Together.{Together}
use Rattle.plan_texts.proofs.Together.{maps-length, together-of_maps, together-maps, together-length, together-take, together-filter}
use Rattle.plan_proof.proofs.values.TypeNumbers.{AreApart}
use Rattle.plan_proof.proofs.values.SameTypes.{empty-same, empty-effect-same, params-printed, formula-printed, effect-printed}
use Rattle.plan_proof.proofs.values.SamePlans.{ArePlansAlike, IsSoundPlan}

module _ (c d : Compiled) (same : AreSameButNames c.hddl d.hddl) (sc : IsSoundHddl c.hddl) (sd : IsSoundHddl d.hddl) (apart : AreApart (hddl_words d.hddl).unions) where
  abbrev v : Declared
  v = hddl_words c.hddl

  abbrev w : Declared
  w = hddl_words d.hddl

  abbrev pub Alike : MethodPlan → MethodPlan → Type 0
  Alike p q = ArePlansAlike v w p q × (IsSoundPlan c.hddl p × IsSoundPlan d.hddl q)

  module _ (plans : Together Alike c.methods d.methods) where
    -- numbers of predicates and of objects
    pub predicates-count : length c.hddl.predicates ≡ length d.hddl.predicates
    predicates-count = maps-length (predicate_said v) (predicate_said w) c.hddl.predicates d.hddl.predicates same.alike.predicates

    tasks-count : length c.hddl.tasks ≡ length d.hddl.tasks
    tasks-count = maps-length (task_said v) (task_said w) c.hddl.tasks d.hddl.tasks same.alike.tasks

    actions-count : length c.hddl.actions ≡ length d.hddl.actions
    actions-count = maps-length (action_said v) (action_said w) c.hddl.actions d.hddl.actions same.alike.actions

    pub objects-count : length c.hddl.objects ≡ length d.hddl.objects
    objects-count = maps-length (object_said v) (object_said w) c.hddl.objects d.hddl.objects same.alike.objects

    pub checked-both : (xs ys : List MethodPlan) → Together Alike xs ys → Together Alike (filter (λ (plan : MethodPlan). plan.checked) xs) (filter (λ (plan : MethodPlan). plan.checked) ys)
    checked-both = together-filter Alike (λ (plan : MethodPlan). plan.checked) (λ (plan : MethodPlan). plan.checked) (λ x y e. e.0.checked)

    checked-count : length (checked_methods c) ≡ length (checked_methods d)
    checked-count = together-length Alike (checked_methods c) (checked_methods d) (checked-both c.methods d.methods plans)

    pub guard_types-same : guard_types c ≡ guard_types d
    guard_types-same =
        ap (λ z. once nat_eq (joined z))
        (together-maps (λ (plan : MethodPlan). map (λ (g : Guard). g.ty) plan.guards) (λ (plan : MethodPlan). map (λ (g : Guard). g.ty) plan.guards) Alike (λ x y e. ap (map (λ (g : Guard). g.ty)) e.0.guards) c.methods d.methods plans)

    pub free-same : free_predicate c ≡ free_predicate d
    free-same = λ i. predicates-count i + 1

    task-same : (t : ℕ) → task_predicate c t ≡ task_predicate d t
    task-same t = λ i. cond (t == tasks-count i) (predicates-count i) (predicates-count i + 3 + t)

    action-same : (a : ℕ) → action_predicate c a ≡ action_predicate d a
    action-same a = λ i. predicates-count i + 3 + tasks-count i + a

    first_check-same : first_check c ≡ first_check d
    first_check-same = λ i. predicates-count i + 3 + tasks-count i + actions-count i

    check-same : (m : ℕ) → check_predicate c m ≡ check_predicate d m
    check-same m =
        let h = together-length Alike _ _ (checked-both (take m c.methods) (take m d.methods) (together-take Alike m c.methods d.methods plans)) in
        λ i. first_check-same i + h i

    pub first_guard-same : first_guard c ≡ first_guard d
    first_guard-same = λ i. first_check-same i + checked-count i

    pub guard-same : (ty : ℕ) → guard_predicate c ty ≡ guard_predicate d ty
    guard-same ty = λ i. first_guard-same i + unwrap_or (position (λ u. u == ty) (guard_types-same i)) 0

    module _ (names : List (List ℕ)) (b : ℕ) (style : Style) where
      pub order-same : order_numbers c names b ≡ order_numbers d names b
      order-same = λ i. record { before = predicates-count i + 2; slot_type = 1; x = name names (codes "htn_x"); first_slot = objects-count i }

      pub condition-same : (front : ℕ) (f g : Formula) (scope scope' : List Word) → said v f ≡ said w g → IsSound v (arities c.hddl) f scope → IsSound w (arities d.hddl) g scope' → source_condition c names b style front f ≡ source_condition d names b style front g
      condition-same front f g scope scope' e s t =
          let h = empty-same v w f g e in let k = formula-printed c.hddl d.hddl same sc sd apart names front f g scope scope' e s t in
          λ i. cond (h i) [] (k i ∷ [])

      change-same : (f g : Effect) (scope scope' : List Word) → done v f ≡ done w g → IsSoundEffect v (arities c.hddl) f scope → IsSoundEffect w (arities d.hddl) g scope' → source_change c names b style 1 f ≡ source_change d names b style 1 g
      change-same f g scope scope' e s t =
          let h = empty-effect-same v w f g e in let k = effect-printed c.hddl d.hddl same sc sd apart names 1 f g scope scope' e s t in
          λ i. cond (h i) [] (k i ∷ [])

      work-same : (word word' : List ℕ) (number number' : ℕ) (ps qs : List Param) (f g : Formula) (xs ys : List Effect) (scope scope' : List Word)
          → word ≡ word' → number ≡ number' → map (typed v) ps ≡ map (typed w) qs → said v f ≡ said w g → xs ≡ ys
          → AreSoundParams v (arities c.hddl) ps → AreSoundParams w (arities d.hddl) qs → IsSound v (arities c.hddl) f scope → IsSound w (arities d.hddl) g scope'
          → work_action c names b style word number ps f xs ≡ work_action d names b style word' number' qs g ys
      work-same word word' number number' ps qs f g xs ys scope scope' ew en ep ef ex sp sq sf sg =
          let l = maps-length (typed v) (typed w) ps qs ep in
          let k = params-printed c.hddl d.hddl same sc sd apart names ps qs ep sp.0 sq.0 in
          let h = condition-same 1 f g scope scope' ef sf sg in
          let o = order-same in let fr = free-same in
          λ i. record {
            name = name names (ew i);
            params = slot_param d names b (codes "htn_h") ∷ k i;
            pre = And (Holds (held_work d names b style (en i) (l i)) ∷ wait_parts (o i) b (suc (l i)) style (Var 0) ++ h i);
            eff = E.And ((E.Delete (held_work d names b style (en i) (l i)) ∷ E.Add (record { predicate = fr i; args = Var 0 ∷ [] }) ∷ clear_parts (o i) b (suc (l i)) style (Var 0)) ++ ex i);
          }

      action-printed : (a : ℕ) (x y : ActionSchema) → action_said v x ≡ action_said w y
          → AreSoundParams v (arities c.hddl) x.params → AreSoundParams w (arities d.hddl) y.params → IsSound v (arities c.hddl) x.pre (scope_of c.hddl x.params) → IsSound w (arities d.hddl) y.pre (scope_of d.hddl y.params)
          → IsSoundEffect v (arities c.hddl) x.eff (scope_of c.hddl x.params) → IsSoundEffect w (arities d.hddl) y.eff (scope_of d.hddl y.params)
          → encoded_action c names b style a x ≡ encoded_action d names b style a y
      action-printed a x y e sp sq sf sg se sh =
          work-same _ _ _ _ x.params y.params x.pre y.pre _ _ _ _ (ap (λ z. escaped z.0) e) (action-same a) (ap (λ z. z.1) e) (ap (λ z. z.2) e) (change-same x.eff y.eff _ _ (ap (λ z. z.3) e) se sh) sp sq sf sg

      module _ (m : ℕ) (p q : MethodPlan) (a : Alike p q) where
        check-printed : encoded_check c names b style m p ≡ encoded_check d names b style m q
        check-printed =
            let e = a.0.schema in
            work-same _ _ _ _ p.schema.params q.schema.params p.schema.pre q.schema.pre [] [] a.1.0.scope a.1.1.scope (ap (λ z. codes "htn_c_" ++ escaped z.0) e) (check-same m) (ap (λ z. z.4.0) e) (ap (λ z. z.3) e) refl a.1.0.params a.1.1.params a.1.0.pre a.1.1.pre

        e_count : length p.schema.children ≡ length q.schema.children
        e_count = maps-length (child_said v) (child_said w) p.schema.children q.schema.children (ap (λ z. z.4.1) a.0.schema)

        pub e_spare : spare c names b style m p ≡ spare d names b style m q
        e_spare = λ i. e_count i - 1

        e_front : front c names b style m p ≡ front d names b style m q
        e_front = ap suc e_spare

        pub e_depth : depth c names b style m p ≡ depth d names b style m q
        e_depth = let l = maps-length (typed v) (typed w) p.schema.params q.schema.params (ap (λ z. z.4.0) a.0.schema) in λ i. e_front i + l i

        e_slots : children_slots c names b style m p ≡ children_slots d names b style m q
        e_slots = λ i. slot_vars (a.0.heir i) 0 1 (e_count i)

        e_held : held_task c names b style m p ≡ held_task d names b style m q
        e_held = let e = a.0.schema in let t = ap (task_predicate c) (ap (λ z. z.1) e) ∙ task-same q.schema.task in λ i. record { predicate = t i; args = Var 0 ∷ map (moved names d.hddl.names (e_front i)) (e i).2 }

        e_child : (n : ℕ) (x y : Child) → child_said v x ≡ child_said w y → child_atom c names b style m p n x ≡ child_atom d names b style m q n y
        e_child n x y e = (λ i. child_atom c names b style m p n (record { id = x.id; head = (e i).1; args = x.args })) ∙ go y.head
          where
            go : (f : Head) → child_atom c names b style m p n (record { id = x.id; head = f; args = x.args }) ≡ child_atom d names b style m q n (record { id = y.id; head = f; args = y.args })
            go (Task t) = let k = task-same t in λ i. record { predicate = k i; args = Var n ∷ map (moved names d.hddl.names (e_front i)) (e i).2 }
            go (Action t) = let k = action-same t in λ i. record { predicate = k i; args = Var n ∷ map (moved names d.hddl.names (e_front i)) (e i).2 }
            go Check = let k = check-same m in λ i. record { predicate = k i; args = Var n ∷ map (moved names d.hddl.names (e_front i)) (e i).2 }

        e_children : (ns : List ℕ) (xs ys : List Child) → map (child_said v) xs ≡ map (child_said w) ys → child_atoms c names b style m p ns xs ≡ child_atoms d names b style m q ns ys
        e_children [] xs ys e = refl
        e_children (n ∷ ns) [] [] e = refl
        e_children (n ∷ ns) [] (y ∷ ys) e = absurd (cc)
        e_children (n ∷ ns) (x ∷ xs) [] e = absurd (cc)
        e_children (n ∷ ns) (x ∷ xs) (y ∷ ys) e = let f = e_child n x y (cc) in let g = e_children ns xs ys (cc) in λ i. f i ∷ g i

        e_constraints : constraints c names b style m p ≡ constraints d names b style m q
        e_constraints = let e = a.0.schema in λ i. map (λ (con : Constraint). test con.equal (moved names d.hddl.names (e_front i) con.left) (moved names d.hddl.names (e_front i) con.right)) (e i).4.3

        e_guards : guards c names b style m p ≡ guards d names b style m q
        e_guards = let e = a.0.guards in λ i. map (λ (g : Guard). Holds (record { predicate = guard-same g.ty i; args = moved names d.hddl.names (e_front i) g.term ∷ [] })) (e i)

        e_tested : tested c names b style m p ≡ tested d names b style m q
        e_tested =
            let h = ap (λ n. source_condition c names b style n p.schema.pre) e_front ∙ condition-same (front d names b style m q) p.schema.pre q.schema.pre a.1.0.scope a.1.1.scope (ap (λ z. z.3) a.0.schema) a.1.0.pre a.1.1.pre in
            let t = a.0.tested in
            λ i. cond (t i) (h i) []

        pub e_pre : method_pre c names b style m p ≡ method_pre d names b style m q
        e_pre =
            let h = e_held in let o = order-same in let n = e_depth in let s = e_spare in let k = e_constraints in let g = e_guards in let t = e_tested in let f = free-same in
            λ i. Holds (h i) ∷ wait_parts (o i) b (n i) style (Var 0) ++ (map (λ u. Holds (record { predicate = f i; args = Var u ∷ [] })) (numbers 1 (s i)) ++ (differ (numbers 1 (s i)) ++ (k i ++ (g i ++ t i))))

        e_copies : (is : List ℕ) → copies_of c names b style m p is ≡ copies_of d names b style m q is
        e_copies [] = refl
        e_copies (k ∷ is) = let h = e_copies is in let o = order-same in λ i. copy_parts (o i) b (e_depth i) style (Var 0) (Var (slice_index (e_slots i) k)) ++ h i

        e_parts : E.Delete (held_task c names b style m p) ∷ frees c names b style m p ++ (kids c names b style m p ++ (links c names b style m p ++ copies_of c names b style m p p.copiers))
            ≡ E.Delete (held_task d names b style m q) ∷ frees d names b style m q ++ (kids d names b style m q ++ (links d names b style m q ++ copies_of d names b style m q q.copiers))
        e_parts =
            let h = e_held in let s = e_spare in let f = free-same in let o = order-same in let vs = e_slots in let e = a.0.schema in
            let k : child_atoms c names b style m p (children_slots c names b style m p) p.schema.children ≡ child_atoms d names b style m q (children_slots d names b style m q) q.schema.children =
            (λ i. child_atoms c names b style m p (e_slots i) p.schema.children) ∙ e_children (children_slots d names b style m q) p.schema.children q.schema.children (ap (λ z. z.4.1) a.0.schema) in
            let l = ap (copies_of c names b style m p) a.0.copiers ∙ e_copies q.copiers in
            λ i. E.Delete (h i) ∷ map (λ u. E.Delete (record { predicate = f i; args = Var u ∷ [] })) (numbers 1 (s i))
            ++ (map E.Add (k i) ++ (map (λ (r : Pair). E.Add (pair_of (o i) b (Var (slice_index (vs i) r.first)) (Var (slice_index (vs i) r.then)))) (e i).4.2 ++ l i))

        e_splitting : splitting c names b style m p ≡ splitting d names b style m q
        e_splitting = splitting_parts c names b style m p ∙ e_parts ∙ sym (splitting_parts d names b style m q)

        e_eff : (xs ys : List Child) → map (child_said v) xs ≡ map (child_said w) ys → method_eff c names b style m p xs ≡ method_eff d names b style m q ys
        e_eff [] [] e = let h = e_held in let o = order-same in let f = free-same in let n = e_depth in λ i. E.Delete (h i) ∷ E.Add (record { predicate = f i; args = Var 0 ∷ [] }) ∷ clear_parts (o i) b (n i) style (Var 0)
        e_eff [] (y ∷ ys) e = absurd (cc)
        e_eff (x ∷ xs) [] e = absurd (cc)
        e_eff (x ∷ xs) (y ∷ ys) e = e_splitting

      e_word : (m : ℕ) (p q : MethodPlan) → Alike p q → method_word c names b style m p m ≡ method_word d names b style m q m
      e_word zero p q a = refl
      e_word (suc m) p q a = ap (λ z. codes "htn_m_" ++ escaped z.0) a.0.schema

      pub method-printed : (m : ℕ) (p q : MethodPlan) → Alike p q → encoded_method c names b style m p ≡ encoded_method d names b style m q
      method-printed m p q a =
          let n = e_word m p q a in
          let s = e_spare m p q a in
          let k = params-printed c.hddl d.hddl same sc sd apart names p.schema.params q.schema.params (ap (λ z. z.4.0) a.0.schema) a.1.0.params.0 a.1.1.params.0 in
          let f = e_pre m p q a in
          let g = e_eff m p q a p.schema.children q.schema.children (ap (λ z. z.4.1) a.0.schema) in
          λ i. record {
            name = name names (n i);
            params = slot_param d names b (codes "htn_h") ∷ map (λ u. slot_param d names b (codes "htn_h" ++ decimal u)) (numbers 1 (s i)) ++ k i;
            pre = And (f i);
            eff = E.And (g i);
          }

      methods-printed : (m : ℕ) (ps qs : List MethodPlan) → Together Alike ps qs → encoded_methods c names b style m ps ≡ encoded_methods d names b style m qs
      methods-printed m [] [] e = refl
      methods-printed m [] (q ∷ qs) e = absurd e
      methods-printed m (p ∷ ps) [] e = absurd e
      methods-printed m (p ∷ ps) (q ∷ qs) e = let f = method-printed m p q e.0 in let g = methods-printed (suc m) ps qs e.1 in λ i. f i ∷ g i

      pub checks-printed : (m : ℕ) (ps qs : List MethodPlan) → Together Alike ps qs → encoded_checks c names b style m ps ≡ encoded_checks d names b style m qs
      checks-printed m [] [] e = refl
      checks-printed m [] (q ∷ qs) e = absurd e
      checks-printed m (p ∷ ps) [] e = absurd e
      checks-printed m (p ∷ ps) (q ∷ qs) e = let f = check-printed m p q e.0 in let g = checks-printed (suc m) ps qs e.1 in let h = e.0.0.checked in λ i. cond (h i) (f i ∷ g i) (g i)

      source-printed : (a : ℕ) (xs ys : List ActionSchema) → Together (λ x y. action_said v x ≡ action_said w y) xs ys
          → EachIs (λ (x : ActionSchema). AreSoundParams v (arities c.hddl) x.params) xs → EachIs (λ (y : ActionSchema). AreSoundParams w (arities d.hddl) y.params) ys
          → EachIs (λ (x : ActionSchema). IsSound v (arities c.hddl) x.pre (scope_of c.hddl x.params)) xs → EachIs (λ (y : ActionSchema). IsSound w (arities d.hddl) y.pre (scope_of d.hddl y.params)) ys
          → EachIs (λ (x : ActionSchema). IsSoundEffect v (arities c.hddl) x.eff (scope_of c.hddl x.params)) xs → EachIs (λ (y : ActionSchema). IsSoundEffect w (arities d.hddl) y.eff (scope_of d.hddl y.params)) ys
          → encoded_source c names b style a xs ≡ encoded_source d names b style a ys
      source-printed a [] [] e sp sq sf sg se sh = refl
      source-printed a [] (y ∷ ys) e sp sq sf sg se sh = absurd e
      source-printed a (x ∷ xs) [] e sp sq sf sg se sh = absurd e
      source-printed a (x ∷ xs) (y ∷ ys) e sp sq sf sg se sh =
          let f = action-printed a x y e.0 sp.0 sq.0 sf.0 sg.0 se.0 sh.0 in
          let g = source-printed (suc a) xs ys e.1 sp.1 sq.1 sf.1 sg.1 se.1 sh.1 in
          λ i. f i ∷ g i

      pub sources-printed : encoded_source c names b style 0 c.hddl.actions ≡ encoded_source d names b style 0 d.hddl.actions
      sources-printed = source-printed 0 c.hddl.actions d.hddl.actions (together-of_maps (action_said v) (action_said w) c.hddl.actions d.hddl.actions same.alike.actions) sc.action_params sd.action_params sc.pre sd.pre sc.eff sd.eff

      pub actions-same : encoded_actions c names b style ≡ encoded_actions d names b style
      actions-same =
          let f = methods-printed 0 c.methods d.methods plans in
          let g = checks-printed 0 c.methods d.methods plans in
          let h = sources-printed in
          λ i. f i ++ g i ++ h i
