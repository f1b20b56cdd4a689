-- Compiled values that are the same but for names have the same printed actions of a stack.
use Rattle.std.proofs.Common.{ℕ, zero, suc, ◌≡◌, cond, List, [], ◌∷◌, ◌++◌, map, length, codes, decimal, refl, ap, ◌∙◌}
use Rattle.htn_base.specs.Escapes.{escaped}
use Rattle.text_forms.specs.Words.{Word}
use Rattle.plan_texts.specs.Declared.{Declared}
use Rattle.plan_texts.specs.Types.{EachIs}
use Rattle.plan_texts.specs.SpellsHddl.{hddl_words}
use Rattle.plan_texts.specs.Printable.{AreSoundParams, IsSound, IsSoundEffect}
use Rattle.plan_texts.specs.SoundValue.{IsSoundHddl, scope_of, arities}
use Rattle.plan_texts.specs.Said.{typed, said, done}
use Rattle.plan_texts.specs.Alike.{action_said, child_said}
use Rattle.plan_texts.specs.Together.{Together}
use Rattle.plan_texts.proofs.Together.{maps-length, together-of_maps}
use Rattle.plan_model.specs.declared.options.Style.TheVariants.{Adl}
use Rattle.plan_model.specs.declared.terms.Term.TheVariants.{Var}
use Rattle.plan_model.specs.declared.terms.Atom.{Atom}
use Rattle.plan_model.specs.declared.formulas.Formula.{Formula}
use Rattle.plan_model.specs.declared.formulas.Formula.TheVariants.{Holds, And}
use Rattle.plan_model.specs.declared.effects.Effect.{Effect}
use Rattle.plan_model.specs.declared.effects.Effect.TheVariants as E
use Rattle.plan_model.specs.declared.terms.Param.{Param}
use Rattle.plan_model.specs.declared.networks.Head.{Head}
use Rattle.plan_model.specs.declared.networks.Head.TheVariants.{Task, Action, Check}
use Rattle.plan_model.specs.declared.networks.Child.{Child}
use Rattle.plan_model.specs.declared.networks.Constraint.{Constraint}
use Rattle.plan_model.specs.declared.networks.Guard.{Guard}
use Rattle.plan_model.specs.declared.schemas.ActionSchema.{ActionSchema}
use Rattle.plan_model.specs.declared.schemas.MethodPlan.{MethodPlan}
use Rattle.plan_model.specs.declared.values.Compiled.{Compiled}
use Rattle.plan_model.specs.task_networks.Spelling.{numbers}
use Rattle.slot_encoding.specs.SourceParts.{name, moved, source_param}
use Rattle.slot_encoding.specs.EncodedNames.{task_predicate, slot_param}
use Rattle.slot_encoding.specs.MethodParts.{test, condition_part, change_part, task_in, child_in, children_in}
use Rattle.plan_proof.specs.Same.{AreSameButNames}
use Rattle.plan_proof.proofs.values.TypeNumbers.{AreApart}
use Rattle.plan_proof.proofs.values.SameTypes.{empty-effect-same, params-printed, effect-printed}
use Rattle.plan_proof.proofs.values.SameActions.{Alike, guard-same, condition-same}
use Rattle.stack_machine.specs.Stack.{behind}
use Rattle.stack_encoding.specs.StackActions.{is_tip, is_up, at_tip, falling, held_at_tip, tip_action, stack_action, stack_check, asked, rising, child_cells, climbing, method_params, method_pre, method_eff, method_word, stack_method}
use Rattle.stack_encoding.specs.StackValue.{stack_methods, stack_checks, stack_source, stack_actions}
use Rattle.stack_proof.proofs.texts.SameNames.{tip-same, up-same, task-same, action-same, check-same}

module _ (c d : Compiled) (same : AreSameButNames c.hddl d.hddl) (sc : IsSoundHddl c.hddl) (sd : IsSoundHddl d.hddl) (apart : AreApart (hddl_words d.hddl).unions) (plans : Together (Alike c d same sc sd apart) c.methods d.methods) (names : List (List ℕ)) (b : ℕ) where
  abbrev v : Declared
  v = hddl_words c.hddl

  abbrev w : Declared
  w = hddl_words d.hddl

  condition : (front : ℕ) (f g : Formula) (scope scope' : List Word) → said v f ≡ said w g → IsSound v (arities c.hddl) f scope → IsSound w (arities d.hddl) g scope' → condition_part c names front f ≡ condition_part d names front g
  condition = condition-same c d same sc sd apart plans names b Adl

  change : (f g : Effect) (scope scope' : List Word) → done v f ≡ done w g → IsSoundEffect v (arities c.hddl) f scope → IsSoundEffect w (arities d.hddl) g scope' → change_part c names 2 f ≡ change_part d names 2 g
  change f g scope scope' e s t =
      let h = empty-effect-same v w f g e in let k = effect-printed c.hddl d.hddl same sc sd apart names 2 f g scope scope' e s t in
      λ i. cond (h i) [] (k i ∷ [])

  tip_is : (x : ℕ) → is_tip c names b x ≡ is_tip d names b x
  tip_is x = let t = tip-same c d same sc sd apart plans in λ i. record { predicate = t i; args = Var x ∷ [] }

  up_is : (x y : ℕ) → is_up c names b x y ≡ is_up d names b x y
  up_is x y = let t = up-same c d same sc sd apart plans in λ i. record { predicate = t i; args = Var x ∷ Var y ∷ [] }

  at_tip-same : (a a' : Atom) → a ≡ a' → at_tip c names b a ≡ at_tip d names b a'
  at_tip-same a a' e = let t = tip_is 1 in let u = up_is 0 1 in λ i. Holds (e i) ∷ Holds (t i) ∷ Holds (u i) ∷ []

  falling-same : (a a' : Atom) → a ≡ a' → falling c names b a ≡ falling d names b a'
  falling-same a a' e = let t = tip_is 1 in let u = tip_is 0 in λ i. E.Delete (e i) ∷ E.Delete (t i) ∷ E.Add (u i) ∷ []

  tip_action-same : (word word' : List ℕ) (number number' : ℕ) (ps qs : List Param) (f g : Formula) (xs ys : List Effect) (scope scope' : List Word)
      → word ≡ word' → number ≡ number' → map (typed v) ps ≡ map (typed w) qs → said v f ≡ said w g → xs ≡ ys
      → AreSoundParams v (arities c.hddl) ps → AreSoundParams w (arities d.hddl) qs → IsSound v (arities c.hddl) f scope → IsSound w (arities d.hddl) g scope'
      → tip_action c names b word number ps f xs ≡ tip_action d names b word' number' qs g ys
  tip_action-same word word' number number' ps qs f g xs ys scope scope' ew en ep ef ex sp sq sf sg =
      let l = maps-length (typed v) (typed w) ps qs ep in
      let k = params-printed c.hddl d.hddl same sc sd apart names ps qs ep sp.0 sq.0 in
      let h = condition 2 f g scope scope' ef sf sg in
      let held : held_at_tip c names b number (length ps) ≡ held_at_tip d names b number' (length qs) = (λ i. held_at_tip d names b (en i) (l i)) in
      let t = at_tip-same (held_at_tip c names b number (length ps)) (held_at_tip d names b number' (length qs)) held in
      let u = falling-same (held_at_tip c names b number (length ps)) (held_at_tip d names b number' (length qs)) held in
      λ i. record {
        name = name names (ew i);
        params = slot_param d names b (codes "htn_d") ∷ slot_param d names b (codes "htn_h") ∷ k i;
        pre = And (t i ++ h i);
        eff = E.And (u i ++ ex i);
      }

  action-printed : (a : ℕ) (x y : ActionSchema) → action_said v x ≡ action_said w y
      → AreSoundParams v (arities c.hddl) x.params → AreSoundParams w (arities d.hddl) y.params → IsSound v (arities c.hddl) x.pre (scope_of c.hddl x.params) → IsSound w (arities d.hddl) y.pre (scope_of d.hddl y.params)
      → IsSoundEffect v (arities c.hddl) x.eff (scope_of c.hddl x.params) → IsSoundEffect w (arities d.hddl) y.eff (scope_of d.hddl y.params)
      → stack_action c names b a x ≡ stack_action d names b a y
  action-printed a x y e sp sq sf sg se sh =
      tip_action-same _ _ _ _ x.params y.params x.pre y.pre _ _ _ _ (ap (λ z. escaped z.0) e) (action-same c d same sc sd apart plans a) (ap (λ z. z.1) e) (ap (λ z. z.2) e) (change x.eff y.eff _ _ (ap (λ z. z.3) e) se sh) sp sq sf sg

  module _ (m : ℕ) (p q : MethodPlan) (a : Alike c d same sc sd apart p q) where
    check-printed : stack_check c names b m p ≡ stack_check d names b m q
    check-printed =
        let e = a.0.schema in
        tip_action-same _ _ _ _ p.schema.params q.schema.params p.schema.pre q.schema.pre [] [] a.1.0.scope a.1.1.scope (ap (λ z. codes "htn_c_" ++ escaped z.0) e) (check-same c d same sc sd apart plans m) (ap (λ z. z.4.0) e) (ap (λ z. z.3) e) refl a.1.0.params a.1.1.params a.1.0.pre a.1.1.pre

    many : length p.schema.children ≡ length q.schema.children
    many = maps-length (child_said v) (child_said w) p.schema.children q.schema.children (ap (λ z. z.4.1) a.0.schema)

    task_is : (front x : ℕ) → task_in c names front x p ≡ task_in d names front x q
    task_is front x =
        let e = a.0.schema in let t = ap (task_predicate c) (ap (λ z. z.1) e) ∙ task-same c d same sc sd apart plans q.schema.task in
        λ i. record { predicate = t i; args = Var x ∷ map (moved names d.hddl.names front) (e i).2 }

    child_is : (front x : ℕ) (s t : Child) → child_said v s ≡ child_said w t → child_in c names front m x s ≡ child_in d names front m x t
    child_is front x s t e = (λ i. child_in c names front m x (record { id = s.id; head = (e i).1; args = s.args })) ∙ go t.head
      where
        go : (f : Head) → child_in c names front m x (record { id = s.id; head = f; args = s.args }) ≡ child_in d names front m x (record { id = t.id; head = f; args = t.args })
        go (Task n) = let k = task-same c d same sc sd apart plans n in λ i. record { predicate = k i; args = Var x ∷ map (moved names d.hddl.names front) (e i).2 }
        go (Action n) = let k = action-same c d same sc sd apart plans n in λ i. record { predicate = k i; args = Var x ∷ map (moved names d.hddl.names front) (e i).2 }
        go Check = let k = check-same c d same sc sd apart plans m in λ i. record { predicate = k i; args = Var x ∷ map (moved names d.hddl.names front) (e i).2 }

    children_are : (front : ℕ) (ns : List ℕ) (xs ys : List Child) → map (child_said v) xs ≡ map (child_said w) ys → children_in c names front m ns xs ≡ children_in d names front m ns ys
    children_are front [] xs ys e = refl
    children_are front (n ∷ ns) [] [] e = refl
    children_are front (n ∷ ns) [] (y ∷ ys) e = absurd (cc)
    children_are front (n ∷ ns) (x ∷ xs) [] e = absurd (cc)
    children_are front (n ∷ ns) (x ∷ xs) (y ∷ ys) e = let f = child_is front n x y (cc) in let g = children_are front ns xs ys (cc) in λ i. f i ∷ g i

    asked-same : (front : ℕ) → asked c names b front p ≡ asked d names b front q
    asked-same front =
        let e = a.0.schema in
        let g = a.0.guards in
        let t = a.0.tested in
        let h = condition front p.schema.pre q.schema.pre a.1.0.scope a.1.1.scope (ap (λ z. z.3) e) a.1.0.pre a.1.1.pre in
        λ i. map (λ (con : Constraint). test con.equal (moved names d.hddl.names front con.left) (moved names d.hddl.names front con.right)) (e i).4.3
        ++ (map (λ (k : Guard). Holds (record { predicate = guard-same c d same sc sd apart plans k.ty i; args = moved names d.hddl.names front k.term ∷ [] })) (g i)
        ++ cond (t i) (h i) [])

    params-same : (n : ℕ) → method_params c names b m p n ≡ method_params d names b m q n
    params-same n = go n (params-printed c.hddl d.hddl same sc sd apart names p.schema.params q.schema.params (ap (λ z. z.4.0) a.0.schema) a.1.0.params.0 a.1.1.params.0)
      where
        go : (n : ℕ) → map (source_param names c.hddl.names) p.schema.params ≡ map (source_param names d.hddl.names) q.schema.params → method_params c names b m p n ≡ method_params d names b m q n
        go zero k = λ i. slot_param d names b (codes "htn_d") ∷ slot_param d names b (codes "htn_h") ∷ k i
        go (suc n) k = λ i. slot_param d names b (codes "htn_h") ∷ map (λ u. slot_param d names b (codes "htn_h" ++ decimal u)) (numbers 1 n) ++ k i

    rising-same : (n : ℕ) → rising c names b n ≡ rising d names b n
    rising-same zero = refl
    rising-same (suc n) = let t = up-same c d same sc sd apart plans in λ i. map (λ k. Holds (record { predicate = t i; args = Var k ∷ Var (suc k) ∷ [] })) (numbers 0 n)

    pre-same : (n : ℕ) → method_pre c names b m p n ≡ method_pre d names b m q n
    pre-same zero = let h = at_tip-same (task_in c names 2 1 p) (task_in d names 2 1 q) (task_is 2 1) in let k = asked-same 2 in λ i. h i ++ k i
    pre-same (suc n) = let h = task_is (suc n) 0 in let t = tip_is 0 in let r = rising-same (suc n) in let k = asked-same (suc n) in λ i. Holds (h i) ∷ Holds (t i) ∷ r i ++ k i

    climbing-same : (n : ℕ) → climbing c names b n ≡ climbing d names b n
    climbing-same zero = refl
    climbing-same (suc n) = let t = tip_is 0 in let u = tip_is (suc n) in λ i. E.Delete (t i) ∷ E.Add (u i) ∷ []

    eff-same : (n : ℕ) → method_eff c names b m p n ≡ method_eff d names b m q n
    eff-same zero = falling-same (task_in c names 2 1 p) (task_in d names 2 1 q) (task_is 2 1)
    eff-same (suc n) =
        let l = a.0.line in let x = many in
        let cells : child_cells c names b p ≡ child_cells d names b q = (λ i. map (behind (l i)) (numbers 0 (x i))) in
        let k = ap (λ z. children_in c names (suc n) m z p.schema.children) cells ∙ children_are (suc n) (child_cells d names b q) p.schema.children q.schema.children (ap (λ z. z.4.1) a.0.schema) in
        let h = task_is (suc n) 0 in
        let u = climbing-same n in
        λ i. E.Delete (h i) ∷ map E.Add (k i) ++ u i

  word-same : (m : ℕ) (p q : MethodPlan) → Alike c d same sc sd apart p q → method_word c names b m p m ≡ method_word d names b m q m
  word-same zero p q a = refl
  word-same (suc m) p q a = ap (λ z. codes "htn_m_" ++ escaped z.0) a.0.schema

  method-printed : (m : ℕ) (p q : MethodPlan) → Alike c d same sc sd apart p q → stack_method c names b m p ≡ stack_method d names b m q
  method-printed m p q a =
      let n = word-same m p q a in
      let l = many m p q a in
      let ps = ap (method_params c names b m p) l ∙ params-same m p q a (length q.schema.children) in
      let f = ap (method_pre c names b m p) l ∙ pre-same m p q a (length q.schema.children) in
      let g = ap (method_eff c names b m p) l ∙ eff-same m p q a (length q.schema.children) in
      λ i. record { name = name names (n i); params = ps i; pre = And (f i); eff = E.And (g i) }

  methods-printed : (m : ℕ) (ps qs : List MethodPlan) → Together (Alike c d same sc sd apart) ps qs → stack_methods c names b m ps ≡ stack_methods d names b m qs
  methods-printed m [] [] e = refl
  methods-printed m [] (q ∷ qs) e = absurd e
  methods-printed m (p ∷ ps) [] e = absurd e
  methods-printed m (p ∷ ps) (q ∷ qs) e = let f = method-printed m p q e.0 in let g = methods-printed (suc m) ps qs e.1 in λ i. f i ∷ g i

  checks-printed : (m : ℕ) (ps qs : List MethodPlan) → Together (Alike c d same sc sd apart) ps qs → stack_checks c names b m ps ≡ stack_checks d names b m qs
  checks-printed m [] [] e = refl
  checks-printed m [] (q ∷ qs) e = absurd e
  checks-printed m (p ∷ ps) [] e = absurd e
  checks-printed m (p ∷ ps) (q ∷ qs) e = let f = check-printed m p q e.0 in let g = checks-printed (suc m) ps qs e.1 in let h = e.0.0.checked in λ i. cond (h i) (f i ∷ g i) (g i)

  source-printed : (a : ℕ) (xs ys : List ActionSchema) → Together (λ x y. action_said v x ≡ action_said w y) xs ys
      → EachIs (λ (x : ActionSchema). AreSoundParams v (arities c.hddl) x.params) xs → EachIs (λ (y : ActionSchema). AreSoundParams w (arities d.hddl) y.params) ys
      → EachIs (λ (x : ActionSchema). IsSound v (arities c.hddl) x.pre (scope_of c.hddl x.params)) xs → EachIs (λ (y : ActionSchema). IsSound w (arities d.hddl) y.pre (scope_of d.hddl y.params)) ys
      → EachIs (λ (x : ActionSchema). IsSoundEffect v (arities c.hddl) x.eff (scope_of c.hddl x.params)) xs → EachIs (λ (y : ActionSchema). IsSoundEffect w (arities d.hddl) y.eff (scope_of d.hddl y.params)) ys
      → stack_source c names b a xs ≡ stack_source d names b a ys
  source-printed a [] [] e sp sq sf sg se sh = refl
  source-printed a [] (y ∷ ys) e sp sq sf sg se sh = absurd e
  source-printed a (x ∷ xs) [] e sp sq sf sg se sh = absurd e
  source-printed a (x ∷ xs) (y ∷ ys) e sp sq sf sg se sh =
      let f = action-printed a x y e.0 sp.0 sq.0 sf.0 sg.0 se.0 sh.0 in
      let g = source-printed (suc a) xs ys e.1 sp.1 sq.1 sf.1 sg.1 se.1 sh.1 in
      λ i. f i ∷ g i

  pub actions-printed : stack_actions c names b ≡ stack_actions d names b
  actions-printed =
      let f = methods-printed 0 c.methods d.methods plans in
      let g = checks-printed 0 c.methods d.methods plans in
      let h = source-printed 0 c.hddl.actions d.hddl.actions (together-of_maps (action_said v) (action_said w) c.hddl.actions d.hddl.actions same.alike.actions) sc.action_params sd.action_params sc.pre sd.pre sc.eff sd.eff in
      λ i. f i ++ g i ++ h i
