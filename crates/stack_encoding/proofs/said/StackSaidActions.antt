-- The value of a stack over two tables that have all its words says the same: actions and goal.
use Rattle.std.proofs.Common.{ℕ, zero, suc, ◌≡◌, ◌-◌, Bool, true, false, List, [], ◌∷◌, ◌++◌, map, length, slice_get, Some, codes, decimal, ap, sym, subst, ◌∙◌, arith}
use Rattle.text_forms.specs.Words.{Word}
use Rattle.plan_model.specs.declared.terms.Atom.{Atom}
use Rattle.plan_model.specs.declared.terms.Term.{Term}
use Rattle.plan_model.specs.declared.terms.Param.{Param}
use Rattle.plan_model.specs.declared.networks.Child.{Child}
use Rattle.plan_model.specs.declared.networks.Constraint.{Constraint}
use Rattle.plan_model.specs.declared.networks.Guard.{Guard}
use Rattle.plan_model.specs.declared.formulas.Formula.{Formula}
use Rattle.plan_model.specs.declared.formulas.Formula.TheVariants.{Holds, Equal, And}
use Rattle.plan_model.specs.declared.effects.Effect.{Effect}
use Rattle.plan_model.specs.declared.effects.Effect.TheVariants as E
use Rattle.plan_model.specs.declared.schemas.ActionSchema.{ActionSchema}
use Rattle.plan_model.specs.declared.schemas.MethodPlan.{MethodPlan}
use Rattle.plan_model.specs.declared.values.Compiled.{Compiled}
use Rattle.plan_model.specs.task_networks.Spelling.{numbers}
use Rattle.plan_texts.specs.Declared.{Declared}
use Rattle.plan_texts.specs.Types.{Has, EachIs}
use Rattle.plan_texts.specs.Said.{said}
use Rattle.plan_texts.specs.Alike.{action_said}
use Rattle.plan_texts.specs.Together.{Together}
use Rattle.plan_texts.proofs.Together.{together-maps}
use Rattle.slot_encoding.specs.SourceParts.{name, source_param, moved}
use Rattle.slot_encoding.specs.EncodedNames.{action_predicate, check_predicate, guard_predicate, slot_param}
use Rattle.slot_encoding.specs.EncodedWords.{param_words, formula_words, effect_words, own_word, numbered}
use Rattle.slot_encoding.specs.MethodParts.{is_empty, is_empty_effect, test, condition_part, change_part, task_in, child_in, children_in, constraint_parts, guard_parts, tested_part}
use Rattle.slot_encoding.proofs.encoded_texts.SaidAlike.{together-made, together-join, together-cond, SameParam, SameFormula, SameEffect, params-same, same-Holds, same-Equal, same-Not, same-And, same-Add, same-Delete, same-Both}
use Rattle.slot_encoding.proofs.encoded_texts.SourceSaid.{source_params-same, formula-same, effect-same}
use Rattle.slot_encoding.proofs.places.Predicates.{is_checked}
use Rattle.slot_encoding.proofs.words.KnownMethods.{IsKnownMethod}
use Rattle.stack_encoding.specs.StackActions.{is_tip, is_up, at_tip, falling, falling_params, held_at_tip, tip_action, stack_action, stack_check, asked, rising, child_cells, climbing, method_params, method_pre, method_eff, method_word, stack_method}
use Rattle.stack_encoding.specs.StackValue.{stack_actions}
use Rattle.stack_encoding.proofs.StackOver.{nothing_left}
use Rattle.stack_encoding.proofs.places.NumberedPlaces.{numbered as numbered_by, passing, together-from_zero, passing-from_zero}
use Rattle.stack_encoding.proofs.places.StackPlaces.{actions-numbered}
use Rattle.stack_encoding.proofs.words.FewCells.{known_plan}
use Rattle.stack_encoding.proofs.words.KnownEach.{known_check, known_action}
use Rattle.stack_encoding.proofs.words.KnownParts.{AreKnown, check_word}
use Rattle.stack_encoding.proofs.words.StackActionNames.{method_word-same}
use Rattle.stack_encoding.proofs.words.StackDeclared.{stack_declared}
use Rattle.stack_encoding.proofs.said.StackSaidParts.{kinds-same, word, cell_h, cell_d, numbered-same}

module _ (c : Compiled) (b : ℕ) (names names' : List Word) (known : AreKnown c b names) (known' : AreKnown c b names') where
  abbrev v : Declared
  v = stack_declared c names b

  abbrev w : Declared
  w = stack_declared c names' b

  abbrev InBoth : List Word → Type 0
  InBoth ws = EachIs (Has names) ws × EachIs (Has names') ws

  abbrev Formulas : List Formula → List Formula → Type 0
  Formulas = Together (SameFormula v w)

  abbrev Effects : List Effect → List Effect → Type 0
  Effects = Together (SameEffect v w)

  abbrev SameAction : ActionSchema → ActionSchema → Type 0
  SameAction x y = action_said v x ≡ action_said w y

  -- what is of the source
  condition-same : (at : ℕ) (f : Formula) → InBoth (formula_words c.hddl.names f) → Formulas (condition_part c names at f) (condition_part c names' at f)
  condition-same at f k =
      let one = formula-same v w (kinds-same c b names names' known known') c.hddl.names at f k in
      together-cond (SameFormula v w) (is_empty f) [] _ [] _ tt (one, tt)

  change-same : (at : ℕ) (e : Effect) → InBoth (effect_words c.hddl.names e) → Effects (change_part c names at e) (change_part c names' at e)
  change-same at e k =
      let one = effect-same v w (kinds-same c b names names' known known') c.hddl.names at e k in
      together-cond (SameEffect v w) (is_empty_effect e) [] _ [] _ tt (one, tt)

  own-same : (params : List Param) → InBoth (param_words c.hddl.names params) → Together (SameParam v w) (map (source_param names c.hddl.names) params) (map (source_param names' c.hddl.names) params)
  own-same params k = source_params-same v w (kinds-same c b names names' known known') c.hddl.names params k

  falling_params-same : (params : List Param) → InBoth (param_words c.hddl.names params) → Together (SameParam v w) (falling_params c names b params) (falling_params c names' b params)
  falling_params-same params k = (cell_d c b names names' known known', (cell_h c b names names' known known', own-same params k))

  -- what is of cells
  at_tip-same : (held : Atom) → Formulas (at_tip c names b held) (at_tip c names' b held)
  at_tip-same held = (same-Holds v w held, (same-Holds v w (is_tip c names b 1), (same-Holds v w (is_up c names b 0 1), tt)))

  falling-same : (held : Atom) → Effects (falling c names b held) (falling c names' b held)
  falling-same held = (same-Delete v w held, (same-Delete v w (is_tip c names b 1), (same-Add v w (is_tip c names b 0), tt)))

  rising-same : (n : ℕ) → Formulas (rising c names b n) (rising c names' b n)
  rising-same zero = tt
  rising-same (suc n) = together-made (SameFormula v w) (λ k. Holds (is_up c names b k (suc k))) (λ k. Holds (is_up c names' b k (suc k))) (numbers 0 n) (λ k h. same-Holds v w (is_up c names b k (suc k)))

  climbing-same : (n : ℕ) → Effects (climbing c names b n) (climbing c names' b n)
  climbing-same zero = tt
  climbing-same (suc n) = (same-Delete v w (is_tip c names b 0), (same-Add v w (is_tip c names b (suc n)), tt))

  made-same : (u : Word) (xs ys : List Param) (fs gs : List Formula) (es ds : List Effect) → Has names u → Has names' u → Together (SameParam v w) xs ys → Formulas fs gs → Effects es ds
      → SameAction (record { name = name names u; params = xs; pre = And fs; eff = E.And es }) (record { name = name names' u; params = ys; pre = And gs; eff = E.And ds })
  made-same u xs ys fs gs es ds h h' p f e =
      let a = word c b names names' known known' u h h' in let q = params-same v w xs ys p in
      let r = same-And v w fs gs f in let s = same-Both v w es ds e in
      λ i. (a i, q i, r i, s i)

  tip_action-same : (u : Word) (predicate : ℕ) (params : List Param) (pre : Formula) (es ds : List Effect) → Has names u → Has names' u → InBoth (param_words c.hddl.names params) → InBoth (formula_words c.hddl.names pre) → Effects es ds
      → SameAction (tip_action c names b u predicate params pre es) (tip_action c names' b u predicate params pre ds)
  tip_action-same u predicate params pre es ds h h' k f e =
      let held = held_at_tip c names b predicate (length params) in
      let fs = at_tip c names b held in let fs' = at_tip c names' b held in
      let gs = falling c names b held in let gs' = falling c names' b held in
      made-same u (falling_params c names b params) (falling_params c names' b params) (fs ++ condition_part c names 2 pre) (fs' ++ condition_part c names' 2 pre) (gs ++ es) (gs' ++ ds) h h' (falling_params-same params k)
      (together-join (SameFormula v w) fs (condition_part c names 2 pre) fs' (condition_part c names' 2 pre) (at_tip-same held) (condition-same 2 pre f))
      (together-join (SameEffect v w) gs es gs' ds (falling-same held) e)

  -- a method
  module _ (m : ℕ) (plan : MethodPlan) (k : IsKnownMethod c names m plan) (k' : IsKnownMethod c names' m plan) where
    test-same : (q : Bool) (s t : Term) → SameFormula v w (test q s t) (test q s t)
    test-same true s t = same-Equal v w s t
    test-same false s t = same-Not v w (Equal s t) (Equal s t) (same-Equal v w s t)

    asked-same : (at : ℕ) → Formulas (asked c names b at plan) (asked c names' b at plan)
    asked-same at =
        let con = λ (ns : List Word) (x : Constraint). test x.equal (moved ns c.hddl.names at x.left) (moved ns c.hddl.names at x.right) in
        let grd = λ (ns : List Word) (g : Guard). Holds (record { predicate = guard_predicate c g.ty; args = moved ns c.hddl.names at g.term ∷ [] }) in
        let cons = together-made (SameFormula v w) (con names) (con names') plan.schema.constraints (λ x h. test-same x.equal (moved names c.hddl.names at x.left) (moved names c.hddl.names at x.right)) in
        let guards = together-made (SameFormula v w) (grd names) (grd names') plan.guards (λ g h. same-Holds v w (record { predicate = guard_predicate c g.ty; args = moved names c.hddl.names at g.term ∷ [] })) in
        let tested = together-cond (SameFormula v w) plan.tested (condition_part c names at plan.schema.pre) [] (condition_part c names' at plan.schema.pre) [] (condition-same at plan.schema.pre (k.pre, k'.pre)) tt in
        together-join (SameFormula v w) (constraint_parts c names at plan) (guard_parts c names at plan ++ tested_part c names at plan) (constraint_parts c names' at plan) (guard_parts c names' at plan ++ tested_part c names' at plan) cons
        (together-join (SameFormula v w) (guard_parts c names at plan) (tested_part c names at plan) (guard_parts c names' at plan) (tested_part c names' at plan) guards tested)

    kids-same : (at : ℕ) (ks : List ℕ) (children : List Child) → Effects (map E.Add (children_in c names at m ks children)) (map E.Add (children_in c names' at m ks children))
    kids-same at [] [] = tt
    kids-same at [] (x ∷ children) = tt
    kids-same at (n ∷ ks) [] = tt
    kids-same at (n ∷ ks) (x ∷ children) = (same-Add v w (child_in c names at m n x), kids-same at ks children)

    method_params-same : (n : ℕ) → InBoth (numbered (codes "htn_h") (n - 1)) → Together (SameParam v w) (method_params c names b m plan n) (method_params c names' b m plan n)
    method_params-same zero h = falling_params-same plan.schema.params (k.params, k'.params)
    method_params-same (suc n) h =
        let less : suc n - 1 ≡ n = omega arith in
        let news = λ (ns : List Word). map (λ j. slot_param c ns b (codes "htn_h" ++ decimal j)) (numbers 1 n) in
        let own = λ (ns : List Word). map (source_param ns c.hddl.names) plan.schema.params in
        let known_cells = subst (λ z. InBoth (numbered (codes "htn_h") z)) less h in
        (cell_h c b names names' known known', together-join (SameParam v w) (news names) (own names) (news names') (own names') (numbered-same c b names names' known known' (codes "htn_h") 1 (numbers 1 n) known_cells.0 known_cells.1) (own-same plan.schema.params (k.params, k'.params)))

    method_pre-same : (n : ℕ) → Formulas (method_pre c names b m plan n) (method_pre c names' b m plan n)
    method_pre-same zero =
        let task = task_in c names 2 1 plan in
        together-join (SameFormula v w) (at_tip c names b task) (asked c names b 2 plan) (at_tip c names' b task) (asked c names' b 2 plan) (at_tip-same task) (asked-same 2)
    method_pre-same (suc n) =
        let task = task_in c names (suc n) 0 plan in
        let front = λ (ns : List Word). Holds task ∷ Holds (is_tip c ns b 0) ∷ rising c ns b (suc n) in
        together-join (SameFormula v w) (front names) (asked c names b (suc n) plan) (front names') (asked c names' b (suc n) plan) (same-Holds v w task, (same-Holds v w (is_tip c names b 0), rising-same (suc n))) (asked-same (suc n))

    method_eff-same : (n : ℕ) → Effects (method_eff c names b m plan n) (method_eff c names' b m plan n)
    method_eff-same zero = falling-same (task_in c names 2 1 plan)
    method_eff-same (suc n) =
        let task = task_in c names (suc n) 0 plan in
        let front = λ (ns : List Word). E.Delete task ∷ map E.Add (children_in c ns (suc n) m (child_cells c ns b plan) plan.schema.children) in
        together-join (SameEffect v w) (front names) (climbing c names b n) (front names') (climbing c names' b n) (same-Delete v w task, kids-same (suc n) (child_cells c names b plan) plan.schema.children) (climbing-same n)

    method-same : SameAction (stack_method c names b m plan) (stack_method c names' b m plan)
    method-same =
        let n = length plan.schema.children in
        let u = method_word c names b m plan m in
        let h = subst (Has names) (sym (method_word-same c names b m plan)) k.word in
        let h' = subst (Has names') (sym (method_word-same c names b m plan)) k'.word in
        made-same u (method_params c names b m plan n) (method_params c names' b m plan n) (method_pre c names b m plan n) (method_pre c names' b m plan n) (method_eff c names b m plan n) (method_eff c names' b m plan n) h h'
        (method_params-same n (k.slots, k'.slots)) (method_pre-same n) (method_eff-same n)

  check-same : (m : ℕ) (plan : MethodPlan) → slice_get c.methods m ≡ Some plan → plan.checked ≡ true → SameAction (stack_check c names b m plan) (stack_check c names' b m plan)
  check-same m plan e t =
      let k = known_plan c b names known m plan e in let k' = known_plan c b names' known' m plan e in
      tip_action-same (check_word c plan) (check_predicate c m) plan.schema.params plan.schema.pre [] [] (known_check c b names known m plan e t) (known_check c b names' known' m plan e t) (k.params, k'.params) (k.pre, k'.pre) tt

  source-same : (n : ℕ) (s : ActionSchema) → slice_get c.hddl.actions n ≡ Some s → SameAction (stack_action c names b n s) (stack_action c names' b n s)
  source-same n s e =
      let k = known_action c b names known n s e in let k' = known_action c b names' known' n s e in
      tip_action-same (own_word c s.name) (action_predicate c n) s.params s.pre (change_part c names 2 s.eff) (change_part c names' 2 s.eff) k.word k'.word (k.params, k'.params) (k.pre, k'.pre) (change-same 2 s.eff (k.eff, k'.eff))

  pub actions-said : map (action_said (stack_declared c names b)) (stack_actions c names b) ≡ map (action_said (stack_declared c names' b)) (stack_actions c names' b)
  actions-said =
      let ms = λ (ns : List Word). numbered_by (stack_method c ns b) 0 c.methods in
      let cs = λ (ns : List Word). passing (stack_check c ns b) is_checked 0 c.methods in
      let ss = λ (ns : List Word). numbered_by (stack_action c ns b) 0 c.hddl.actions in
      let methods = together-from_zero SameAction (stack_method c names b) (stack_method c names' b) c.methods (λ m plan e. method-same m plan (known_plan c b names known m plan e) (known_plan c b names' known' m plan e)) in
      let checks = passing-from_zero SameAction (stack_check c names b) (stack_check c names' b) is_checked c.methods check-same in
      let sources = together-from_zero SameAction (stack_action c names b) (stack_action c names' b) c.hddl.actions source-same in
      let all = together-join SameAction (ms names ++ cs names) (ss names) (ms names' ++ cs names') (ss names') (together-join SameAction (ms names) (cs names) (ms names') (cs names') methods checks) sources in
      ap (map (action_said v)) (actions-numbered c names b)
      ∙ together-maps (action_said v) (action_said w) SameAction (λ x y e. e) (ms names ++ cs names ++ ss names) (ms names' ++ cs names' ++ ss names') all
      ∙ ap (map (action_said w)) (sym (actions-numbered c names' b))

  pub goal-said : said (stack_declared c names b) (And (condition_part c names 0 c.hddl.goal ++ nothing_left c b ∷ [])) ≡ said (stack_declared c names' b) (And (condition_part c names' 0 c.hddl.goal ++ nothing_left c b ∷ []))
  goal-said =
      let left = nothing_left c b ∷ [] in
      same-And v w (condition_part c names 0 c.hddl.goal ++ left) (condition_part c names' 0 c.hddl.goal ++ left)
      (together-join (SameFormula v w) (condition_part c names 0 c.hddl.goal) left (condition_part c names' 0 c.hddl.goal) left (condition-same 0 c.hddl.goal (known.goal, known'.goal)) (same-Holds v w _, tt))
