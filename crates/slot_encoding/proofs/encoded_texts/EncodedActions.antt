-- What is encoded of a compiled value over two tables that have all its words says the same: actions and goal.
use Rattle.std.proofs.Common.{ℕ, zero, suc, ◌≡◌, ◌-◌, Bool, true, false, cond, List, [], ◌∷◌, ◌++◌, map, filter, length, slice_index, codes, decimal, refl, sym, subst}
use Rattle.text_forms.specs.Words.{Word}
use Rattle.plan_model.specs.declared.options.Style.{Style}
use Rattle.plan_model.specs.declared.terms.Atom.{Atom}
use Rattle.plan_model.specs.declared.terms.Term.{Term}
use Rattle.plan_model.specs.declared.terms.Term.TheVariants.{Var}
use Rattle.plan_model.specs.declared.terms.Param.{Param}
use Rattle.plan_model.specs.declared.networks.Child.{Child}
use Rattle.plan_model.specs.declared.networks.Constraint.{Constraint}
use Rattle.plan_model.specs.declared.networks.Guard.{Guard}
use Rattle.plan_model.specs.declared.networks.Pair.{Pair}
use Rattle.plan_model.specs.declared.formulas.Formula.{Formula}
use Rattle.plan_model.specs.declared.formulas.Formula.TheVariants.{Holds, Equal, Not, And}
use Rattle.plan_model.specs.declared.effects.Effect.{Effect}
use Rattle.plan_model.specs.declared.effects.Effect.TheVariants as E
use Rattle.plan_model.specs.declared.schemas.ActionSchema.{ActionSchema}
use Rattle.plan_model.specs.declared.schemas.MethodPlan.{MethodPlan}
use Rattle.plan_model.specs.declared.values.Compiled.{Compiled}
use Rattle.plan_model.specs.task_networks.Spelling.{numbers}
use Rattle.plan_texts.specs.Declared.{Declared}
use Rattle.plan_texts.specs.Types.{Has, EachIs}
use Rattle.plan_texts.specs.Said.{said}
use Rattle.plan_texts.specs.Alike.{action_said}
use Rattle.plan_texts.specs.Together.{Together}
use Rattle.plan_texts.proofs.Together.{together-maps}
use Rattle.slot_encoding.specs.SourceParts.{name, source_param, moved}
use Rattle.order_encoder.specs.OrderFormulas.{pair_of, copy_parts, free_parts}
use Rattle.slot_encoding.specs.EncodedNames.{joined, free_predicate, action_predicate, check_predicate, guard_predicate, slot_param, order_numbers}
use Rattle.slot_encoding.specs.EncodedActions.{is_empty, is_empty_effect, is_free, differ, test, source_condition, source_change, freeing, waiting, held_work, work_action, encoded_check, spare, front, depth, children_slots, held_task, child_atom, child_atoms, constraints, guards, tested, method_pre, splitting, method_eff, method_word, encoded_method}
use Rattle.slot_encoding.specs.EncodedValue.{encoded_methods, encoded_checks, encoded_source, encoded_actions}
use Rattle.slot_encoding.specs.EncodedWords.{param_words, formula_words, effect_words, own_word, method_words, HasEncodedWords}
use Rattle.slot_encoding.specs.EncodedWords as W
use Rattle.slot_encoding.proofs.places.Splitting.{frees, kids, links, copies_of, splitting_parts}
use Rattle.slot_encoding.proofs.words.Lists.{each-left, each-right}
use Rattle.slot_encoding.proofs.words.KnownMethods.{IsKnownMethod, of_first}
use Rattle.slot_encoding.proofs.words.KnownWords.{known_goal, known_methods, known_checks, known_source_actions}
use Rattle.slot_encoding.proofs.words.PrintedWords.{printed_words}
use Rattle.slot_encoding.proofs.encoded_texts.SaidAlike.{together-made, together-join, together-cond, SameParam, SameFormula, SameEffect, params-same, same-Holds, same-Equal, same-Not, same-And, same-Add, same-Delete, same-Both}
use Rattle.slot_encoding.proofs.encoded_texts.SourceSaid.{source_params-same, formula-same, effect-same}
use Rattle.slot_encoding.proofs.encoded_texts.EncodedParts.{kinds-same, word, slot_h, numbered-same, waits-same, clears-same, copies-same, frees-same}

module _ (c : Compiled) (b : ℕ) (style : Style) (names names' : List Word) (has : HasEncodedWords c b names) (has' : HasEncodedWords c b names') where
  abbrev v : Declared
  v = printed_words c names b

  abbrev w : Declared
  w = printed_words c names' b

  abbrev InBoth : List Word → Type 0
  InBoth ws = EachIs (Has names) ws × EachIs (Has names') ws

  abbrev AreSame : List Formula → List Formula → Type 0
  AreSame = Together (SameFormula v w)

  abbrev AreSameEffects : List Effect → List Effect → Type 0
  AreSameEffects = Together (SameEffect v w)

  abbrev SameAction : ActionSchema → ActionSchema → Type 0
  SameAction x y = action_said v x ≡ action_said w y

  -- conditions and changes of the source
  condition-same : (at : ℕ) (f : Formula) → InBoth (formula_words c.hddl.names f) → AreSame (source_condition c names b style at f) (source_condition c names' b style at f)
  condition-same at f k = together-cond (SameFormula v w) (is_empty f) [] _ [] _ tt (formula-same v w (kinds-same c b names names' has has') c.hddl.names at f k, tt)

  change-same : (at : ℕ) (e : Effect) → InBoth (effect_words c.hddl.names e) → AreSameEffects (source_change c names b style at e) (source_change c names' b style at e)
  change-same at e k = together-cond (SameEffect v w) (is_empty_effect e) [] _ [] _ tt (effect-same v w (kinds-same c b names names' has has') c.hddl.names at e k, tt)

  freeing-same : (held : Atom) (at : ℕ) → AreSameEffects (freeing c names b style held at) (freeing c names' b style held at)
  freeing-same held at = (same-Delete v w held, (same-Add v w (is_free c names b style 0), clears-same c b names names' has has' at style (Var 0)))

  action-same : (u : Word) (xs ys : List Param) (fs gs : List Formula) (es ds : List Effect) → Has names u → Has names' u → Together (SameParam v w) xs ys → AreSame fs gs → AreSameEffects es ds
      → SameAction (record { name = name names u; params = xs; pre = And fs; eff = E.And es }) (record { name = name names' u; params = ys; pre = And gs; eff = E.And ds })
  action-same u xs ys fs gs es ds h k p f e =
      let a = word c b names names' has has' u h k in
      let q = params-same v w xs ys p in
      let r = same-And v w fs gs f in
      let s = same-Both v w es ds e in
      λ i. (a i, q i, r i, s i)

  work-same : (u : Word) (predicate : ℕ) (params : List Param) (pre : Formula) (es ds : List Effect) → Has names u → Has names' u → InBoth (param_words c.hddl.names params) → InBoth (formula_words c.hddl.names pre) → AreSameEffects es ds
      → SameAction (work_action c names b style u predicate params pre es) (work_action c names' b style u predicate params pre ds)
  work-same u predicate params pre es ds h k p f e =
      let at = suc (length params) in
      let held = held_work c names b style predicate (length params) in
      action-same u
      (slot_param c names b (codes "htn_h") ∷ map (source_param names c.hddl.names) params)
      (slot_param c names' b (codes "htn_h") ∷ map (source_param names' c.hddl.names) params)
      (Holds held ∷ waiting c names b style at ++ source_condition c names b style 1 pre)
      (Holds held ∷ waiting c names' b style at ++ source_condition c names' b style 1 pre)
      (freeing c names b style held at ++ es)
      (freeing c names' b style held at ++ ds) h k
      (slot_h c b names names' has has', source_params-same v w (kinds-same c b names names' has has') c.hddl.names params p)
      (same-Holds v w held, together-join (SameFormula v w) (waiting c names b style at) (source_condition c names b style 1 pre) (waiting c names' b style at) (source_condition c names' b style 1 pre) (waits-same c b names names' has has' at style (Var 0)) (condition-same 1 pre f))
      (together-join (SameEffect v w) (freeing c names b style held at) es (freeing c names' b style held at) ds (freeing-same held at) e)

  -- a method
  module _ (m : ℕ) (plan : MethodPlan) (k : IsKnownMethod c names m plan) (k' : IsKnownMethod c names' m plan) where
    abbrev at : ℕ
    at = depth c names b style m plan

    test-same : (q : Bool) (s t : Term) → said v (test q s t) ≡ said w (test q s t)
    test-same true s t = same-Equal v w s t
    test-same false s t = same-Not v w (Equal s t) (Equal s t) (same-Equal v w s t)

    differ-same : (ks : List ℕ) → AreSame (differ ks) (differ ks)
    differ-same [] = tt
    differ-same (n ∷ ks) =
        let fs = map (λ u. Not (Equal (Var n) (Var u))) ks in
        together-join (SameFormula v w) fs (differ ks) fs (differ ks)
        (together-made (SameFormula v w) (λ u. Not (Equal (Var n) (Var u))) (λ u. Not (Equal (Var n) (Var u))) ks (λ u h. same-Not v w (Equal (Var n) (Var u)) (Equal (Var n) (Var u)) (same-Equal v w (Var n) (Var u))))
        (differ-same ks)

    free-same : AreSame (map (λ u. Holds (is_free c names b style u)) (numbers 1 (spare c names b style m plan))) (map (λ u. Holds (is_free c names' b style u)) (numbers 1 (spare c names' b style m plan)))
    free-same = together-made (SameFormula v w) (λ u. Holds (is_free c names b style u)) (λ u. Holds (is_free c names' b style u)) (numbers 1 (spare c names b style m plan)) (λ u h. same-Holds v w (is_free c names b style u))

    constraints-same : AreSame (constraints c names b style m plan) (constraints c names' b style m plan)
    constraints-same = go plan.schema.constraints
      where
        of : List Word → Constraint → Formula
        of ns con = test con.equal (moved ns c.hddl.names (front c ns b style m plan) con.left) (moved ns c.hddl.names (front c ns b style m plan) con.right)

        go : (cons : List Constraint) → AreSame (map (of names) cons) (map (of names') cons)
        go cons = together-made (SameFormula v w) (of names) (of names') cons (λ con h. test-same con.equal _ _)

    guards-same : AreSame (guards c names b style m plan) (guards c names' b style m plan)
    guards-same = go plan.guards
      where
        of : List Word → Guard → Formula
        of ns g = Holds (record { predicate = guard_predicate c g.ty; args = moved ns c.hddl.names (front c ns b style m plan) g.term ∷ [] })

        go : (gs : List Guard) → AreSame (map (of names) gs) (map (of names') gs)
        go gs = together-made (SameFormula v w) (of names) (of names') gs (λ g h. same-Holds v w (record { predicate = guard_predicate c g.ty; args = moved names c.hddl.names (front c names b style m plan) g.term ∷ [] }))

    tested-same : AreSame (tested c names b style m plan) (tested c names' b style m plan)
    tested-same = together-cond (SameFormula v w) plan.tested (source_condition c names b style (front c names b style m plan) plan.schema.pre) [] (source_condition c names' b style (front c names b style m plan) plan.schema.pre) []
        (condition-same (front c names b style m plan) plan.schema.pre (k.pre, k'.pre)) tt

    pub pre-same : Together (SameFormula (printed_words c names b) (printed_words c names' b)) (method_pre c names b style m plan) (method_pre c names' b style m plan)
    pre-same =
        let fs = map (λ u. Holds (is_free c names b style u)) (numbers 1 (spare c names b style m plan)) in
        let fs' = map (λ u. Holds (is_free c names' b style u)) (numbers 1 (spare c names' b style m plan)) in
        let ds = differ (numbers 1 (spare c names b style m plan)) in
        let cs = constraints c names b style m plan in let cs' = constraints c names' b style m plan in
        let gs = guards c names b style m plan in let gs' = guards c names' b style m plan in
        let ts = tested c names b style m plan in let ts' = tested c names' b style m plan in
        together-join (SameFormula v w) (Holds (held_task c names b style m plan) ∷ waiting c names b style at) (fs ++ (ds ++ (cs ++ (gs ++ ts))))
        (Holds (held_task c names' b style m plan) ∷ waiting c names' b style at) (fs' ++ (ds ++ (cs' ++ (gs' ++ ts'))))
        (same-Holds v w (held_task c names b style m plan), waits-same c b names names' has has' at style (Var 0))
        (together-join (SameFormula v w) fs (ds ++ (cs ++ (gs ++ ts))) fs' (ds ++ (cs' ++ (gs' ++ ts'))) free-same
        (together-join (SameFormula v w) ds (cs ++ (gs ++ ts)) ds (cs' ++ (gs' ++ ts')) (differ-same (numbers 1 (spare c names b style m plan)))
        (together-join (SameFormula v w) cs (gs ++ ts) cs' (gs' ++ ts') constraints-same (together-join (SameFormula v w) gs ts gs' ts' guards-same tested-same))))

    kids-same : (ks : List ℕ) (children : List Child) → AreSameEffects (map E.Add (child_atoms c names b style m plan ks children)) (map E.Add (child_atoms c names' b style m plan ks children))
    kids-same [] children = tt
    kids-same (n ∷ ks) [] = tt
    kids-same (n ∷ ks) (x ∷ children) = (same-Add v w (child_atom c names b style m plan n x), kids-same ks children)

    links-same : AreSameEffects (links c names b style m plan) (links c names' b style m plan)
    links-same = go plan.schema.pairs
      where
        of : List Word → Pair → Effect
        of ns p = E.Add (pair_of (order_numbers c ns b) b (Var (slice_index (children_slots c ns b style m plan) p.first)) (Var (slice_index (children_slots c ns b style m plan) p.then)))

        go : (ps : List Pair) → AreSameEffects (map (of names) ps) (map (of names') ps)
        go ps = together-made (SameEffect v w) (of names) (of names') ps (λ p h. same-Add v w (pair_of (order_numbers c names b) b (Var (slice_index (children_slots c names b style m plan) p.first)) (Var (slice_index (children_slots c names b style m plan) p.then))))

    copied-same : (ks : List ℕ) → AreSameEffects (copies_of c names b style m plan ks) (copies_of c names' b style m plan ks)
    copied-same [] = tt
    copied-same (n ∷ ks) =
        let t = Var (slice_index (children_slots c names b style m plan) n) in
        together-join (SameEffect v w) (copy_parts (order_numbers c names b) b at style (Var 0) t) (copies_of c names b style m plan ks) (copy_parts (order_numbers c names' b) b at style (Var 0) t) (copies_of c names' b style m plan ks)
        (copies-same c b names names' has has' at style (Var 0) t) (copied-same ks)

    freed-same : AreSameEffects (frees c names b style m plan) (frees c names' b style m plan)
    freed-same = together-made (SameEffect v w) (λ u. E.Delete (is_free c names b style u)) (λ u. E.Delete (is_free c names' b style u)) (numbers 1 (spare c names b style m plan)) (λ u h. same-Delete v w (is_free c names b style u))

    splitting-same : AreSameEffects (splitting c names b style m plan) (splitting c names' b style m plan)
    splitting-same =
        let fs = frees c names b style m plan in let fs' = frees c names' b style m plan in
        let ks = kids c names b style m plan in let ks' = kids c names' b style m plan in
        let ls = links c names b style m plan in let ls' = links c names' b style m plan in
        let cs = copies_of c names b style m plan plan.copiers in let cs' = copies_of c names' b style m plan plan.copiers in
        subst (λ z. AreSameEffects z (splitting c names' b style m plan)) (sym (splitting_parts c names b style m plan))
        (subst (AreSameEffects (E.Delete (held_task c names b style m plan) ∷ fs ++ (ks ++ (ls ++ cs)))) (sym (splitting_parts c names' b style m plan)) (
          same-Delete v w (held_task c names b style m plan),
          together-join (SameEffect v w) fs (ks ++ (ls ++ cs)) fs' (ks' ++ (ls' ++ cs')) freed-same
              (together-join (SameEffect v w) ks (ls ++ cs) ks' (ls' ++ cs') (kids-same (children_slots c names b style m plan) plan.schema.children)
              (together-join (SameEffect v w) ls cs ls' cs' links-same (copied-same plan.copiers))),
        ))

    eff-same : (children : List Child) → AreSameEffects (method_eff c names b style m plan children) (method_eff c names' b style m plan children)
    eff-same [] = freeing-same (held_task c names b style m plan) at
    eff-same (x ∷ children) = splitting-same

    same_word : (n : ℕ) → method_word c names b style m plan n ≡ W.method_word c n plan.schema.name
    same_word zero = refl
    same_word (suc n) = refl

    pub method-same : action_said (printed_words c names b) (encoded_method c names b style m plan) ≡ action_said (printed_words c names' b) (encoded_method c names' b style m plan)
    method-same =
        let u = method_word c names b style m plan m in
        let ns = numbers 1 (spare c names b style m plan) in
        let news = map (λ n. slot_param c names b (codes "htn_h" ++ decimal n)) ns in
        let news' = map (λ n. slot_param c names' b (codes "htn_h" ++ decimal n)) ns in
        let ps = map (source_param names c.hddl.names) plan.schema.params in
        let ps' = map (source_param names' c.hddl.names) plan.schema.params in
        action-same u (slot_param c names b (codes "htn_h") ∷ news ++ ps) (slot_param c names' b (codes "htn_h") ∷ news' ++ ps')
        (method_pre c names b style m plan) (method_pre c names' b style m plan) (method_eff c names b style m plan plan.schema.children) (method_eff c names' b style m plan plan.schema.children)
        (subst (Has names) (sym (same_word m)) k.word) (subst (Has names') (sym (same_word m)) k'.word)
        (slot_h c b names names' has has', together-join (SameParam v w) news ps news' ps' (numbered-same c b names names' has has' (codes "htn_h") 1 ns (k.slots, k'.slots)) (source_params-same v w (kinds-same c b names names' has has') c.hddl.names plan.schema.params (k.params, k'.params)))
        pre-same (eff-same plan.schema.children)

  methods-same : (m : ℕ) (plans : List MethodPlan) → InBoth (method_words c m plans) → Together SameAction (encoded_methods c names b style m plans) (encoded_methods c names' b style m plans)
  methods-same m [] k = tt
  methods-same m (plan ∷ plans) k =
      let first = W.method_word c m plan.schema.name ∷ W.numbered (codes "htn_h") (length plan.schema.children - 1) ++ param_words c.hddl.names plan.schema.params ++ formula_words c.hddl.names plan.schema.pre in
      let rest = method_words c (suc m) plans in
      (method-same m plan (of_first c names m plan rest k.0) (of_first c names' m plan rest k.1), methods-same (suc m) plans (each-right (Has names) first rest k.0, each-right (Has names') first rest k.1))

  abbrev check_word : MethodPlan → Word
  check_word plan = codes "htn_c_" ++ own_word c plan.schema.name

  -- the words of parameters and precondition of each method
  abbrev IsKnown : MethodPlan → Type 0
  IsKnown plan = InBoth (param_words c.hddl.names plan.schema.params) × InBoth (formula_words c.hddl.names plan.schema.pre)

  all_known : (m : ℕ) (plans : List MethodPlan) → InBoth (method_words c m plans) → EachIs IsKnown plans
  all_known m [] k = tt
  all_known m (plan ∷ plans) k =
      let first = W.method_word c m plan.schema.name ∷ W.numbered (codes "htn_h") (length plan.schema.children - 1) ++ param_words c.hddl.names plan.schema.params ++ formula_words c.hddl.names plan.schema.pre in
      let rest = method_words c (suc m) plans in
      let a = of_first c names m plan rest k.0 in let d = of_first c names' m plan rest k.1 in
      (((a.params, d.params), (a.pre, d.pre)), all_known (suc m) plans (each-right (Has names) first rest k.0, each-right (Has names') first rest k.1))

  checks-same : (m : ℕ) (plans : List MethodPlan) → EachIs IsKnown plans → InBoth (map check_word (filter (λ (plan : MethodPlan). plan.checked) plans))
      → Together SameAction (encoded_checks c names b style m plans) (encoded_checks c names' b style m plans)
  checks-same m [] k h = tt
  checks-same m (plan ∷ plans) k h = go plan.checked h (checks-same (suc m) plans k.1)
    where
      rest : List MethodPlan
      rest = filter (λ (plan : MethodPlan). plan.checked) plans

      go : (t : Bool) → InBoth (map check_word (cond t (plan ∷ rest) rest)) → (InBoth (map check_word rest) → Together SameAction (encoded_checks c names b style (suc m) plans) (encoded_checks c names' b style (suc m) plans))
          → Together SameAction (cond t (encoded_check c names b style m plan ∷ encoded_checks c names b style (suc m) plans) (encoded_checks c names b style (suc m) plans)) (cond t (encoded_check c names' b style m plan ∷ encoded_checks c names' b style (suc m) plans) (encoded_checks c names' b style (suc m) plans))
      go true h r = (work-same (check_word plan) (check_predicate c m) plan.schema.params plan.schema.pre [] [] h.0.0 h.1.0 k.0.0 k.0.1 tt, r (h.0.1, h.1.1))
      go false h r = r h

  abbrev words_of_action : ActionSchema → List Word
  words_of_action s = own_word c s.name ∷ param_words c.hddl.names s.params ++ formula_words c.hddl.names s.pre ++ effect_words c.hddl.names s.eff

  sources-same : (a : ℕ) (ss : List ActionSchema) → InBoth (joined (map words_of_action ss)) → Together SameAction (encoded_source c names b style a ss) (encoded_source c names' b style a ss)
  sources-same a [] k = tt
  sources-same a (s ∷ ss) k =
      let rest = joined (map words_of_action ss) in
      let l = each-left (Has names) (words_of_action s) rest k.0 in let l' = each-left (Has names') (words_of_action s) rest k.1 in
      let ps = param_words c.hddl.names s.params in let fs = formula_words c.hddl.names s.pre in let es = effect_words c.hddl.names s.eff in
      let q = each-left (Has names) (ps ++ fs) es l.1 in let q' = each-left (Has names') (ps ++ fs) es l'.1 in (
        work-same (own_word c s.name) (action_predicate c a) s.params s.pre (source_change c names b style 1 s.eff) (source_change c names' b style 1 s.eff) l.0 l'.0
            (each-left (Has names) ps fs q, each-left (Has names') ps fs q') (each-right (Has names) ps fs q, each-right (Has names') ps fs q')
            (change-same 1 s.eff (each-right (Has names) (ps ++ fs) es l.1, each-right (Has names') (ps ++ fs) es l'.1)),
        sources-same (suc a) ss (each-right (Has names) (words_of_action s) rest k.0, each-right (Has names') (words_of_action s) rest k.1),
      )

  -- what is known of the words of each method
  methods_known : InBoth (method_words c 0 c.methods)
  methods_known = (known_methods c b names has, known_methods c b names' has')

  pub checks-together : Together (λ x y. action_said (printed_words c names b) x ≡ action_said (printed_words c names' b) y) (encoded_checks c names b style 0 c.methods) (encoded_checks c names' b style 0 c.methods)
  checks-together = checks-same 0 c.methods (all_known 0 c.methods methods_known) (known_checks c b names has, known_checks c b names' has')

  pub sources-together : Together (λ x y. action_said (printed_words c names b) x ≡ action_said (printed_words c names' b) y) (encoded_source c names b style 0 c.hddl.actions) (encoded_source c names' b style 0 c.hddl.actions)
  sources-together = sources-same 0 c.hddl.actions (known_source_actions c b names has, known_source_actions c b names' has')

  pub actions-said : map (action_said (printed_words c names b)) (encoded_actions c names b style) ≡ map (action_said (printed_words c names' b)) (encoded_actions c names' b style)
  actions-said =
      let ms = encoded_methods c names b style 0 c.methods in let ms' = encoded_methods c names' b style 0 c.methods in
      let cs = encoded_checks c names b style 0 c.methods in let cs' = encoded_checks c names' b style 0 c.methods in
      let ss = encoded_source c names b style 0 c.hddl.actions in let ss' = encoded_source c names' b style 0 c.hddl.actions in
      together-maps (action_said v) (action_said w) SameAction (λ x y e. e) (encoded_actions c names b style) (encoded_actions c names' b style)
      (together-join SameAction (ms ++ cs) ss (ms' ++ cs') ss'
      (together-join SameAction ms cs ms' cs' (methods-same 0 c.methods methods_known) checks-together)
      sources-together)

  pub goal-said : said (printed_words c names b) (And (source_condition c names b style 0 c.hddl.goal ++ free_parts (order_numbers c names b) b 0 style (free_predicate c)))
      ≡ said (printed_words c names' b) (And (source_condition c names' b style 0 c.hddl.goal ++ free_parts (order_numbers c names' b) b 0 style (free_predicate c)))
  goal-said =
      let fs = source_condition c names b style 0 c.hddl.goal in let gs = free_parts (order_numbers c names b) b 0 style (free_predicate c) in
      let fs' = source_condition c names' b style 0 c.hddl.goal in let gs' = free_parts (order_numbers c names' b) b 0 style (free_predicate c) in
      same-And v w (fs ++ gs) (fs' ++ gs') (together-join (SameFormula v w) fs gs fs' gs' (condition-same 0 c.hddl.goal (known_goal c b names has, known_goal c b names' has')) (frees-same c b names names' has has' 0 style (free_predicate c)))
