-- How the actions of the printed problem grow with the number of slots.
use Rattle.std.proofs.Common.{ℕ, suc, ◌≡◌, ◌+◌, ◌≤◌, Bool, true, false, cond, List, [], ◌∷◌, ◌++◌, map, length, slice_index, codes, decimal, refl, ap, ◌∙◌, arith}
use Rattle.std.proofs.lemmas.List.{length-append, map-append}
use Rattle.htn_base.specs.declared.name.Name.{Name}
use Rattle.text_forms.specs.Lists.{Part, Parts, name, group, nothing, part}
use Rattle.text_forms.specs.Words.{Word}
use Rattle.text_forms.specs.Printing.{bytes, bytes_behind, lines}
use Rattle.plan_texts.specs.Declared.{Declared, named, variable}
use Rattle.plan_texts.specs.Printed.{all_parts, params_parts, formula_part, effect_part}
use Rattle.plan_texts.specs.PrintedTexts.{action_part}
use Rattle.plan_texts.specs.Types.{EachIs}
use Rattle.plan_model.specs.declared.options.Style.{Style}
use Rattle.plan_model.specs.declared.terms.Term.{Term}
use Rattle.plan_model.specs.declared.terms.Term.TheVariants.{Var}
use Rattle.plan_model.specs.declared.terms.Atom.{Atom}
use Rattle.plan_model.specs.declared.terms.Param.{Param}
use Rattle.plan_model.specs.declared.networks.Head.{Head}
use Rattle.plan_model.specs.declared.networks.Head.TheVariants.{Task, Action, Check}
use Rattle.plan_model.specs.declared.networks.Child.{Child}
use Rattle.plan_model.specs.declared.networks.Pair.{Pair}
use Rattle.plan_model.specs.declared.networks.Constraint.{Constraint}
use Rattle.plan_model.specs.declared.networks.Guard.{Guard}
use Rattle.plan_model.specs.declared.formulas.Formula.{Formula}
use Rattle.plan_model.specs.declared.formulas.Formula.TheVariants.{Holds, Equal, Not, And}
use Rattle.plan_model.specs.declared.effects.Effect.{Effect}
use Rattle.plan_model.specs.declared.effects.Effect.TheVariants as E
use Rattle.plan_model.specs.declared.schemas.ActionSchema.{ActionSchema}
use Rattle.plan_model.specs.declared.schemas.MethodPlan.{MethodPlan}
use Rattle.plan_model.specs.declared.values.Compiled.{Compiled}
use Rattle.plan_model.specs.task_networks.Spelling.{numbers}
use Rattle.slot_encoding.specs.SourceParts.{name as of_word, moved, source_param, source_word}
use Rattle.order_encoder.specs.OrderFormulas.{pair_of}
use Rattle.slot_encoding.specs.EncodedNames.{first_slot, slot_param, order_numbers, guard_predicate, action_predicate, check_predicate}
use Rattle.slot_encoding.specs.EncodedActions.{differ, test, is_free, source_condition, source_change, freeing, waiting, held_work, work_action, encoded_action, encoded_check, spare, front, depth, children_slots, held_task, child_atom, child_atoms, constraints, guards, tested, method_pre, splitting, method_eff, method_word, encoded_method}
use Rattle.slot_encoding.specs.EncodedValue.{encoded_methods, encoded_checks, encoded_source, encoded_actions}
use Rattle.slot_encoding.specs.EncodedWords.{HasEncodedWords}
use Rattle.slot_encoding.proofs.places.Splitting.{frees, kids, links, copies_of, splitting_parts}
use Rattle.slot_encoding.specs.encoded_texts.NamedObjects.{greatest, of_terms, of_term, of_formula, of_child, of_constraint, of_guard, of_method, of_action}
use Rattle.slot_encoding.proofs.encoded_texts.growth.Lines.{IsLine, still, like, both}
use Rattle.slot_encoding.proofs.encoded_texts.growth.Sizes.{size, size_all, size-headed}
use Rattle.slot_encoding.proofs.encoded_texts.growth.Stay.{part-And, part-Both, StaysTerm, stays-Holds, stays-Not, stays-Equal, stays-Add, stays-Delete, stays-moved, stay-moved}
use Rattle.slot_encoding.proofs.encoded_texts.growth.SlotWords.{base, own, length-own}
use Rattle.slot_encoding.proofs.encoded_texts.growth.Pieces.{at, Stays, StaysDone, Conditions, Changes, join, join-changes, keep, keep-changes, waits, clears, copies, conditions, source_changes}

-- parts on lines of their own
abbrev pub lines_size : List Part → ℕ
lines_size ps = length (lines (all_parts ps))

pub lines-cons : (p : Part) (ps : List Part) → lines_size (p ∷ ps) ≡ 2 + size p + lines_size ps
lines-cons p ps = let e = length-append (bytes p) (10 ∷ lines (all_parts ps)) in omega (arith, e)

pub lines-append : (ps qs : List Part) → lines_size (ps ++ qs) ≡ lines_size ps + lines_size qs
lines-append [] qs = omega arith
lines-append (p ∷ ps) qs =
    let a = lines-cons p (ps ++ qs) in
    let b = lines-append ps qs in
    let d = lines-cons p ps in
    omega (arith, a, b, d)

behind-part : (p : Part) (ps : Parts) → length (bytes_behind (part p ps)) ≡ 1 + size p + length (bytes_behind ps)
behind-part p ps = let e = length-append (bytes p) (bytes_behind ps) in omega (arith, e)

-- an action whose condition and effect are conjunctions
module _ (v : Declared) (n : Name) (xs : List Param) where
  abbrev front_size : ℕ
  front_size = length (named v.names n) + size (group (params_parts v xs))

  abbrev scope : List Word
  scope = map (variable v) xs

  pub action-size : (fs : List Formula) (es : List Effect) → size (action_part v (record { name = n; params = xs; pre = And fs; eff = E.And es }))
      ≡ (57 + front_size) + (size_all (map (λ f. formula_part v f scope) fs) + size_all (map (λ e. effect_part v e scope) es))
  action-size fs es =
      let pre = formula_part v (And fs) scope in
      let eff = effect_part v (E.And es) scope in
      let p8 = behind-part eff nothing in
      let p7 = behind-part (name (codes ":effect")) (part eff nothing) in
      let p6 = behind-part pre (part (name (codes ":effect")) (part eff nothing)) in
      let p5 = behind-part (name (codes ":precondition")) (part pre (part (name (codes ":effect")) (part eff nothing))) in
      let p4 = behind-part (group (params_parts v xs)) (part (name (codes ":precondition")) (part pre (part (name (codes ":effect")) (part eff nothing)))) in
      let p3 = behind-part (name (codes ":parameters")) (part (group (params_parts v xs)) (part (name (codes ":precondition")) (part pre (part (name (codes ":effect")) (part eff nothing))))) in
      let p2 = behind-part (name (named v.names n)) (part (name (codes ":parameters")) (part (group (params_parts v xs)) (part (name (codes ":precondition")) (part pre (part (name (codes ":effect")) (part eff nothing)))))) in
      let h = size-headed (codes ":action") (part (name (named v.names n)) (part (name (codes ":parameters")) (part (group (params_parts v xs)) (part (name (codes ":precondition")) (part pre (part (name (codes ":effect")) (part eff nothing))))))) in
      let f = ap size (part-And v scope fs) ∙ size-headed (codes "and") (all_parts (map (λ f. formula_part v f scope) fs)) in
      let e = ap size (part-Both v scope es) ∙ size-headed (codes "and") (all_parts (map (λ e. effect_part v e scope) es)) in
      omega (arith, p8, p7, p6, p5, p4, p3, p2, h, f, e)

module _ (c : Compiled) (names : List Word) (b : ℕ) (has : HasEncodedWords c b names) (style : Style) where
  abbrev v : Declared
  v = base c names b has

  abbrev o : List Word
  o = own c names b has

  abbrev pub ActionLine : (ℕ → ActionSchema) → Type 0
  ActionLine a = IsLine b (λ m. size (action_part (at c names b has m) (a m)))

  abbrev scope_of : List Param → List Word
  scope_of xs = map (variable v) xs

  action-line : (n : Name) (xs : List Param) (fs : ℕ → List Formula) (es : ℕ → List Effect) → Conditions c names b has (scope_of xs) fs → Changes c names b has (scope_of xs) es
      → ActionLine (λ m. record { name = n; params = xs; pre = And (fs m); eff = E.And (es m) })
  action-line n xs fs es pre eff =
      let k = 57 + front_size v n xs in
      let F : ℕ → ℕ = λ m. size_all (map (λ f. formula_part (at c names b has m) f (scope_of xs)) (fs m)) in
      let G : ℕ → ℕ = λ m. size_all (map (λ e. effect_part (at c names b has m) e (scope_of xs)) (es m)) in
      like (λ m. size (action_part (at c names b has m) (record { name = n; params = xs; pre = And (fs m); eff = E.And (es m) }))) (λ m. k + (F m + G m))
      (λ m l. action-size (at c names b has m) n xs (fs m) (es m))
      (both (λ m. k) (λ m. F m + G m) (still (λ m. k) k (λ m l. refl)) (both F G pre eff))

  long : (n : ℕ) → n ≤ first_slot c → n ≤ length o
  long n l = let e = length-own c names b has in omega (arith, e, l)

  -- works: source actions and checks
  variables : (ns : List ℕ) → EachIs (StaysTerm v o) (map Var ns)
  variables [] = tt
  variables (n ∷ ns) = (λ us scope. refl, variables ns)

  held-stays : (predicate count : ℕ) → EachIs (StaysTerm v o) (held_work c names b style predicate count).args
  held-stays predicate count = variables (numbers 0 (suc count))

  freeing-line : (scope : List Word) (held : Atom) (at' : ℕ) → EachIs (StaysTerm v o) held.args → Changes c names b has scope (λ m. freeing c names m style held at')
  freeing-line scope held at' e =
      let free = is_free c names b style 0 in
      join-changes c names b has scope (λ m. E.Delete held ∷ E.Add free ∷ []) (λ m. _)
      (keep-changes c names b has scope (E.Delete held ∷ E.Add free ∷ []) (stays-Delete v o held e, (stays-Add v o free ((λ us scope. refl), tt), tt)))
      (clears c names b has scope at' 0 style)

  work-line : (word : Word) (predicate : ℕ) (params : List Param) (pre : Formula) (change : ℕ → List Effect)
      → of_formula pre ≤ first_slot c → ((scope : List Word) → Changes c names b has scope change) → ActionLine (λ m. work_action c names m style word predicate params pre (change m))
  work-line word predicate params pre change l eff =
      let xs = slot_param c names b (codes "htn_h") ∷ map (source_param names c.hddl.names) params in
      let held = held_work c names b style predicate (length params) in
      let d = suc (length params) in
      let s = scope_of xs in
      let h = held-stays predicate (length params) in
      action-line (of_word names word) xs (λ m. Holds held ∷ waiting c names m style d ++ source_condition c names m style 1 pre) (λ m. freeing c names m style held d ++ change m)
      (join c names b has s (λ m. Holds held ∷ []) (λ m. waiting c names m style d ++ source_condition c names m style 1 pre) (keep c names b has s (Holds held ∷ []) (stays-Holds v o held h, tt))
      (join c names b has s (λ m. waiting c names m style d) (λ m. source_condition c names m style 1 pre) (waits c names b has s d 0 style) (conditions c names b has s style 1 pre l)))
      (join-changes c names b has s (λ m. freeing c names m style held d) change (freeing-line s held d h) (eff s))

  -- a method
  module _ (k : ℕ) (plan : MethodPlan) (l : of_method plan ≤ first_slot c) where
    abbrev put : Term → Term
    put = moved names c.hddl.names (front c names b style k plan)

    stay-put : (ts : List Term) → of_terms ts ≤ first_slot c → EachIs (StaysTerm v o) (map put ts)
    stay-put ts l = stay-moved v o names c.hddl.names (front c names b style k plan) ts (long (of_terms ts) l)

    stays-put : (t : Term) → of_term t ≤ first_slot c → StaysTerm v o (put t)
    stays-put t l = stays-moved v o names c.hddl.names (front c names b style k plan) t (long (of_term t) l)

    abbrev held : Atom
    held = held_task c names b style k plan

    held-holds : EachIs (StaysTerm v o) held.args
    held-holds = (λ us scope. refl, stay-put plan.schema.task_args (omega (arith, l)))

    free-stay : (ns : List ℕ) → EachIs (Stays c names b has) (map (λ n. Holds (is_free c names b style n)) ns)
    free-stay [] = tt
    free-stay (n ∷ ns) = (stays-Holds v o (is_free c names b style n) ((λ us scope. refl), tt), free-stay ns)

    others-stay : (n : ℕ) (ns : List ℕ) (rest : List Formula) → EachIs (Stays c names b has) rest → EachIs (Stays c names b has) (map (λ u. Not (Equal (Var n) (Var u))) ns ++ rest)
    others-stay n [] rest e = e
    others-stay n (u ∷ ns) rest e = (stays-Not v o (Equal (Var n) (Var u)) (stays-Equal v o (Var n) (Var u) (λ us scope. refl) (λ us scope. refl)), others-stay n ns rest e)

    differ-stay : (ns : List ℕ) → EachIs (Stays c names b has) (differ ns)
    differ-stay [] = tt
    differ-stay (n ∷ ns) = others-stay n ns (differ ns) (differ-stay ns)

    test-stays : (t : Bool) (x y : Term) → StaysTerm v o x → StaysTerm v o y → Stays c names b has (test t x y)
    test-stays true x y e f = stays-Equal v o x y e f
    test-stays false x y e f = stays-Not v o (Equal x y) (stays-Equal v o x y e f)

    constraints-stay : (cons : List Constraint) → greatest (map of_constraint cons) ≤ first_slot c → EachIs (Stays c names b has) (map (λ (con : Constraint). test con.equal (put con.left) (put con.right)) cons)
    constraints-stay [] l = tt
    constraints-stay (con ∷ cons) l = (test-stays con.equal (put con.left) (put con.right) (stays-put con.left (omega (arith, l))) (stays-put con.right (omega (arith, l))), constraints-stay cons (omega (arith, l)))

    abbrev guarded : Guard → Atom
    guarded g = record { predicate = guard_predicate c g.ty; args = put g.term ∷ [] }

    guards-stay : (gs : List Guard) → greatest (map of_guard gs) ≤ first_slot c → EachIs (Stays c names b has) (map (λ (g : Guard). Holds (guarded g)) gs)
    guards-stay [] l = tt
    guards-stay (g ∷ gs) l = (stays-Holds v o (guarded g) (stays-put g.term (omega (arith, l)), tt), guards-stay gs (omega (arith, l)))

    module _ (s : List Word) where
      tested-line : (t : Bool) → Conditions c names b has s (λ m. cond t (source_condition c names m style (front c names b style k plan) plan.schema.pre) [])
      tested-line true = conditions c names b has s style (front c names b style k plan) plan.schema.pre (omega (arith, l))
      tested-line false = keep c names b has s [] tt

      pre-line : Conditions c names b has s (λ m. method_pre c names m style k plan)
      pre-line =
          let ns = numbers 1 (spare c names b style k plan) in
          let fs = map (λ n. Holds (is_free c names b style n)) ns in
          let ds = differ ns in
          let cs = constraints c names b style k plan in
          let gs = guards c names b style k plan in
          let d = depth c names b style k plan in
          join c names b has s (λ m. Holds held ∷ []) (λ m. waiting c names m style d ++ (fs ++ (ds ++ (cs ++ (gs ++ tested c names m style k plan))))) (keep c names b has s (Holds held ∷ []) (stays-Holds v o held held-holds, tt))
          (join c names b has s (λ m. waiting c names m style d) (λ m. fs ++ (ds ++ (cs ++ (gs ++ tested c names m style k plan)))) (waits c names b has s d 0 style)
          (join c names b has s (λ m. fs) (λ m. ds ++ (cs ++ (gs ++ tested c names m style k plan))) (keep c names b has s fs (free-stay ns))
          (join c names b has s (λ m. ds) (λ m. cs ++ (gs ++ tested c names m style k plan)) (keep c names b has s ds (differ-stay ns))
          (join c names b has s (λ m. cs) (λ m. gs ++ tested c names m style k plan) (keep c names b has s cs (constraints-stay plan.schema.constraints (omega (arith, l))))
          (join c names b has s (λ m. gs) (λ m. tested c names m style k plan) (keep c names b has s gs (guards-stay plan.guards (omega (arith, l)))) (tested-line plan.tested))))))

      taken-stay : (ns : List ℕ) → EachIs (StaysDone c names b has) (map (λ n. E.Delete (is_free c names b style n)) ns)
      taken-stay [] = tt
      taken-stay (n ∷ ns) = (stays-Delete v o (is_free c names b style n) ((λ us scope. refl), tt), taken-stay ns)

      child-stays : (n : ℕ) (head : Head) (child : Child) → child.head ≡ head → of_child child ≤ first_slot c → EachIs (StaysTerm v o) (child_atom c names b style k plan n (record child { head = head })).args
      child-stays n (Task t) child e l = (λ us scope. refl, stay-put child.args l)
      child-stays n (Action a) child e l = (λ us scope. refl, stay-put child.args l)
      child-stays n Check child e l = (λ us scope. refl, stay-put child.args l)

      kids-stay : (ns : List ℕ) (children : List Child) → greatest (map of_child children) ≤ first_slot c → EachIs (StaysDone c names b has) (map E.Add (child_atoms c names b style k plan ns children))
      kids-stay [] children l = tt
      kids-stay (n ∷ ns) [] l = tt
      kids-stay (n ∷ ns) (child ∷ children) l = (stays-Add v o (child_atom c names b style k plan n child) (child-stays n child.head child refl (omega (arith, l))), kids-stay ns children (omega (arith, l)))

      abbrev linked : Pair → Atom
      linked p = pair_of (order_numbers c names b) b (Var (slice_index (children_slots c names b style k plan) p.first)) (Var (slice_index (children_slots c names b style k plan) p.then))

      links-stay : (ps : List Pair) → EachIs (StaysDone c names b has) (map (λ (p : Pair). E.Add (linked p)) ps)
      links-stay [] = tt
      links-stay (p ∷ ps) = (stays-Add v o (linked p) ((λ us scope. refl), ((λ us scope. refl), tt)), links-stay ps)

      copied-line : (is : List ℕ) → Changes c names b has s (λ m. copies_of c names m style k plan is)
      copied-line [] = keep-changes c names b has s [] tt
      copied-line (i ∷ is) =
          join-changes c names b has s (λ m. _) (λ m. copies_of c names m style k plan is) (copies c names b has s (depth c names b style k plan) 0 (slice_index (children_slots c names b style k plan) i) style) (copied-line is)

      parts-line : Changes c names b has s (λ m. E.Delete held ∷ frees c names m style k plan ++ (kids c names m style k plan ++ (links c names m style k plan ++ copies_of c names m style k plan plan.copiers)))
      parts-line =
          let fs = frees c names b style k plan in
          let ks = kids c names b style k plan in
          let ls = links c names b style k plan in
          join-changes c names b has s (λ m. E.Delete held ∷ []) (λ m. fs ++ (ks ++ (ls ++ copies_of c names m style k plan plan.copiers))) (keep-changes c names b has s (E.Delete held ∷ []) (stays-Delete v o held held-holds, tt))
          (join-changes c names b has s (λ m. fs) (λ m. ks ++ (ls ++ copies_of c names m style k plan plan.copiers)) (keep-changes c names b has s fs (taken-stay (numbers 1 (spare c names b style k plan))))
          (join-changes c names b has s (λ m. ks) (λ m. ls ++ copies_of c names m style k plan plan.copiers) (keep-changes c names b has s ks (kids-stay (children_slots c names b style k plan) plan.schema.children (omega (arith, l))))
          (join-changes c names b has s (λ m. ls) (λ m. copies_of c names m style k plan plan.copiers) (keep-changes c names b has s ls (links-stay plan.schema.pairs)) (copied-line plan.copiers))))

      abbrev changes_size : ℕ → List Effect → ℕ
      changes_size m es = size_all (map (λ e. effect_part (at c names b has m) e s) es)

      splitting-line : Changes c names b has s (λ m. splitting c names m style k plan)
      splitting-line =
          like (λ m. changes_size m (splitting c names m style k plan)) (λ m. changes_size m (E.Delete held ∷ frees c names m style k plan ++ (kids c names m style k plan ++ (links c names m style k plan ++ copies_of c names m style k plan plan.copiers))))
          (λ m l. ap (changes_size m) (splitting_parts c names m style k plan)) parts-line

      eff-line : (children : List Child) → Changes c names b has s (λ m. method_eff c names m style k plan children)
      eff-line [] = freeing-line s held (depth c names b style k plan) held-holds
      eff-line (child ∷ children) = splitting-line

    pub method-line : ActionLine (λ m. encoded_method c names m style k plan)
    method-line =
        let xs = slot_param c names b (codes "htn_h") ∷ map (λ n. slot_param c names b (codes "htn_h" ++ decimal n)) (numbers 1 (spare c names b style k plan)) ++ map (source_param names c.hddl.names) plan.schema.params in
        action-line (of_word names (method_word c names b style k plan k)) xs (λ m. method_pre c names m style k plan) (λ m. method_eff c names m style k plan plan.schema.children) (pre-line (scope_of xs)) (eff-line (scope_of xs) plan.schema.children)

  -- the lines of some actions
  abbrev pub LinesLine : (ℕ → List ActionSchema) → Type 0
  LinesLine as' = IsLine b (λ m. lines_size (map (action_part (at c names b has m)) (as' m)))

  no-lines : LinesLine (λ m. [])
  no-lines = still (λ m. lines_size (map (action_part (at c names b has m)) [])) 0 (λ m l. refl)

  next-line : (a : ℕ → ActionSchema) (as' : ℕ → List ActionSchema) → ActionLine a → LinesLine as' → LinesLine (λ m. a m ∷ as' m)
  next-line a as' one rest =
      let F : ℕ → ℕ = λ m. size (action_part (at c names b has m) (a m)) in
      let G : ℕ → ℕ = λ m. lines_size (map (action_part (at c names b has m)) (as' m)) in
      like (λ m. lines_size (map (action_part (at c names b has m)) (a m ∷ as' m))) (λ m. 2 + (F m + G m))
      (λ m l. (let e = lines-cons (action_part (at c names b has m) (a m)) (map (action_part (at c names b has m)) (as' m)) in omega (arith, e)))
      (both (λ m. 2) (λ m. F m + G m) (still (λ m. 2) 2 (λ m l. refl)) (both F G one rest))

  join-lines : (as' bs : ℕ → List ActionSchema) → LinesLine as' → LinesLine bs → LinesLine (λ m. as' m ++ bs m)
  join-lines as' bs one other =
      let F : ℕ → ℕ = λ m. lines_size (map (action_part (at c names b has m)) (as' m)) in
      let G : ℕ → ℕ = λ m. lines_size (map (action_part (at c names b has m)) (bs m)) in
      like (λ m. lines_size (map (action_part (at c names b has m)) (as' m ++ bs m))) (λ m. F m + G m)
      (λ m l. ap lines_size (map-append (action_part (at c names b has m)) (as' m) (bs m)) ∙ lines-append (map (action_part (at c names b has m)) (as' m)) (map (action_part (at c names b has m)) (bs m)))
      (both F G one other)

  methods-line : (k : ℕ) (plans : List MethodPlan) → greatest (map of_method plans) ≤ first_slot c → LinesLine (λ m. encoded_methods c names m style k plans)
  methods-line k [] l = no-lines
  methods-line k (plan ∷ plans) l =
      next-line (λ m. encoded_method c names m style k plan) (λ m. encoded_methods c names m style (suc k) plans) (method-line k plan (omega (arith, l))) (methods-line (suc k) plans (omega (arith, l)))

  check-line : (k : ℕ) (plan : MethodPlan) → of_method plan ≤ first_slot c → ActionLine (λ m. encoded_check c names m style k plan)
  check-line k plan l = work-line (codes "htn_c_" ++ source_word c.hddl.names plan.schema.name) (check_predicate c k) plan.schema.params plan.schema.pre (λ m. []) (omega (arith, l)) (λ s. keep-changes c names b has s [] tt)

  checks-line : (k : ℕ) (plans : List MethodPlan) → greatest (map of_method plans) ≤ first_slot c → LinesLine (λ m. encoded_checks c names m style k plans)
  checks-line k [] l = no-lines
  checks-line k (plan ∷ plans) l = by plan.checked (checks-line (suc k) plans (omega (arith, l)))
    where
      by : (t : Bool) → LinesLine (λ m. encoded_checks c names m style (suc k) plans)
          → LinesLine (λ m. cond t (encoded_check c names m style k plan ∷ encoded_checks c names m style (suc k) plans) (encoded_checks c names m style (suc k) plans))
      by true rest = next-line (λ m. encoded_check c names m style k plan) (λ m. encoded_checks c names m style (suc k) plans) (check-line k plan (omega (arith, l))) rest
      by false rest = rest

  source-line : (k : ℕ) (s : ActionSchema) → of_action s ≤ first_slot c → ActionLine (λ m. encoded_action c names m style k s)
  source-line k s l = work-line (source_word c.hddl.names s.name) (action_predicate c k) s.params s.pre (λ m. source_change c names m style 1 s.eff) (omega (arith, l)) (λ scope. source_changes c names b has scope style 1 s.eff (omega (arith, l)))

  sources-line : (k : ℕ) (ss : List ActionSchema) → greatest (map of_action ss) ≤ first_slot c → LinesLine (λ m. encoded_source c names m style k ss)
  sources-line k [] l = no-lines
  sources-line k (s ∷ ss) l =
      next-line (λ m. encoded_action c names m style k s) (λ m. encoded_source c names m style (suc k) ss) (source-line k s (omega (arith, l))) (sources-line (suc k) ss (omega (arith, l)))

  pub actions-line : greatest (map of_method c.methods) ≤ first_slot c → greatest (map of_action c.hddl.actions) ≤ first_slot c → LinesLine (λ m. encoded_actions c names m style)
  actions-line l h =
      join-lines (λ m. encoded_methods c names m style 0 c.methods ++ encoded_checks c names m style 0 c.methods) (λ m. encoded_source c names m style 0 c.hddl.actions)
      (join-lines (λ m. encoded_methods c names m style 0 c.methods) (λ m. encoded_checks c names m style 0 c.methods) (methods-line 0 c.methods l) (checks-line 0 c.methods l))
      (sources-line 0 c.hddl.actions h)
