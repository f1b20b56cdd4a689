-- Methods that are the same but for names are compiled alike.
use Rattle.std.proofs.Common.{ℕ, suc, ◌≡◌, ◌≢◌, ◌↔◌, inl, inr, Bool, true, false, IsTrue, List, [], ◌∷◌, ◌++◌, map, length, Option, Some, None, option_map, slice_get, refl, ap, sym, subst, ◌∙◌}
use Rattle.std.proofs.lemmas.Option.{slice_get-map}
use Rattle.text_forms.specs.Words.{Word}
use Rattle.plan_texts.specs.Declared.{Declared}
use Rattle.plan_texts.specs.Types.{EachIs}
use Rattle.plan_texts.specs.SpellsHddl.{hddl_words}
use Rattle.plan_texts.specs.Printable.{AreSoundParams, IsSound}
use Rattle.plan_texts.specs.SoundValue.{IsSoundHddl, IsSoundMethod, scope_of, arities}
use Rattle.plan_texts.specs.Said.{typed, said}
use Rattle.plan_texts.specs.Alike.{task_said, action_said, child_said, method_said}
use Rattle.plan_model.specs.Typing.{IsA}
use Rattle.plan_model.specs.declared.terms.Term.{Term}
use Rattle.plan_model.specs.declared.terms.Term.TheVariants.{Var, Obj}
use Rattle.plan_model.specs.declared.terms.Param.{Param}
use Rattle.plan_model.specs.declared.networks.Head.{Head}
use Rattle.plan_model.specs.declared.networks.Head.TheVariants.{Task, Action, Check}
use Rattle.plan_model.specs.declared.networks.Child.{Child}
use Rattle.plan_model.specs.declared.networks.Pair.{Pair}
use Rattle.plan_model.specs.declared.networks.Guard.{Guard}
use Rattle.plan_model.specs.declared.options.Checks.{Checks}
use Rattle.plan_model.specs.declared.schemas.TaskSchema.{TaskSchema}
use Rattle.plan_model.specs.declared.schemas.ActionSchema.{ActionSchema}
use Rattle.plan_model.specs.declared.schemas.MethodSchema.{MethodSchema}
use Rattle.plan_model.specs.declared.schemas.MethodPlan.{MethodPlan}
use Rattle.plan_model.specs.declared.values.Hddl.{Hddl}
use Rattle.plan_model.specs.task_networks.Net.{Net, one_action}
use Rattle.plan_model.specs.task_networks.Order.{IsLine, IsMaximal}
use Rattle.plan_model.specs.task_networks.Spelling.{numbers}
use Rattle.plan_model.proofs.task_networks.ScheduleLaws.{line_is_the_only_one}
use Rattle.plan_model.specs.plan_meaning.Compilation.{once, same_pair, same_guard, children, pairs, last_of, Keeps, params_of, params_of_task, params_of_action, placed, all_placed, IsParamIn, IsDeclaredIn, IsGuard, IsMethodPlan, AreMethodPlans}
use Rattle.plan_model.specs.Pairs.{pair, Pairs}
use Rattle.plan_proof.specs.Same.{AreSameButNames}
use Rattle.plan_texts.specs.Together.{Together}
use Rattle.plan_texts.proofs.Together.{maps-length, together-of_maps, together-maps, together-and}
use Rattle.slot_encoding.proofs.encoded_texts.KeptSame.{keeps-same}
use Rattle.plan_proof.proofs.values.Pairing.{increasing-same}
use Rattle.plan_proof.proofs.values.TypeNumbers.{AreApart}
use Rattle.plan_proof.proofs.values.SameSound.{params-length}
use Rattle.plan_proof.proofs.values.SameTypes.{is_a-same, in_same, counts, types-of}

pub bool_same : (a b : Bool) → (IsTrue a → IsTrue b) → (IsTrue b → IsTrue a) → a ≡ b
bool_same true true f g = refl
bool_same false false f g = refl
bool_same true false f g = sym (f refl)
bool_same false true f g = g refl

-- what is kept by two tests that tell the same
module _ {A : Type 0} (P Q : A → Type 0) (to : (x : A) → P x → Q x) (from : (x : A) → Q x → P x) where
  pub keeps-more : (xs ks : List A) → Keeps P xs ks → Keeps Q xs ks
  keeps-more [] ks k = k
  keeps-more (x ∷ xs) ks (inl (h, r, e, k)) = inl (to x h, r, e, keeps-more xs r k)
  keeps-more (x ∷ xs) ks (inr (n, k)) = inr (λ q. n (from x q), keeps-more xs ks k)

-- the line of a list of children
pub line-same : (Pair : ℕ → ℕ → Type 0) (xs : List Child) (line other : List ℕ) → IsLine Pair (length xs) line → IsLine Pair (length xs) other → line ≡ other
line-same Pair xs line other a b = line_is_the_only_one net tt line other a b
  where
    net : Net
    net = record one_action { Work = Child; Method = Unit {0}; head = λ m. record { id = None; head = Check; args = [] }; works = λ m. xs; IsSimple = λ x. Unit {0}; IsGround = λ m. Unit {0}; Pair = λ m. Pair; heir = λ m. None; IsCopier = λ m i. ⊥ }

-- two plans are the same but for names
pub record ArePlansAlike (v w : Declared) (p q : MethodPlan) : Type 0 where
  pub schema : method_said v p.schema ≡ method_said w q.schema
  pub checked : p.checked ≡ q.checked
  pub tested : p.tested ≡ q.tested
  pub line : p.line ≡ q.line
  pub heir : p.heir ≡ q.heir
  pub copiers : p.copiers ≡ q.copiers
  pub guards : p.guards ≡ q.guards

-- the parameters and the precondition of a plan are sound
pub record IsSoundPlan (h : Hddl) (p : MethodPlan) : Type 0 where
  pub scope : List Word
  pub params : AreSoundParams (hddl_words h) (arities h) p.schema.params
  pub pre : IsSound (hddl_words h) (arities h) p.schema.pre scope

module _ (c d : Hddl) (same : AreSameButNames c d) (sc : IsSoundHddl c) (sd : IsSoundHddl d) (apart : AreApart (hddl_words d).unions) where
  abbrev v : Declared
  v = hddl_words c

  abbrev w : Declared
  w = hddl_words d

  abbrev types : List Param → List ℕ
  types ps = map (λ (p : Param). p.ty) ps

  task_types : map (λ (s : TaskSchema). types s.params) c.tasks ≡ map (λ (s : TaskSchema). types s.params) d.tasks
  task_types =
      together-maps (λ (s : TaskSchema). types s.params) (λ (s : TaskSchema). types s.params) (λ x y. (task_said v x ≡ task_said w y) × AreSoundParams v (arities c) x.params × AreSoundParams w (arities d) y.params)
      (λ x y e. types-of c d same sc sd apart x.params y.params (ap (λ z. z.1) e.0) e.1.0 e.2.0) c.tasks d.tasks
      (together-and (λ x y. task_said v x ≡ task_said w y) (λ x. AreSoundParams v (arities c) x.params) (λ y. AreSoundParams w (arities d) y.params) c.tasks d.tasks (together-of_maps (task_said v) (task_said w) c.tasks d.tasks same.alike.tasks) sc.task_params sd.task_params)

  action_types : map (λ (s : ActionSchema). types s.params) c.actions ≡ map (λ (s : ActionSchema). types s.params) d.actions
  action_types =
      together-maps (λ (s : ActionSchema). types s.params) (λ (s : ActionSchema). types s.params) (λ x y. (action_said v x ≡ action_said w y) × AreSoundParams v (arities c) x.params × AreSoundParams w (arities d) y.params)
      (λ x y e. types-of c d same sc sd apart x.params y.params (ap (λ z. z.1) e.0) e.1.0 e.2.0) c.actions d.actions
      (together-and (λ x y. action_said v x ≡ action_said w y) (λ x. AreSoundParams v (arities c) x.params) (λ y. AreSoundParams w (arities d) y.params) c.actions d.actions (together-of_maps (action_said v) (action_said w) c.actions d.actions same.alike.actions) sc.action_params sd.action_params)

  -- the types of the parameters of what a subtask names
  params_same : (f : Head) → types (params_of c f) ≡ types (params_of d f)
  params_same (Task t) = go (slice_get c.tasks t) (slice_get d.tasks t) (sym (slice_get-map (λ (s : TaskSchema). types s.params) c.tasks t) ∙ ap (λ z. slice_get z t) task_types ∙ slice_get-map (λ (s : TaskSchema). types s.params) d.tasks t)
    where
      go : (o o' : Option TaskSchema) → option_map (λ (s : TaskSchema). types s.params) o ≡ option_map (λ (s : TaskSchema). types s.params) o' → types (params_of_task c o) ≡ types (params_of_task d o')
      go None None e = refl
      go (Some x) (Some y) e = cc
      go None (Some y) e = absurd (cc)
      go (Some x) None e = absurd (cc)
  params_same (Action a) = go (slice_get c.actions a) (slice_get d.actions a) (sym (slice_get-map (λ (s : ActionSchema). types s.params) c.actions a) ∙ ap (λ z. slice_get z a) action_types ∙ slice_get-map (λ (s : ActionSchema). types s.params) d.actions a)
    where
      go : (o o' : Option ActionSchema) → option_map (λ (s : ActionSchema). types s.params) o ≡ option_map (λ (s : ActionSchema). types s.params) o' → types (params_of_action c o) ≡ types (params_of_action d o')
      go None None e = refl
      go (Some x) (Some y) e = cc
      go None (Some y) e = absurd (cc)
      go (Some x) None e = absurd (cc)
  params_same Check = refl

  placed_same : (ps qs : List Param) (ts : List Term) → types ps ≡ types qs → placed c ps ts ≡ placed d qs ts
  placed_same [] [] ts e = refl
  placed_same [] (q ∷ qs) ts e = absurd (cc)
  placed_same (p ∷ ps) [] ts e = absurd (cc)
  placed_same (p ∷ ps) (q ∷ qs) [] e = refl
  placed_same (p ∷ ps) (q ∷ qs) (t ∷ ts) e =
      let f : p.ty ≡ q.ty = cc in let g = placed_same ps qs ts (cc) in λ i. record { ty = f i; term = t } ∷ g i

  all-placed : (xs ys : List Child) → Together (λ x y. child_said v x ≡ child_said w y) xs ys → all_placed c xs ≡ all_placed d ys
  all-placed [] [] e = refl
  all-placed [] (y ∷ ys) e = absurd e
  all-placed (x ∷ xs) [] e = absurd e
  all-placed (x ∷ xs) (y ∷ ys) e =
      let f : placed c (params_of c x.head) x.args ≡ placed d (params_of d y.head) y.args = (λ i. placed c (params_of c (e.0 i).1) (e.0 i).2) ∙ placed_same (params_of c y.head) (params_of d y.head) y.args (params_same y.head) in
      let g = all-placed xs ys e.1 in
      λ i. f i ++ g i

  -- what is declared to be in a type
  module _ (s t : MethodSchema) (e : types s.params ≡ types t.params) where
    param_in : (o o' : Option Param) (ty : ℕ) → option_map (λ (p : Param). p.ty) o ≡ option_map (λ (p : Param). p.ty) o' → IsParamIn c s o ty ↔ IsParamIn d t o' ty
    param_in None None ty f = (λ x. x, λ x. x)
    param_in None (Some y) ty f = absurd (cc)
    param_in (Some x) None ty f = absurd (cc)
    param_in (Some x) (Some y) ty f =
        let g : x.ty ≡ y.ty = cc in
        let h : IsA c.types x.ty ty ≡ IsA d.types y.ty ty = ap (λ z. IsA c.types z ty) g ∙ is_a-same c d same y.ty ty in
        (λ x. subst (λ (z : Type 0). z) h x, λ x. subst (λ (z : Type 0). z) (sym h) x)

    declared_in : (ty : ℕ) (u : Term) → IsDeclaredIn c s ty u ↔ IsDeclaredIn d t ty u
    declared_in ty (Var k) = param_in (slice_get s.params k) (slice_get t.params k) ty (sym (slice_get-map (λ (p : Param). p.ty) s.params k) ∙ ap (λ z. slice_get z k) e ∙ slice_get-map (λ (p : Param). p.ty) t.params k)
    declared_in ty (Obj o) = in_same c d same sc sd o ty

    guards_same : (xs ks ls : List Guard) → Keeps (IsGuard c s) xs ks → Keeps (IsGuard d t) xs ls → ks ≡ ls
    guards_same = keeps-same (IsGuard c s) (IsGuard d t) (λ g n x. n ((declared_in g.ty g.term).1 x)) (λ g n x. n ((declared_in g.ty g.term).0 x))

  module _ (mode : Checks) (s t : MethodSchema) (e : method_said v s ≡ method_said w t) (ss : IsSoundMethod c s) (st : IsSoundMethod d t) (p q : MethodPlan) (hp : IsMethodPlan c mode s p) (hq : IsMethodPlan d mode t q) where
    said_pre : said v s.pre ≡ said w t.pre
    said_pre = ap (λ z. z.3) e

    said_params : map (typed v) s.params ≡ map (typed w) t.params
    said_params = ap (λ z. z.4.0) e

    said_children : map (child_said v) s.children ≡ map (child_said w) t.children
    said_children = ap (λ z. z.4.1) e

    same_checked : p.checked ≡ q.checked
    same_checked = bool_same p.checked q.checked (λ x. let y = hp.checked.0 x in hq.checked.1 (y.0, counts v w s.pre t.pre said_pre y.1)) (λ x. let y = hq.checked.0 x in hp.checked.1 (y.0, counts w v t.pre s.pre (sym said_pre) y.1))

    same_tested : p.tested ≡ q.tested
    same_tested = bool_same p.tested q.tested (λ x. let y = hp.tested.0 x in hq.tested.1 (y.0, counts v w s.pre t.pre said_pre y.1)) (λ x. let y = hq.tested.0 x in hp.tested.1 (y.0, counts w v t.pre s.pre (sym said_pre) y.1))

    children_said : (b : Bool) → map (child_said v) (children b s) ≡ map (child_said w) (children b t)
    children_said false = said_children
    children_said true = let l = params-length c d same s.params t.params said_params in let f = said_children in λ i. (None, Check, map Var (numbers 0 (l i))) ∷ f i

    children_count : length s.children ≡ length t.children
    children_count = maps-length (child_said v) (child_said w) s.children t.children said_children

    pairs_said : (b : Bool) → pairs b s ≡ pairs b t
    pairs_said false = ap (once same_pair) (ap (λ z. z.4.2) e)
    pairs_said true =
        let l = children_count in let f : s.pairs ≡ t.pairs = ap (λ z. z.4.2) e in
        λ i. once same_pair (map (λ k. pair 0 (suc k)) (numbers 0 (l i)) ++ map (λ (p : Pair). pair (suc p.first) (suc p.then)) (f i))

    schema_said : method_said v p.schema ≡ method_said w q.schema
    schema_said =
        ap (method_said v) hp.schema ∙ whole p.checked ∙ ap (λ b. method_said w (record t { children = children b t; pairs = pairs b t })) same_checked ∙ sym (ap (method_said w) hq.schema)
      where
        whole : (b : Bool) → method_said v (record s { children = children b s; pairs = pairs b s }) ≡ method_said w (record t { children = children b t; pairs = pairs b t })
        whole b = let f = children_said b in let g = pairs_said b in λ i. ((e i).0, (e i).1, (e i).2, (e i).3, ((e i).4.0, f i, g i, (e i).4.3))

    same_pairs : p.schema.pairs ≡ q.schema.pairs
    same_pairs = ap (λ z. z.4.2) schema_said

    same_count : length p.schema.children ≡ length q.schema.children
    same_count = maps-length (child_said v) (child_said w) p.schema.children q.schema.children (ap (λ z. z.4.1) schema_said)

    same_line : p.line ≡ q.line
    same_line = line-same (Pairs q.schema.pairs) q.schema.children p.line q.line (subst (λ (z : Type 0). z) (λ i. IsLine (Pairs (same_pairs i)) (same_count i) p.line) hp.line) hq.line

    same_heir : p.heir ≡ q.heir
    same_heir = hp.heir ∙ ap last_of same_line ∙ sym hq.heir

    copier : (i : ℕ) → (IsMaximal (Pairs p.schema.pairs) (length p.schema.children) i × (p.heir ≢ Some i)) ≡ (IsMaximal (Pairs q.schema.pairs) (length q.schema.children) i × (q.heir ≢ Some i))
    copier i = λ j. IsMaximal (Pairs (same_pairs j)) (same_count j) i × (same_heir j ≢ Some i)

    same_copiers : p.copiers ≡ q.copiers
    same_copiers =
        increasing-same p.copiers q.copiers hp.copiers_in_order hq.copiers_in_order
        (λ i x. (hq.copiers i).1 (subst (λ (z : Type 0). z) (copier i) ((hp.copiers i).0 x)))
        (λ i x. (hp.copiers i).1 (subst (λ (z : Type 0). z) (sym (copier i)) ((hq.copiers i).0 x)))

    same_guards : p.guards ≡ q.guards
    same_guards =
        let (xs, k, f) = hp.guards in let (ys, l, g) = hq.guards in
        let o = all-placed s.children t.children (together-of_maps (child_said v) (child_said w) s.children t.children said_children) in
        let ty = types-of c d same sc sd apart s.params t.params said_params ss.params.0 st.params.0 in
        f ∙ ap (once same_guard) (guards_same s t ty (all_placed d t.children) xs ys (subst (λ z. Keeps (IsGuard c s) z xs) o k) l) ∙ sym g

    pub plan-sound : IsSoundPlan c p × IsSoundPlan d q
    plan-sound = (of_schema c s ss p hp.schema, of_schema d t st q hq.schema)
      where
        of_schema : (h : Hddl) (s : MethodSchema) → IsSoundMethod h s → (p : MethodPlan) → p.schema ≡ record s { children = children p.checked s; pairs = pairs p.checked s } → IsSoundPlan h p
        of_schema h s k p f = record {
          scope = scope_of h s.params;
          params = subst (AreSoundParams (hddl_words h) (arities h)) (sym (ap (λ (z : MethodSchema). z.params) f)) k.params;
          pre = subst (λ z. IsSound (hddl_words h) (arities h) z (scope_of h s.params)) (sym (ap (λ (z : MethodSchema). z.pre) f)) k.pre;
        }

    pub plans_alike : ArePlansAlike v w p q
    plans_alike = record { schema = schema_said; checked = same_checked; tested = same_tested; line = same_line; heir = same_heir; copiers = same_copiers; guards = same_guards }

  pub plans-both : (mode : Checks) (ss ts : List MethodSchema) → Together (λ s t. method_said v s ≡ method_said w t) ss ts → EachIs (IsSoundMethod c) ss → EachIs (IsSoundMethod d) ts → (ps qs : List MethodPlan) → AreMethodPlans c mode ss ps → AreMethodPlans d mode ts qs
      → Together (λ p q. ArePlansAlike v w p q × (IsSoundPlan c p × IsSoundPlan d q)) ps qs
  plans-both mode [] [] e a b [] [] h k = tt
  plans-both mode [] [] e a b [] (q ∷ qs) h k = absurd k
  plans-both mode [] [] e a b (p ∷ ps) qs h k = absurd h
  plans-both mode [] (t ∷ ts) e a b ps qs h k = absurd e
  plans-both mode (s ∷ ss) [] e a b ps qs h k = absurd e
  plans-both mode (s ∷ ss) (t ∷ ts) e a b [] qs h k = absurd h
  plans-both mode (s ∷ ss) (t ∷ ts) e a b (p ∷ ps) [] h k = absurd k
  plans-both mode (s ∷ ss) (t ∷ ts) e a b (p ∷ ps) (q ∷ qs) h k = ((plans_alike mode s t e.0 a.0 b.0 p q h.0 k.0, plan-sound mode s t e.0 a.0 b.0 p q h.0 k.0), plans-both mode ss ts e.1 a.1 b.1 ps qs h.1 k.1)
