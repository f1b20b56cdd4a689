-- Whether a problem is sound, as far as it computes: its words, numbers, parameters and networks. Formulas and effects are asked for layer by layer.
-- And whether its networks are ordered: each pair goes up.
use Rattle.std.proofs.Common.{ℕ, suc, ◌≡◌, ◌<◌, ◌≤◌, ◌==◌, ◌&&◌, ◌-◌, ◌++◌, Bool, true, false, List, [], ◌∷◌, map, length, Option, Some, None, slice_get, refl, ap, sym, subst, Contains, arith, nat_lt}
use Rattle.std.specs.Prelude.{codes, slice_index}
use Rattle.std.specs.Str.{bytes_eq}
use Rattle.std.specs.List.{list_any, list_all}
use Rattle.plan_model.specs.declared.terms.Term.{Term}
use Rattle.plan_model.specs.declared.terms.Term.TheVariants.{Var, Obj}
use Rattle.plan_model.specs.declared.terms.Atom.{Atom}
use Rattle.plan_model.specs.declared.terms.Param.{Param}
use Rattle.plan_model.specs.declared.terms.GroundAtom.{GroundAtom}
use Rattle.plan_model.specs.declared.types.Parent.{Parent}
use Rattle.plan_model.specs.declared.types.Object.{Object}
use Rattle.plan_model.specs.declared.formulas.Formula.{Formula, roll-Formula}
use Rattle.plan_model.specs.declared.formulas.Formula.TheOpen.{Formula-F}
use Rattle.plan_model.specs.declared.formulas.Formula.TheVariants.{Holds, And, Forall, rolls-Holds, rolls-And, rolls-Forall}
use Rattle.plan_model.specs.declared.effects.Effect.{Effect, roll-Effect}
use Rattle.plan_model.specs.declared.effects.Effect.TheOpen.{Effect-F}
use Rattle.plan_model.specs.declared.effects.Effect.TheVariants as E
use Rattle.plan_model.specs.declared.networks.Head.{Head}
use Rattle.plan_model.specs.declared.networks.Head.TheVariants.{Task, Action, Check}
use Rattle.plan_model.specs.declared.networks.Child.{Child}
use Rattle.plan_model.specs.declared.networks.Constraint.{Constraint}
use Rattle.plan_model.specs.declared.networks.Pair.{Pair}
use Rattle.plan_model.specs.declared.schemas.Predicate.{Predicate}
use Rattle.plan_model.specs.declared.schemas.TaskSchema.{TaskSchema}
use Rattle.plan_model.specs.declared.schemas.ActionSchema.{ActionSchema}
use Rattle.plan_model.specs.declared.schemas.MethodSchema.{MethodSchema}
use Rattle.plan_model.specs.declared.values.Hddl.{Hddl}
use Rattle.plan_model.specs.Typing.{Leads, stay, climb}
use Rattle.text_forms.specs.Words.{Word, is_name, is_variable, is_among, word_at, last_place}
use Rattle.text_forms.specs.Printing.{are_folded}
use Rattle.plan_texts.specs.Declared.{Declared, named, kinds, variable}
use Rattle.htn_base.specs.Different.{AreDifferent}
use Rattle.plan_texts.specs.Types.{Has, EachIs}
use Rattle.plan_texts.specs.SpellsHddl.{hddl_types, hddl_words, task_words, action_words}
use Rattle.plan_texts.specs.Printable.{IsPlain, IsPlainVariable, IsInForce, IsSoundAtom, IsSoundParam, AreSoundParams, sound_step, IsSound, sound_effect_step, IsSoundEffect, IsUnion, HasWords}
use Rattle.plan_texts.specs.SoundValue.{IsSoundHddl, IsSoundMethod, IsSoundHead, IsSoundChild, IsSoundConstraint, scope_of, arities, method_words}
use Rattle.plan_texts.proofs.Basics.{bytes_eq-true}
use Rattle.plan_texts.proofs.DifferentWords.{are_different, different_by}
use Rattle.plan_texts.proofs.Members.{contains-has, has-contains}
use Rattle.plan_texts.proofs.Spelled.{sound_roll}
use Rattle.plan_texts.proofs.SpelledEffects.{sound_roll as effect-sound_roll}
use Rattle.plan_model.specs.task_networks.Spelling.{numbers}
use Rattle.plan_model.proofs.task_networks.Numbers.{to_numbers}
use Rattle.plan_model.proofs.task_networks.PendingNodes.{both}
use Rattle.plan_model.proofs.task_networks.Tests.{all_to, any_to}
use Rattle.plan_model.specs.Pairs.{pair, Pairs}
use Rattle.plan_model.specs.plan_meaning.Laws.{AreOrdered}
use Rattle.plan_model.proofs.plan_meaning.examples.Unequal.{lt_to}
use Rattle.plan_model.proofs.plan_meaning.examples.PlanChecks.{climbs}

-- a test of each item
pub each_by : {X : Type 0} (test : X → Bool) (P : X → Type 0) → ((x : X) → test x ≡ true → P x) → (xs : List X) → list_all test xs ≡ true → EachIs P xs
each_by test P to [] e = tt
each_by test P to (x ∷ xs) e = let h = both (test x) (list_all test xs) e in (to x h.0, each_by test P to xs h.1)

equal_by : (a b : ℕ) → (a == b) ≡ true → a ≡ b
equal_by a b e = grind (arith, e)

none_by : {X : Type 0} (xs : List X) → (length xs == 0) ≡ true → xs ≡ []
none_by [] e = refl
none_by (x ∷ xs) e = absurd (let f = equal_by (suc (length xs)) 0 e in omega arith)

-- words
module _ where
  abbrev pub is_plain : Word → Bool
  is_plain w = are_folded w && is_name w

  abbrev pub is_plain_variable : Word → Bool
  is_plain_variable w = are_folded w && is_variable w

  abbrev pub are_names : List Word → Bool
  are_names ws = list_all is_plain ws && are_different ws

  abbrev pub is_union : List Word → List Word → Bool
  is_union types ws = nat_lt 1 (length ws) && (list_all (λ w. is_among w types) ws && are_different ws)

  plain_by : (w : Word) → is_plain w ≡ true → IsPlain w
  plain_by w e = both (are_folded w) (is_name w) e

  plain_variable_by : (w : Word) → is_plain_variable w ≡ true → IsPlainVariable w
  plain_variable_by w e = both (are_folded w) (is_variable w) e

  names_by : (ws : List Word) → are_names ws ≡ true → EachIs IsPlain ws × AreDifferent ws
  names_by ws e = let h = both (list_all is_plain ws) (are_different ws) e in (each_by is_plain IsPlain plain_by ws h.0, different_by ws h.1)

  among_by : (w : Word) (ws : List Word) → is_among w ws ≡ true → Has ws w
  among_by w ws e = let (u, c, f) = any_to (bytes_eq w) ws e in contains-has ws w (subst (Contains ws) (sym (bytes_eq-true w u f)) c)

module _ (v : Declared) (arities : List ℕ) where
  abbrev pub is_place : ℕ → Option ℕ → Bool
  is_place k None = false
  is_place k (Some j) = j == k

  abbrev pub is_in_force : List Word → Term → Bool
  is_in_force scope (Var k) = is_place k (last_place (word_at scope k) scope)
  is_in_force scope (Obj o) = nat_lt o (length v.objects)

  abbrev pub is_atom : List Word → ℕ → List Term → Bool
  is_atom scope n ts = nat_lt n (length v.predicates) && ((length ts == slice_index arities n) && list_all (is_in_force scope) ts)

  abbrev pub is_param : Param → Bool
  is_param x = is_plain_variable (variable v x) && nat_lt x.ty (length (kinds v))

  abbrev pub are_params : List Param → Bool
  are_params xs = list_all is_param xs && are_different (map (variable v) xs)

  abbrev pub are_words : Bool
  are_words = are_names v.types && (are_names v.objects && (are_names v.predicates && list_all (is_union v.types) v.unions))

  place_by : (k : ℕ) (o : Option ℕ) → is_place k o ≡ true → o ≡ Some k
  place_by k None e = absurd cc
  place_by k (Some j) e = ap Some (equal_by j k e)

  in_force_by : (scope : List Word) (t : Term) → is_in_force scope t ≡ true → IsInForce v arities scope t
  in_force_by scope (Var k) e = place_by k (last_place (word_at scope k) scope) e
  in_force_by scope (Obj o) e = lt_to o (length v.objects) e

  terms_by : (scope : List Word) (ts : List Term) → list_all (is_in_force scope) ts ≡ true → EachIs (IsInForce v arities scope) ts
  terms_by scope ts e = each_by (is_in_force scope) (IsInForce v arities scope) (in_force_by scope) ts e

  atom_by : (scope : List Word) (n : ℕ) (ts : List Term) → is_atom scope n ts ≡ true → IsSoundAtom v arities scope n ts
  atom_by scope n ts e =
      let h = both (nat_lt n (length v.predicates)) ((length ts == slice_index arities n) && list_all (is_in_force scope) ts) e in
      let k = both (length ts == slice_index arities n) (list_all (is_in_force scope) ts) h.1 in
      (lt_to n (length v.predicates) h.0, equal_by (length ts) (slice_index arities n) k.0, terms_by scope ts k.1)

  param_by : (x : Param) → is_param x ≡ true → IsSoundParam v arities x
  param_by x e = let h = both (is_plain_variable (variable v x)) (nat_lt x.ty (length (kinds v))) e in (plain_variable_by (variable v x) h.0, lt_to x.ty (length (kinds v)) h.1)

  params_by : (xs : List Param) → are_params xs ≡ true → AreSoundParams v arities xs
  params_by xs e = let h = both (list_all is_param xs) (are_different (map (variable v) xs)) e in (each_by is_param (IsSoundParam v arities) param_by xs h.0, different_by (map (variable v) xs) h.1)

  union_by : (ws : List Word) → is_union v.types ws ≡ true → IsUnion v arities ws
  union_by ws e =
      let h = both (nat_lt 1 (length ws)) (list_all (λ w. is_among w v.types) ws && are_different ws) e in
      let k = both (list_all (λ w. is_among w v.types) ws) (are_different ws) h.1 in
      (lt_to 1 (length ws) h.0, each_by (λ w. is_among w v.types) (Has v.types) (λ w. among_by w v.types) ws k.0, different_by ws k.1)

  words_by : are_words ≡ true → HasWords v arities
  words_by e =
      let h = both (are_names v.types) (are_names v.objects && (are_names v.predicates && list_all (is_union v.types) v.unions)) e in
      let k = both (are_names v.objects) (are_names v.predicates && list_all (is_union v.types) v.unions) h.1 in
      let l = both (are_names v.predicates) (list_all (is_union v.types) v.unions) k.1 in
      let types = names_by v.types h.0 in
      let objects = names_by v.objects k.0 in
      let predicates = names_by v.predicates l.0 in
      record {
        types = types.0;
        types_differ = types.1;
        unions = each_by (is_union v.types) (IsUnion v arities) union_by v.unions l.1;
        objects = objects.0;
        predicates = predicates.0;
        objects_differ = objects.1;
        predicates_differ = predicates.1;
      }

  -- formulas and effects, where their layers are sound
  module _ (scope : List Word) where
    formula_by : (f : Formula) (l : Formula-F Formula) → roll-Formula l ≡ f → sound_step v arities (IsSound v arities) l scope → IsSound v arities f scope
    formula_by f l e s = subst (λ g. IsSound v arities g scope) e (subst (λ (z : List Word → Type 0). z scope) (sym (sound_roll v arities l)) s)

    effect_by : (f : Effect) (l : Effect-F Effect) → roll-Effect l ≡ f → sound_effect_step v arities (IsSoundEffect v arities) l scope → IsSoundEffect v arities f scope
    effect_by f l e s = subst (λ g. IsSoundEffect v arities g scope) e (subst (λ (z : List Word → Type 0). z scope) (sym (effect-sound_roll v arities l)) s)

    pub sound-Holds : (a : Atom) → is_atom scope a.predicate a.args ≡ true → IsSound v arities (Holds a) scope
    sound-Holds a e = formula_by (Holds a) (Formula-F.Holds a) (rolls-Holds a) (atom_by scope a.predicate a.args e)

    pub sound-And : (fs : List Formula) → EachIs (λ f. IsSound v arities f scope) fs → IsSound v arities (And fs) scope
    sound-And fs s = formula_by (And fs) (Formula-F.And fs) (rolls-And fs) s

    pub sound-Forall : (xs : List Param) (f : Formula) → are_params xs ≡ true → IsSound v arities f (scope ++ map (variable v) xs) → IsSound v arities (Forall xs f) scope
    sound-Forall xs f e s = formula_by (Forall xs f) (Formula-F.Forall xs f) (rolls-Forall xs f) (params_by xs e, s)

    pub sound-Add : (a : Atom) → is_atom scope a.predicate a.args ≡ true → IsSoundEffect v arities (E.Add a) scope
    sound-Add a e = effect_by (E.Add a) (Effect-F.Add a) (E.rolls-Add a) (atom_by scope a.predicate a.args e)

    pub sound-Delete : (a : Atom) → is_atom scope a.predicate a.args ≡ true → IsSoundEffect v arities (E.Delete a) scope
    sound-Delete a e = effect_by (E.Delete a) (Effect-F.Delete a) (E.rolls-Delete a) (atom_by scope a.predicate a.args e)

    pub sound-Both : (es : List Effect) → EachIs (λ f. IsSoundEffect v arities f scope) es → IsSoundEffect v arities (E.And es) scope
    sound-Both es s = effect_by (E.And es) (Effect-F.And es) (E.rolls-And es) s

-- where each parent stands before its child, chains lead down
leads_down : (parents : List Parent) → ((p : Parent) → Contains parents p → p.parent < p.child) → (s t : ℕ) → Leads parents s t → t ≤ s
leads_down parents e s t stay = omega arith
leads_down parents e s t (climb {parent = u} c l) = let a = e (record { child = s; parent = u }) c in let b = leads_down parents e u t l in omega arith

module _ (h : Hddl) where
  abbrev words : Declared
  words = hddl_words h

  abbrev numbers_of_params : List ℕ
  numbers_of_params = arities h

  abbrev count : ℕ
  count = length h.types.names

  -- types and objects; a parent's number is less than its child's
  module _ where
    abbrev pub is_pair : Parent → Bool
    is_pair p = nat_lt p.child count && (nat_lt p.parent count && nat_lt p.parent p.child)

    abbrev pub has_parent : ℕ → Bool
    has_parent k = list_any (λ (p : Parent). p.child == k) h.types.parents

    abbrev pub are_types : Bool
    are_types = list_all is_pair h.types.parents && (list_all has_parent (numbers 1 (count - 1)) && (list_all (list_all (λ t. nat_lt t count)) h.types.unions && list_all (λ (x : Object). nat_lt x.ty count) h.objects))

    pair_by : (p : Parent) → is_pair p ≡ true → (p.child < count) × (p.parent < count) × (p.parent < p.child)
    pair_by p e =
        let g = both (nat_lt p.child count) (nat_lt p.parent count && nat_lt p.parent p.child) e in
        let k = both (nat_lt p.parent count) (nat_lt p.parent p.child) g.1 in
        (lt_to p.child count g.0, lt_to p.parent count k.0, lt_to p.parent p.child k.1)

    module _ (e : are_types ≡ true) where
      parts : (list_all is_pair h.types.parents ≡ true) × (list_all has_parent (numbers 1 (count - 1)) ≡ true) × (list_all (list_all (λ t. nat_lt t count)) h.types.unions ≡ true) × (list_all (λ (x : Object). nat_lt x.ty count) h.objects ≡ true)
      parts =
          let g = both (list_all is_pair h.types.parents) (list_all has_parent (numbers 1 (count - 1)) && (list_all (list_all (λ t. nat_lt t count)) h.types.unions && list_all (λ (x : Object). nat_lt x.ty count) h.objects)) e in
          let k = both (list_all has_parent (numbers 1 (count - 1))) (list_all (list_all (λ t. nat_lt t count)) h.types.unions && list_all (λ (x : Object). nat_lt x.ty count) h.objects) g.1 in
          let l = both (list_all (list_all (λ t. nat_lt t count)) h.types.unions) (list_all (λ (x : Object). nat_lt x.ty count) h.objects) k.1 in
          (g.0, k.0, l.0, l.1)

      parents_by : EachIs (λ (x : Parent). (x.child < count) × (x.parent < count) × (0 < x.child)) h.types.parents
      parents_by = each_by is_pair (λ (x : Parent). (x.child < count) × (x.parent < count) × (0 < x.child)) (λ x f. (let g = pair_by x f in (g.0, g.1, (let l = g.2 in omega arith)))) h.types.parents parts.0

      has_parent_by : (k : ℕ) → 0 < k → k < count → (x : Parent) × Has h.types.parents x × (x.child ≡ k)
      has_parent_by k a b =
          let (x, c, f) = any_to (λ (p : Parent). p.child == k) h.types.parents (all_to has_parent (numbers 1 (count - 1)) parts.1 k (to_numbers 1 (count - 1) k (omega arith) (omega arith))) in
          (x, contains-has h.types.parents x c, equal_by x.child k f)

      below : (x : Parent) → Contains h.types.parents x → x.parent < x.child
      below x c = (pair_by x (all_to is_pair h.types.parents parts.0 x c)).2

      no_cycle_by : (x : Parent) → Has h.types.parents x → Leads h.types.parents x.parent x.child → ⊥
      no_cycle_by x m l = let a = below x (has-contains h.types.parents x m) in let b = leads_down h.types.parents below x.parent x.child l in omega arith

      unions_by : EachIs (EachIs (λ t. t < count)) h.types.unions
      unions_by = each_by (list_all (λ t. nat_lt t count)) (EachIs (λ t. t < count)) (λ u f. each_by (λ t. nat_lt t count) (λ t. t < count) (λ t. lt_to t count) u f) h.types.unions parts.2

      objects_by : EachIs (λ (x : Object). x.ty < count) h.objects
      objects_by = each_by (λ (x : Object). nat_lt x.ty count) (λ (x : Object). x.ty < count) (λ x. lt_to x.ty count) h.objects parts.3

  -- networks: declared tasks and actions with as many arguments as parameters, and terms in force
  module _ where
    abbrev fits_task : Option TaskSchema → ℕ → Bool
    fits_task None n = false
    fits_task (Some s) n = n == length s.params

    abbrev fits_action : Option ActionSchema → ℕ → Bool
    fits_action None n = false
    fits_action (Some s) n = n == length s.params

    abbrev pub is_head : Head → ℕ → Bool
    is_head (Task t) n = fits_task (slice_get h.tasks t) n
    is_head (Action a) n = fits_action (slice_get h.actions a) n
    is_head Check n = false

    abbrev pub is_child : List Word → Child → Bool
    is_child scope child = is_head child.head (length child.args) && list_all (is_in_force words numbers_of_params scope) child.args

    abbrev pub is_constraint : List Word → Constraint → Bool
    is_constraint scope con = is_in_force words numbers_of_params scope con.left && is_in_force words numbers_of_params scope con.right

    abbrev pub is_method : MethodSchema → Bool
    is_method s = are_params words numbers_of_params s.params && (list_all (is_in_force words numbers_of_params (scope_of h s.params)) s.task_args
        && (list_all (is_child (scope_of h s.params)) s.children && list_all (is_constraint (scope_of h s.params)) s.constraints))

    task_by : (o : Option TaskSchema) (n : ℕ) → fits_task o n ≡ true → (s : TaskSchema) × (o ≡ Some s) × (n ≡ length s.params)
    task_by None n e = absurd cc
    task_by (Some s) n e = (s, refl, equal_by n (length s.params) e)

    action_by : (o : Option ActionSchema) (n : ℕ) → fits_action o n ≡ true → (s : ActionSchema) × (o ≡ Some s) × (n ≡ length s.params)
    action_by None n e = absurd cc
    action_by (Some s) n e = (s, refl, equal_by n (length s.params) e)

    head_by : (head : Head) (n : ℕ) → is_head head n ≡ true → IsSoundHead h head n
    head_by (Task t) n e = task_by (slice_get h.tasks t) n e
    head_by (Action a) n e = action_by (slice_get h.actions a) n e
    head_by Check n e = absurd cc

    child_by : (scope : List Word) (child : Child) → is_child scope child ≡ true → IsSoundChild h scope child
    child_by scope child e = let g = both (is_head child.head (length child.args)) (list_all (is_in_force words numbers_of_params scope) child.args) e in (head_by child.head (length child.args) g.0, terms_by words numbers_of_params scope child.args g.1)

    constraint_by : (scope : List Word) (con : Constraint) → is_constraint scope con ≡ true → IsSoundConstraint h scope con
    constraint_by scope con e =
        let g = both (is_in_force words numbers_of_params scope con.left) (is_in_force words numbers_of_params scope con.right) e in
        (in_force_by words numbers_of_params scope con.left g.0, in_force_by words numbers_of_params scope con.right g.1)

    -- its precondition is asked for
    method_by : (s : MethodSchema) → is_method s ≡ true → IsSound words numbers_of_params s.pre (scope_of h s.params) → IsSoundMethod h s
    method_by s e pre =
        let scope = scope_of h s.params in
        let g = both (are_params words numbers_of_params s.params) (list_all (is_in_force words numbers_of_params scope) s.task_args && (list_all (is_child scope) s.children && list_all (is_constraint scope) s.constraints)) e in
        let k = both (list_all (is_in_force words numbers_of_params scope) s.task_args) (list_all (is_child scope) s.children && list_all (is_constraint scope) s.constraints) g.1 in
        let l = both (list_all (is_child scope) s.children) (list_all (is_constraint scope) s.constraints) k.1 in
        record {
          params = params_by words numbers_of_params s.params g.0;
          task_args = terms_by words numbers_of_params scope s.task_args k.0;
          pre = pre;
          children = each_by (is_child scope) (IsSoundChild h scope) (child_by scope) s.children l.0;
          constraints = each_by (is_constraint scope) (IsSoundConstraint h scope) (constraint_by scope) s.constraints l.1;
        }

    methods_by : (ss : List MethodSchema) → list_all is_method ss ≡ true → EachIs (λ (s : MethodSchema). IsSound words numbers_of_params s.pre (scope_of h s.params)) ss → EachIs (IsSoundMethod h) ss
    methods_by [] e pre = tt
    methods_by (s ∷ ss) e pre = let g = both (is_method s) (list_all is_method ss) e in (method_by s g.0 pre.0, methods_by ss g.1 pre.1)

  -- the formulas and effects of a problem are sound
  pub record HasSoundFormulas : Type 0 where
    pub pre : EachIs (λ (a : ActionSchema). IsSound words numbers_of_params a.pre (scope_of h a.params)) h.actions
    pub eff : EachIs (λ (a : ActionSchema). IsSoundEffect words numbers_of_params a.eff (scope_of h a.params)) h.actions
    pub top : IsSound words numbers_of_params h.top.pre (scope_of h h.top.params)
    pub methods : EachIs (λ (s : MethodSchema). IsSound words numbers_of_params s.pre (scope_of h s.params)) h.methods
    pub goal : IsSound words numbers_of_params h.goal []

  -- what computes
  abbrev pub tests : List Bool
  tests =
      is_plain (named h.names h.domain)
      ∷ is_plain (named h.names h.problem)
      ∷ are_words words numbers_of_params
      ∷ bytes_eq (word_at (hddl_types h) 0) (codes "object")
      ∷ are_types
      ∷ list_all (λ (d : Predicate). list_all (is_param words numbers_of_params) d.params) h.predicates
      ∷ are_names (task_words h ++ action_words h)
      ∷ are_names (method_words h)
      ∷ list_all (λ (s : TaskSchema). are_params words numbers_of_params s.params) h.tasks
      ∷ list_all (λ (a : ActionSchema). are_params words numbers_of_params a.params) h.actions
      ∷ (h.top.task == length h.tasks)
      ∷ (length h.top.task_args == 0)
      ∷ is_method h.top
      ∷ list_all (λ (s : MethodSchema). is_head (Task s.task) (length s.task_args)) h.methods
      ∷ list_all is_method h.methods
      ∷ list_all (λ (g : GroundAtom). is_atom words numbers_of_params [] g.predicate (map Obj g.args)) h.init
      ∷ []

  abbrev pub is_sound : Bool
  is_sound = list_all (λ b. b) tests

  pub sound_by : is_sound ≡ true → HasSoundFormulas → IsSoundHddl h
  sound_by e f =
      let (domain, (problem, (are, (first, (types, (predicates, (calls, (methods_named, (task_params, (action_params, (top_task, (top_args, (top, (method_tasks, (methods, (init, rest)))))))))))))))) = each_by (λ b. b) (λ b. b ≡ true) (λ b t. t) tests e in
      let call_names = names_by (task_words h ++ action_words h) calls in
      let method_names = names_by (method_words h) methods_named in
      record {
        domain = plain_by (named h.names h.domain) domain;
        problem = plain_by (named h.names h.problem) problem;
        words = words_by words numbers_of_params are;
        first = bytes_eq-true (word_at (hddl_types h) 0) (codes "object") first;
        parents = parents_by types;
        has_parent = has_parent_by types;
        no_cycle = no_cycle_by types;
        unions = unions_by types;
        objects = objects_by types;
        predicates = each_by _ (λ (d : Predicate). EachIs (IsSoundParam words numbers_of_params) d.params) (λ d. each_by (is_param words numbers_of_params) (IsSoundParam words numbers_of_params) (param_by words numbers_of_params) d.params) h.predicates predicates;
        calls_named = call_names.0;
        calls_differ = call_names.1;
        methods_named = method_names.0;
        methods_differ = method_names.1;
        task_params = each_by _ (λ (s : TaskSchema). AreSoundParams words numbers_of_params s.params) (λ s. params_by words numbers_of_params s.params) h.tasks task_params;
        action_params = each_by _ (λ (a : ActionSchema). AreSoundParams words numbers_of_params a.params) (λ a. params_by words numbers_of_params a.params) h.actions action_params;
        pre = f.pre;
        eff = f.eff;
        top_task = equal_by h.top.task (length h.tasks) top_task;
        top_args = none_by h.top.task_args top_args;
        top = method_by h.top top f.top;
        method_tasks = each_by _ (λ (s : MethodSchema). IsSoundHead h (Task s.task) (length s.task_args)) (λ s. head_by (Task s.task) (length s.task_args)) h.methods method_tasks;
        methods = methods_by h.methods methods f.methods;
        init = each_by _ (λ (g : GroundAtom). IsSoundAtom words numbers_of_params [] g.predicate (map Obj g.args)) (λ g. atom_by words numbers_of_params [] g.predicate (map Obj g.args)) h.init init;
        goal = f.goal;
      }

  -- each pair of a network is of two of its subtasks, the first the lesser one
  abbrev pub goes_up : MethodSchema → Bool
  goes_up s = list_all (λ (p : Pair). nat_lt p.first p.then && nat_lt p.then (length s.children)) s.pairs

  pub ordered_by : list_all goes_up (h.top ∷ h.methods) ≡ true → AreOrdered h
  ordered_by e s c = (
    λ i j k. (let g = up i j k in let a = g.0 in let b = g.1 in (omega arith, omega arith)),
    λ i k. (let l = climbs (λ i j d. (up i j d).0) i i k in absurd (omega arith)),
  )
    where
      up : (i j : ℕ) → Pairs s.pairs i j → (i < j) × (j < length s.children)
      up i j k =
          let g = both (nat_lt i j) (nat_lt j (length s.children)) (all_to (λ (p : Pair). nat_lt p.first p.then && nat_lt p.then (length s.children)) s.pairs (all_to goes_up (h.top ∷ h.methods) e s c) (pair i j) k) in
          (lt_to i j g.0, lt_to j (length s.children) g.1)
