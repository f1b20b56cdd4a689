-- Names of tasks and actions that are called, by numbers and in words.
use Rattle.std.proofs.Common.{ℕ, suc, ◌≡◌, ◌<◌, ◌≤◌, Bool, true, false, cond, eqb, nat_lt, inl, inr, List, [], ◌∷◌, ◌++◌, length, Option, Some, None, refl, sym, ap, subst, ◌∙◌, arith}
use Rattle.std.specs.Prelude.{◌⊎◌, ◌↔◌, ◌≢◌}
use Rattle.std.proofs.lemmas.Bool.{eqb-true, eqb-false, ltb-true, ltb-false}
use Rattle.htn_base.specs.Different.{AreDifferent}
use Rattle.text_forms.specs.Words.{Word}
use Rattle.plan_model.specs.declared.networks.Head.{Head}
use Rattle.plan_model.specs.declared.networks.Head.TheVariants.{Task, Action, Check}
use Rattle.gd_reader.specs.Terms.{Names}
use Rattle.gd_reader.specs.declared.term.RawAtom.{RawAtom}
use Rattle.hddl_reader.specs.declared.sections.RawDomain.{RawDomain}
use Rattle.hddl_reader.specs.declared.sections.RawHead.{RawHead}
use Rattle.plan_texts.specs.Types.{EachIs}
use Rattle.text_values.specs.form_spellings.InTable.{IsIn}
use Rattle.htn_base.specs.Lists.{One, Each, Has}
use Rattle.hddl_reader.specs.names.Uses.{Scope, applies, subtask, task}
use Rattle.name_binding.specs.declared.faults.Spot.{Spot}
use Rattle.name_binding.specs.Spots.{spot}
use Rattle.hddl_bind.specs.declared.callables.Callable.{Callable}
use Rattle.hddl_bind.specs.Callables.{Declared, declared, heads, callable, callables_from, first_called, sooner_called, stands_for}
use Rattle.hddl_bind.specs.Calls.{called, method_task, call_faults, if_task, only_task}
use Rattle.text_values.specs.form_spellings.binding_laws.Calls.{offsets, AreCallablesOf, HasCallFaults, HasTaskFaults, OfAllCallables}
use Rattle.text_values.specs.form_spellings.binding_laws.Uses.{HasUseFault}
use Rattle.text_values.proofs.form_spellings.binding_laws.Heads.{IsOf, IsFirstAmong, of_number, to_number, AreRising, rising, one_map}
use Rattle.text_values.proofs.form_spellings.binding_laws.Numbered.{has_contains}
use Rattle.text_values.proofs.form_spellings.binding_laws.Ones.{one_has, has_one, one_either, each_front, each_back}

pub each_at : {X : Type 0} (P : X → Type 0) (xs : List X) (x : X) → Each P xs → Has xs x → P x
each_at P [] x e h = absurd h
each_at P (y ∷ xs) x e (inl g) = subst P g e.0
each_at P (y ∷ xs) x e (inr h) = each_at P xs x e.1 h

each_by : {X : Type 0} (P Q : X → Type 0) (xs : List X) → ((x : X) → P x → Q x) → Each P xs → Each Q xs
each_by P Q [] f e = tt
each_by P Q (x ∷ xs) f e = (f x e.0, each_by P Q xs f e.1)

each_none : {X : Type 0} (P Q : X → Type 0) (xs : List X) → (One P xs → ⊥) → Each (λ x. P x → Q x) xs
each_none P Q [] n = tt
each_none P Q (x ∷ xs) n = ((λ p. absurd (n (inl p))), each_none P Q xs (λ o. n (inr o)))

each_both : {X : Type 0} (P : X → Type 0) (xs ys : List X) → Each P xs → Each P ys → Each P (xs ++ ys)
each_both P [] ys e f = f
each_both P (x ∷ xs) ys e f = (e.0, each_both P xs ys e.1 f)

pub has_left : {X : Type 0} (xs ys : List X) (x : X) → Has xs x → Has (xs ++ ys) x
has_left [] ys x h = absurd h
has_left (z ∷ xs) ys x (inl e) = inl e
has_left (z ∷ xs) ys x (inr h) = inr (has_left xs ys x h)

pub has_right : {X : Type 0} (xs ys : List X) (x : X) → Has ys x → Has (xs ++ ys) x
has_right [] ys x h = h
has_right (z ∷ xs) ys x h = inr (has_right xs ys x h)

-- each declaration stands at its own place
offset_has : (hs : List RawHead) (h : RawHead) → Has hs h → Has (offsets hs) h.name.at
offset_has [] h m = absurd m
offset_has (g ∷ hs) h (inl e) = inl (ap (λ (k : RawHead). k.name.at) e)
offset_has (g ∷ hs) h (inr m) = inr (offset_has hs h m)

one_at : (hs : List RawHead) (g h : RawHead) → AreDifferent (offsets hs) → Has hs g → Has hs h → g.name.at ≡ h.name.at → g ≡ h
one_at [] g h d m l e = absurd m
one_at (k ∷ hs) g h d (inl i) (inl j) e = sym i ∙ j
one_at (k ∷ hs) g h d (inl i) (inr l) e = absurd (d.0 (has_contains (offsets hs) k.name.at (subst (Has (offsets hs)) (sym e ∙ sym (ap (λ (z : RawHead). z.name.at) i)) (offset_has hs h l))))
one_at (k ∷ hs) g h d (inr m) (inl j) e = absurd (d.0 (has_contains (offsets hs) k.name.at (subst (Has (offsets hs)) (e ∙ sym (ap (λ (z : RawHead). z.name.at) j)) (offset_has hs g m))))
one_at (k ∷ hs) g h d (inr m) (inr l) e = one_at hs g h d.1 m l e

two_lists : (ts hs : List RawHead) (g h : RawHead) → AreDifferent (offsets (ts ++ hs)) → Has ts g → Has hs h → g.name.at ≡ h.name.at → ⊥
two_lists [] hs g h d m l e = m
two_lists (k ∷ ts) hs g h d (inl i) l e = d.0 (has_contains (offsets (ts ++ hs)) k.name.at (subst (Has (offsets (ts ++ hs))) (sym e ∙ sym (ap (λ (z : RawHead). z.name.at) i)) (offset_has (ts ++ hs) h (has_right ts hs h l))))
two_lists (k ∷ ts) hs g h d (inr m) l e = two_lists ts hs g h d.1 m l e

module _ (names : Names) (differ : AreDifferent names) (n : ℕ) (known : n < length names) where
  abbrev pub Of : RawHead → Type 0
  Of = IsOf names differ n known

  abbrev pub NoEarlier : RawHead → RawHead → Type 0
  NoEarlier h g = Of g → h.name.at ≤ g.name.at

  -- the first of one list
  pub record IsCalled (head : ℕ → Head) (hs : List RawHead) (x : Callable) : Type 0 where
    pub declaration : RawHead
    pub member : Has hs declaration
    pub is : Of declaration
    pub first : Each (NoEarlier declaration) hs
    pub arity : length declaration.params ≡ x.arity
    pub place : declaration.name.at ≡ x.at
    pub number : ℕ
    pub is_head : x.head ≡ head number

  abbrev pub found : (ℕ → Head) → ℕ → List RawHead → Option Callable
  found head k hs = first_called n (callables_from head k hs)

  pub none_called : (head : ℕ → Head) (k : ℕ) (hs : List RawHead) → EachIs (λ (h : RawHead). IsIn names h.name.name) hs → found head k hs ≡ None → One Of hs → ⊥
  none_called head k [] i e o = absurd o
  none_called head k (h ∷ hs) i e o = go (eqb n h.name.name.number) refl e o (none_called head (suc k) hs i.1)
    where
      go : (b : Bool) → eqb n h.name.name.number ≡ b → cond b (Some (callable (head k) h)) (found head (suc k) hs) ≡ None → One Of (h ∷ hs) → (found head (suc k) hs ≡ None → One Of hs → ⊥) → ⊥
      go true f e o more = absurd (cc)
      go false f e (inl w) more = to_number names differ n known h i.0 f w
      go false f e (inr o) more = more e o

  pub some_called : (head : ℕ → Head) (k : ℕ) (hs : List RawHead) (x : Callable) → EachIs (λ (h : RawHead). IsIn names h.name.name) hs → AreRising hs → found head k hs ≡ Some x → IsCalled head hs x
  some_called head k [] x i up e = absurd (cc)
  some_called head k (h ∷ hs) x i up e = go (eqb n h.name.name.number) refl e (some_called head (suc k) hs x i.1 up.1)
    where
      go : (b : Bool) → eqb n h.name.name.number ≡ b → cond b (Some (callable (head k) h)) (found head (suc k) hs) ≡ Some x → (found head (suc k) hs ≡ Some x → IsCalled head hs x) → IsCalled head (h ∷ hs) x
      go true f e more =
          let same : callable (head k) h ≡ x = cc in
          record {
            declaration = h;
            member = inl refl;
            is = of_number names differ n known h f;
            first = ((λ w. omega arith), each_by (λ (g : RawHead). h.name.at < g.name.at) (NoEarlier h) hs (λ g l w. omega arith) up.0);
            arity = ap (λ (c : Callable). c.arity) same;
            place = ap (λ (c : Callable). c.at) same;
            number = k;
            is_head = sym (ap (λ (c : Callable). c.head) same);
          }
      go false f e more =
          let r = more e in
          record {
            declaration = r.declaration;
            member = inr r.member;
            is = r.is;
            first = ((λ w. absurd (to_number names differ n known h i.0 f w)), r.first);
            arity = r.arity;
            place = r.place;
            number = r.number;
            is_head = r.is_head;
          }

  module _ (ts hs : List RawHead) (ins : EachIs (λ (h : RawHead). IsIn names h.name.name) ts) (inh : EachIs (λ (h : RawHead). IsIn names h.name.name) hs) (upt : AreRising ts) (uph : AreRising hs) (apart : AreDifferent (offsets (ts ++ hs))) where
    abbrev pub First : RawHead → Type 0
    First = IsFirstAmong names differ n known (ts ++ hs)

    abbrev pub Stands : (ℕ → Head) → List RawHead → Callable → Type 0
    Stands head among z = (h : RawHead) × Has among h × First h × (length h.params ≡ z.arity) × ((j : ℕ) × (z.head ≡ head j)) × (h.name.at ≡ z.at)

    abbrev pub Answer : Option Callable → Type 0
    Answer None = One Of (ts ++ hs) → ⊥
    Answer (Some z) = Stands Task ts z ⊎ Stands Action hs z

    of_tasks : (x : Callable) (r : IsCalled Task ts x) → Each (NoEarlier r.declaration) hs → Answer (Some x)
    of_tasks x r e = inl (r.declaration, r.member, (r.is, each_both (NoEarlier r.declaration) ts hs r.first e), r.arity, (r.number, r.is_head), r.place)

    of_actions : (x : Callable) (r : IsCalled Action hs x) → Each (NoEarlier r.declaration) ts → Answer (Some x)
    of_actions x r e = inr (r.declaration, r.member, (r.is, each_both (NoEarlier r.declaration) ts hs e r.first), r.arity, (r.number, r.is_head), r.place)

    sooner : (x y : Callable) (r : IsCalled Task ts x) (s : IsCalled Action hs y) (b : Bool) → nat_lt y.at x.at ≡ b → Answer (cond b (Some y) (Some x))
    sooner x y r s true e = of_actions y s (each_by (NoEarlier r.declaration) (NoEarlier s.declaration) ts (λ g l w. let m = l w in let p = r.place in let q = s.place in let f = ltb-true y.at x.at e in omega arith) r.first)
    sooner x y r s false e = of_tasks x r (each_by (NoEarlier s.declaration) (NoEarlier r.declaration) hs (λ g l w. let m = l w in let p = r.place in let q = s.place in let f = ltb-false y.at x.at e in omega arith) s.first)

    pub answer : (o p : Option Callable) → found Task 0 ts ≡ o → found Action 0 hs ≡ p → Answer (sooner_called o p)
    answer None None e f = λ o. elim (one_either Of ts hs o) [ inl i ↦ none_called Task 0 ts ins e i | inr i ↦ none_called Action 0 hs inh f i ]
    answer None (Some y) e f = of_actions y (some_called Action 0 hs y inh uph f) (each_none Of (λ g. (some_called Action 0 hs y inh uph f).declaration.name.at ≤ g.name.at) ts (none_called Task 0 ts ins e))
    answer (Some x) None e f = of_tasks x (some_called Task 0 ts x ins upt e) (each_none Of (λ g. (some_called Task 0 ts x ins upt e).declaration.name.at ≤ g.name.at) hs (none_called Action 0 hs inh f))
    answer (Some x) (Some y) e f = sooner x y (some_called Task 0 ts x ins upt e) (some_called Action 0 hs y inh uph f) (nat_lt y.at x.at) refl

    -- one declaration is the first
    same_place : (g h : RawHead) → Has (ts ++ hs) g → Has (ts ++ hs) h → First g → First h → g.name.at ≡ h.name.at
    same_place g h m l p q =
        let a = each_at (NoEarlier g) (ts ++ hs) h p.1 l q.0 in
        let b = each_at (NoEarlier h) (ts ++ hs) g q.1 m p.0 in
        omega arith

    same : (g h : RawHead) → Has (ts ++ hs) g → Has (ts ++ hs) h → First g → First h → g ≡ h
    same g h m l p q = one_at (ts ++ hs) g h apart m l (same_place g h m l p q)

    -- the faults of a call, where these may be meant
    abbrev Meets : List RawHead → Option Callable → Type 0
    Meets meant None = One First meant → ⊥
    Meets meant (Some z) = (h : RawHead) × Has meant h × First h × (length h.params ≡ z.arity)

    module _ (meant : List RawHead) (wide : (h : RawHead) → Has meant h → Has (ts ++ hs) h) (a : RawAtom) (code at : ℕ) where
      abbrev IsWrong : Type 0
      IsWrong = (a.head.at ≡ at) × (((code ≡ 14) × (One First meant → ⊥)) ⊎ ((code ≡ 17) × One (λ h. First h × (length h.params ≢ length a.args)) meant))

      by_arity : (z : Callable) → Meets meant (Some z) → (b : Bool) → eqb z.arity (length a.args) ≡ b → Has (cond b [] (spot a.head.at 17 ∷ [])) (spot at code) → IsWrong
      by_arity z m true e h = absurd h
      by_arity z m false e (inr h) = absurd h
      by_arity z m false e (inl h) = (
        ap (λ (s : Spot). s.at) h,
        inr (
          sym (ap (λ (s : Spot). s.code) h),
          has_one (λ h. First h × (length h.params ≢ length a.args)) meant m.0 m.1 (m.2, λ g. eqb-false z.arity (length a.args) e (sym m.3 ∙ g)),
        ),
      )

      pub wrong_there : (o : Option Callable) → Meets meant o → Has (call_faults o a) (spot at code) → IsWrong
      wrong_there None m (inl h) = (ap (λ (s : Spot). s.at) h, inl (sym (ap (λ (s : Spot). s.code) h), m))
      wrong_there None m (inr h) = absurd h
      wrong_there (Some z) m h = by_arity z m (eqb z.arity (length a.args)) refl h

      other : (z : Callable) → Meets meant (Some z) → One (λ h. First h × (length h.params ≢ length a.args)) meant → z.arity ≡ length a.args → ⊥
      other z m o e =
          let g = one_has (λ h. First h × (length h.params ≢ length a.args)) meant o in
          let is = same m.0 g.0 (wide m.0 m.1) (wide g.0 g.1) m.2 g.2.0 in
          g.2.1 (ap (λ (h : RawHead). length h.params) (sym is) ∙ m.3 ∙ e)

      by_code : (z : Callable) → a.head.at ≡ at → code ≡ 17 → (z.arity ≡ length a.args → ⊥) → (b : Bool) → eqb z.arity (length a.args) ≡ b → Has (cond b [] (spot a.head.at 17 ∷ [])) (spot at code)
      by_code z e c x true f = absurd (x (eqb-true z.arity (length a.args) f))
      by_code z e c x false f = inl (ap (λ y. spot y 17) e ∙ ap (spot at) (sym c))

      pub wrong_back : (o : Option Callable) → Meets meant o → IsWrong → Has (call_faults o a) (spot at code)
      wrong_back None m (e, inl c) = inl (ap (λ y. spot y 14) e ∙ ap (spot at) (sym c.0))
      wrong_back None m (e, inr c) = absurd (m (one_map (λ h. First h × (length h.params ≢ length a.args)) First meant (λ h p. p.0) c.1))
      wrong_back (Some z) m (e, inl c) = absurd (c.1 (has_one First meant m.0 m.1 m.2))
      wrong_back (Some z) m (e, inr c) = by_code z e c.0 (other z m c.1) (eqb z.arity (length a.args)) refl

    -- of a subtask
    pub meets : (o : Option Callable) → Answer o → Meets (ts ++ hs) o
    meets None w = λ o. w (one_map First Of (ts ++ hs) (λ h p. p.0) o)
    meets (Some z) (inl s) = (s.0, has_left ts hs s.0 s.1, s.2, s.3)
    meets (Some z) (inr s) = (s.0, has_right ts hs s.0 s.1, s.2, s.3)

    -- of the task of a method
    by_head : (z : Callable) (head : Head) → z.head ≡ head → Answer (Some z) → Meets ts (only_task head z)
    by_head z (Task k) e (inl s) = (s.0, s.1, s.2, s.3)
    by_head z (Task k) e (inr s) = let f = sym e ∙ s.4.1 in absurd (cc)
    by_head z (Action k) e (inl s) = let f = sym e ∙ s.4.1 in absurd (cc)
    by_head z (Action k) e (inr s) = λ o.
        let g = one_has First ts o in
        two_lists ts hs g.0 s.0 apart g.1 s.1 (same_place g.0 s.0 (has_left ts hs g.0 g.1) (has_right ts hs s.0 s.1) g.2 s.2)
    by_head z Check e (inl s) = let f = sym e ∙ s.4.1 in absurd (cc)
    by_head z Check e (inr s) = let f = sym e ∙ s.4.1 in absurd (cc)

    pub meets_task : (o : Option Callable) → Answer o → Meets ts (if_task o)
    meets_task None w = λ o. let g = one_has First ts o in w (has_one Of (ts ++ hs) g.0 (has_left ts hs g.0 g.1) g.2.0)
    meets_task (Some z) w = by_head z z.head refl w

module _ (names : Names) (d : RawDomain) (known : Declared) (of : AreCallablesOf names d known) where
  abbrev ts : List RawHead
  ts = d.tasks

  abbrev hs : List RawHead
  hs = heads d.actions

  pub ins : EachIs (λ (h : RawHead). IsIn names h.name.name) ts
  ins = each_front (λ (h : RawHead). IsIn names h.name.name) ts hs of.words_in

  pub inh : EachIs (λ (h : RawHead). IsIn names h.name.name) hs
  inh = each_back (λ (h : RawHead). IsIn names h.name.name) ts hs of.words_in

  pub upt : AreRising ts
  upt = rising ts of.tasks_in_order

  pub uph : AreRising hs
  uph = rising hs of.actions_in_order

module _ (names : Names) (d : RawDomain) (known : Declared) (of : AreCallablesOf names d known) (a : RawAtom) (is : IsIn names a.head.name) where
  answered : Answer names of.differ a.head.name.number is d.tasks (heads d.actions) (ins names d known of) (inh names d known of) (upt names d known of) (uph names d known of) of.apart (stands_for (declared d.tasks d.actions) a.head.name.number)
  answered = answer names of.differ a.head.name.number is d.tasks (heads d.actions) (ins names d known of) (inh names d known of) (upt names d known of) (uph names d known of) of.apart (first_called a.head.name.number (callables_from Task 0 d.tasks)) (first_called a.head.name.number (callables_from Action 0 (heads d.actions))) refl refl

  call_has : (objects : List Word) (here : Scope) (code at : ℕ) → Has (call_faults (called (declared d.tasks d.actions) a) a) (spot at code) ↔ HasUseFault names d objects here (applies subtask a) code at
  call_has objects here code at =
      let m = meets names of.differ a.head.name.number is d.tasks (heads d.actions) (ins names d known of) (inh names d known of) (upt names d known of) (uph names d known of) of.apart (stands_for (declared d.tasks d.actions) a.head.name.number) answered in (
        wrong_there names of.differ a.head.name.number is d.tasks (heads d.actions) (ins names d known of) (inh names d known of) (upt names d known of) (uph names d known of) of.apart (d.tasks ++ (heads d.actions)) (λ h l. l) a code at (stands_for (declared d.tasks d.actions) a.head.name.number) m,
        wrong_back names of.differ a.head.name.number is d.tasks (heads d.actions) (ins names d known of) (inh names d known of) (upt names d known of) (uph names d known of) of.apart (d.tasks ++ (heads d.actions)) (λ h l. l) a code at (stands_for (declared d.tasks d.actions) a.head.name.number) m,
      )

  task_has : (objects : List Word) (here : Scope) (code at : ℕ) → Has (call_faults (method_task (declared d.tasks d.actions) a) a) (spot at code) ↔ HasUseFault names d objects here (applies task a) code at
  task_has objects here code at =
      let m = meets_task names of.differ a.head.name.number is d.tasks (heads d.actions) (ins names d known of) (inh names d known of) (upt names d known of) (uph names d known of) of.apart (stands_for (declared d.tasks d.actions) a.head.name.number) answered in (
        wrong_there names of.differ a.head.name.number is d.tasks (heads d.actions) (ins names d known of) (inh names d known of) (upt names d known of) (uph names d known of) of.apart d.tasks (has_left d.tasks (heads d.actions)) a code at (if_task (stands_for (declared d.tasks d.actions) a.head.name.number)) m,
        wrong_back names of.differ a.head.name.number is d.tasks (heads d.actions) (ins names d known of) (inh names d known of) (upt names d known of) (uph names d known of) of.apart d.tasks (has_left d.tasks (heads d.actions)) a code at (if_task (stands_for (declared d.tasks d.actions) a.head.name.number)) m,
      )

pub has_call_faults : OfAllCallables HasCallFaults
has_call_faults names d known objects here a code at of is = subst (λ k. Has (call_faults (called k a) a) (spot at code) ↔ HasUseFault names d objects here (applies subtask a) code at) (sym of.are) (call_has names d known of a is objects here code at)

pub has_task_faults : OfAllCallables HasTaskFaults
has_task_faults names d known objects here a code at of is = subst (λ k. Has (call_faults (method_task k a) a) (spot at code) ↔ HasUseFault names d objects here (applies task a) code at) (sym of.are) (task_has names d known of a is objects here code at)
