-- What a search for what is kept has marked stays sound with one method more, and at the end it is what is kept.
use Rattle.std.proofs.Common.{ℕ, ◌≡◌, ◌+◌, ◌<◌, ◌≤◌, ◌⊎◌, inl, inr, List, [], ◌∷◌, ◌++◌, length, take, get_or, Some, slice_get, refl, ap, sym, subst, ◌∙◌, Contains, arith}
use Rattle.std.specs.List.Sorted.{IsStrictlyIncreasing}
use Rattle.std.proofs.lemmas.Option.{slice_get_within}
use Rattle.std.proofs.lemmas.List.{take_more}
use Rattle.std.proofs.lemmas.List.Elements.{Contains-push, Contains-push_cases, Contains-append_left}
use Rattle.plan_model.specs.declared.networks.Child.{Child}
use Rattle.plan_model.specs.declared.networks.Head.{Head}
use Rattle.plan_model.specs.declared.networks.Head.TheVariants.{Task, Action, Check}
use Rattle.plan_model.specs.declared.schemas.MethodSchema.{MethodSchema}
use Rattle.plan_model.specs.declared.values.Hddl.{Hddl}
use Rattle.plan_model.proofs.task_networks.Lists.{not-in_empty}
use Rattle.live_parts.specs.Live.{Parts}
use Rattle.live_parts.specs.Kept.{Kept, IsReached, below_top, below, IsKeptMethod, AreKept}
use Rattle.hddl_prune.specs.Places.{HasAlso}
use Rattle.hddl_prune.specs.Search.{IsMarkedHead, MarksHeads, IsHeadOf, AreOpened, opened, AreOpeningsSettled}
use Rattle.hddl_prune.proofs.PlaceLemmas.{longer, few}

-- one head or some heads more
pub marked_stays : (P : Head → Type 0) (old new : Kept) → MarksHeads P old new → (x : Head) → IsMarkedHead old x → IsMarkedHead new x
marked_stays P old new m (Task t) k = (m.tasks t).1 (inl k)
marked_stays P old new m (Action a) k = (m.actions a).1 (inl k)
marked_stays P old new m Check k = tt

pub marked_now : (P : Head → Type 0) (old new : Kept) → MarksHeads P old new → (x : Head) → P x → IsMarkedHead new x
marked_now P old new m (Task t) k = (m.tasks t).1 (inr k)
marked_now P old new m (Action a) k = (m.actions a).1 (inr k)
marked_now P old new m Check k = tt

also_then : (xs ys zs : List ℕ) (P Q R : ℕ → Type 0) → ((k : ℕ) → R k → P k ⊎ Q k) → ((k : ℕ) → P k → R k) → ((k : ℕ) → Q k → R k) → HasAlso xs P ys → HasAlso ys Q zs → HasAlso xs R zs
also_then xs ys zs P Q R split p q h g = λ k. (
  λ c. elim ((g k).0 c) [ inl d ↦ elim ((h k).0 d) [ inl x ↦ inl x | inr x ↦ inr (p k x) ] | inr x ↦ inr (q k x) ],
  λ c. elim c [ inl x ↦ (g k).1 (inl ((h k).1 (inl x))) | inr r ↦ elim (split k r) [ inl x ↦ (g k).1 (inl ((h k).1 (inr x))) | inr x ↦ (g k).1 (inr x) ] ],
)

pub marks_then : (P Q R : Head → Type 0) (a b c : Kept) → ((x : Head) → R x → P x ⊎ Q x) → ((x : Head) → P x → R x) → ((x : Head) → Q x → R x) → MarksHeads P a b → MarksHeads Q b c → MarksHeads R a c
marks_then P Q R a b c split p q m n = record {
  tasks = also_then a.tasks b.tasks c.tasks (λ t. P (Task t)) (λ t. Q (Task t)) (λ t. R (Task t)) (λ t. split (Task t)) (λ t. p (Task t)) (λ t. q (Task t)) m.tasks n.tasks;
  actions = also_then a.actions b.actions c.actions (λ t. P (Action t)) (λ t. Q (Action t)) (λ t. R (Action t)) (λ t. split (Action t)) (λ t. p (Action t)) (λ t. q (Action t)) m.actions n.actions;
  methods = n.methods ∙ m.methods;
}

pub also_none : (xs : List ℕ) (P : ℕ → Type 0) → ((k : ℕ) → P k → ⊥) → HasAlso xs P xs
also_none xs P none = λ k. (inl, λ c. elim c [ inl x ↦ x | inr x ↦ absurd (none k x) ])

pub also_as : (xs ys : List ℕ) (P Q : ℕ → Type 0) → ((k : ℕ) → P k → Q k) → ((k : ℕ) → Q k → P k) → HasAlso xs P ys → HasAlso xs Q ys
also_as xs ys P Q to from h = λ k. (λ c. elim ((h k).0 c) [ inl x ↦ inl x | inr x ↦ inr (to k x) ], λ c. (h k).1 (elim c [ inl x ↦ inl x | inr x ↦ inr (from k x) ]))

pub marks_none : (P : Head → Type 0) (a : Kept) → ((x : Head) → P x → ⊥) → MarksHeads P a a
marks_none P a none = record {
  tasks = also_none a.tasks (λ t. P (Task t)) (λ t. none (Task t));
  actions = also_none a.actions (λ t. P (Action t)) (λ t. none (Action t));
  methods = refl;
}

pub marks_task : (old : Kept) (head : Head) (t : ℕ) (new : List ℕ) → head ≡ Task t → HasAlso old.tasks (λ k. k ≡ t) new
    → MarksHeads (λ x. x ≡ head) old (record { tasks = new; actions = old.actions; methods = old.methods })
marks_task old head t new is h = record {
  tasks = also_as old.tasks new (λ k. k ≡ t) (λ k. Task k ≡ head) (λ k e. ap Task e ∙ sym is) (λ k e. (let f : Task k ≡ Task t = e ∙ is in cc)) h;
  actions = also_none old.actions (λ k. Action k ≡ head) (λ k e. (let f : Action k ≡ Task t = e ∙ is in absurd cc));
  methods = refl;
}

pub marks_action : (old : Kept) (head : Head) (a : ℕ) (new : List ℕ) → head ≡ Action a → HasAlso old.actions (λ k. k ≡ a) new
    → MarksHeads (λ x. x ≡ head) old (record { tasks = old.tasks; actions = new; methods = old.methods })
marks_action old head a new is h = record {
  tasks = also_none old.tasks (λ k. Task k ≡ head) (λ k e. (let f : Task k ≡ Action a = e ∙ is in absurd cc));
  actions = also_as old.actions new (λ k. k ≡ a) (λ k. Action k ≡ head) (λ k e. ap Action e ∙ sym is) (λ k e. (let f : Action k ≡ Action a = e ∙ is in cc)) h;
  methods = refl;
}

pub heads_none : (children : List Child) (a : Kept) → MarksHeads (IsHeadOf (take 0 children)) a a
heads_none children a = marks_none (IsHeadOf (take 0 children)) a (λ x k. not-in_empty k.0 k.1)

pub heads_next : (children : List Child) (i : ℕ) (d child : Child) → i < length children → child ≡ get_or children i d → (a b c : Kept)
    → MarksHeads (IsHeadOf (take i children)) a b → MarksHeads (λ x. x ≡ child.head) b c → MarksHeads (IsHeadOf (take (i + 1) children)) a c
heads_next children i d child l e a b c m n = subst (λ z. MarksHeads (IsHeadOf z) a c) (sym (take_more children i d l)) (subst (λ z. MarksHeads (IsHeadOf (take i children ++ z ∷ [])) a c) e
    (marks_then (IsHeadOf (take i children)) (λ x. x ≡ child.head) (IsHeadOf (take i children ++ child ∷ [])) a b c
    (λ x k. elim (Contains-push_cases (take i children) child k.0 k.1) [ inl d ↦ inl (k.0, d, k.2) | inr f ↦ inr (sym k.2 ∙ ap (λ (z : Child). z.head) (sym f)) ])
    (λ x k. (k.0, Contains-append_left (take i children) (child ∷ []) k.0 k.1, k.2))
    (λ x f. (child, Contains-push (take i children) child, sym f)) m n))

module _ (h : Hddl) (live : Parts) where
  -- the heads of the top method
  pub top_opened : (old new : Kept) → old.tasks ≡ [] → old.actions ≡ [] → old.methods ≡ [] → MarksHeads (IsHeadOf h.top.children) old new → AreOpened h live new
  top_opened old new et ea em m = record {
    top = λ child c. marked_now (IsHeadOf h.top.children) old new m child.head (child, c, refl);
    opened = λ n s e c. absurd (none n c);
    tasks = λ t c. elim ((m.tasks t).0 c) [ inl k ↦ absurd (not-in_empty t (subst (λ z. Contains z t) et k)) | inr k ↦ subst (IsReached h live) k.2 (below_top k.1) ];
    actions = λ a c. elim ((m.actions a).0 c) [ inl k ↦ absurd (not-in_empty a (subst (λ z. Contains z a) ea k)) | inr k ↦ subst (IsReached h live) k.2 (below_top k.1) ];
    methods = λ n c. absurd (none n c);
    methods_rise = subst IsStrictlyIncreasing (sym (m.methods ∙ em)) (λ i l. absurd (omega arith));
  }
    where
      none : (n : ℕ) → Contains new.methods n → ⊥
      none n c = not-in_empty n (subst (λ z. Contains z n) (m.methods ∙ em) c)

  -- one method more: middle has it, new has its heads too
  module _ (old middle new : Kept) (n : ℕ) (s : MethodSchema) (e : slice_get h.methods n ≡ Some s) (alive : Contains live.methods n) (marked : Contains old.tasks s.task)
      (ms : HasAlso old.methods (λ k. k ≡ n) middle.methods) (rise : IsStrictlyIncreasing middle.methods) (ts : middle.tasks ≡ old.tasks) (acts : middle.actions ≡ old.actions)
      (m : MarksHeads (IsHeadOf s.children) middle new) where
    stays : (x : Head) → IsMarkedHead old x → IsMarkedHead new x
    stays (Task t) k = (m.tasks t).1 (inl (subst (λ z. Contains z t) (sym ts) k))
    stays (Action a) k = (m.actions a).1 (inl (subst (λ z. Contains z a) (sym acts) k))
    stays Check k = tt

    same_method : (k : ℕ) (r : MethodSchema) → k ≡ n → slice_get h.methods k ≡ Some r → s ≡ r
    same_method k r x f = let y : Some s ≡ Some r = sym e ∙ ap (slice_get h.methods) (sym x) ∙ f in cc

    has : (k : ℕ) → Contains new.methods k → Contains old.methods k ⊎ (k ≡ n)
    has k c = (ms k).0 (subst (λ z. Contains z k) m.methods c)

    pub opened_sound : AreOpened h live old → AreOpened h live new
    opened_sound f = record {
      top = λ child c. stays child.head (f.top child c);
      opened = λ k r er c child d. elim (has k c) [
        | inl x ↦ stays child.head (f.opened k r er x child d)
        | inr x ↦ marked_now (IsHeadOf s.children) middle new m child.head (child, subst (λ (z : MethodSchema). Contains z.children child) (sym (same_method k r x er)) d, refl)
      ];
      tasks = λ t c. elim ((m.tasks t).0 c) [ inl k ↦ f.tasks t (subst (λ z. Contains z t) ts k) | inr k ↦ subst (IsReached h live) k.2 (below e alive (f.tasks s.task marked) k.1) ];
      actions = λ a c. elim ((m.actions a).0 c) [ inl k ↦ f.actions a (subst (λ z. Contains z a) acts k) | inr k ↦ subst (IsReached h live) k.2 (below e alive (f.tasks s.task marked) k.1) ];
      methods = λ k c. elim (has k c) [
        | inl x ↦ f.methods k x
        | inr x ↦ subst (IsKeptMethod h live) (sym x) (alive, (s, e, f.tasks s.task marked))
      ];
      methods_rise = subst IsStrictlyIncreasing (sym m.methods) rise;
    }

    pub opened_more : (Contains old.methods n → ⊥) → AreOpened h live old → opened h live old < opened h live new
    opened_more out f =
        let l = longer old.methods middle.methods n f.methods_rise ms out in
        let k = ap length m.methods in
        omega arith

  pub opened_few : (kept : Kept) → AreOpened h live kept → opened h live kept ≤ length h.methods
  opened_few kept f = few kept.methods (length h.methods) f.methods_rise (λ n c. (let k = f.methods n c in slice_get_within h.methods n k.1.0 k.1.1))

  -- where nothing more is to be opened, what is reached is marked
  module _ (kept : Kept) (f : AreOpened h live kept) (settled : AreOpeningsSettled h live kept) where
    reached_marked : (x : Head) → IsReached h live x → IsMarkedHead kept x
    reached_marked x (below_top {child} c) = f.top child c
    reached_marked x (below {child} {n} {s} e alive r c) = f.opened n s e (settled n s e alive (reached_marked (Task s.task) r)) child c

    pub settled_kept : IsStrictlyIncreasing kept.tasks → IsStrictlyIncreasing kept.actions → AreKept h live kept
    settled_kept tasks actions = record {
      tasks = λ t. (f.tasks t, reached_marked (Task t));
      actions = λ a. (f.actions a, reached_marked (Action a));
      methods = λ n. (f.methods n, λ k. settled n k.1.0 k.1.1 k.0 (reached_marked (Task k.1.0.task) k.1.2));
      tasks_in_order = tasks;
      actions_in_order = actions;
      methods_in_order = f.methods_rise;
    }

    -- the same as lists
    pub chosen_kept : (tasks actions methods : List ℕ) → tasks ≡ kept.tasks → actions ≡ kept.actions → methods ≡ kept.methods → IsStrictlyIncreasing tasks → IsStrictlyIncreasing actions
        → AreKept h live (record { tasks = tasks; actions = actions; methods = methods })
    chosen_kept tasks actions methods et ea em rt ra =
        let are = settled_kept (subst IsStrictlyIncreasing et rt) (subst IsStrictlyIncreasing ea ra) in
        let a : AreKept h live (record { tasks = tasks; actions = kept.actions; methods = kept.methods }) =
        subst (λ z. AreKept h live (record { tasks = z; actions = kept.actions; methods = kept.methods })) (sym et) are in
        let b : AreKept h live (record { tasks = tasks; actions = actions; methods = kept.methods }) = subst (λ z. AreKept h live (record { tasks = tasks; actions = z; methods = kept.methods })) (sym ea) a in
        subst (λ z. AreKept h live (record { tasks = tasks; actions = actions; methods = z })) (sym em) b
