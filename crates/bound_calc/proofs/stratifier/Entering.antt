-- Tasks that are entered one after another.
use Rattle.std.proofs.Common.{ℕ, ◌≡◌, ◌+◌, ◌<◌, ◌⊎◌, ◌↔◌, inl, inr, List, [], ◌∷◌, ◌++◌, length, Bool, true, false, cond, get_or, set, take, Contains, refl, sym, subst, ap, ◌∙◌, arith, length-set}
use Rattle.std.proofs.lemmas.Bool.{false≢true}
use Rattle.std.proofs.lemmas.Option.{same_Some}
use Rattle.std.proofs.lemmas.List.{take_more, length_push}
use Rattle.std.proofs.lemmas.List.Sums.{sum_by-set}
use Rattle.std.proofs.lemmas.List.Elements.{Contains-push, Contains-push_cases, Contains-append_left}
use Rattle.plan_model.specs.declared.networks.Head.TheVariants.{Task}
use Rattle.plan_model.specs.declared.networks.Child.{Child}
use Rattle.plan_model.specs.declared.schemas.MethodPlan.{MethodPlan}
use Rattle.plan_model.specs.Parts.{IsMarked, unmarked}
use Rattle.plan_model.proofs.Marks.{set_is_marked, set_keeps, set_marks}
use Rattle.std.specs.Prelude.{slice_get, Some}
use Rattle.bound_calc.specs.declared.stratifier.reach.Walk.{Walk}
use Rattle.bound_calc.specs.stratifier.Links.{IsSubtask, IsSubtaskOf}
use Rattle.bound_calc.specs.stratifier.Entered.{AreEntered}

abbrev weight : Bool → ℕ
weight mark = cond mark 0 1

one_mark_more : (marks : List Bool) (i : ℕ) → i < length marks → get_or marks i false ≡ false → unmarked (set marks i true) + 1 ≡ unmarked marks
one_mark_more marks i l e =
    let s = sum_by-set weight marks i true false l in
    let f : weight (get_or marks i false) ≡ 1 = ap (λ b. weight b) e in
    let g : weight true ≡ 0 = refl in
    omega (arith, s, f, g)

pub entered_none : (Into : ℕ → Type 0) → ((t : ℕ) → Into t → ⊥) → (w : Walk) → AreEntered Into w w
entered_none Into none w = record {
  room = refl;
  marks = λ t. (inl, λ h. elim h [ inl m ↦ m | inr x ↦ absurd (none t x) ]);
  kept = λ t c. c;
  added = λ t c. inl c;
  to_do = λ t m. inl m;
  many = refl;
}

pub entered_one : (u : ℕ) (old new : Walk) → u < length old.marks.items → get_or old.marks.items u false ≡ false → new.marks.items ≡ set old.marks.items u true → new.work.items ≡ old.work.items ++ u ∷ []
    → AreEntered (λ t. t ≡ u) old new
entered_one u old new l n e f = record {
  room = ap length e ∙ length-set old.marks.items u true;
  marks = λ t. (
    λ m. elim (set_marks old.marks.items u t (subst (λ s. IsMarked s t) e m)) [ inl h ↦ inr h | inr h ↦ inl h ],
    λ h. subst (λ s. IsMarked s t) (sym e) (elim h [ inl m ↦ set_keeps old.marks.items u t m | inr k ↦ subst (IsMarked (set old.marks.items u true)) (sym k) (set_is_marked old.marks.items u l) ]),
  );
  kept = λ t c. subst (λ s. Contains s t) (sym f) (Contains-append_left old.work.items (u ∷ []) t c);
  added = λ t c. elim (Contains-push_cases old.work.items u t (subst (λ s. Contains s t) f c)) [
    | inl h ↦ inl h
    | inr h ↦ inr (subst (λ s. IsMarked s t) (sym e) (subst (IsMarked (set old.marks.items u true)) h (set_is_marked old.marks.items u l)), λ m. false≢true (sym n ∙ subst (IsMarked old.marks.items) (sym h) m))
  ];
  to_do = λ t m. elim (set_marks old.marks.items u t (subst (λ s. IsMarked s t) e m)) [
    | inl h ↦ inr (subst (λ s. Contains s t) (sym f) (subst (Contains (old.work.items ++ u ∷ [])) (sym h) (Contains-push old.work.items u)))
    | inr h ↦ inl h
  ];
  many =
      let a = one_mark_more old.marks.items u l n in
      let b = ap unmarked e in
      let c = ap length f in
      let d = length_push old.work.items u in
      omega (arith, a, b, c, d);
}

pub entered_as : {P Q : ℕ → Type 0} → ((t : ℕ) → P t ↔ Q t) → (old new : Walk) → AreEntered P old new → AreEntered Q old new
entered_as same old new h = record {
  room = h.room;
  marks = λ t. (
    λ m. elim ((h.marks t).0 m) [ inl a ↦ inl a | inr b ↦ inr ((same t).0 b) ],
    λ m. elim m [ inl a ↦ (h.marks t).1 (inl a) | inr b ↦ (h.marks t).1 (inr ((same t).1 b)) ],
  );
  kept = h.kept;
  added = h.added;
  to_do = h.to_do;
  many = h.many;
}

pub entered_more : {P Q R : ℕ → Type 0} → ((t : ℕ) → R t ↔ (P t ⊎ Q t)) → (old mid new : Walk) → AreEntered P old mid → AreEntered Q mid new → AreEntered R old new
entered_more parts old mid new a b = record {
  room = b.room ∙ a.room;
  marks = λ t. (
    λ m. elim ((b.marks t).0 m) [
      | inl h ↦ elim ((a.marks t).0 h) [ inl k ↦ inl k | inr k ↦ inr ((parts t).1 (inl k)) ]
      | inr h ↦ inr ((parts t).1 (inr h))
    ],
    λ m. elim m [
      | inl h ↦ (b.marks t).1 (inl ((a.marks t).1 (inl h)))
      | inr h ↦ elim ((parts t).0 h) [ inl k ↦ (b.marks t).1 (inl ((a.marks t).1 (inr k))) | inr k ↦ (b.marks t).1 (inr k) ]
    ],
  );
  kept = λ t c. b.kept t (a.kept t c);
  added = λ t c. elim (b.added t c) [
    | inl h ↦ elim (a.added t h) [ inl k ↦ inl k | inr k ↦ inr ((b.marks t).1 (inl k.0), k.1) ]
    | inr h ↦ inr (h.0, λ m. h.1 ((a.marks t).1 (inl m)))
  ];
  to_do = λ t m. elim (b.to_do t m) [ inl h ↦ elim (a.to_do t h) [ inl k ↦ inl k | inr k ↦ inr (b.kept t k) ] | inr h ↦ inr h ];
  many = b.many ∙ a.many;
}

-- the subtasks among the first children
pub no_subtask : (children : List Child) (t : ℕ) → IsSubtask (take 0 children) t → ⊥
no_subtask children t (child, c, e) = let l = c.1 in omega arith

module _ (children : List Child) (k : ℕ) (d : Child) (l : k < length children) where
  abbrev next_child : Child
  next_child = get_or children k d

  pub subtask_more : (u : ℕ) → next_child.head ≡ Task u → (t : ℕ) → IsSubtask (take (k + 1) children) t ↔ (IsSubtask (take k children) t ⊎ (t ≡ u))
  subtask_more u is t = (
    λ h. elim (Contains-push_cases (take k children) next_child h.0 (subst (λ s. Contains s h.0) (take_more children k d l) h.1)) [
      | inl c ↦ inl (h.0, c, h.2)
      | inr e ↦ inr (same t u (sym h.2 ∙ (ap (λ (z : Child). z.head) (sym e) ∙ is)))
    ],
    λ h. elim h [
      | inl a ↦ (a.0, subst (λ s. Contains s a.0) (sym (take_more children k d l)) (Contains-append_left (take k children) (next_child ∷ []) a.0 a.1), a.2)
      | inr e ↦ (next_child, subst (λ s. Contains s next_child) (sym (take_more children k d l)) (Contains-push (take k children) next_child), is ∙ ap Task (sym e))
    ],
  )
    where
      same : (t u : ℕ) → Task t ≡ Task u → t ≡ u
      same t u e = cc

  pub subtask_over : ((u : ℕ) → next_child.head ≡ Task u → ⊥) → (t : ℕ) → IsSubtask (take k children) t ↔ IsSubtask (take (k + 1) children) t
  subtask_over none t = (
    λ a. (a.0, subst (λ s. Contains s a.0) (sym (take_more children k d l)) (Contains-append_left (take k children) (next_child ∷ []) a.0 a.1), a.2),
    λ h. elim (Contains-push_cases (take k children) next_child h.0 (subst (λ s. Contains s h.0) (take_more children k d l) h.1)) [
      | inl c ↦ (h.0, c, h.2)
      | inr e ↦ absurd (none t (ap (λ (z : Child). z.head) e ∙ h.2))
    ],
  )

-- the subtasks of the methods at the first places
pub no_subtask_of : (methods : List MethodPlan) (places : List ℕ) (t : ℕ) → IsSubtaskOf methods (take 0 places) t → ⊥
no_subtask_of methods places t (m, c, plan, is, s) = let l = c.1 in omega arith

pub subtask_of_more : (methods : List MethodPlan) (places : List ℕ) (k d : ℕ) → k < length places → (plan : MethodPlan) → slice_get methods (get_or places k d) ≡ Some plan
    → (t : ℕ) → IsSubtaskOf methods (take (k + 1) places) t ↔ (IsSubtaskOf methods (take k places) t ⊎ IsSubtask plan.schema.children t)
subtask_of_more methods places k d l plan is t = (
  λ h. elim (Contains-push_cases (take k places) (get_or places k d) h.0 (subst (λ s. Contains s h.0) (take_more places k d l) h.1)) [
    | inl c ↦ inl (h.0, c, h.2, h.3, h.4)
    | inr e ↦ inr (subst (λ (z : MethodPlan). IsSubtask z.schema.children t) (same_Some h.2 plan (sym h.3 ∙ (ap (slice_get methods) (sym e) ∙ is))) h.4)
  ],
  λ h. elim h [
    | inl a ↦ (a.0, subst (λ s. Contains s a.0) (sym (take_more places k d l)) (Contains-append_left (take k places) (get_or places k d ∷ []) a.0 a.1), a.2, a.3, a.4)
    | inr b ↦ (get_or places k d, subst (λ s. Contains s (get_or places k d)) (sym (take_more places k d l)) (Contains-push (take k places) (get_or places k d)), plan, is, b)
  ],
)

-- the tasks at the first places
pub none_of : (tasks : List ℕ) (t : ℕ) → Contains (take 0 tasks) t → ⊥
none_of tasks t c = let l = c.1 in omega arith

pub one_of_more : (tasks : List ℕ) (k d : ℕ) → k < length tasks → (t : ℕ) → Contains (take (k + 1) tasks) t ↔ (Contains (take k tasks) t ⊎ (t ≡ get_or tasks k d))
one_of_more tasks k d l t = (
  λ c. elim (Contains-push_cases (take k tasks) (get_or tasks k d) t (subst (λ s. Contains s t) (take_more tasks k d l) c)) [ inl h ↦ inl h | inr e ↦ inr (sym e) ],
  λ h. subst (λ s. Contains s t) (sym (take_more tasks k d l)) (elim h [
    | inl c ↦ Contains-append_left (take k tasks) (get_or tasks k d ∷ []) t c
    | inr e ↦ subst (Contains (take k tasks ++ get_or tasks k d ∷ [])) (sym e) (Contains-push (take k tasks) (get_or tasks k d))
  ]),
)
