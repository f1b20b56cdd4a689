-- A depth-first walk, step by step, and the order in which it leaves the tasks.
use Rattle.std.proofs.Common.{ℕ, zero, suc, ◌≡◌, ◌+◌, ◌<◌, ◌≤◌, ◌⊎◌, ◌↔◌, inl, inr, List, [], ◌∷◌, ◌++◌, length, map, Bool, true, false, cond, get_or, set, replicate, Contains, refl, sym, subst, ap, ◌∙◌, arith, length-set, append_assoc}
use Rattle.std.proofs.lemmas.Bool.{cases_eq}
use Rattle.std.proofs.lemmas.List.{map_push, length-map, length-append}
use Rattle.std.proofs.lemmas.List.Elements.{Contains-push, Contains-push_cases, Contains-append_left, Contains-append_right, Contains-append_cases}
use Rattle.plan_model.proofs.task_networks.Different.{different_append}
use Rattle.plan_model.proofs.task_networks.Lists.{not-in_empty, head_or_tail, Contains-here, Contains-later, cut_push}
use Rattle.plan_model.specs.Parts.{IsMarked}
use Rattle.plan_model.proofs.Marks.{set_is_marked, set_keeps, set_marks, marked_within}
use Rattle.bound_calc.specs.declared.stratifier.finishing.Step.{Step}
use Rattle.bound_calc.specs.declared.stratifier.finishing.Step.TheVariants.{Enter, Leave}
use Rattle.bound_calc.specs.stratifier.Graph.{Leads, Reaches, itself, onward, ReachBack, AreWithin, IsFinishingOrder}
use Rattle.bound_calc.specs.stratifier.Finishing.{task_of, AreOpen, IsDescent, to_come}

pub reaches_then : {rows : List (List ℕ)} {u v w : ℕ} → Reaches rows u v → Reaches rows v w → Reaches rows u w
reaches_then itself s = s
reaches_then (onward l r) s = onward l (reaches_then r s)

same_enter : (t u : ℕ) → Enter t ≡ Enter u → t ≡ u
same_enter t u e = cc

same_leave : (t u : ℕ) → Leave t ≡ Leave u → t ≡ u
same_leave t u e = cc

pub enters : (ts : List ℕ) (t : ℕ) → Contains ts t → Contains (map Enter ts) (Enter t)
enters [] t c = absurd (not-in_empty t c)
enters (x ∷ xs) t c = elim (head_or_tail x xs t c) [
  | inl e ↦ subst (λ z. Contains (map Enter (x ∷ xs)) (Enter z)) e (Contains-here (Enter x) (map Enter xs))
  | inr k ↦ Contains-later (Enter x) (map Enter xs) (Enter t) (enters xs t k)
]

entered : (ts : List ℕ) (s : Step) → Contains (map Enter ts) s → (t : ℕ) × Contains ts t × (s ≡ Enter t)
entered [] s c = absurd (not-in_empty s c)
entered (x ∷ xs) s c = elim (head_or_tail (Enter x) (map Enter xs) s c) [
  | inl e ↦ (x, Contains-here x xs, sym e)
  | inr k ↦ (let (t, d, e) = entered xs s k in (t, Contains-later x xs t d, e))
]

-- steps that enter the first n tasks
pub record AreToEnter (n : ℕ) (steps : List Step) : Type 0 where
  pub tasks : List ℕ
  pub is : steps ≡ map Enter tasks
  pub each : (t : ℕ) → Contains tasks t ↔ (t < n)

pub to_enter_none : (steps : List Step) → steps ≡ [] → AreToEnter 0 steps
to_enter_none steps e = record { tasks = []; is = e; each = λ t. (λ c. absurd (not-in_empty t c), λ l. absurd (omega arith)) }

pub to_enter_more : (n : ℕ) (steps more : List Step) → AreToEnter n steps → more ≡ steps ++ Enter n ∷ [] → AreToEnter (n + 1) more
to_enter_more n steps more h e = record {
  tasks = h.tasks ++ n ∷ [];
  is = e ∙ (ap (λ s. s ++ Enter n ∷ []) h.is ∙ sym (map_push Enter h.tasks n));
  each = λ t. (
    λ c. elim (Contains-push_cases h.tasks n t c) [ inl d ↦ (let l = (h.each t).0 d in omega arith) | inr f ↦ omega arith ],
    λ l. elim (cases_eq t n) [
      | inl f ↦ subst (Contains (h.tasks ++ n ∷ [])) (sym f) (Contains-push h.tasks n)
      | inr f ↦ Contains-append_left h.tasks (n ∷ []) t ((h.each t).1 (omega arith))
    ],
  );
}

no_leave : (ts : List ℕ) (t : ℕ) → Contains (map Enter ts) (Leave t) → ⊥
no_leave ts t c = let (u, d, e) = entered ts (Leave t) c in absurd cc

module _ (rows : List (List ℕ)) where
  enters_open : (marks : List Bool) (ts : List ℕ) → AreOpen rows marks (map Enter ts)
  enters_open marks [] = tt
  enters_open marks (t ∷ ts) = enters_open marks ts

  -- without the last step, a task that is marked
  drop_enter : (marks : List Bool) (t : ℕ) → IsMarked marks t → (steps : List Step) → AreOpen rows marks (steps ++ Enter t ∷ []) → AreOpen rows marks steps
  drop_enter marks t m [] o = tt
  drop_enter marks t m (Enter u ∷ steps) o = drop_enter marks t m steps o
  drop_enter marks t m (Leave u ∷ steps) o = (
    λ s c. o.0 s (Contains-append_left steps (Enter t ∷ []) s c),
    λ w l. elim (o.1 w l) [
      | inl k ↦ inl k
      | inr c ↦ elim (Contains-push_cases steps (Enter t) (Enter w) c) [ inl d ↦ inr d | inr e ↦ inl (subst (IsMarked marks) (same_enter t w e) m) ]
    ],
    λ c. o.2 (Contains-append_left steps (Enter t ∷ []) (Leave u) c),
    drop_enter marks t m steps o.3,
  )

  drop_leave : (marks : List Bool) (t : ℕ) (steps : List Step) → AreOpen rows marks (steps ++ Leave t ∷ []) → AreOpen rows marks steps
  drop_leave marks t [] o = tt
  drop_leave marks t (Enter u ∷ steps) o = drop_leave marks t steps o
  drop_leave marks t (Leave u ∷ steps) o = (
    λ s c. o.0 s (Contains-append_left steps (Leave t ∷ []) s c),
    λ w l. elim (o.1 w l) [
      | inl k ↦ inl k
      | inr c ↦ elim (Contains-push_cases steps (Leave t) (Enter w) c) [ inl d ↦ inr d | inr e ↦ absurd cc ]
    ],
    λ c. o.2 (Contains-append_left steps (Leave t ∷ []) (Leave u) c),
    drop_leave marks t steps o.3,
  )

  -- where a task is left, all that it leads to are marked, and those that are still entered reach it
  all_marked : (marks : List Bool) (t : ℕ) (steps : List Step) → AreOpen rows marks (steps ++ Leave t ∷ []) → (w : ℕ) → Leads rows t w → IsMarked marks w
  all_marked marks t [] o w l = elim (o.1 w l) [ inl m ↦ m | inr c ↦ absurd (not-in_empty (Enter w) c) ]
  all_marked marks t (Enter u ∷ steps) o w l = all_marked marks t steps o w l
  all_marked marks t (Leave u ∷ steps) o w l = all_marked marks t steps o.3 w l

  reached_from : (marks : List Bool) (t : ℕ) (steps : List Step) → AreOpen rows marks (steps ++ Leave t ∷ []) → (u : ℕ) → Contains steps (Leave u) → Reaches rows u t
  reached_from marks t [] o u c = absurd (not-in_empty (Leave u) c)
  reached_from marks t (Enter v ∷ steps) o u c = elim (head_or_tail (Enter v) steps (Leave u) c) [ inl e ↦ absurd cc | inr d ↦ reached_from marks t steps o u d ]
  reached_from marks t (Leave v ∷ steps) o u c = elim (head_or_tail (Leave v) steps (Leave u) c) [
    | inl e ↦ subst (λ z. Reaches rows z t) (same_leave v u e) (o.0 (Leave t) (Contains-push steps (Leave t)))
    | inr d ↦ reached_from marks t steps o.3 u d
  ]

  left_once : (marks : List Bool) (t : ℕ) (steps : List Step) → AreOpen rows marks (steps ++ Leave t ∷ []) → Contains steps (Leave t) → ⊥
  left_once marks t [] o c = not-in_empty (Leave t) c
  left_once marks t (Enter v ∷ steps) o c = elim (head_or_tail (Enter v) steps (Leave t) c) [ inl e ↦ absurd cc | inr d ↦ left_once marks t steps o d ]
  left_once marks t (Leave v ∷ steps) o c = elim (head_or_tail (Leave v) steps (Leave t) c) [
    | inl e ↦ o.2 (subst (λ z. Contains (steps ++ Leave t ∷ []) (Leave z)) (sym (same_leave v t e)) (Contains-push steps (Leave t)))
    | inr d ↦ left_once marks t steps o.3 d
  ]

  -- a task is entered: it is to be left after all that it leads to
  module _ (marks : List Bool) (t : ℕ) (l : t < length marks) where
    abbrev next_steps : List Step
    next_steps = Leave t ∷ map Enter (get_or rows t [])

    abbrev next_marks : List Bool
    next_marks = set marks t true

    enter_open : (steps : List Step) → (Contains steps (Leave t) → ⊥) → AreOpen rows marks (steps ++ Enter t ∷ []) → AreOpen rows next_marks (steps ++ next_steps)
    enter_open [] n o = (
      λ s c. (let (u, d, e) = entered (get_or rows t []) s c in subst (λ z. Reaches rows t (task_of z)) (sym e) (onward d itself)),
      λ w d. inr (enters (get_or rows t []) w d),
      λ c. no_leave (get_or rows t []) t c,
      enters_open next_marks (get_or rows t []),
    )
    enter_open (Enter u ∷ steps) n o = enter_open steps (λ c. n (Contains-later (Enter u) steps (Leave t) c)) o
    enter_open (Leave u ∷ steps) n o = (there, led, once, enter_open steps (λ c. n (Contains-later (Leave u) steps (Leave t) c)) o.3)
      where
        to_t : Reaches rows u t
        to_t = o.0 (Enter t) (Contains-push steps (Enter t))

        there : (s : Step) → Contains (steps ++ next_steps) s → Reaches rows u (task_of s)
        there s c = elim (Contains-append_cases steps next_steps s c) [
          | inl d ↦ o.0 s (Contains-append_left steps (Enter t ∷ []) s d)
          | inr d ↦ elim (head_or_tail (Leave t) (map Enter (get_or rows t [])) s d) [
            | inl e ↦ subst (λ z. Reaches rows u (task_of z)) e to_t
            | inr k ↦ (let (v, g, e) = entered (get_or rows t []) s k in subst (λ z. Reaches rows u (task_of z)) (sym e) (reaches_then to_t (onward g itself)))
          ]
        ]

        led : (w : ℕ) → Leads rows u w → IsMarked next_marks w ⊎ Contains (steps ++ next_steps) (Enter w)
        led w d = elim (o.1 w d) [
          | inl m ↦ inl (set_keeps marks t w m)
          | inr c ↦ elim (Contains-push_cases steps (Enter t) (Enter w) c) [
            | inl k ↦ inr (Contains-append_left steps next_steps (Enter w) k)
            | inr e ↦ inl (subst (IsMarked next_marks) (same_enter t w e) (set_is_marked marks t l))
          ]
        ]

        once : Contains (steps ++ next_steps) (Leave u) → ⊥
        once c = elim (Contains-append_cases steps next_steps (Leave u) c) [
          | inl d ↦ o.2 (Contains-append_left steps (Enter t ∷ []) (Leave u) d)
          | inr d ↦ elim (head_or_tail (Leave t) (map Enter (get_or rows t [])) (Leave u) d) [
            | inl e ↦ n (subst (λ z. Contains (Leave z ∷ steps) (Leave t)) (same_leave t u e) (Contains-here (Leave t) steps))
            | inr k ↦ no_leave (get_or rows t []) u k
          ]
        ]

  pub descent_first : (marks : List Bool) (steps : List Step) (order : List ℕ) → length marks ≡ length rows → ((t : ℕ) → get_or marks t false ≡ false) → order ≡ []
      → AreToEnter (length rows) steps → IsDescent rows marks steps order
  descent_first marks steps order room none empty h = subst (λ z. IsDescent rows marks steps z) (sym empty) (subst (λ z. IsDescent rows marks z []) (sym h.is) first)
    where
      ts : List ℕ
      ts = h.tasks

      unmarked : (t : ℕ) → IsMarked marks t → ⊥
      unmarked t m = let f : false ≡ true = sym (none t) ∙ m in absurd cc

      first : IsDescent rows marks (map Enter ts) []
      first = record {
        room = room;
        all = λ t l. inr (enters ts t ((h.each t).1 l));
        within = λ s c. (let (t, d, f) = entered ts s c in subst (λ z. task_of z < length rows) (sym f) ((h.each t).0 d));
        marked = λ t. (λ m. absurd (unmarked t m), λ h. elim h [ inl c ↦ absurd (not-in_empty t c) | inr c ↦ absurd (no_leave ts t c) ]);
        apart = λ t c d. not-in_empty t c;
        opened = enters_open marks ts;
        different = tt;
        left = λ u w c l. absurd (not-in_empty u c);
        back = λ before after z u w f c l n. absurd (none_split before z after f);
      }
        where
          none_split : (before : List ℕ) (z : ℕ) (after : List ℕ) → [] ≡ before ++ z ∷ after → ⊥
          none_split [] z after f = absurd cc
          none_split (x ∷ before) z after f = absurd cc

  module _ (marks : List Bool) (steps : List Step) (order : List ℕ) where
    -- a task that was entered before
    pub passed_by : (t : ℕ) → IsMarked marks t → IsDescent rows marks (steps ++ Enter t ∷ []) order → IsDescent rows marks steps order
    passed_by t m h = record {
      room = h.room;
      all = λ u l. elim (h.all u l) [
        | inl k ↦ inl k
        | inr c ↦ elim (Contains-push_cases steps (Enter t) (Enter u) c) [ inl d ↦ inr d | inr e ↦ inl (subst (IsMarked marks) (same_enter t u e) m) ]
      ];
      within = λ s c. h.within s (Contains-append_left steps (Enter t ∷ []) s c);
      marked = λ u. (
        λ k. elim ((h.marked u).0 k) [ inl c ↦ inl c | inr c ↦ elim (Contains-push_cases steps (Enter t) (Leave u) c) [ inl d ↦ inr d | inr e ↦ absurd cc ] ],
        λ k. (h.marked u).1 (elim k [ inl c ↦ inl c | inr c ↦ inr (Contains-append_left steps (Enter t ∷ []) (Leave u) c) ]),
      );
      apart = λ u c d. h.apart u c (Contains-append_left steps (Enter t ∷ []) (Leave u) d);
      opened = drop_enter marks t m steps h.opened;
      different = h.different;
      left = h.left;
      back = h.back;
    }

    pub went_in : (t : ℕ) → get_or marks t false ≡ false → AreWithin rows → IsDescent rows marks (steps ++ Enter t ∷ []) order
        → IsDescent rows (set marks t true) (steps ++ Leave t ∷ map Enter (get_or rows t [])) order
    went_in t f within h = record {
      room = length-set marks t true ∙ h.room;
      all = λ u l. elim (h.all u l) [
        | inl k ↦ inl (set_keeps marks t u k)
        | inr c ↦ elim (Contains-push_cases steps (Enter t) (Enter u) c) [
          | inl d ↦ inr (Contains-append_left steps new (Enter u) d)
          | inr e ↦ inl (subst (IsMarked (set marks t true)) (same_enter t u e) (set_is_marked marks t below))
        ]
      ];
      within = λ s c. elim (Contains-append_cases steps new s c) [
        | inl d ↦ h.within s (Contains-append_left steps (Enter t ∷ []) s d)
        | inr d ↦ elim (head_or_tail (Leave t) (map Enter row) s d) [
          | inl e ↦ subst (λ z. task_of z < length rows) e (h.within (Enter t) (Contains-push steps (Enter t)))
          | inr k ↦ (let (v, g, e) = entered row s k in subst (λ z. task_of z < length rows) (sym e) (within t v g))
        ]
      ];
      marked = λ u. (
        λ k. elim (set_marks marks t u k) [
          | inl e ↦ inr (Contains-append_right steps new (Leave u) (subst (λ z. Contains new (Leave z)) (sym e) (Contains-here (Leave t) (map Enter row))))
          | inr m ↦ elim ((h.marked u).0 m) [
            | inl c ↦ inl c
            | inr c ↦ elim (Contains-push_cases steps (Enter t) (Leave u) c) [ inl d ↦ inr (Contains-append_left steps new (Leave u) d) | inr e ↦ absurd cc ]
          ]
        ],
        λ k. elim k [
          | inl c ↦ set_keeps marks t u ((h.marked u).1 (inl c))
          | inr c ↦ elim (leaves u c) [
            | inl d ↦ set_keeps marks t u ((h.marked u).1 (inr (Contains-append_left steps (Enter t ∷ []) (Leave u) d)))
            | inr e ↦ subst (IsMarked (set marks t true)) e (set_is_marked marks t below)
          ]
        ],
      );
      apart = λ u c d. elim (leaves u d) [
        | inl k ↦ h.apart u c (Contains-append_left steps (Enter t ∷ []) (Leave u) k)
        | inr e ↦ unmarked ((h.marked t).1 (inl (subst (Contains order) (sym e) c)))
      ];
      opened = enter_open marks t below steps (λ c. unmarked ((h.marked t).1 (inr (Contains-append_left steps (Enter t ∷ []) (Leave t) c)))) h.opened;
      different = h.different;
      left = λ u w c l. set_keeps marks t w (h.left u w c l);
      back = h.back;
    }
      where
        row : List ℕ
        row = get_or rows t []

        new : List Step
        new = Leave t ∷ map Enter (get_or rows t [])

        below : t < length marks
        below = let a = h.room in let b = h.within (Enter t) (Contains-push steps (Enter t)) in omega arith

        unmarked : IsMarked marks t → ⊥
        unmarked m = let e : false ≡ true = sym f ∙ m in absurd cc

        leaves : (u : ℕ) → Contains (steps ++ new) (Leave u) → Contains steps (Leave u) ⊎ (t ≡ u)
        leaves u c = elim (Contains-append_cases steps new (Leave u) c) [
          | inl d ↦ inl d
          | inr d ↦ elim (head_or_tail (Leave t) (map Enter row) (Leave u) d) [ inl e ↦ inr (same_leave t u e) | inr k ↦ absurd (no_leave row u k) ]
        ]

    pub came_out : (t : ℕ) → IsDescent rows marks (steps ++ Leave t ∷ []) order → IsDescent rows marks steps (order ++ t ∷ [])
    came_out t h = record {
      room = h.room;
      all = λ u l. elim (h.all u l) [
        | inl k ↦ inl k
        | inr c ↦ elim (Contains-push_cases steps (Leave t) (Enter u) c) [ inl d ↦ inr d | inr e ↦ absurd cc ]
      ];
      within = λ s c. h.within s (Contains-append_left steps (Leave t ∷ []) s c);
      marked = λ u. (
        λ k. elim ((h.marked u).0 k) [
          | inl c ↦ inl (Contains-append_left order (t ∷ []) u c)
          | inr c ↦ elim (Contains-push_cases steps (Leave t) (Leave u) c) [ inl d ↦ inr d | inr e ↦ inl (subst (Contains (order ++ t ∷ [])) (same_leave t u e) (Contains-push order t)) ]
        ],
        λ k. (h.marked u).1 (elim k [
          | inl c ↦ elim (Contains-push_cases order t u c) [ inl d ↦ inl d | inr e ↦ inr (subst (λ z. Contains (steps ++ Leave t ∷ []) (Leave z)) e (Contains-push steps (Leave t))) ]
          | inr c ↦ inr (Contains-append_left steps (Leave t ∷ []) (Leave u) c)
        ]),
      );
      apart = λ u c d. elim (Contains-push_cases order t u c) [
        | inl k ↦ h.apart u k (Contains-append_left steps (Leave t ∷ []) (Leave u) d)
        | inr e ↦ left_once marks t steps h.opened (subst (λ z. Contains steps (Leave z)) (sym e) d)
      ];
      opened = drop_leave marks t steps h.opened;
      different = different_append order (t ∷ []) h.different ((λ c. not-in_empty t c), tt) (λ u c d. elim (head_or_tail t [] u d) [
        | inl e ↦ h.apart t (subst (Contains order) (sym e) c) (Contains-push steps (Leave t))
        | inr k ↦ not-in_empty u k
      ]);
      left = λ u w c l. elim (Contains-push_cases order t u c) [ inl d ↦ h.left u w d l | inr e ↦ all_marked marks t steps h.opened w (subst (λ z. Leads rows z w) (sym e) l) ];
      back = back;
    }
      where
        to_last : (u w : ℕ) → Contains (order ++ t ∷ []) u → Leads rows u w → (Contains (order ++ t ∷ []) w → ⊥) → Reaches rows w t
        to_last u w c l n = reached_from marks t steps h.opened w (elim ((h.marked w).0 marked) [
          | inl d ↦ absurd (n (Contains-append_left order (t ∷ []) w d))
          | inr d ↦ elim (Contains-push_cases steps (Leave t) (Leave w) d) [
            | inl k ↦ k
            | inr e ↦ absurd (n (subst (Contains (order ++ t ∷ [])) (same_leave t w e) (Contains-push order t)))
          ]
        ])
          where
            marked : IsMarked marks w
            marked = elim (Contains-push_cases order t u c) [ inl d ↦ h.left u w d l | inr e ↦ all_marked marks t steps h.opened w (subst (λ z. Leads rows z w) (sym e) l) ]

        back : ReachBack rows (order ++ t ∷ [])
        back before after z u w e c l n = elim (cut_push order t before z after e) [
          | inl f ↦ (let g : before ++ z ∷ [] ≡ order ++ t ∷ [] = (let a = f.0 in let b = f.1 in cc) in
              subst (Reaches rows w) f.1 (to_last u w (subst (λ s. Contains s u) g c) l (λ d. n (subst (λ s. Contains s w) (sym g) d))))
          | inr f ↦ h.back before f.0 z u w f.1 c l n
        ]

  pub descent_last : (marks : List Bool) (steps : List Step) (order : List ℕ) → steps ≡ [] → IsDescent rows marks steps order → IsFinishingOrder rows order
  descent_last marks steps order e h = record {
    whole = λ t l. elim (h.all t l) [
      | inl m ↦ elim ((h.marked t).0 m) [ inl c ↦ c | inr c ↦ absurd (none (Leave t) c) ]
      | inr c ↦ absurd (none (Enter t) c)
    ];
    within = λ t c. (let a = h.room in let b = marked_below t ((h.marked t).1 (inl c)) in omega arith);
    different = h.different;
    back = h.back;
  }
    where
      none : (s : Step) → Contains steps s → ⊥
      none s c = not-in_empty s (subst (λ z. Contains z s) e c)

      marked_below : (t : ℕ) → IsMarked marks t → t < length marks
      marked_below t m = marked_within marks t m

-- a mark more takes its row and one more from what can come
pub less_to_come : (rows : List (List ℕ)) (marks : List Bool) (t : ℕ) → t < length rows → length marks ≡ length rows → get_or marks t false ≡ false
    → to_come rows (set marks t true) + suc (length (get_or rows t [])) ≡ to_come rows marks
less_to_come [] marks t l r f = absurd (omega arith)
less_to_come (row ∷ rows) [] t l r f = absurd (omega arith)
less_to_come (row ∷ rows) (mark ∷ marks) zero l r f = let e : cond mark 0 (suc (length row)) ≡ suc (length row) = ap (λ b. cond b 0 (suc (length row))) f in omega arith
less_to_come (row ∷ rows) (mark ∷ marks) (suc t) l r f = let h = less_to_come rows marks t (omega arith) (omega arith) f in omega arith

-- the walk after a task that was not marked is entered
module _ (rows : List (List ℕ)) (marks new_marks : List Bool) (steps mid new_steps : List Step) (order new_order row : List ℕ) (t : ℕ) (step : Step) (is : step ≡ Enter t)
    (h : IsDescent rows marks (steps ++ step ∷ []) order) (f : get_or marks t false ≡ false)
    (marked : new_marks ≡ set marks t true) (left : mid ≡ steps ++ Leave t ∷ []) (added : new_steps ≡ mid ++ map Enter row) (listed : get_or rows t [] ≡ row) (same : new_order ≡ order) where
  whole : new_steps ≡ steps ++ Leave t ∷ map Enter row
  whole = added ∙ (ap (λ s. s ++ map Enter row) left ∙ append_assoc steps (Leave t ∷ []) (map Enter row))

  before : IsDescent rows marks (steps ++ Enter t ∷ []) order
  before = subst (λ s. IsDescent rows marks (steps ++ s ∷ []) order) is h

  pub went_in_so : AreWithin rows → IsDescent rows new_marks new_steps new_order
  went_in_so within =
      let d = went_in rows marks steps order t f within before in
      let e = subst (λ r. IsDescent rows (set marks t true) (steps ++ Leave t ∷ map Enter r) order) listed d in
      subst (IsDescent rows new_marks new_steps) (sym same) (subst (λ m. IsDescent rows m new_steps order) (sym marked) (subst (λ s. IsDescent rows (set marks t true) s order) (sym whole) e))

  pub no_more_work : length new_steps + to_come rows new_marks ≤ length steps + to_come rows marks
  no_more_work =
      let a = less_to_come rows marks t (before.within (Enter t) (Contains-push steps (Enter t))) before.room f in
      let b = ap length whole in
      let c = length-append steps (Leave t ∷ map Enter row) in
      let d = length-map row Enter in
      let e = ap (to_come rows) marked in
      let g = ap length listed in
      omega arith

pub task_within : (rows : List (List ℕ)) (marks : List Bool) (steps : List Step) (order : List ℕ) (t : ℕ) (step : Step) → step ≡ Enter t → IsDescent rows marks (steps ++ step ∷ []) order → t < length rows
task_within rows marks steps order t step is h = subst (λ s. task_of s < length rows) is (h.within step (Contains-push steps step))

pub none_marked : (marks : List Bool) (n : ℕ) → marks ≡ replicate n false → (t : ℕ) → get_or marks t false ≡ false
none_marked marks n e t = ap (λ ms. get_or ms t false) e ∙ go n t
  where
    go : (n t : ℕ) → get_or (replicate n false) t false ≡ false
    go zero t = refl
    go (suc n) zero = refl
    go (suc n) (suc t) = go n t
