-- The front as children are placed and listed.
use Rattle.std.proofs.Common.{ℕ, zero, suc, refl, ◌≡◌, ◌<◌, ◌≤◌, ◌⊎◌, inl, inr, List, [], ◌∷◌, ◌++◌, length, Bool, true, false, IsTrue, Contains, get_or, set, sym, subst, ap, ◌∙◌, arith, length-set, get_or-set_same, get_or-set_other}
use Rattle.std.proofs.lemmas.List.Elements.{Contains-append_left, Contains-push, Contains-push_cases}
use Rattle.std.proofs.lemmas.Bool.{cases_eq, both_ways}
use Rattle.plan_model.proofs.task_networks.Lists.{not-in_empty}
use Rattle.plan_model.specs.net_order.Marks.{has, IsPreceded, IsWithin, IsLeastOutside}
use Rattle.plan_model.specs.net_order.Front.{Waits, IsFront, IsPlaced, is_ready, waits}
use Rattle.plan_model.proofs.net_order.Closures.{has_added}
use Rattle.plan_model.proofs.net_order.Lines.{IsFree, IsLeastFree}

pub more_empty : (lists : List (List ℕ)) (xs : List ℕ) → xs ≡ [] → ((i : ℕ) → get_or lists i [] ≡ []) → (i : ℕ) → get_or (lists ++ xs ∷ []) i [] ≡ []
more_empty [] xs e f zero = e
more_empty [] xs e f (suc i) = refl
more_empty (ys ∷ lists) xs e f zero = f 0
more_empty (ys ∷ lists) xs e f (suc i) = more_empty lists xs e (λ k. f (suc k)) i

module _ (before : List (List Bool)) (listed ready : List Bool) (waiting : List (List ℕ)) where
  -- without marks nothing is ready and nobody waits
  pub front_none : length listed ≡ length before → length ready ≡ length before → length waiting ≡ length before
      → ((i : ℕ) → has ready i ≡ false) → ((i : ℕ) → get_or waiting i [] ≡ []) → IsFront before (λ i. 0 ≤ i) listed ready waiting
  front_none l r w none empty = record {
    listed_room = l;
    ready_room = r;
    waiting_room = w;
    preceded = λ i t. absurd (both_ways (has ready i) (none i) t);
    children = λ j i c. absurd (not-in_empty i (subst (λ xs. Contains xs i) (empty j) c));
    low = λ j i c. absurd (not-in_empty i (subst (λ xs. Contains xs i) (empty j) c));
    each = λ i k. inl (omega arith);
  }

  -- a front in which others are left
  pub front_left : {Left Next : ℕ → Type 0} → ((j : ℕ) → j < length before → Left j → Next j) → IsFront before Left listed ready waiting → IsFront before Next listed ready waiting
  front_left f h = record {
    listed_room = h.listed_room;
    ready_room = h.ready_room;
    waiting_room = h.waiting_room;
    preceded = h.preceded;
    children = h.children;
    low = h.low;
    each = λ k l. elim (h.each k l) [ inl x ↦ inl (f k l x) | inr x ↦ inr x ];
  }

  module _ {Left Next : ℕ → Type 0} (i : ℕ) (l : i < length before) (left : (j : ℕ) → Left j → (j ≡ i) ⊎ Next j) (h : IsFront before Left listed ready waiting) where
    made_ready : IsPreceded before listed i → IsFront before Next listed (set ready i true) waiting
    made_ready p = record {
      listed_room = h.listed_room;
      ready_room = length-set ready i true ∙ h.ready_room;
      waiting_room = h.waiting_room;
      preceded = λ k t. elim ((has_added ready i k within).0 t) [ inl e ↦ subst (IsPreceded before listed) (sym e) p | inr u ↦ h.preceded k u ];
      children = h.children;
      low = h.low;
      each = λ k m. each k (h.each k m);
    }
      where
        within : i < length ready
        within = let e = h.ready_room in omega arith

        each : (k : ℕ) → Left k ⊎ (IsTrue (has ready k) ⊎ Waits before listed waiting k) → Next k ⊎ (IsTrue (has (set ready i true) k) ⊎ Waits before listed waiting k)
        each k (inl x) = elim (left k x) [ inl e ↦ inr (inl ((has_added ready i k within).1 (inl e))) | inr n ↦ inl n ]
        each k (inr (inl t)) = inr (inl ((has_added ready i k within).1 (inr t)))
        each k (inr (inr w)) = inr (inr w)

    made_wait : (j : ℕ) → IsLeastOutside (get_or before i []) listed j → j < length before → IsFront before Next listed ready (set waiting j (get_or waiting j [] ++ i ∷ []))
    made_wait j is lj = record {
      listed_room = h.listed_room;
      ready_room = h.ready_room;
      waiting_room = length-set waiting j more ∙ h.waiting_room;
      preceded = h.preceded;
      children = λ b k c. elim (cases b k c) [ inl d ↦ h.children b k d | inr x ↦ subst (λ y. y < length before) (sym x.1) l ];
      low = λ b k c. elim (cases b k c) [
        | inl d ↦ h.low b k d
        | inr x ↦ (λ a m t. is.least a (subst (λ y. a < y) x.0 m) (subst (λ y. IsTrue (has (get_or before y []) a)) x.1 t))
      ];
      each = λ k m. each k (h.each k m);
    }
      where
        more : List ℕ
        more = get_or waiting j [] ++ i ∷ []

        within : j < length waiting
        within = let e = h.waiting_room in omega arith

        cases : (b k : ℕ) → Contains (get_or (set waiting j more) b []) k → Contains (get_or waiting b []) k ⊎ ((b ≡ j) × (k ≡ i))
        cases b k c = go (cases_eq b j)
          where
            go : ((b ≡ j) ⊎ (b ≡ j → ⊥)) → Contains (get_or waiting b []) k ⊎ ((b ≡ j) × (k ≡ i))
            go (inr d) = inl (subst (λ xs. Contains xs k) (get_or-set_other waiting j b more [] d) c)
            go (inl e) = elim (Contains-push_cases (get_or waiting j []) i k (subst (λ xs. Contains xs k) (ap (λ x. get_or (set waiting j more) x []) e ∙ get_or-set_same waiting j more [] within) c)) [
              | inl d ↦ inl (subst (λ x. Contains (get_or waiting x []) k) (sym e) d)
              | inr f ↦ inr (e, sym f)
            ]

        here : Contains (get_or (set waiting j more) j []) i
        here = subst (λ xs. Contains xs i) (sym (get_or-set_same waiting j more [] within)) (Contains-push (get_or waiting j []) i)

        kept : (b k : ℕ) → Contains (get_or waiting b []) k → Contains (get_or (set waiting j more) b []) k
        kept b k c = elim (cases_eq b j) [
          | inl e ↦ subst (λ x. Contains (get_or (set waiting j more) x []) k) (sym e) (subst (λ xs. Contains xs k) (sym (get_or-set_same waiting j more [] within)) (Contains-append_left (get_or waiting j []) (i ∷ []) k (subst (λ x. Contains (get_or waiting x []) k) e c)))
          | inr d ↦ subst (λ xs. Contains xs k) (sym (get_or-set_other waiting j b more [] d)) c
        ]

        waits_here : Waits before listed (set waiting j more) i
        waits_here = (j, here, is.inside, is.outside)

        each : (k : ℕ) → Left k ⊎ (IsTrue (has ready k) ⊎ Waits before listed waiting k) → Next k ⊎ (IsTrue (has ready k) ⊎ Waits before listed (set waiting j more) k)
        each k (inl x) = elim (left k x) [ inl e ↦ inr (inr (subst (Waits before listed (set waiting j more)) (sym e) waits_here)) | inr n ↦ inl n ]
        each k (inr (inl t)) = inr (inl t)
        each k (inr (inr (b, c, m, u))) = inr (inr (b, kept b k c, m, u))

    pub front_placed : (square : length (get_or before i []) ≡ length before) (ready' : List Bool) (waiting' : List (List ℕ)) → IsPlaced before listed i ready waiting ready' waiting' → IsFront before Next listed ready' waiting'
    front_placed square ready' waiting' (is_ready p e f) = subst (λ xs. IsFront before Next listed xs waiting') (sym e) (subst (IsFront before Next listed (set ready i true)) (sym f) (made_ready p))
    front_placed square ready' waiting' (waits j is e f) = subst (λ xs. IsFront before Next listed xs waiting') (sym e) (subst (IsFront before Next listed ready) (sym f) (made_wait j is (let c = is.child in omega arith)))

  module _ (h : IsFront before (λ i. ⊥) listed ready waiting) where
    -- those who waited for a child that is listed now are left
    pub front_listed : (i : ℕ) → i < length before → IsFront before (Contains (get_or waiting i [])) (set listed i true) ready (set waiting i [])
    front_listed i l = record {
      listed_room = length-set listed i true ∙ h.listed_room;
      ready_room = h.ready_room;
      waiting_room = length-set waiting i [] ∙ h.waiting_room;
      preceded = λ k t j m. grown j (h.preceded k t j m);
      children = λ b k c. h.children b k (old b k c);
      low = λ b k c j m t. grown j (h.low b k (old b k c) j m t);
      each = λ k m. each k (h.each k m);
    }
      where
        within : i < length listed
        within = let e = h.listed_room in omega arith

        grown : (j : ℕ) → IsTrue (has listed j) → IsTrue (has (set listed i true) j)
        grown j t = (has_added listed i j within).1 (inr t)

        old : (b k : ℕ) → Contains (get_or (set waiting i []) b []) k → Contains (get_or waiting b []) k
        old b k c = elim (cases_eq b i) [
          | inl e ↦ absurd (not-in_empty k (subst (λ xs. Contains xs k) (ap (λ x. get_or (set waiting i []) x []) e ∙ get_or-set_same waiting i [] [] (let r = h.waiting_room in omega arith)) c))
          | inr d ↦ subst (λ xs. Contains xs k) (get_or-set_other waiting i b [] [] d) c
        ]

        each : (k : ℕ) → ⊥ ⊎ (IsTrue (has ready k) ⊎ Waits before listed waiting k) → Contains (get_or waiting i []) k ⊎ (IsTrue (has ready k) ⊎ Waits before (set listed i true) (set waiting i []) k)
        each k (inl x) = absurd x
        each k (inr (inl t)) = inr (inl t)
        each k (inr (inr (b, c, m, u))) = elim (cases_eq b i) [
          | inl e ↦ inl (subst (λ x. Contains (get_or waiting x []) k) e c)
          | inr d ↦ inr (inr (b, subst (λ xs. Contains xs k) (sym (get_or-set_other waiting i b [] [] d)) c, m, λ t. elim ((has_added listed i b within).0 t) [ inl e ↦ d e | inr v ↦ u v ]))
        ]

    free_ready : (i : ℕ) → i < length before → IsFree before listed i → IsTrue (has ready i)
    free_ready i l f = elim (h.each i l) [ inl x ↦ absurd x | inr y ↦ elim y [ inl t ↦ t | inr (j, c, m, u) ↦ absurd (u (f.preceded j m)) ] ]

    pub least_free : (i : ℕ) → IsLeastOutside ready listed i → IsLeastFree before listed i
    least_free i is = record {
      child = let c = is.child in let r = h.ready_room in omega arith;
      free = record { outside = is.outside; preceded = h.preceded i is.inside };
      least = λ j l f. f.outside (is.least j l (free_ready j (let c = is.child in let r = h.ready_room in omega arith) f));
    }

    pub none_free : IsWithin ready listed → (i : ℕ) → i < length before → IsFree before listed i → ⊥
    none_free within i l f = f.outside (within i (free_ready i l f))
