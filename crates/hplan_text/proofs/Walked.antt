-- The ids that the root reaches are found, each taken once.
use Rattle.std.proofs.Common.{ℕ, ◌≡◌, ◌∙◌, ◌+◌, ◌<◌, ◌≤◌, ◌⊎◌, inl, inr, ◌==◌, ◌||◌, Bool, true, false, cond, Option, Some, None, List, [], ◌∷◌, ◌++◌, length, refl, sym, ap, subst, arith}
use Rattle.std.proofs.lemmas.List.{append-nil, length-append}
use Rattle.std.proofs.lemmas.Bool.Decides.{eqb_tells}
use Rattle.plan_texts.specs.Types.{Has}
use Rattle.hplan_text.specs.declared.values.HNode.{HNode}
use Rattle.hplan_text.specs.declared.values.HPlan.{HPlan}
use Rattle.hplan_text.specs.declared.ids.Taken.{Taken}
use Rattle.hplan_text.specs.declared.ids.Taken.TheVariants.{Unknown, Again, New}
use Rattle.hplan_text.specs.HPlanFaults.{Reaches, lists, leads, is_among}
use Rattle.hplan_text.specs.Marks.{among, has, Takes}
use Rattle.hplan_text.specs.Walks.{AreOwned, FindsNode, AreOnce, HasReached, ids_of, Visits}
use Rattle.hplan_text.proofs.Indexed.{finds-unknown, node-of}
use Rattle.hplan_text.proofs.LeastFound.{has-split, has-left, has-right}
use Rattle.hplan_text.proofs.Marked.{chosen-sub}

-- how many ids nodes list whose own aren't marked
abbrev pub rest : (marked : ℕ → Bool) → List HNode → ℕ
rest marked [] = 0
rest marked (x ∷ xs) = cond (marked x.line.id) 0 (length x.ids) + rest marked xs

module _ (known : ℕ → Bool) (id : ℕ) (old new : ℕ → Bool) (within : (n : ℕ) → old n ≡ true → known n ≡ true) (within-new : (n : ℕ) → new n ≡ true → known n ≡ true) (taken : (n : ℕ) → known n ≡ true → new n ≡ cond (id == n) true (old n)) where
  stays : (n : ℕ) → old n ≡ true → new n ≡ true
  stays n e = taken n (within n e) ∙ ap (λ t. cond (id == n) true t) e ∙ either (id == n)
    where
      either : (b : Bool) → cond b true true ≡ true
      either true = refl
      either false = refl

  here : (n : ℕ) → known n ≡ true → n ≡ id → new n ≡ true
  here n k e = go (eqb_tells id n)
    where
      go : (((id == n) ≡ true) × (id ≡ n)) ⊎ (((id == n) ≡ false) × (id ≡ n → ⊥)) → new n ≡ true
      go (inl (t, q)) = taken n k ∙ ap (λ b. cond b true (old n)) t
      go (inr (t, q)) = absurd (q (sym e))

  was : (n : ℕ) → new n ≡ true → (n ≡ id) ⊎ (old n ≡ true)
  was n e = go (eqb_tells id n)
    where
      go : (((id == n) ≡ true) × (id ≡ n)) ⊎ (((id == n) ≡ false) × (id ≡ n → ⊥)) → (n ≡ id) ⊎ (old n ≡ true)
      go (inl (t, q)) = inl (sym q)
      go (inr (t, q)) = inr (ap (λ b. cond b true (old n)) (sym t) ∙ sym (taken n (within-new n e)) ∙ e)

  less-one : (n k : ℕ) → cond (new n) 0 k ≤ cond (old n) 0 k
  less-one n k = go (old n) refl
    where
      low : (b : Bool) → cond b 0 k ≤ k
      low true = omega arith
      low false = omega arith

      go : (b : Bool) → old n ≡ b → cond (new n) 0 k ≤ cond b 0 k
      go true e = subst (λ t. cond t 0 k ≤ 0) (sym (stays n e)) (omega arith)
      go false e = low (new n)

  pub rest-falls : (xs : List HNode) → rest new xs ≤ rest old xs
  rest-falls [] = omega arith
  rest-falls (x ∷ xs) = let a = less-one x.line.id (length x.ids) in let b = rest-falls xs in omega (arith, a, b)

  pub rest-less : (xs : List HNode) (x : HNode) → known id ≡ true → old id ≡ false → Has xs x → x.line.id ≡ id → rest new xs + length x.ids ≤ rest old xs
  rest-less [] x k e h q = absurd h
  rest-less (y ∷ ys) x k e (inl p) q =
      let i : y.line.id ≡ id = ap (λ (z : HNode). z.line.id) p ∙ q in
      let a : cond (new y.line.id) 0 (length y.ids) ≡ 0 = ap (λ t. cond t 0 (length y.ids)) (here y.line.id (ap known i ∙ k) i) in
      let b : cond (old y.line.id) 0 (length y.ids) ≡ length x.ids = ap (λ n. cond (old n) 0 (length y.ids)) i ∙ ap (λ t. cond t 0 (length y.ids)) e ∙ ap (λ (z : HNode). length z.ids) p in
      let c = rest-falls ys in
      omega (arith, a, b, c)
  rest-less (y ∷ ys) x k e (inr h) q =
      let a = less-one y.line.id (length y.ids) in
      let b = rest-less ys x k e h q in
      omega (arith, a, b)

-- each turn leaves less to do
falls : (plan : HPlan) (known : ℕ → Bool) (id : ℕ) (old new : ℕ → Bool) (todo more : List ℕ) → AreOwned known plan.nodes → ((n : ℕ) → old n ≡ true → known n ≡ true) → ((n : ℕ) → new n ≡ true → known n ≡ true) → Visits plan known id old todo new more → length more + rest new plan.nodes ≤ length todo + rest old plan.nodes
falls plan known id old new todo more owned within within-new v = go (old id) refl v.node v.finds v.todo_is
  where
    go : (b : Bool) → old id ≡ b → (o : Option HNode) → FindsNode plan.nodes id o → more ≡ cond (old id) todo (todo ++ ids_of o) → length more + rest new plan.nodes ≤ length todo + rest old plan.nodes
    go true e o f t =
        let a = rest-falls known id old new within within-new v.taken plan.nodes in
        let b = ap length (t ∙ ap (λ z. cond z todo (todo ++ ids_of o)) e) in
        omega (arith, a, b)
    go false e None f t =
        let a = rest-falls known id old new within within-new v.taken plan.nodes in
        let b = ap length (t ∙ ap (λ z. cond z todo (todo ++ [])) e ∙ append-nil todo) in
        omega (arith, a, b)
    go false e (Some x) f t =
        let a = rest-less known id old new within within-new v.taken plan.nodes x (ap known (sym f.1) ∙ owned x f.0) e f.0 f.1 in
        let b = ap length (t ∙ ap (λ z. cond z todo (todo ++ x.ids)) e) in
        let c = length-append todo x.ids in
        omega (arith, a, b, c)

pub smaller : (plan : HPlan) (known : ℕ → Bool) (id : ℕ) (old new : ℕ → Bool) (all todo more : List ℕ) → AreOwned known plan.nodes → ((n : ℕ) → old n ≡ true → known n ≡ true) → ((n : ℕ) → new n ≡ true → known n ≡ true) → all ≡ todo ++ id ∷ [] → Visits plan known id old todo new more → length more + rest new plan.nodes < length all + rest old plan.nodes
smaller plan known id old new all todo more owned within within-new e v =
    let a = falls plan known id old new todo more owned within within-new v in
    let b = ap length e in
    let c = length-append todo (id ∷ []) in
    omega (arith, a, b, c)

pub empty-list : (xs : List ℕ) → length xs ≡ 0 → xs ≡ []
empty-list [] e = refl
empty-list (x ∷ xs) e = absurd (omega arith)

-- an id that is none of these, or was marked before, or wasn't
module _ (plan : HPlan) (ids : List ℕ) (id : ℕ) (old new : List Bool) (todo : List ℕ) (node : Option HNode) (finds : FindsNode plan.nodes id node) where
  pub visits-unknown : node ≡ None → is_among id ids ≡ false → new ≡ old → Visits plan (among ids) id (has ids old) todo (has ids new) todo
  visits-unknown gone none same = record {
    node = node;
    finds = finds;
    taken = λ n k. elim (eqb_tells id n) [
      | inl h ↦ absurd (let f = ap (λ m. is_among m ids) h.1 in cc)
      | inr h ↦ ap (λ z. has ids z n) same ∙ ap (λ b. cond b true (has ids old n)) (sym h.0)
    ];
    todo_is = sym (ap (λ b. cond b todo (todo ++ ids_of node)) (chosen-sub id ids old none) ∙ ap (λ o. todo ++ ids_of o) gone ∙ append-nil todo);
  }

  pub visits-again : has ids old id ≡ true → new ≡ old → Visits plan (among ids) id (has ids old) todo (has ids new) todo
  visits-again marked same = record {
    node = node;
    finds = finds;
    taken = λ n k. elim (eqb_tells id n) [
      | inl h ↦ ap (λ z. has ids z n) same ∙ ap (has ids old) (sym h.1) ∙ marked ∙ ap (λ b. cond b true (has ids old n)) (sym h.0)
      | inr h ↦ ap (λ z. has ids z n) same ∙ ap (λ b. cond b true (has ids old n)) (sym h.0)
    ];
    todo_is = ap (λ b. cond b todo (todo ++ ids_of node)) (sym marked);
  }

  pub visits-new : (more : List ℕ) → has ids old id ≡ false → ((n : ℕ) → has ids new n ≡ ((id == n) || has ids old n)) → more ≡ todo ++ ids_of node → Visits plan (among ids) id (has ids old) todo (has ids new) more
  visits-new more unmarked marks m = record {
    node = node;
    finds = finds;
    taken = λ n k. marks n ∙ as-cond (id == n) (has ids old n);
    todo_is = m ∙ ap (λ b. cond b todo (todo ++ ids_of node)) (sym unmarked);
  }
    where
      as-cond : (a b : Bool) → (a || b) ≡ cond a true b
      as-cond true b = refl
      as-cond false b = refl

pub visits-same : (plan : HPlan) (ids : List ℕ) (id : ℕ) (old new : List Bool) (todo : List ℕ) → AreOwned (among ids) plan.nodes
    → (t : Taken) → ((p : ℕ) → t ≡ New p → ⊥) → Takes ids id old new t → Visits plan (among ids) id (has ids old) todo (has ids new) todo
visits-same plan ids id old new todo owned Unknown not-new h = visits-unknown plan ids id old new todo None (finds-unknown ids plan.nodes id owned h.0) refl h.0 h.1
visits-same plan ids id old new todo owned Again not-new h = let f = node-of plan.nodes id in visits-again plan ids id old new todo f.0 f.1 h.0 h.1
visits-same plan ids id old new todo owned (New p) not-new h = absurd (not-new p refl)

-- where the id is known, it is marked, or it is to be taken
abbrev pub In : (known marked : ℕ → Bool) → List ℕ → ℕ → Type 0
In known marked todo n = (known n ≡ false) ⊎ (marked n ≡ true) ⊎ Has todo n

-- what is marked and what is to be taken the root reaches; and what it lists, and what marked nodes list, is among these
pub record IsOnTheWay (plan : HPlan) (known marked : ℕ → Bool) (todo : List ℕ) : Type 0 where
  pub sound : (n : ℕ) → marked n ≡ true → Reaches plan n
  pub due : (n : ℕ) → Has todo n → Reaches plan n
  pub tops : (n : ℕ) → Has plan.root n → In known marked todo n
  pub below : (x : HNode) → Has plan.nodes x → marked x.line.id ≡ true → (n : ℕ) → Has x.ids n → In known marked todo n

pub at-first : (plan : HPlan) (known marked : ℕ → Bool) → ((n : ℕ) → marked n ≡ false) → IsOnTheWay plan known marked plan.root
at-first plan known marked none = record {
  sound = λ n h. absurd (not-yet n h);
  due = λ n h. lists h;
  tops = λ n h. inr (inr h);
  below = λ x h r n i. absurd (not-yet x.line.id r);
}
  where
    not-yet : (n : ℕ) → marked n ≡ true → ⊥
    not-yet n h = let f = none n in cc

module _ (plan : HPlan) (known : ℕ → Bool) (id : ℕ) (old new : ℕ → Bool) (all todo more : List ℕ) (within : (n : ℕ) → old n ≡ true → known n ≡ true) (within-new : (n : ℕ) → new n ≡ true → known n ≡ true) (once : AreOnce plan.nodes) (cut : all ≡ todo ++ id ∷ []) (v : Visits plan known id old todo new more) (w : IsOnTheWay plan known old all) where
  due-id : Reaches plan id
  due-id = w.due id (subst (λ z. Has z id) (sym cut) (has-right todo (id ∷ []) id (inl refl)))

  kept : (n : ℕ) → Has todo n → Has more n
  kept n h = go (old id) refl
    where
      go : (b : Bool) → old id ≡ b → Has more n
      go true e = subst (λ z. Has z n) (sym (v.todo_is ∙ ap (λ t. cond t todo (todo ++ ids_of v.node)) e)) h
      go false e = subst (λ z. Has z n) (sym (v.todo_is ∙ ap (λ t. cond t todo (todo ++ ids_of v.node)) e)) (has-left todo (ids_of v.node) n h)

  marked-here : (n : ℕ) → n ≡ id → In known new more n
  marked-here n e = go (known n) refl
    where
      go : (b : Bool) → known n ≡ b → In known new more n
      go true k = inr (inl (here known id old new within within-new v.taken n k e))
      go false k = inl k

  from-todo : (n : ℕ) → Has (todo ++ id ∷ []) n → In known new more n
  from-todo n h = elim (has-split todo (id ∷ []) n h) [
    | inl i ↦ inr (inr (kept n i))
    | inr i ↦ marked-here n (only i)
  ]
    where
      only : Has (id ∷ []) n → n ≡ id
      only (inl e) = sym e
      only (inr h) = absurd h

  keeps : (n : ℕ) → In known old all n → In known new more n
  keeps n (inl k) = inl k
  keeps n (inr (inl e)) = inr (inl (stays known id old new within within-new v.taken n e))
  keeps n (inr (inr h)) = from-todo n (subst (λ z. Has z n) cut h)

  -- what the node of the id lists is to be taken now, unless the id was marked before
  listed-now : (x : HNode) → Has plan.nodes x → x.line.id ≡ id → old id ≡ false → (n : ℕ) → Has x.ids n → Has more n
  listed-now x h q e n i = go v.node v.finds (v.todo_is ∙ ap (λ t. cond t todo (todo ++ ids_of v.node)) e)
    where
      go : (o : Option HNode) → FindsNode plan.nodes id o → more ≡ todo ++ ids_of o → Has more n
      go None f t = absurd (f x h q)
      go (Some y) f t =
          let same : x ≡ y = once x y h f.0 (q ∙ sym f.1) in
          subst (λ z. Has z n) (sym t) (has-right todo y.ids n (subst (λ (z : HNode). Has z.ids n) same i))

  old-below : (x : HNode) → Has plan.nodes x → old x.line.id ≡ true → (n : ℕ) → Has x.ids n → In known new more n
  old-below x h r n i = keeps n (w.below x h r n i)

  new-below : (x : HNode) → Has plan.nodes x → new x.line.id ≡ true → (n : ℕ) → Has x.ids n → In known new more n
  new-below x h r n i = elim (was known id old new within within-new v.taken x.line.id r) [
    | inr o ↦ old-below x h o n i
    | inl q ↦ here-below q (old id) refl
  ]
    where
      here-below : x.line.id ≡ id → (b : Bool) → old id ≡ b → In known new more n
      here-below q true e = old-below x h (ap old q ∙ e) n i
      here-below q false e = inr (inr (listed-now x h q e n i))

  due-next : (n : ℕ) → Has more n → Reaches plan n
  due-next n h = go (old id) refl
    where
      old-due : Has todo n → Reaches plan n
      old-due i = w.due n (subst (λ z. Has z n) (sym cut) (has-left todo (id ∷ []) n i))

      node-due : (o : Option HNode) → FindsNode plan.nodes id o → Has (ids_of o) n → Reaches plan n
      node-due None f i = absurd i
      node-due (Some x) f i = leads x f.0 (subst (Reaches plan) (sym f.1) due-id) i

      go : (b : Bool) → old id ≡ b → Reaches plan n
      go true e = old-due (subst (λ z. Has z n) (v.todo_is ∙ ap (λ t. cond t todo (todo ++ ids_of v.node)) e) h)
      go false e = elim (has-split todo (ids_of v.node) n (subst (λ z. Has z n) (v.todo_is ∙ ap (λ t. cond t todo (todo ++ ids_of v.node)) e) h)) [
        | inl i ↦ old-due i
        | inr i ↦ node-due v.node v.finds i
      ]

  pub way-next : IsOnTheWay plan known new more
  way-next = record {
    sound = λ n h. elim (was known id old new within within-new v.taken n h) [ inl q ↦ subst (Reaches plan) (sym q) due-id | inr o ↦ w.sound n o ];
    due = due-next;
    tops = λ n h. keeps n (w.tops n h);
    below = new-below;
  }

in-marks : (known marked : ℕ → Bool) (n : ℕ) → known n ≡ true → In known marked [] n → marked n ≡ true
in-marks known marked n k (inl e) = absurd cc
in-marks known marked n k (inr (inl e)) = e
in-marks known marked n k (inr (inr h)) = absurd h

all-in : (plan : HPlan) (known marked : ℕ → Bool) → AreOwned known plan.nodes → IsOnTheWay plan known marked [] → (n : ℕ) → known n ≡ true → Reaches plan n → marked n ≡ true
all-in plan known marked owned w n k (lists h) = in-marks known marked n k (w.tops n h)
all-in plan known marked owned w n k (leads x h r i) = in-marks known marked n k (w.below x h (all-in plan known marked owned w x.line.id (owned x h) r) n i)

pub at-last : (plan : HPlan) (known marked : ℕ → Bool) → AreOwned known plan.nodes → IsOnTheWay plan known marked [] → HasReached plan known marked
at-last plan known marked owned w n k = (w.sound n, all-in plan known marked owned w n k)
