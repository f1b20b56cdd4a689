-- The plan that is read of a text is sound.
use Rattle.std.proofs.Common.{ℕ, zero, suc, ◌≡◌, ◌∙◌, ◌+◌, ◌≤◌, ◌⊎◌, inl, inr, ◌==◌, ◌||◌, Bool, true, false, not, cond, List, [], ◌∷◌, ◌++◌, map, length, refl, sym, ap, subst, arith}
use Rattle.std.specs.List.{filter_map}
use Rattle.std.specs.Prelude.{Contains}
use Rattle.std.proofs.lemmas.Bool.{eq-eqb}
use Rattle.std.proofs.lemmas.Bool.Decides.{eqb_tells}
use Rattle.std.proofs.lemmas.List.{append-nil, map-append}
use Rattle.htn_base.specs.Different.{AreDifferent}
use Rattle.plan_texts.specs.Types.{Has}
use Rattle.plan_texts.proofs.Members.{contains-has, has-contains, has-to_map, has-of_map}
use Rattle.text_forms.specs.Faults.{Fault, fault}
use Rattle.hplan_text.specs.declared.mention.Mention.{Mention}
use Rattle.hplan_text.specs.declared.values.HPlan.{HPlan}
use Rattle.hplan_text.specs.Rows.{Row, bad, top, primitive, decomposed, number, primitive_line, node}
use Rattle.hplan_text.specs.SpellsHPlan.{rows, own_ids, all_listed, tops, first_top, plan_of}
use Rattle.hplan_text.specs.HPlanFaults.{is_among, put_if, repeats_behind, repeats, others, faults_at, id_faults, faults_of_ids, Reaches, IsUnreached, IsTreeFault}
use Rattle.hplan_text.specs.Marks.{among}
use Rattle.hplan_text.specs.Walks.{AreOnce, HasReached, ids_of, Visits}
use Rattle.hplan_text.specs.Printable.{line_id, node_id, task_ids, listed_by, all_ids, IsSoundHPlan, ReadHPlansAreSound}
use Rattle.hplan_text.proofs.Indexed.{node-of}
use Rattle.hplan_text.proofs.Judged.{nodes-once}
use Rattle.hplan_text.proofs.LeastFound.{has-left, has-right}
use Rattle.hplan_text.proofs.Walked.{rest, smaller, IsOnTheWay, at-first, way-next, at-last}

-- how often a number stands in a list

abbrev here : Bool → ℕ
here true = 1
here false = 0

abbrev count : ℕ → List ℕ → ℕ
count n [] = 0
count n (k ∷ ks) = here (k == n) + count n ks

count-append : (n : ℕ) (xs ys : List ℕ) → count n (xs ++ ys) ≡ count n xs + count n ys
count-append n [] ys = omega arith
count-append n (x ∷ xs) ys = let e = count-append n xs ys in omega (arith, e)

has-count : (n : ℕ) (ks : List ℕ) → Has ks n → 1 ≤ count n ks
has-count n [] h = absurd h
has-count n (k ∷ ks) (inl e) = let f = ap here (eq-eqb k n e) in omega (arith, f)
has-count n (k ∷ ks) (inr h) = let e = has-count n ks h in omega (arith, e)

count-has : (n : ℕ) (ks : List ℕ) → 1 ≤ count n ks → Has ks n
count-has n [] l = absurd (omega arith)
count-has n (k ∷ ks) l = by (eqb_tells k n) (count-has n ks)
  where
    by : (((k == n) ≡ true) × (k ≡ n)) ⊎ (((k == n) ≡ false) × (k ≡ n → ⊥)) → (1 ≤ count n ks → Has ks n) → Has (k ∷ ks) n
    by (inl (t, e)) f = inl e
    by (inr (t, e)) f = let z = ap here t in inr (f (omega (arith, l, z)))

different-count : (ks : List ℕ) → AreDifferent ks → (n : ℕ) → count n ks ≤ 1
different-count [] d n = omega arith
different-count (k ∷ ks) d n = by (eqb_tells k n) (different-count ks d.1 n)
  where
    absent : k ≡ n → 1 ≤ count n ks → ⊥
    absent e l = d.0 (has-contains ks k (subst (Has ks) (sym e) (count-has n ks l)))

    few : (c : ℕ) → (1 ≤ c → ⊥) → c ≡ 0
    few zero f = refl
    few (suc c) f = absurd (f (omega arith))

    by : (((k == n) ≡ true) × (k ≡ n)) ⊎ (((k == n) ≡ false) × (k ≡ n → ⊥)) → count n ks ≤ 1 → count n (k ∷ ks) ≤ 1
    by (inl (t, e)) h = let z = ap here t in let c = few (count n ks) (absent e) in omega (arith, z, c)
    by (inr (t, e)) h = let z = ap here t in omega (arith, z, h)

count-different : (ks : List ℕ) → ((n : ℕ) → count n ks ≤ 1) → AreDifferent ks
count-different [] l = tt
count-different (k ∷ ks) l = (
  λ c. (let a = has-count k ks (contains-has ks k c) in let z = ap here (eq-eqb k k refl) in let b = l k in omega (arith, a, b, z)),
  count-different ks (λ n. (let b = l n in omega (arith, b))),
)

-- the ids of rows, whatever their order

module _ (n : ℕ) where
  count-own : (rs : List Row) → count n (map number (own_ids rs)) ≡ count n (task_ids (plan_of rs))
  count-own [] = refl
  count-own (bad ∷ rs) = count-own rs
  count-own (top ids ∷ rs) = count-own rs
  count-own (primitive m name args ∷ rs) = ap (λ c. here (m.id == n) + c) (count-own rs)
  count-own (decomposed m name args method ids ∷ rs) =
      let a = map line_id (filter_map primitive_line rs) in
      let b = map node_id (filter_map node rs) in
      let e = count-own rs in
      let f = count-append n a b in
      let g = count-append n a (m.id ∷ b) in
      omega (arith, e, f, g)

  abbrev joined : List (List Mention) → List ℕ
  joined [] = []
  joined (ms ∷ mss) = map number ms ++ joined mss

  count-listed : (rs : List Row) → count n (map number (all_listed rs)) ≡ count n (joined (tops rs)) + count n (listed_by (filter_map node rs))
  count-listed [] = refl
  count-listed (bad ∷ rs) = count-listed rs
  count-listed (top ids ∷ rs) =
      let e = count-listed rs in
      let f = ap (count n) (map-append number ids (all_listed rs)) in
      let g = count-append n (map number ids) (map number (all_listed rs)) in
      let h = count-append n (map number ids) (joined (tops rs)) in
      omega (arith, e, f, g, h)
  count-listed (primitive m name args ∷ rs) = count-listed rs
  count-listed (decomposed m name args method ids ∷ rs) =
      let e = count-listed rs in
      let f = ap (count n) (map-append number ids (all_listed rs)) in
      let g = count-append n (map number ids) (map number (all_listed rs)) in
      let h = count-append n (map number ids) (listed_by (filter_map node rs)) in
      omega (arith, e, f, g, h)

  count-all : (rs : List Row) (root : List Mention) → tops rs ≡ root ∷ [] → count n (map number (all_listed rs)) ≡ count n (all_ids (plan_of rs))
  count-all rs root e =
      let ids = map number root in
      let a = count-listed rs in
      let b = ap (λ z. count n (joined z)) e in
      let c = ap (count n) (append-nil ids) in
      let d = ap (λ z. count n (map number (first_top z))) e in
      let f = count-append n (map number (first_top (tops rs))) (listed_by (filter_map node rs)) in
      omega (arith, a, b, c, d, f)

-- ids without faults

or-left : (a b : Bool) → (a || b) ≡ false → a ≡ false
or-left true b e = e
or-left false b e = refl

or-right : (a b : Bool) → (a || b) ≡ false → b ≡ false
or-right true b e = absurd cc
or-right false b e = e

different : (seen : List ℕ) (ms : List Mention) → ((m : Mention) → Has (repeats_behind seen ms) m → ⊥) → AreDifferent (map number ms) × ((n : ℕ) → Has (map number ms) n → is_among n seen ≡ false)
different seen [] lacks = (tt, λ n h. absurd h)
different seen (k ∷ ms) lacks = by (is_among k.id seen) refl lacks (different (k.id ∷ seen) ms)
  where
    by : (t : Bool) → is_among k.id seen ≡ t → ((m : Mention) → Has (put_if t k (repeats_behind (k.id ∷ seen) ms)) m → ⊥)
        → (((m : Mention) → Has (repeats_behind (k.id ∷ seen) ms) m → ⊥) → AreDifferent (map number ms) × ((n : ℕ) → Has (map number ms) n → is_among n (k.id ∷ seen) ≡ false))
        → AreDifferent (map number (k ∷ ms)) × ((n : ℕ) → Has (map number (k ∷ ms)) n → is_among n seen ≡ false)
    by true e lacks f = absurd (lacks k (inl refl))
    by false e lacks f = ((again, r.0), new)
      where
        r : AreDifferent (map number ms) × ((n : ℕ) → Has (map number ms) n → is_among n (k.id ∷ seen) ≡ false)
        r = f lacks

        again : Contains (map number ms) k.id → ⊥
        again c = let a = or-left (k.id == k.id) (is_among k.id seen) (r.1 k.id (contains-has (map number ms) k.id c)) in let b = eq-eqb k.id k.id refl in cc

        new : (n : ℕ) → Has (map number (k ∷ ms)) n → is_among n seen ≡ false
        new n (inl q) = subst (λ z. is_among z seen ≡ false) q e
        new n (inr h) = or-right (k.id == n) (is_among n seen) (r.1 n h)

is-known : (known : List ℕ) (ms : List Mention) → ((m : Mention) → Has (others known ms) m → ⊥) → (m : Mention) → Has ms m → is_among m.id known ≡ true
is-known known [] lacks m h = absurd h
is-known known (k ∷ ms) lacks m h = by (is_among k.id known) refl lacks (λ q. is-known known ms q m) h
  where
    by : (t : Bool) → is_among k.id known ≡ t → ((m : Mention) → Has (put_if (not t) k (others known ms)) m → ⊥)
        → (((m : Mention) → Has (others known ms) m → ⊥) → Has ms m → is_among m.id known ≡ true) → Has (k ∷ ms) m → is_among m.id known ≡ true
    by true e lacks f (inl q) = subst (λ (z : Mention). is_among z.id known ≡ true) q e
    by true e lacks f (inr h) = f lacks h
    by false e lacks f h = absurd (lacks k (inl refl))

among-has : (n : ℕ) (ks : List ℕ) → is_among n ks ≡ true → Has ks n
among-has n [] e = absurd cc
among-has n (k ∷ ks) e = by (eqb_tells k n) (among-has n ks)
  where
    by : (((k == n) ≡ true) × (k ≡ n)) ⊎ (((k == n) ≡ false) × (k ≡ n → ⊥)) → (is_among n ks ≡ true → Has ks n) → Has (k ∷ ks) n
    by (inl (t, q)) f = inl q
    by (inr (t, q)) f = inr (f (ap (λ z. z || is_among n ks) (sym t) ∙ e))

-- what the root reaches can be told

last-of : (n : ℕ) (ns : List ℕ) → (todo : List ℕ) × (id : ℕ) × (n ∷ ns ≡ todo ++ id ∷ [])
last-of n [] = ([], n, refl)
last-of n (k ∷ ks) = let r = last-of k ks in (n ∷ r.0, r.1, ap (λ z. n ∷ z) r.2)

-- each id counts as known
abbrev any : ℕ → Bool
any n = true

taken : (id : ℕ) (s : List ℕ) (n : ℕ) → among (id ∷ s) n ≡ cond (id == n) true (among s n)
taken id s n = by (id == n)
  where
    by : (b : Bool) → (b || among s n) ≡ cond b true (among s n)
    by true = refl
    by false = refl

walk : (most : ℕ) (plan : HPlan) → AreOnce plan.nodes → (s : List ℕ) (todo : List ℕ) → IsOnTheWay plan any (among s) todo → length todo + rest (among s) plan.nodes ≤ most → (t : List ℕ) × HasReached plan any (among t)
walk most plan once s [] w l = (s, at-last plan any (among s) (λ x h. refl) w)
walk zero plan once s (n ∷ ns) w l = absurd (omega arith)
walk (suc most) plan once s (n ∷ ns) w l =
    let c = last-of n ns in
    let o = node-of plan.nodes c.1 in
    let now : List ℕ = c.1 ∷ s in
    let more : List ℕ = cond (among s c.1) c.0 (c.0 ++ ids_of o.0) in
    let v : Visits plan any c.1 (among s) c.0 (among now) more = record { node = o.0; finds = o.1; taken = λ n k. taken c.1 s n; todo_is = refl } in
    let less = smaller plan any c.1 (among s) (among now) (n ∷ ns) c.0 more (λ x h. refl) (λ n k. refl) (λ n k. refl) c.2 v in
    walk most plan once now more (way-next plan any c.1 (among s) (among now) (n ∷ ns) c.0 more (λ n k. refl) (λ n k. refl) once c.2 v w) (omega (arith, l, less))

reaches : (plan : HPlan) → AreOnce plan.nodes → (n : ℕ) → ((Reaches plan n → ⊥) → ⊥) → Reaches plan n
reaches plan once n otherwise = by (among t.0 n) refl
  where
    t : (t : List ℕ) × HasReached plan any (among t)
    t = walk (length plan.root + rest (among []) plan.nodes) plan once [] plan.root (at-first plan any (among []) (λ n. refl)) (omega arith)

    by : (b : Bool) → among t.0 n ≡ b → Reaches plan n
    by true e = (t.1 n refl).0 e
    by false e = absurd (otherwise (λ r. (let f = (t.1 n refl).1 r in cc)))

none-has : {X : Type 0} (xs : List X) → ((x : X) → Has xs x → ⊥) → xs ≡ []
none-has [] lacks = refl
none-has (x ∷ xs) lacks = absurd (lacks x (inl refl))

module _ (rs : List Row) (root : List Mention) (one : tops rs ≡ root ∷ []) (lacks : (f : Fault) → Has (id_faults rs) f → ⊥) (tree : (f : Fault) → IsUnreached rs f → ⊥) where
  abbrev own : List Fault
  own = faults_at 32 (repeats (own_ids rs))

  abbrev known : List Fault
  known = faults_at 33 (others (map number (own_ids rs)) (all_listed rs))

  abbrev once : List Fault
  once = faults_at 34 (repeats (all_listed rs))

  no-own : (m : Mention) → Has (repeats (own_ids rs)) m → ⊥
  no-own m h = lacks (fault 32 m.at) (has-left own (known ++ once) (fault 32 m.at) (has-to_map (λ (m : Mention). fault 32 m.at) (repeats (own_ids rs)) m h))

  no-known : (m : Mention) → Has (others (map number (own_ids rs)) (all_listed rs)) m → ⊥
  no-known m h =
      lacks (fault 33 m.at)
      (has-right own (known ++ once) (fault 33 m.at)
      (has-left known once (fault 33 m.at) (has-to_map (λ (m : Mention). fault 33 m.at) (others (map number (own_ids rs)) (all_listed rs)) m h)))

  no-once : (m : Mention) → Has (repeats (all_listed rs)) m → ⊥
  no-once m h =
      lacks (fault 34 m.at)
      (has-right own (known ++ once) (fault 34 m.at) (has-right known once (fault 34 m.at) (has-to_map (λ (m : Mention). fault 34 m.at) (repeats (all_listed rs)) m h)))

  own-has : (n : ℕ) → Has (task_ids (plan_of rs)) n → Has (map number (own_ids rs)) n
  own-has n h = let a = has-count n (task_ids (plan_of rs)) h in let e = count-own n rs in count-has n (map number (own_ids rs)) (omega (arith, a, e))

  has-own : (n : ℕ) → Has (map number (own_ids rs)) n → Has (task_ids (plan_of rs)) n
  has-own n h = let a = has-count n (map number (own_ids rs)) h in let e = count-own n rs in count-has n (task_ids (plan_of rs)) (omega (arith, a, e))

  listed-has : (n : ℕ) → Has (all_ids (plan_of rs)) n → Has (map number (all_listed rs)) n
  listed-has n h = let a = has-count n (all_ids (plan_of rs)) h in let e = count-all n rs root one in count-has n (map number (all_listed rs)) (omega (arith, a, e))

  is-sound : IsSoundHPlan (plan_of rs)
  is-sound = record {
    own = count-different (task_ids (plan_of rs))
        (λ n. (let a = different-count (map number (own_ids rs)) (different [] (own_ids rs) no-own).0 n in let e = count-own n rs in omega (arith, a, e)));
    known = λ n h. (let x = has-of_map number (all_listed rs) n (listed-has n h) in
        has-own n (among-has n (map number (own_ids rs)) (ap (λ k. is_among k (map number (own_ids rs))) (sym x.2) ∙ is-known (map number (own_ids rs)) (all_listed rs) no-known x.0 x.1)));
    once = count-different (all_ids (plan_of rs))
        (λ n. (let a = different-count (map number (all_listed rs)) (different [] (all_listed rs) no-once).0 n in let e = count-all n rs root one in omega (arith, a, e)));
    reached = λ n h. (let x = has-of_map number (own_ids rs) n (own-has n h) in
        reaches (plan_of rs) (nodes-once rs (none-has (id_faults rs) lacks)) n
        (λ f. tree (fault 36 x.0.at) (x.0, x.1, (λ r. f (subst (Reaches (plan_of rs)) x.2 r)), refl)));
  }

pub read-sound : ReadHPlansAreSound
read-sound text plan r =
    let s = r.spelled in
    subst IsSoundHPlan (sym s.plan_is)
    (is-sound (rows s.between) s.root s.one_root (λ f h. r.faultless 2 f (inr (inl (refl, subst (λ o. Has (faults_of_ids o) f) (sym s.is_between) h))))
    (λ f h. r.faultless 3 f (inr (inr (refl, subst (λ o. IsTreeFault o f) (sym s.is_between) h)))))
