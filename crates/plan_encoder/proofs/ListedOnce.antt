-- Ids that are listed once: children that are no checks have them in order, and each is listed by one line.
use Rattle.std.proofs.Common.{ℕ, zero, suc, ◌≡◌, ◌+◌, ◌∙◌, inr, inl, Bool, true, false, not, cond, List, [], ◌∷◌, ◌++◌, length, map, filter, slice_get, Option, Some, None, refl, ap, sym, subst, Contains, arith}
use Rattle.std.proofs.lemmas.Simd.{map-map}
use Rattle.std.proofs.lemmas.List.Elements.{Contains-append_left, Contains-append_right}
use Rattle.htn_base.specs.Different.{AreDifferent}
use Rattle.htn_base.proofs.DifferentLemmas.{different-left, different-right}
use Rattle.plan_model.specs.task_networks.Spelling.{numbers}
use Rattle.plan_model.proofs.task_networks.Lists.{Contains-here, Contains-later, head_or_tail, not-in_empty}
use Rattle.plan_model.proofs.plan_meaning.Pairs.{map_to}
use Rattle.hplan_text.specs.declared.values.HNode.{HNode}
use Rattle.hplan_text.specs.declared.values.HPlan.{HPlan}
use Rattle.hplan_text.specs.Printable.{listed_by, task_ids, IsSoundHPlan}
use Rattle.schedules.specs.latest.PlanLines.{StepLine, SplitLine, PlanLines, line_ids, step_ids}
use Rattle.schedules.proofs.latest.Rearranged.{in_map}
use Rattle.plan_encoder.specs.Calls.{Call, Decomposed, step_of, split_of, lines_of}

-- the id of child j, where these children are checks, and the others have these ids
abbrev pub id_at : List Bool → List ℕ → ℕ → Option ℕ
id_at [] is j = None
id_at (true ∷ bs) is zero = None
id_at (true ∷ bs) is (suc j) = id_at bs is j
id_at (false ∷ bs) [] j = None
id_at (false ∷ bs) (i ∷ is) zero = Some i
id_at (false ∷ bs) (i ∷ is) (suc j) = id_at bs is j

-- as many ids as children that are no checks
abbrev pub AsMany : List Bool → List ℕ → Type 0
AsMany [] [] = Unit {0}
AsMany [] (i ∷ is) = ⊥
AsMany (true ∷ bs) is = AsMany bs is
AsMany (false ∷ bs) [] = ⊥
AsMany (false ∷ bs) (i ∷ is) = AsMany bs is

-- the numbers of the children that are no checks, from k on
abbrev pub falses : ℕ → List Bool → List ℕ
falses k [] = []
falses k (true ∷ bs) = falses (suc k) bs
falses k (false ∷ bs) = k ∷ falses (suc k) bs

pub id_listed : (bs : List Bool) (is : List ℕ) (j i : ℕ) → id_at bs is j ≡ Some i → Contains is i
id_listed [] is j i e = absurd cc
id_listed (true ∷ bs) is zero i e = absurd cc
id_listed (true ∷ bs) is (suc j) i e = id_listed bs is j i e
id_listed (false ∷ bs) [] j i e = absurd cc
id_listed (false ∷ bs) (k ∷ is) zero i e = subst (Contains (k ∷ is)) (let f : k ≡ i = cc in f) (Contains-here k is)
id_listed (false ∷ bs) (k ∷ is) (suc j) i e = Contains-later k is i (id_listed bs is j i e)

pub id_once : (bs : List Bool) (is : List ℕ) (j k i : ℕ) → AreDifferent is → id_at bs is j ≡ Some i → id_at bs is k ≡ Some i → j ≡ k
id_once [] is j k i d e f = absurd cc
id_once (true ∷ bs) is zero k i d e f = absurd cc
id_once (true ∷ bs) is (suc j) zero i d e f = absurd cc
id_once (true ∷ bs) is (suc j) (suc k) i d e f = ap suc (id_once bs is j k i d e f)
id_once (false ∷ bs) [] j k i d e f = absurd cc
id_once (false ∷ bs) (n ∷ is) zero zero i d e f = refl
id_once (false ∷ bs) (n ∷ is) zero (suc k) i d e f = absurd (d.0 (subst (Contains is) (let g : i ≡ n = cc in g) (id_listed bs is k i f)))
id_once (false ∷ bs) (n ∷ is) (suc j) zero i d e f = absurd (d.0 (subst (Contains is) (let g : i ≡ n = cc in g) (id_listed bs is j i e)))
id_once (false ∷ bs) (n ∷ is) (suc j) (suc k) i d e f = ap suc (id_once bs is j k i d.1 e f)

pub listed_at : (bs : List Bool) (is : List ℕ) (i : ℕ) → AsMany bs is → Contains is i → (j : ℕ) × (id_at bs is j ≡ Some i)
listed_at [] [] i m d = absurd (not-in_empty i d)
listed_at [] (k ∷ is) i m d = absurd m
listed_at (true ∷ bs) is i m d = let h = listed_at bs is i m d in (suc h.0, h.1)
listed_at (false ∷ bs) [] i m d = absurd m
listed_at (false ∷ bs) (k ∷ is) i m d = elim (head_or_tail k is i d) [ inl e ↦ (0, ap Some e) | inr r ↦ (let h = listed_at bs is i m r in (suc h.0, h.1)) ]

-- what stands at the ids, in order
pub images : {A : Type 0} (bs : List Bool) (is : List ℕ) (k : ℕ) (f g : ℕ → A) → AsMany bs is
    → ((j i : ℕ) → id_at bs is j ≡ Some i → f i ≡ g (k + j))
    → map f is ≡ map g (falses k bs)
images [] [] k f g m h = refl
images [] (i ∷ is) k f g m h = absurd m
images (true ∷ bs) is k f g m h = images bs is (suc k) f g m (λ j i e. h (suc j) i e ∙ ap g (let x : k + suc j ≡ suc k + j = omega arith in x))
images (false ∷ bs) [] k f g m h = absurd m
images {A = A} (false ∷ bs) (i ∷ is) k f g m h =
    let here : f i ≡ g k = h zero i refl ∙ ap g (let x : k + 0 ≡ k = omega arith in x) in
    let rest = images bs is (suc k) f g m (λ j i e. h (suc j) i e ∙ ap g (let x : k + suc j ≡ suc k + j = omega arith in x)) in
    λ n. here n ∷ rest n

-- the elements of a list that pass, by the tests of its places
pub passing : {A : Type 0} (t : Option A → Bool) (b : A → Bool) → ((x : A) → t (Some x) ≡ not (b x)) → (all xs : List A) (k : ℕ)
    → ((n : ℕ) → slice_get all (k + n) ≡ slice_get xs n) → filter (λ i. t (slice_get all i)) (numbers k (length xs)) ≡ falses k (map b xs)
passing t b s all [] k h = refl
passing {A = A} t b s all (x ∷ xs) k h =
    go (b x) (s x) (passing t b s all xs (suc k) (λ n. ap (slice_get all) (let y : suc k + n ≡ k + suc n = omega arith in y) ∙ h (suc n)))
  where
    here : slice_get all k ≡ Some x
    here = ap (slice_get all) (let y : k ≡ k + 0 = omega arith in y) ∙ h 0

    go : (v : Bool) → t (Some x) ≡ not v → filter (λ i. t (slice_get all i)) (numbers (suc k) (length xs)) ≡ falses (suc k) (map b xs)
        → cond (t (slice_get all k)) (k ∷ filter (λ i. t (slice_get all i)) (numbers (suc k) (length xs)))
        (filter (λ i. t (slice_get all i)) (numbers (suc k) (length xs))) ≡ falses k (v ∷ map b xs)
    go true e r = ap (λ z. cond z (k ∷ filter (λ i. t (slice_get all i)) (numbers (suc k) (length xs)))
        (filter (λ i. t (slice_get all i)) (numbers (suc k) (length xs)))) (ap t here ∙ e) ∙ r
    go false e r = ap (λ z. cond z (k ∷ filter (λ i. t (slice_get all i)) (numbers (suc k) (length xs)))
        (filter (λ i. t (slice_get all i)) (numbers (suc k) (length xs)))) (ap t here ∙ e) ∙ ap (λ z. k ∷ z) r

-- lists of different elements have nothing in common, and different images are of different elements
pub apart_of : {A : Type 0} (xs ys : List A) (x : A) → AreDifferent (xs ++ ys) → Contains xs x → Contains ys x → ⊥
apart_of [] ys x d a b = not-in_empty x a
apart_of (y ∷ xs) ys x d a b = elim (head_or_tail y xs x a) [
  | inl e ↦ d.0 (Contains-append_right xs ys y (subst (Contains ys) (sym e) b))
  | inr r ↦ apart_of xs ys x d.1 r b
]

pub once_by : {A B : Type 0} (f : A → B) (xs : List A) (x y : A) → AreDifferent (map f xs) → Contains xs x → Contains xs y → f x ≡ f y
    → x ≡ y
once_by f [] x y d a b e = absurd (not-in_empty x a)
once_by f (z ∷ xs) x y d a b e = elim (head_or_tail z xs x a) [
  | inl g ↦ elim (head_or_tail z xs y b) [
    | inl h ↦ sym g ∙ h
    | inr r ↦ absurd (d.0 (subst (Contains (map f xs)) (sym e ∙ ap f (sym g)) (in_map f xs y r)))
  ]
  | inr q ↦ elim (head_or_tail z xs y b) [
    | inl h ↦ absurd (d.0 (subst (Contains (map f xs)) (e ∙ ap f (sym h)) (in_map f xs x q)))
    | inr r ↦ once_by f xs x y d.1 q r e
  ]
]

module _ (i : ℕ) where
  listed_in : (nodes : List HNode) (x : HNode) → Contains nodes x → Contains x.ids i → Contains (listed_by nodes) i
  listed_in [] x a b = absurd (not-in_empty x a)
  listed_in (n ∷ nodes) x a b = elim (head_or_tail n nodes x a) [
    | inl e ↦ Contains-append_left n.ids (listed_by nodes) i (subst (λ (z : HNode). Contains z.ids i) (sym e) b)
    | inr r ↦ Contains-append_right n.ids (listed_by nodes) i (listed_in nodes x r b)
  ]

  listed_by_one : (nodes : List HNode) (x y : HNode) → AreDifferent (listed_by nodes) → Contains nodes x → Contains nodes y
      → Contains x.ids i → Contains y.ids i → x ≡ y
  listed_by_one [] x y d a b p q = absurd (not-in_empty x a)
  listed_by_one (n ∷ nodes) x y d a b p q = elim (head_or_tail n nodes x a) [
    | inl e ↦ elim (head_or_tail n nodes y b) [
      | inl f ↦ sym e ∙ f
      | inr r ↦ absurd (apart_of n.ids (listed_by nodes) i d (subst (λ (z : HNode). Contains z.ids i) (sym e) p) (listed_in nodes y r q))
    ]
    | inr s ↦ elim (head_or_tail n nodes y b) [
      | inl f ↦ absurd (apart_of n.ids (listed_by nodes) i d (subst (λ (z : HNode). Contains z.ids i) (sym f) q) (listed_in nodes x s p))
      | inr r ↦ listed_by_one nodes x y (different-right n.ids (listed_by nodes) d) s r p q
    ]
  ]

different_ids : (nodes : List HNode) (x : HNode) → AreDifferent (listed_by nodes) → Contains nodes x → AreDifferent x.ids
different_ids [] x d a = absurd (not-in_empty x a)
different_ids (n ∷ nodes) x d a = elim (head_or_tail n nodes x a) [
  | inl e ↦ subst (λ (z : HNode). AreDifferent z.ids) e (different-left n.ids (listed_by nodes) d)
  | inr r ↦ different_ids nodes x (different-right n.ids (listed_by nodes) d) r
]

-- what a sound plan says of its lines
module _ (plan : HPlan) (s : IsSoundHPlan plan) where
  abbrev P : PlanLines ℕ Call Decomposed
  P = lines_of plan

  abbrev Split : Type 0
  Split = SplitLine ℕ Decomposed

  pub ids_are : line_ids P ≡ task_ids plan
  ids_are =
      let a = map-map (λ (l : StepLine ℕ Call). l.id) step_of plan.primitives in
      let b = map-map (λ (l : Split). l.id) split_of plan.nodes in
      λ i. a i ++ b i

  pub different_lines : AreDifferent (line_ids P)
  different_lines = subst AreDifferent (sym ids_are) s.own

  node_of : (l : Split) → Contains P.splits l → (x : HNode) × Contains plan.nodes x × (split_of x ≡ l)
  node_of l d = map_to split_of plan.nodes l d

  pub one_split : (l k : Split) → Contains P.splits l → Contains P.splits k → l.id ≡ k.id → l ≡ k
  one_split l k = once_by (λ l. l.id) P.splits l k (different-right (step_ids P) (map (λ l. l.id) P.splits) different_lines)

  pub one_step : (l k : StepLine ℕ Call) → Contains P.steps l → Contains P.steps k → l.id ≡ k.id → l ≡ k
  one_step l k = once_by (λ l. l.id) P.steps l k (different-left (step_ids P) (map (λ l. l.id) P.splits) different_lines)

  pub step_or_split : (l : StepLine ℕ Call) (k : Split) → Contains P.steps l → Contains P.splits k → l.id ≡ k.id → ⊥
  step_or_split l k a b e = apart_of (step_ids P) (map (λ l. l.id) P.splits) k.id different_lines
      (subst (Contains (step_ids P)) e (in_map (λ l. l.id) P.steps l a)) (in_map (λ l. l.id) P.splits k b)

  pub root_once : AreDifferent P.root
  root_once = different-left plan.root (listed_by plan.nodes) s.once

  pub children_once : (l : Split) → Contains P.splits l → AreDifferent l.children
  children_once l d = let (x, a, e) = node_of l d in subst (λ (z : Split). AreDifferent z.children) e (different_ids plan.nodes x (different-right plan.root (listed_by plan.nodes) s.once) a)

  -- an id is listed by the root, or by one line
  pub root_or_line : (i : ℕ) (l : Split) → Contains P.splits l → Contains P.root i → Contains l.children i → ⊥
  root_or_line i l d a b =
      let (x, k, e) = node_of l d in
      apart_of plan.root (listed_by plan.nodes) i s.once a (listed_in i plan.nodes x k (subst (λ (z : Split). Contains z.children i) (sym e) b))

  pub one_line : (i : ℕ) (l k : Split) → Contains P.splits l → Contains P.splits k → Contains l.children i → Contains k.children i → l ≡ k
  one_line i l k d a p q =
      let (x, b, e) = node_of l d in
      let (y, m, f) = node_of k a in
      let same = listed_by_one i plan.nodes x y (different-right plan.root (listed_by plan.nodes) s.once) b m
      (subst (λ (z : Split). Contains z.children i) (sym e) p) (subst (λ (z : Split). Contains z.children i) (sym f) q) in
      sym e ∙ ap split_of same ∙ f
