-- What is known of the network of a compiled method.
use Rattle.std.proofs.Common.{ℕ, zero, suc, ◌≡◌, ◌+◌, ◌*◌, ◌<◌, ◌≤◌, ◌^◌, inl, inr, Bool, true, false, not, List, [], ◌∷◌, ◌++◌, map, length, get_or, All, Contains, nat_eq, ◌&&◌, refl, ap, sym, subst, ◌∙◌, arith, length-append}
use Rattle.std.proofs.Math.Nat.{mul-le-mul_left}
use Rattle.std.proofs.lemmas.List.{length-map}
use Rattle.std.proofs.lemmas.List.Elements.{All-contains, All-append, All-map, Contains-get_or, Contains-append_left, Contains-append_right}
use Rattle.plan_model.specs.task_networks.Order.{IsAcyclic}
use Rattle.htn_base.specs.Different.{AreDifferent}
use Rattle.plan_model.specs.task_networks.Spelling.{numbers}
use Rattle.std.proofs.lemmas.Bool.{eq-eqb, cases_eq, true≢false}
use Rattle.plan_model.proofs.task_networks.Lists.{not-in_empty, head_or_tail, Contains-here, Contains-later}
use Rattle.plan_model.proofs.task_networks.Filters.{filter_to, different-filter}
use Rattle.plan_model.proofs.task_networks.Numbers.{length-numbers, numbers_to, to_numbers}
use Rattle.plan_model.proofs.task_networks.Different.{no_more}
use Rattle.plan_model.specs.declared.networks.Pair.{Pair}
use Rattle.plan_model.specs.declared.schemas.MethodSchema.{MethodSchema}
use Rattle.plan_model.specs.declared.values.Hddl.{Hddl}
use Rattle.plan_texts.specs.SoundProblem.{HasSmallMethods}
use Rattle.plan_texts.proofs.SoundProblems.{small_method}
use Rattle.plan_model.specs.plan_meaning.Compilation.{same_pair, once, pairs, children}
use Rattle.plan_model.specs.Pairs.{pair, Pairs}
use Rattle.plan_model.specs.plan_meaning.Laws.{AreOrdered}
use Rattle.plan_model.proofs.plan_meaning.Pairs.{pairs_within, pairs_acyclic}
use Rattle.plan_model.specs.net_order.Meaning.{AreBelow}
use Rattle.plan_model.proofs.net_order.Chains.{below_from_pairs}
use Rattle.bound_calc.specs.method_precs.Pairs.{shifted}
use Rattle.bound_calc.specs.method_precs.Small.{IsFit}

eqb_same : (n : ℕ) → nat_eq n n ≡ true
eqb_same n = eq-eqb n n refl

pub same_itself : (p : Pair) → same_pair p p ≡ true
same_itself p = ap (λ b. b && nat_eq p.then p.then) (eqb_same p.first) ∙ eqb_same p.then

-- a list of single pairs has no pair twice
pub different-once : (ps : List Pair) → AreDifferent (once same_pair ps)
different-once [] = tt
different-once (p ∷ ps) = (
  λ c. (let e = (filter_to (λ q. not (same_pair p q)) (once same_pair ps) p c).1 in true≢false (sym e ∙ ap not (same_itself p))),
  different-filter (λ q. not (same_pair p q)) (once same_pair ps) (different-once ps),
)

-- all pairs of n numbers and m numbers
grid : ℕ → ℕ → List Pair
grid zero m = []
grid (suc n) m = map (pair n) (numbers 0 m) ++ grid n m

Contains-map : (f : ℕ → Pair) (xs : List ℕ) (x : ℕ) → Contains xs x → Contains (map f xs) (f x)
Contains-map f [] x c = absurd (not-in_empty x c)
Contains-map f (y ∷ xs) x c = elim (head_or_tail y xs x c) [ inl e ↦ (0, omega arith, ap f e) | inr d ↦ Contains-later (f y) (map f xs) (f x) (Contains-map f xs x d) ]

length-grid : (n m : ℕ) → length (grid n m) ≡ n * m
unfolding grid
length-grid zero m = let e : 0 ≡ 0 * m = omega arith in e
length-grid (suc n) m =
    let a = length-append (map (pair n) (numbers 0 m)) (grid n m) in
    let b = length-map (numbers 0 m) (pair n) in
    let c = length-numbers 0 m in
    let d = length-grid n m in
    let e : suc n * m ≡ m + n * m = omega arith in
    omega (arith, a, b, c, d, e)

in_grid : (n m : ℕ) (p : Pair) → p.first < n → p.then < m → Contains (grid n m) p
unfolding grid
in_grid zero m p a b = absurd (omega arith)
in_grid (suc n) m p a b = elim (cases_eq p.first n) [
  | inl e ↦ Contains-append_left (map (pair n) (numbers 0 m)) (grid n m) p (subst (λ i. Contains (map (pair n) (numbers 0 m)) (pair i p.then)) (sym e) (Contains-map (pair n) (numbers 0 m) p.then (to_numbers 0 m p.then (omega arith) (omega arith))))
  | inr d ↦ Contains-append_right (map (pair n) (numbers 0 m)) (grid n m) p (in_grid n m p (omega arith) b)
]

-- different pairs below n are no more than n times n
few_below : (n : ℕ) (ps : List Pair) → AreDifferent ps → AreBelow n ps → length ps ≤ n * n
few_below n ps d below =
    let h = no_more ps (grid n n) d (λ p c. (let b = All-contains (λ (q : Pair). (q.first < n) × (q.then < n)) ps p below c in in_grid n n p b.0 b.1)) in
    subst (λ m. length ps ≤ m) (length-grid n n) h

square_few : (n : ℕ) → n ≤ 4097 → n * n < 2 ^ 32
square_few n l =
    let a : n * n ≤ n * 4097 = mul-le-mul_left n l in
    omega arith

module _ (s : MethodSchema) (fit : IsFit s) (b : Bool) where
  pub children_few : length (children b s) ≤ 4097
  children_few = go b
    where
      go : (b : Bool) → length (children b s) ≤ 4097
      go true = let l = fit.small.subtasks in omega arith
      go false = let l = fit.small.subtasks in omega arith

  pub pairs_below : AreBelow (length (children b s)) (pairs b s)
  pairs_below = below_from_pairs (length (children b s)) (pairs b s) (pairs_within b s fit.within)

  pub acyclic : IsAcyclic (Pairs (pairs b s))
  acyclic = pairs_acyclic b s fit.acyclic

  different : AreDifferent (pairs b s)
  different = go b
    where
      go : (b : Bool) → AreDifferent (pairs b s)
      go true = different-once _
      go false = different-once s.pairs

  pub pairs_few : length (pairs b s) < 2 ^ 32
  pairs_few = let h = few_below (length (children b s)) (pairs b s) different pairs_below in let k = square_few (length (children b s)) children_few in omega arith

module _ (h : Hddl) (ordered : AreOrdered h) (small : HasSmallMethods h) where
  fit_of : (s : MethodSchema) → Contains (h.top ∷ h.methods) s → IsFit s
  fit_of s c = record { within = (ordered s c).0; acyclic = (ordered s c).1; small = small_method h small s c }

  pub fit_top : IsFit h.top
  fit_top = fit_of h.top (Contains-here h.top h.methods)

  pub fit_methods : All IsFit h.methods
  fit_methods k d l = fit_of (get_or h.methods k d) (Contains-later h.top h.methods (get_or h.methods k d) (Contains-get_or h.methods k d l))

-- the pairs of a method with a check, before each is kept once
pub below_checked : (n : ℕ) (ps : List Pair) → AreBelow n ps → AreBelow (n + 1) (map (λ k. pair 0 (suc k)) (numbers 0 n) ++ map shifted ps)
below_checked n ps below = All-append In (map (λ k. pair 0 (suc k)) (numbers 0 n)) (map shifted ps)
    (All-map In (λ k. pair 0 (suc k)) (numbers 0 n) (λ k d l. (omega arith, (let h = (numbers_to 0 n (get_or (numbers 0 n) k d) (Contains-get_or (numbers 0 n) k d l)).1 in omega arith))))
    (All-map In shifted ps (λ k d l. (let h = (below k d l).0 in omega arith, (let h = (below k d l).1 in omega arith))))
  where
    In : Pair → Type 0
    In p = (p.first < n + 1) × (p.then < n + 1)
