-- The growths of seeds are joined to one tree, whatever the lines say.
use Rattle.std.proofs.Common.{ℕ, zero, suc, ◌≡◌, ◌+◌, ◌-◌, ◌<◌, ◌≤◌, ◌⊎◌, inl, inr, ◌∙◌, List, [], ◌∷◌, ◌++◌, length, map, take, slice_get, Option, Some, None, refl, ap, sym, subst, arith}
use Rattle.std.proofs.lemmas.List.{take_all}
use Rattle.htn_base.specs.Limits.{most_steps}
use Rattle.plan_model.specs.declared.values.Compiled.{Compiled}
use Rattle.plan_model.specs.task_networks.Tree.{used}
use Rattle.tree_core.specs.Growths.{Growth, IsAt, AreJoined, IsUnjoined}
use Rattle.tree_core.specs.Labels.{labels, label_of, growth_of, growths_of, Decomposition}
use Rattle.tree_core.specs.declared.growth.Growth as Grown
use Rattle.tree_core.proofs.Built.{built}
use Rattle.tree_core.proofs.Unjoined.{unjoined_have_no_tree}
use Rattle.tree_core.proofs.Gets.{get_left, get_right, get_cases, get_within, get_some, get-map, mapped}
use Rattle.numbered_lines.specs.declared.lines.Said.{Said}
use Rattle.numbered_lines.specs.declared.lines.Split.{Split}
use Rattle.numbered_lines.specs.declared.lines.Lines.{Lines}
use Rattle.line_fits.specs.declared.fitted.Fits.{Fits}
use Rattle.line_fits.specs.declared.fitted.MethodFit.{MethodFit}
use Rattle.plan_trees.specs.declared.seed.Source.{Source}
use Rattle.plan_trees.specs.declared.seed.Source.TheVariants.{Step, Task, Check}
use Rattle.plan_trees.specs.declared.seed.Seed.{Seed}
use Rattle.plan_trees.specs.Sources as sources
use Rattle.plan_trees.specs.Sources.{all_below, seeds, with_children}
use Rattle.plan_trees.specs.Seeds.{AreJoinedSeeds}
use Rattle.plan_trees.proofs.SeedLists.{seed_at}

some_once : {A : Type 0} {x y : A} → Some x ≡ Some y → x ≡ y
some_once e = cc

-- the root alone
pub one_seed : (s : Seed) → s.parent ≡ None → AreJoinedSeeds (s ∷ []) 0
one_seed s e = record {
  first = (s, refl, e);
  later = λ k r f. absurd cc;
  tasks = λ k x r up f g. no_parent k x r f g;
  once = λ k l x r q f g m o. no_parent k x r f m;
  none_left_out = λ k x i r f g. no_parent k x r f g;
}
  where
    no_parent : {A : Type 0} (k x : ℕ) (r : Seed) → slice_get (s ∷ []) k ≡ Some r → r.parent ≡ Some x → A
    no_parent zero x r f g = absurd (let same : s ≡ r = some_once f in let z = sym e ∙ ap (λ (y : Seed). y.parent) same ∙ g in cc)
    no_parent (suc k) x r f g = absurd cc

-- the children of the next seed
pub more_seeds : (all : List Seed) (place : ℕ) (s : Seed) (ss : List Source) → AreJoinedSeeds all place → slice_get all place ≡ Some s
    → (ss ≡ []) ⊎ ((which : Option ℕ) × (s.source ≡ Task which)) → AreJoinedSeeds (all ++ seeds place 0 ss) (place + 1)
more_seeds all place s ss j at is = record {
  first = (let (r, e, n) = j.first in (r, get_left all new 0 r e, n));
  later = λ k r e. elim (get_cases all new (suc k) r e) [
    | inl (l, x) ↦ (let (y, p, m, n) = j.later k r x in (y, p, m, let z : y < place + 1 = omega arith in z))
    | inr (m, x, y) ↦ (
        let (p, n) = seed_at place 0 ss m r y in
        let l = get_within all place s at in
        (place, p, (let z : place ≤ k = omega arith in z), (let z : place < place + 1 = omega arith in z)))
  ];
  tasks = λ k x r up e p f. elim (get_cases all new k r e) [
    | inl (l, y) ↦ (let m = parent_before k x r y p in j.tasks k x r up y p (old x up (let z : x < length all = omega arith in z) f))
    | inr (m, y, z) ↦ (
        let (q, n) = seed_at place 0 ss m r z in
        let same : place ≡ x = some_once (sym q ∙ p) in
        let l = get_within all place s at in
        let up_is : s ≡ up = some_once (sym at ∙ ap (slice_get all) same ∙ old x up (let z : x < length all = omega arith in z) f) in
        elim is [
          | inl none ↦ absurd (let w = ap (λ o. slice_get (seeds place 0 o) m) (sym none) ∙ z in let v : None ≡ Some r = w in cc)
          | inr (which, t) ↦ (which, ap (λ (u : Seed). u.source) (sym up_is) ∙ t)
        ])
  ];
  once = λ k l x r q e f p o same. elim (get_cases all new k r e) [
    | inl (m, y) ↦ (elim (get_cases all new l q f) [
      | inl (n, z) ↦ j.once k l x r q y z p o same
      | inr (n, z, w) ↦ absurd (let a = parent_early k x r y p in let b : place ≡ x = some_once (sym (seed_at place 0 ss n q w).0
          ∙ o) in omega arith)
    ])
    | inr (m, y, z) ↦ (
        let (a, b) = seed_at place 0 ss m r z in
        elim (get_cases all new l q f) [
          | inl (n, w) ↦ absurd (let d = parent_early l x q w o in let g : place ≡ x = some_once (sym a ∙ p) in omega arith)
          | inr (n, w, v) ↦ (let (d, g) = seed_at place 0 ss n q v in omega arith)
        ])
  ];
  none_left_out = λ k x i r e p n. elim (get_cases all new k r e) [
    | inl (l, y) ↦ (let (m, q, f, g, o) = j.none_left_out k x i r y p n in (m, q, get_left all new m q f, g, o))
    | inr (m, y, z) ↦ (
        let (a, b) = seed_at place 0 ss m r z in
        let l = get_within new m r z in
        let (q, f) = get_some new i (let w : i < length new = omega arith in w) in
        let (d, g) = seed_at place 0 ss i q f in
        (length all + i, q, get_right all new i ∙ f, d ∙ sym a ∙ p, g ∙ (let w : 0 + i ≡ i = omega arith in w)))
  ];
}
  where
    new : List Seed
    new = seeds place 0 ss

    old : (x : ℕ) (up : Seed) → x < length all → slice_get (all ++ new) x ≡ Some up → slice_get all x ≡ Some up
    old x up l f = elim (get_cases all new x up f) [ inl (m, y) ↦ y | inr (m, y, z) ↦ absurd (omega arith) ]

    parent_of : (k x : ℕ) (r : Seed) → slice_get all k ≡ Some r → r.parent ≡ Some x → (x < k) × (x < place)
    parent_of zero x r e p = absurd (let (q, f, n) = j.first in let same : q ≡ r = some_once (sym f ∙ e) in let z = sym n
        ∙ ap (λ (y : Seed). y.parent) same ∙ p in cc)
    parent_of (suc k) x r e p =
        let (y, q, l, m) = j.later k r e in
        let same : y ≡ x = some_once (sym q ∙ p) in
        ((let z : x < suc k = omega arith in z), (let z : x < place = omega arith in z))

    parent_before : (k x : ℕ) (r : Seed) → slice_get all k ≡ Some r → r.parent ≡ Some x → x < length all
    parent_before k x r e p = let a = (parent_of k x r e p).0 in let b = get_within all k r e in omega arith

    parent_early : (k x : ℕ) (r : Seed) → slice_get all k ≡ Some r → r.parent ≡ Some x → x < place
    parent_early k x r e p = (parent_of k x r e p).1

-- each parent is a seed
pub joined_within : (all : List Seed) (place : ℕ) → AreJoinedSeeds all place → AreJoinedSeeds all (length all)
joined_within all place j = record {
  first = j.first;
  later = λ k s e. (let (x, p, l, m) = j.later k s e in let n = get_within all (suc k) s e in (
    x,
    p,
    l,
    (let z : x < length all = omega arith in z),
  ));
  tasks = j.tasks;
  once = j.once;
  none_left_out = j.none_left_out;
}

module _ (c : Compiled) (lines : Lines) (fits : Fits) where
  pub more_joined : (all new : List Seed) (place : ℕ) (s : Seed) → AreJoinedSeeds all place → slice_get all place ≡ Some s
      → new ≡ with_children all place 0 (all_below c lines fits s.source) → AreJoinedSeeds new (place + 1)
  more_joined all new place s j at e = subst
      (λ z. AreJoinedSeeds z (place + 1)) (sym e) (more_seeds all place s (take r (all_below c lines fits s.source)) j at (kind s.source))
    where
      r : ℕ
      r = most_steps - length all

      kind : (o : Source) → (take r (all_below c lines fits o) ≡ []) ⊎ ((which : Option ℕ) × (o ≡ Task which))
      kind (Step k) = inl (take_all r [] (let x : 0 ≤ r = omega arith in x))
      kind (Task which) = inr (which, refl)
      kind (Check which) = inl (take_all r [] (let x : 0 ≤ r = omega arith in x))

  task_is : (which : Option ℕ) → (m : Decomposition) × (label_of (sources.label c lines fits (Task which)) ≡ used m)
  task_is None = (_, refl)
  task_is (Some k) = go (slice_get lines.splits k) (slice_get fits.splits k)
    where
      fitted : (o : Option Said) (fit : Option MethodFit) → (m : Decomposition) × (label_of (sources.fitted_label o fit) ≡ used m)
      fitted None fit = (_, refl)
      fitted (Some s) None = (_, refl)
      fitted (Some s) (Some fit) = (_, refl)

      go : (o : Option Split) (fit : Option MethodFit) → (m : Decomposition) × (label_of (sources.split_label o fit) ≡ used m)
      go None fit = (_, refl)
      go (Some s) fit = fitted s.task fit

  -- the seed of a growth
  seed_of : (all : List Seed) (k : ℕ) (g : Growth labels) → IsAt labels (growths_of (map (sources.growth c lines fits) all)) k g
      → (s : Seed) × (slice_get all k ≡ Some s) × (growth_of (sources.growth c lines fits s) ≡ g)
  seed_of all k g e =
      let (d, f, h) = mapped growth_of (map (sources.growth c lines fits) all) k g e in
      let (s, i, j) = mapped (sources.growth c lines fits) all k d f in
      (s, i, ap growth_of j ∙ h)

  growth_at : (all : List Seed) (k : ℕ) (s : Seed) → slice_get all k ≡ Some s
      → IsAt labels (growths_of (map (sources.growth c lines fits) all)) k (growth_of (sources.growth c lines fits s))
  growth_at all k s e = get-map growth_of (map (sources.growth c lines fits) all) k _ (get-map (sources.growth c lines fits) all k s e)

  pub growths_joined : (all : List Seed) (place : ℕ) → AreJoinedSeeds all place
      → AreJoined labels (growths_of (map (sources.growth c lines fits) all))
  growths_joined all place j = record {
    some = (let (s, e, n) = j.first in (growth_of (sources.growth c lines fits s), growth_at all 0 s e));
    first = λ g e. (
        let (s, f, n) = j.first in
        let (r, i, same) = seed_of all 0 g e in
        ap (λ (z : Growth labels). z.parent) (sym same) ∙ ap (λ (z : Seed). z.parent) (some_once (sym i ∙ f)) ∙ n);
    later = λ k g e. (
        let (r, i, same) = seed_of all (suc k) g e in
        let (x, p, l, m) = j.later k r i in
        (x, ap (λ (z : Growth labels). z.parent) (sym same) ∙ p, l));
    decomposed = λ k x g up e p f. (
        let (r, i, same) = seed_of all k g e in
        let (q, h, also) = seed_of all x up f in
        let (which, t) = j.tasks k x r q i (ap (λ (z : Growth labels). z.parent) same ∙ p) h in
        let (m, u) = task_is which in
        (m, ap (λ (z : Growth labels). z.label) (sym also) ∙ ap (λ z. label_of (sources.label c lines fits z)) t ∙ u));
    once = λ k l x g h e f p o n. (
        let (r, i, same) = seed_of all k g e in
        let (q, d, also) = seed_of all l h f in
        j.once k l x r q i d (ap (λ (z : Growth labels). z.parent) same ∙ p) (ap (λ (z : Growth labels). z.parent) also ∙ o)
        (ap (λ (z : Growth labels). z.child) same ∙ n ∙ ap (λ (z : Growth labels). z.child) (sym also)));
    none_left_out = λ k x i g e p n. (
        let (r, d, same) = seed_of all k g e in
        let (l, q, f, a, b) = j.none_left_out k x i r d (ap (λ (z : Growth labels). z.parent) same
        ∙ p) (ap (λ (z : Growth labels). z.child) same ∙ n) in
        (l, growth_of (sources.growth c lines fits q), growth_at all l q f, a, b));
  }

  pub never_unjoined : (all : List Seed) (growths : List Grown.Growth) (k : ℕ) → AreJoinedSeeds all (length all)
      → growths ≡ map (sources.growth c lines fits) all → IsUnjoined labels (growths_of growths) k → ⊥
  never_unjoined all growths k j e u =
      let gs = growths_of growths in
      let (tree, order, s) = built labels gs (subst (λ z. AreJoined labels (growths_of z)) (sym e) (growths_joined all (length all) j)) in
      unjoined_have_no_tree labels gs k tree order u s
