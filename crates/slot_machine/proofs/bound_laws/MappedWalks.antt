-- Edges that are mapped one to one: what is a walk, a bad cycle, or the named one of the edges is one of their images, and no other is.
use Rattle.std.proofs.Common.{◌≡◌, ◌↔◌, ◌⊎◌, inl, inr, List, [], ◌∷◌, ◌++◌, map, length, refl, ap, sym, subst, ◌∙◌, Contains, arith}
use Rattle.std.proofs.lemmas.List.{length-map, map-append}
use Rattle.std.proofs.lemmas.List.Elements.{Contains-append_left}
use Rattle.plan_model.specs.task_networks.Strata.{IsWalk, Reaches, IsOneGroup, IsBadCycle, IsTailRecursive, IsNamedCycle, ComesFirst}
use Rattle.plan_model.proofs.plan_meaning.Pairs.{map_to}
use Rattle.slot_machine.proofs.OtherChildren.{Contains-map}

-- a cut of the images is one of the list
pub map_cut : {A B : Type 0} (f : A → B) (xs : List A) (ys zs : List B) → map f xs ≡ ys ++ zs
    → (front : List A) × (rear : List A) × (xs ≡ front ++ rear) × (map f front ≡ ys) × (map f rear ≡ zs)
map_cut f xs [] zs e = ([], xs, refl, refl, e)
map_cut f [] (y ∷ ys) zs e = absurd cc
map_cut {A = A} {B = B} f (x ∷ xs) (y ∷ ys) zs e =
    let h : f x ≡ y = cc in
    let t : map f xs ≡ ys ++ zs = cc in
    let (front, rear, p, q, r) = map_cut f xs ys zs t in
    (x ∷ front, rear, ap (λ l. x ∷ l) p, (let u = q in cc), r)

module _ {T U E D : Type 0} (s t : E → T) (s' t' : D → U) (f : E → D) (edges : List E) (Same : T → U → Type 0)
    (sources : (e : E) → Contains edges e → Same (s e) (s' (f e))) (targets : (e : E) → Contains edges e → Same (t e) (t' (f e)))
    (one : (x y : T) (v w : U) → Same x v → Same y w → (x ≡ y) ↔ (v ≡ w)) where
  abbrev images : List D
  images = map f edges

  pub walk_there : (x y : T) (v w : U) (walk : List E) → Same x v → Same y w → IsWalk s t edges x walk y → IsWalk s' t' images v (map f walk) w
  walk_there x y v w [] a b e = (one x y v w a b).0 e
  walk_there x y v w (e ∷ walk) a b (i, c, r) = (
    (one (s e) x (s' (f e)) v (sources e c) a).0 i,
    Contains-map f edges e c,
    walk_there (t e) y (t' (f e)) w walk (targets e c) b r,
  )

  pub walk_back : (x y : T) (v w : U) (walk : List D) → Same x v → Same y w → IsWalk s' t' images v walk w
      → (back : List E) × IsWalk s t edges x back y × (map f back ≡ walk)
  walk_back x y v w [] a b e = ([], (one x y v w a b).1 e, refl)
  walk_back x y v w (d ∷ walk) a b (i, c, r) =
      let (e, k, h) = map_to f edges d c in
      let j : s' (f e) ≡ v = ap s' h ∙ i in
      let r' : IsWalk s' t' images (t' (f e)) walk w = subst (λ z. IsWalk s' t' images (t' z) walk w) (sym h) r in
      let (back, q, m) = walk_back (t e) y (t' (f e)) w walk (targets e k) b r' in
      (e ∷ back, ((one (s e) x (s' (f e)) v (sources e k) a).1 j, k, q), (let u = m in cc))

  pub same_reaches : (x y : T) (v w : U) → Same x v → Same y w → Reaches s t edges x y ↔ Reaches s' t' images v w
  same_reaches x y v w a b = (
    λ h. (map f h.0, walk_there x y v w h.0 a b h.1),
    λ h. (let (back, r, m) = walk_back x y v w h.0 a b h.1 in (back, r)),
  )

  pub same_group : (x y : T) (v w : U) → Same x v → Same y w → IsOneGroup s t edges x y ↔ IsOneGroup s' t' images v w
  same_group x y v w a b = (
    λ h. ((same_reaches x y v w a b).0 h.0, (same_reaches y x w v b a).0 h.1),
    λ h. ((same_reaches x y v w a b).1 h.0, (same_reaches y x w v b a).1 h.1),
  )

  pub first_there : (walk other : List E) → ComesFirst s t edges walk other → ComesFirst s' t' images (map f walk) (map f other)
  first_there walk other h = record {
    common = map f h.common;
    edge = f h.edge;
    rest = map f h.rest;
    other_edge = f h.other_edge;
    other_rest = map f h.other_rest;
    is = ap (map f) h.is ∙ map-append f h.common (h.edge ∷ h.rest);
    other_is = ap (map f) h.other_is ∙ map-append f h.common (h.other_edge ∷ h.other_rest);
    before = map f h.before;
    after = map f h.after;
    parts = ap (map f) h.parts ∙ map-append f h.before (h.edge ∷ h.after);
    later = Contains-map f h.after h.other_edge h.later;
  }

  module _ (Bad : E → Type 0) (Bad' : D → Type 0) (bad : (e : E) → Contains edges e → Bad e ↔ Bad' (f e)) where
    cycle_there : (e : E) (walk : List E) → IsBadCycle s t edges Bad e walk → IsBadCycle s' t' images Bad' (f e) (map f walk)
    cycle_there e walk (c, b, w) = (
      Contains-map f edges e c,
      (bad e c).0 b,
      walk_there (t e) (s e) (t' (f e)) (s' (f e)) walk (targets e c) (sources e c) w,
    )

    cycle_back : (e : E) (walk : List D) → Contains edges e → IsBadCycle s' t' images Bad' (f e) walk
        → (back : List E) × IsBadCycle s t edges Bad e back × (map f back ≡ walk)
    cycle_back e walk c (k, b, w) =
        let (back, r, m) = walk_back (t e) (s e) (t' (f e)) (s' (f e)) walk (targets e c) (sources e c) w in
        (back, (c, (bad e c).1 b, r), m)

    pub tail_there : IsTailRecursive s t edges Bad → IsTailRecursive s' t' images Bad'
    tail_there tail d walk h =
        let (e, c, i) = map_to f edges d h.0 in
        let (back, r, m) = cycle_back e walk c (subst (λ z. IsBadCycle s' t' images Bad' z walk) (sym i) h) in
        tail e back r

    pub named_there : (e : E) (walk : List E) → IsNamedCycle s t edges Bad e walk → IsNamedCycle s' t' images Bad' (f e) (map f walk)
    named_there e walk h = record {
      cycle = cycle_there e walk h.cycle;
      before = map f h.before;
      after = map f h.after;
      parts = ap (map f) h.parts ∙ map-append f h.before (e ∷ h.after);
      none_before = none_before;
      shortest = λ other w.
          let (back, r, m) = walk_of other w in
          let a = h.shortest back r in
          let x = length-map walk f in
          let y = length-map back f in
          let z = ap length m in
          omega arith;
      first = first;
    }
      where
        c : Contains edges e
        c = h.cycle.0

        walk_of : (other : List D) → IsWalk s' t' images (t' (f e)) other (s' (f e)) → (back : List E) × IsWalk s t edges (t e) back (s e) × (map f back ≡ other)
        walk_of other w = walk_back (t e) (s e) (t' (f e)) (s' (f e)) other (targets e c) (sources e c) w

        in_edges : (d : E) → Contains h.before d → Contains edges d
        in_edges d k = subst (λ l. Contains l d) (sym h.parts) (Contains-append_left h.before (e ∷ h.after) d k)

        none_before : (d : D) (other : List D) → Contains (map f h.before) d → IsBadCycle s' t' images Bad' d other → ⊥
        none_before d other k b =
            let (g, l, i) = map_to f h.before d k in
            let (back, r, m) = cycle_back g other (in_edges g l) (subst (λ z. IsBadCycle s' t' images Bad' z other) (sym i) b) in
            h.none_before g back l r

        first : (other : List D) → IsWalk s' t' images (t' (f e)) other (s' (f e)) → length other ≡ length (map f walk)
            → (map f walk ≡ other) ⊎ ComesFirst s' t' images (map f walk) other
        first other w l =
            let (back, r, m) = walk_of other w in
            let x = length-map walk f in
            let y = length-map back f in
            let z = ap length m in
            elim (h.first back r (omega arith)) [
              | inl i ↦ inl (ap (map f) i ∙ m)
              | inr i ↦ inr (subst (ComesFirst s' t' images (map f walk)) m (first_there walk back i))
            ]
