-- What a growth shows to be wrong, and what follows where none does.
use Rattle.std.proofs.Common.{ℕ, zero, suc, ◌≡◌, ◌+◌, ◌<◌, ◌≤◌, ◌⊎◌, inl, inr, List, length, min, Option, Some, None, is_some, true, false, ◌==◌, refl, ap, sym, subst, ◌∙◌, arith}
use Rattle.std.proofs.lemmas.Bool.{cases_lt}
use Rattle.plan_model.specs.task_networks.Tree.{used}
use Rattle.tree_core.specs.declared.children.Children.{Children}
use Rattle.tree_core.specs.Growths.{Growth, IsAt, IsAstray, IsDefect, missing, astray, under_leaf, repeated, left_out, IsUnjoined, AreJoined}
use Rattle.tree_core.specs.Labels.{labels, Decomposition}
use Rattle.tree_core.specs.Rooms.{found}
use Rattle.tree_core.specs.Growing.{IsChild, AreChildren, IsFine, IsLeast, least_of}
use Rattle.tree_core.proofs.Gets.{get_some, get_within}

module _ (gs : List (Growth labels)) where
  -- a growth that shows nothing before b shows nothing before an earlier place
  pub fine_before : (b c l : ℕ) → c ≤ b → IsFine gs b l → IsFine gs c l
  fine_before b c l m f = record {
    placed = λ (g : Growth labels) e x. f.placed g e (omega arith);
    decomposed = λ (g : Growth labels) (up : Growth labels) x e y. f.decomposed g up x e (omega arith);
    once = λ x i k e y. f.once x i k e (omega arith);
    before = λ x i e y. f.before x i e (omega arith);
  }

  module _ (l : ℕ) (g : Growth labels) (at : IsAt labels gs l g) where
    same_growth : (h : Growth labels) → IsAt labels gs l h → h ≡ g
    same_growth h e = cc

    parent_of : (x i : ℕ) → IsChild gs x i l → (g.parent ≡ Some x) × (g.child ≡ i)
    parent_of x i (h, e, p, c) =
        let same = same_growth h e in
        (ap (λ (z : Growth labels). z.parent) (sym same) ∙ p, ap (λ (z : Growth labels). z.child) (sym same) ∙ c)

    -- the first growth has no parent
    pub fine_root : g.parent ≡ None → l ≡ 0 → (b m : ℕ) → m ≡ l → IsFine gs b m
    fine_root p z b m e = subst (IsFine gs b) (sym e) (record {
      placed = λ (h : Growth labels) f x a. (
          let q : h.parent ≡ None = ap (λ (z : Growth labels). z.parent) (same_growth h f) ∙ p in
          let y = subst (IsAstray l) q a in
          omega arith
          );
      decomposed = λ (h : Growth labels) (up : Growth labels) x f y q. absurd (let r : Some x ≡ None = sym q ∙ ap (λ (z : Growth labels). z.parent) (same_growth h f) ∙ p in cc);
      once = λ x i k c. absurd (let q = (parent_of x i c).0 in let r : Some x ≡ None = sym q ∙ p in cc);
      before = λ x i c. absurd (let q = (parent_of x (suc i) c).0 in let r : Some x ≡ None = sym q ∙ p in cc);
    })

    -- it stands under no growth before it
    pub astray_here : IsAstray l g.parent → IsDefect labels gs l × ((m : ℕ) → m ≡ l → IsFine gs l m)
    astray_here a = (
      astray g at a,
      λ m e. subst (IsFine gs l) (sym e) (record {
        placed = λ (h : Growth labels) f x. absurd (omega arith);
        decomposed = λ (h : Growth labels) (up : Growth labels) x f y. absurd (omega arith);
        once = λ x i k c y. absurd (omega arith);
        before = λ x i c y. absurd (let q = (parent_of x (suc i) c).0 in let z = subst (IsAstray l) q a in omega arith);
      }),
    )

    module _ (x : ℕ) (p : g.parent ≡ Some x) (early : x < l) where
      -- the number before its own isn't given
      pub left_out_here : (i : ℕ) → g.child ≡ suc i → ((k : ℕ) → IsChild gs x i k → ⊥) → IsDefect labels gs x × ((m : ℕ) → m ≡ l → IsFine gs x m)
      left_out_here i c none = (
        left_out g l i at p c (λ j (h : Growth labels) e q d. none j (h, e, q, d)),
        λ m e. subst (IsFine gs x) (sym e) (record {
          placed = λ (h : Growth labels) f y. absurd (omega arith);
          decomposed = λ (h : Growth labels) (up : Growth labels) z f y. absurd (omega arith);
          once = λ z i k c y. absurd (omega arith);
          before = λ y j d m. absurd (let q = (parent_of y (suc j) d).0 in let r : Some x ≡ Some y = sym p ∙ q in let s : x ≡ y = cc in omega arith);
        }),
      )

      module _ (number : (j : ℕ) → g.child ≡ suc j → (k : ℕ) × IsChild gs x j k) where
        number_before : (y j : ℕ) → IsChild gs y (suc j) l → (k : ℕ) × IsChild gs y j k
        number_before y j d =
            let (q, c) = parent_of y (suc j) d in
            let r : Some x ≡ Some y = sym p ∙ q in
            let s : x ≡ y = cc in
            let (k, h) = number j c in
            (k, subst (λ z. IsChild gs z j k) s h)

        -- something else is wrong with it
        pub wrong_here : IsDefect labels gs l → IsDefect labels gs l × ((m : ℕ) → m ≡ l → IsFine gs l m)
        wrong_here d = (
          d,
          λ m e. subst (IsFine gs l) (sym e) (record {
            placed = λ (h : Growth labels) f x. absurd (omega arith);
            decomposed = λ (h : Growth labels) (up : Growth labels) x f y. absurd (omega arith);
            once = λ x i k c y. absurd (omega arith);
            before = λ y j c z. number_before y j c;
          }),
        )

        -- nothing is
        pub fine_here : ((up : Growth labels) → IsAt labels gs x up → (m : Decomposition) × (up.label ≡ used m)) → ((k : ℕ) → IsChild gs x g.child k → k < l → ⊥) → (b m : ℕ) → m ≡ l → IsFine gs b m
        fine_here task once b m e = subst (IsFine gs b) (sym e) (record {
          placed = λ (h : Growth labels) f y a. (
              let q : h.parent ≡ Some x = ap (λ (z : Growth labels). z.parent) (same_growth h f) ∙ p in
              let z = subst (IsAstray l) q a in
              omega arith
              );
          decomposed = λ (h : Growth labels) (up : Growth labels) y f z q u. (
              let r : Some y ≡ Some x = sym q ∙ ap (λ (z : Growth labels). z.parent) (same_growth h f) ∙ p in
              let s : y ≡ x = cc in
              task up (subst (λ z. IsAt labels gs z up) s u)
              );
          once = λ y i k c z d. (
              let (q, n) = parent_of y i c in
              let r : Some y ≡ Some x = sym q ∙ p in
              let s : y ≡ x = cc in
              once k (subst (λ z. IsChild gs z g.child k) s (subst (λ z. IsChild gs y z k) (sym n) d))
              );
          before = λ y j c z. number_before y j c;
        })

  -- what two parts of the growths show
  pub least_of_both : (n : ℕ) (a b : Option ℕ) → IsLeast gs (λ l. l < n) a → IsLeast gs (λ l. l ≡ n) b → IsLeast gs (λ l. l < n + 1) (least_of a b)
  least_of_both n None None f g = λ b l m. elim (cases_lt l n) [ inl x ↦ f b l x | inr x ↦ g b l (omega arith) ]
  least_of_both n None (Some k) f g = (g.0, λ l m. elim (cases_lt l n) [ inl x ↦ f k l x | inr x ↦ g.1 l (omega arith) ])
  least_of_both n (Some k) None f g = (f.0, λ l m. elim (cases_lt l n) [ inl x ↦ f.1 l x | inr x ↦ g k l (omega arith) ])
  least_of_both n (Some k) (Some j) f g = (
    elim (cases_lt k j) [
      | inl x ↦ subst (IsDefect labels gs) (let e : k ≡ min k j = omega arith in e) f.0
      | inr x ↦ subst (IsDefect labels gs) (let e : j ≡ min k j = omega arith in e) g.0
    ],
    λ l m. elim (cases_lt l n) [ inl x ↦ fine_before k (min k j) l (omega arith) (f.1 l x) | inr x ↦ fine_before j (min k j) l (omega arith) (g.1 l (omega arith)) ],
  )

  -- where no growth shows anything, they are joined
  pub joined_by : 0 < length gs → IsLeast gs (λ l. l < length gs) None → AreJoined labels gs
  joined_by some fine = record {
    some = get_some gs 0 some;
    first = λ (g : Growth labels) e. first g g.parent refl e;
    later = λ k (g : Growth labels) e. later k g g.parent refl e;
    decomposed = λ k x (g : Growth labels) (up : Growth labels) e p u. (fine (suc k) k (get_within gs k g e)).decomposed g up x e (omega arith) p u;
    once = λ k l x (g : Growth labels) (h : Growth labels) e f p q c. once k l x g h e f p q c (cases_lt k l) (cases_lt l k);
    none_left_out = λ k x i (g : Growth labels) e p c. (let (l, h) = (fine (suc x) k (get_within gs k g e)).before x i (g, e, p, c) (omega arith) in (l, h.0, h.1, h.2, h.3));
  }
    where
      first : (g : Growth labels) (o : Option ℕ) → g.parent ≡ o → IsAt labels gs 0 g → g.parent ≡ None
      first g None p e = p
      first g (Some x) p e = absurd ((fine 1 0 some).placed g e (omega arith) (subst (IsAstray 0) (sym p) (let z : 0 ≤ x = omega arith in z)))

      later : (k : ℕ) (g : Growth labels) (o : Option ℕ) → g.parent ≡ o → IsAt labels gs (suc k) g → (x : ℕ) × (g.parent ≡ Some x) × (x ≤ k)
      later k g None p e = absurd ((fine (suc (suc k)) (suc k) (get_within gs (suc k) g e)).placed g e (omega arith) (subst (IsAstray (suc k)) (sym p) (let z : 0 < suc k = omega arith in z)))
      later k g (Some x) p e = elim (cases_lt x (suc k)) [
        | inl m ↦ (x, p, omega arith)
        | inr m ↦ absurd ((fine (suc (suc k)) (suc k) (get_within gs (suc k) g e)).placed g e (omega arith) (subst (IsAstray (suc k)) (sym p) m))
      ]

      once : (k l x : ℕ) (g h : Growth labels) → IsAt labels gs k g → IsAt labels gs l h → g.parent ≡ Some x → h.parent ≡ Some x → g.child ≡ h.child → ((k < l) ⊎ (l ≤ k)) → ((l < k) ⊎ (k ≤ l)) → k ≡ l
      once k l x g h e f p q c (inl m) n = absurd ((fine (suc l) l (get_within gs l h f)).once x h.child k (h, f, q, refl) (omega arith) (g, e, p, c) m)
      once k l x g h e f p q c (inr m) (inl n) = absurd ((fine (suc k) k (get_within gs k g e)).once x g.child l (g, e, p, refl) (omega arith) (h, f, q, sym c) n)
      once k l x g h e f p q c (inr m) (inr n) = omega arith

  -- the least place of a defect
  pub unjoined_by : 0 < length gs → (k : ℕ) → IsLeast gs (λ l. l < length gs) (Some k) → IsUnjoined labels gs k
  unjoined_by some k (d, fine) = (d, none)
    where
      none : (j : ℕ) → j < k → IsDefect labels gs j → ⊥
      none j m (missing e z) = let l = ap length e in omega arith
      none j m (astray g e a) = (fine j (get_within gs j g e)).placed g e m a
      none j m (under_leaf g up x e p u n) = let (t, f) = (fine j (get_within gs j g e)).decomposed g up x e m p u in n t f
      none j m (repeated g before l x e f below p q c) = (fine j (get_within gs j g e)).once x g.child l (g, e, p, refl) m (before, f, q, sym c) below
      none j m (left_out g l i e p c left) = let (y, h) = (fine l (get_within gs l g e)).before j i (g, e, p, c) m in left y h.0 h.1 h.2 h.3

  -- the parent's growth is of a task that is decomposed
  pub of_task : (x : ℕ) (up : Growth labels) → IsAt labels gs x up → (m : Decomposition) × (up.label ≡ used m) → (other : Growth labels) → IsAt labels gs x other → (m : Decomposition) × (other.label ≡ used m)
  of_task x up e t other f = let same : up ≡ other = cc in subst (λ (z : Growth labels). (m : Decomposition) × (z.label ≡ used m)) same t

  pub under_leaf_here : (l x : ℕ) (g up : Growth labels) → IsAt labels gs l g → g.parent ≡ Some x → IsAt labels gs x up → ((m : Decomposition) × (up.label ≡ used m) → ⊥) → IsDefect labels gs l
  under_leaf_here l x g up e p f n = under_leaf g up x e p f (λ m h. n (m, h))

  -- what is noted tells whether the growth is the first with its parent and its child number
  module _ (children : Children) (a : AreChildren gs children) (l x i : ℕ) (at : IsChild gs x i l) where
    within : l < length gs
    within = get_within gs l at.0 at.1

    pub first_noted : found children x i ≡ Some l → (k : ℕ) → IsChild gs x i k → k < l → ⊥
    first_noted e k c m = let z = a.first x i l k e c in omega arith

    pub earlier_noted : (found children x i ≡ Some l → ⊥) → (k : ℕ) × IsChild gs x i k × (k < l)
    earlier_noted n = go (found children x i) refl
      where
        go : (o : Option ℕ) → found children x i ≡ o → (k : ℕ) × IsChild gs x i k × (k < l)
        go None e = absurd (a.all x i l within at e)
        go (Some k) e = elim (cases_lt k l) [
          | inl m ↦ (k, (a.given x i k e).1, m)
          | inr m ↦ absurd (n (e ∙ ap Some (let z = a.first x i k l e at in let y : k ≡ l = omega arith in y)))
        ]

    pub repeated_here : (found children x i ≡ Some l → ⊥) → IsDefect labels gs l
    repeated_here n =
        let (k, c, m) = earlier_noted n in
        repeated at.0 c.0 k x at.1 c.1 m at.2 c.2 (at.3 ∙ sym c.3)

pub none_of : (o : Option ℕ) → is_some o ≡ false → o ≡ None
none_of None e = refl
none_of (Some x) e = absurd cc

pub some_of : (o : Option ℕ) → is_some o ≡ true → (x : ℕ) × (o ≡ Some x)
some_of None e = absurd cc
some_of (Some x) e = (x, refl)

-- a parent comes before
pub parent_before : (gs : List (Growth labels)) → AreJoined labels gs → (k : ℕ) (g : Growth labels) (x : ℕ) → IsAt labels gs k g → g.parent ≡ Some x → x < k
parent_before gs j zero g x e p = absurd (let q = j.first g e in let z : Some x ≡ None = sym p ∙ q in cc)
parent_before gs j (suc k) g x e p = let (y, q, l) = j.later k g e in let z : Some x ≡ Some y = sym p ∙ q in let w : x ≡ y = cc in omega arith

pub positive_of : (n : ℕ) → (n == 0) ≡ false → 0 < n
positive_of zero e = absurd cc
positive_of (suc n) e = omega arith
