-- What is noted of the growths, one after another.
use Rattle.std.proofs.Common.{ℕ, ◌≡◌, ◌+◌, ◌<◌, ◌≤◌, ◌⊎◌, inl, inr, List, Option, Some, None, slice_get, refl, ap, sym, subst, ◌∙◌, arith}
use Rattle.std.proofs.lemmas.Bool.{cases_lt}
use Rattle.tree_core.specs.declared.children.Children.{Children}
use Rattle.tree_core.specs.Growths.{Growth, IsAt}
use Rattle.tree_core.specs.Labels.{labels}
use Rattle.tree_core.specs.Rooms.{found, IsNoted}
use Rattle.tree_core.specs.Growing.{IsChild, AreNoted}

module _ (gs : List (Growth labels)) where
  pub one_child : (x y i j k : ℕ) → IsChild gs x i k → IsChild gs y j k → (x ≡ y) × (i ≡ j)
  one_child x y i j k (g, e, p, c) (h, f, q, d) =
      let same : g ≡ h = cc in
      let a : Some x ≡ Some y = sym p ∙ ap (λ (z : Growth labels). z.parent) same ∙ q in
      let b : i ≡ j = sym c ∙ ap (λ (z : Growth labels). z.child) same ∙ d in
      (cc, b)

  pub noted_none : (children : Children) → ((x i : ℕ) → found children x i ≡ None) → AreNoted gs 0 children
  noted_none children none = record {
    given = λ x i k e. absurd (let f = none x i in cc);
    first = λ x i k l e. absurd (let f = none x i in cc);
    all = λ x i k l. absurd (omega arith);
  }

  -- what is found alike is noted alike
  noted_alike : (n : ℕ) (children more : Children) → ((x i : ℕ) → found more x i ≡ found children x i) → AreNoted gs n children → AreNoted gs n more
  noted_alike n children more same a = record {
    given = λ x i k e. a.given x i k (sym (same x i) ∙ e);
    first = λ x i k l e. a.first x i k l (sym (same x i) ∙ e);
    all = λ x i k l c e. a.all x i k l c (sym (same x i) ∙ e);
  }

  module _ (n : ℕ) (children : Children) (a : AreNoted gs n children) where
    -- the next growth has no parent
    pub noted_root : (g : Growth labels) → IsAt labels gs n g → g.parent ≡ None → AreNoted gs (n + 1) children
    noted_root g e p = record {
      given = λ x i k f. (let h = a.given x i k f in let l = h.0 in (omega arith, h.1));
      first = a.first;
      all = λ x i k l c f. all x i k (cases_lt k n) l c f;
    }
      where
        all : (x i k : ℕ) → (k < n) ⊎ (n ≤ k) → k < n + 1 → IsChild gs x i k → found children x i ≡ None → ⊥
        all x i k (inl m) l c f = a.all x i k m c f
        all x i k (inr m) l (h, d, q, c) f =
            let z : k ≡ n = omega arith in
            let d' = subst (λ z. slice_get gs z ≡ Some h) z d in
            let same : h ≡ g = cc in
            let y : Some x ≡ None = sym q ∙ ap (λ (z : Growth labels). z.parent) same ∙ p in
            cc

    -- an earlier growth has its parent and its child number
    pub noted_again : (x i k : ℕ) → IsChild gs x i n → found children x i ≡ Some k → AreNoted gs (n + 1) children
    noted_again x i k at there = record {
      given = λ y j l f. (let h = a.given y j l f in let m = h.0 in (omega arith, h.1));
      first = a.first;
      all = λ y j l m c f. all y j l (cases_lt l n) m c f;
    }
      where
        all : (y j l : ℕ) → (l < n) ⊎ (n ≤ l) → l < n + 1 → IsChild gs y j l → found children y j ≡ None → ⊥
        all y j l (inl m) o c f = a.all y j l m c f
        all y j l (inr m) o c f =
            let z : l ≡ n = omega arith in
            let (e, d) = one_child y x j i n (subst (IsChild gs y j) z c) at in
            let g : found children x i ≡ None = subst (λ u. found children u i ≡ None) e (subst (λ v. found children y v ≡ None) d f) in
            cc

    -- it is the first with these, and is noted
    pub noted_new : (x i : ℕ) (more : Children) → IsChild gs x i n → found children x i ≡ None
        → ((y j : ℕ) → ((x ≡ y) × (i ≡ j) × (found more y j ≡ Some n)) ⊎ (((x ≡ y) × (i ≡ j) → ⊥) × (found more y j ≡ found children y j))) → AreNoted gs (n + 1) more
    noted_new x i more at fresh put = record {
      given = λ y j k f. given y j k (put y j) f;
      first = λ y j k l f c. first y j k l (put y j) f c;
      all = λ y j k l c f. all y j k (put y j) (cases_lt k n) l c f;
    }
      where
        Put : ℕ → ℕ → Type 0
        Put y j = ((x ≡ y) × (i ≡ j) × (found more y j ≡ Some n)) ⊎ (((x ≡ y) × (i ≡ j) → ⊥) × (found more y j ≡ found children y j))

        here : (y j : ℕ) → x ≡ y → i ≡ j → IsChild gs y j n
        here y j p q = subst (λ u. IsChild gs u j n) p (subst (λ v. IsChild gs x v n) q at)

        given : (y j k : ℕ) → ((x ≡ y) × (i ≡ j) × (found more y j ≡ Some n)) ⊎ (((x ≡ y) × (i ≡ j) → ⊥) × (found more y j ≡ found children y j)) → found more y j ≡ Some k → (k < n + 1) × IsChild gs y j k
        given y j k (inl (p, q, e)) f = let z : n ≡ k = cc in (omega arith, subst (IsChild gs y j) z (here y j p q))
        given y j k (inr (d, e)) f = let h = a.given y j k (sym e ∙ f) in let l = h.0 in (omega arith, h.1)

        first : (y j k l : ℕ) → ((x ≡ y) × (i ≡ j) × (found more y j ≡ Some n)) ⊎ (((x ≡ y) × (i ≡ j) → ⊥) × (found more y j ≡ found children y j)) → found more y j ≡ Some k → IsChild gs y j l → k ≤ l
        first y j k l (inl (p, q, e)) f c =
            let z : n ≡ k = cc in
            elim (cases_lt l n) [
              | inl m ↦ absurd (a.all y j l m c (subst (λ u. found children u j ≡ None) p (subst (λ v. found children x v ≡ None) q fresh)))
              | inr m ↦ omega arith
            ]
        first y j k l (inr (d, e)) f c = a.first y j k l (sym e ∙ f) c

        all : (y j k : ℕ) → ((x ≡ y) × (i ≡ j) × (found more y j ≡ Some n)) ⊎ (((x ≡ y) × (i ≡ j) → ⊥) × (found more y j ≡ found children y j)) → (k < n) ⊎ (n ≤ k) → k < n + 1 → IsChild gs y j k → found more y j ≡ None → ⊥
        all y j k (inl (p, q, e)) m l c f = cc
        all y j k (inr (d, e)) (inl m) l c f = a.all y j k m c (sym e ∙ f)
        all y j k (inr (d, e)) (inr m) l c f =
            let z : k ≡ n = omega arith in
            let (p, q) = one_child y x j i n (subst (IsChild gs y j) z c) at in
            d (sym p, sym q)

    -- the next growth is noted, where it is the first
    pub noted_next : (x i : ℕ) (more : Children) → IsChild gs x i n → IsNoted children more x i n → AreNoted gs (n + 1) more
    noted_next x i more at m = by (found children x i) refl
      where
        by : (o : Option ℕ) → found children x i ≡ o → AreNoted gs (n + 1) more
        by None e = noted_new x i more at e (m.fresh e)
        by (Some k) e = noted_alike (n + 1) children more (m.again k e) (noted_again x i k at e)
