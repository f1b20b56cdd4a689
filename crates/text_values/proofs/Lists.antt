-- What holds of one of a list, of each of it and of the first in it goes over to a list that goes together with it.
use Rattle.std.proofs.Common.{ℕ, zero, suc, ◌≡◌, List, [], ◌∷◌, ◌++◌, slice_get, Some, refl, ap, subst, inl, inr}
use Rattle.plan_texts.specs.Together.{Together}
use Rattle.htn_base.specs.Lists.{One, Each, IsFirst}

module _ {X Y : Type 0} (R : X → Y → Type 0) where
  abbrev pub Turned : Y → X → Type 0
  Turned y x = R x y

  pub turned : (xs : List X) (ys : List Y) → Together R xs ys → Together Turned ys xs
  turned [] [] e = tt
  turned [] (y ∷ ys) e = absurd e
  turned (x ∷ xs) [] e = absurd e
  turned (x ∷ xs) (y ∷ ys) e = (e.0, turned xs ys e.1)

  pub one_on : (P : X → Type 0) (Q : Y → Type 0) → ((x : X) (y : Y) → R x y → P x → Q y) → (xs : List X) (ys : List Y) → Together R xs ys → One P xs → One Q ys
  one_on P Q f [] ys e h = absurd h
  one_on P Q f (x ∷ xs) [] e h = absurd e
  one_on P Q f (x ∷ xs) (y ∷ ys) e (inl h) = inl (f x y e.0 h)
  one_on P Q f (x ∷ xs) (y ∷ ys) e (inr h) = inr (one_on P Q f xs ys e.1 h)

  pub each_on : (P : X → Type 0) (Q : Y → Type 0) → ((x : X) (y : Y) → R x y → P x → Q y) → (xs : List X) (ys : List Y) → Together R xs ys → Each P xs → Each Q ys
  each_on P Q f xs [] e h = tt
  each_on P Q f [] (y ∷ ys) e h = absurd e
  each_on P Q f (x ∷ xs) (y ∷ ys) e h = (f x y e.0 h.0, each_on P Q f xs ys e.1 h.1)

  pub at_on : (xs : List X) (ys : List Y) → Together R xs ys → (k : ℕ) (x : X) → slice_get xs k ≡ Some x → (y : Y) × (slice_get ys k ≡ Some y) × R x y
  at_on [] ys e k x g = absurd (cc)
  at_on (z ∷ xs) [] e k x g = absurd e
  at_on (z ∷ xs) (y ∷ ys) e zero x g = (y, refl, (let h : z ≡ x = cc in subst (λ z. R z y) h e.0))
  at_on (z ∷ xs) (y ∷ ys) e (suc k) x g = at_on xs ys e.1 k x g

  -- the second list, cut where the first one is
  pub record CutLike (front : List X) (x : X) (rest : List X) (ys : List Y) : Type 0 where
    pub front_too : List Y
    pub item : Y
    pub rest_too : List Y
    pub parts : ys ≡ front_too ++ item ∷ rest_too
    pub fronts : Together R front front_too
    pub items : R x item
    pub rests : Together R rest rest_too

  pub cut_like : (front : List X) (x : X) (rest : List X) (ys : List Y) → Together R (front ++ x ∷ rest) ys → CutLike front x rest ys
  cut_like [] x rest [] e = absurd e
  cut_like [] x rest (y ∷ ys) e = record { front_too = []; item = y; rest_too = ys; parts = refl; fronts = tt; items = e.0; rests = e.1 }
  cut_like (z ∷ front) x rest [] e = absurd e
  cut_like (z ∷ front) x rest (y ∷ ys) e =
      let c = cut_like front x rest ys e.1 in
      record { front_too = y ∷ c.front_too; item = c.item; rest_too = c.rest_too; parts = ap (λ l. y ∷ l) c.parts; fronts = (e.0, c.fronts); items = c.items; rests = c.rests }

-- the first of a list is that of the other
module _ {X Y : Type 0} (R : X → Y → Type 0) (P : List X → X → Type 0) (Q : List Y → Y → Type 0)
    (forth : (fs : List X) (gs : List Y) (x : X) (y : Y) → Together R fs gs → R x y → P fs x → Q gs y) (back : (fs : List X) (gs : List Y) (x : X) (y : Y) → Together R fs gs → R x y → Q gs y → P fs x) where
  pub first_on : (xs : List X) (ys : List Y) → Together R xs ys → (x : X) → IsFirst P xs x → (y : Y) × R x y × IsFirst Q ys y
  first_on xs ys e x first = (cut.item, cut.items, record { front = cut.front_too; rest = cut.rest_too; parts = cut.parts; is = forth first.front cut.front_too x cut.item cut.fronts cut.items first.is; none_before = no_other })
    where
      cut : CutLike R first.front x first.rest ys
      cut = cut_like R first.front x first.rest ys (subst (λ l. Together R l ys) first.parts e)

      no_other : (before behind : List Y) (z : Y) → cut.front_too ≡ before ++ z ∷ behind → Q before z → ⊥
      no_other before behind z parts q =
          let there = cut_like (Turned R) before z behind first.front (subst (λ l. Together (Turned R) l first.front) parts (turned R first.front cut.front_too cut.fronts)) in
          first.none_before there.front_too there.rest_too there.item there.parts (back there.front_too before there.item z (turned (Turned R) before there.front_too there.fronts) there.items q)
