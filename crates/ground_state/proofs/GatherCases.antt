-- What an effect adds and deletes, by the kinds of effects, as it is gathered.
use Rattle.std.proofs.Common.{ℕ, ◌≡◌, ◌+◌, ◌<◌, ◌↔◌, ◌⊎◌, inl, inr, Bool, true, false, List, [], ◌∷◌, ◌++◌, length, get_or, take, Contains, refl, ap, sym, subst, ◌∙◌, append_assoc, append-nil, true≢false, arith}
use Rattle.std.proofs.lemmas.Bool.{cases_lt}
use Rattle.std.proofs.lemmas.List.Elements.{Contains-push, Contains-push_cases, Contains-append_left}
use Rattle.plan_model.proofs.task_networks.Lists.{not-in_empty}
use Rattle.plan_model.specs.declared.terms.Atom.{Atom}
use Rattle.plan_model.specs.declared.terms.GroundAtom.{GroundAtom}
use Rattle.plan_model.specs.declared.terms.Param.{Param}
use Rattle.plan_model.specs.declared.formulas.Formula.{Formula}
use Rattle.plan_model.specs.declared.effects.Effect.{Effect}
use Rattle.plan_model.specs.declared.effects.Effect.TheVariants as E
use Rattle.plan_model.specs.plan_meaning.Truth.{State, ground, OneTrue, AreTyped, IsTrueIn, Adds, Deletes, after}
use Rattle.plan_model.proofs.plan_meaning.EffectEquations.{adds-Add, adds-Delete, adds-And, adds-Forall, adds-When, deletes-Add, deletes-Delete, deletes-And, deletes-Forall, deletes-When}
use Rattle.ground_state.specs.declared.atom_list.AtomLists.{AtomLists}
use Rattle.ground_state.specs.Search.{Gathers, Touches, OneTouches, TouchesWithin, side}
use Rattle.ground_state.proofs.Lists.{take_next, put-then}

pub gathers-same : (P Q : State) (old new : List GroundAtom) → ((g : GroundAtom) → P g ↔ Q g) → Gathers P old new → Gathers Q old new
gathers-same P Q old new s h g = (
  λ c. elim ((h g).0 c) [ inl x ↦ inl x | inr x ↦ inr ((s g).0 x) ],
  λ x. (h g).1 (elim x [ inl c ↦ inl c | inr y ↦ inr ((s g).1 y) ]),
)

pub gathers-none : (P : State) (old : List GroundAtom) → ((g : GroundAtom) → P g → ⊥) → Gathers P old old
gathers-none P old n g = (λ c. inl c, λ x. elim x [ inl c ↦ c | inr y ↦ absurd (n g y) ])

pub gathers-push : (old new : List GroundAtom) (a : GroundAtom) → new ≡ old ++ a ∷ [] → Gathers (λ g. g ≡ a) old new
gathers-push old new a e g = (
  λ c. elim (Contains-push_cases old a g (subst (λ xs. Contains xs g) e c)) [ inl x ↦ inl x | inr x ↦ inr (sym x) ],
  λ x. subst (λ xs. Contains xs g) (sym e) (elim x [ inl c ↦ Contains-append_left old (a ∷ []) g c | inr y ↦ subst (Contains (old ++ a ∷ [])) (sym y) (Contains-push old a) ]),
)

pub gathers-then : (P Q R : State) (old mid new : List GroundAtom) → ((g : GroundAtom) → R g ↔ (P g ⊎ Q g)) → Gathers P old mid → Gathers Q mid new → Gathers R old new
gathers-then P Q R old mid new s h k g = put-then (s g) (h g) (k g)

pub one-push : {X : Type 0} (k : X → List ℕ → Type 0) (xs : List X) (x : X) (v : List ℕ) → OneTrue k (xs ++ x ∷ []) v ↔ (OneTrue k xs v ⊎ k x v)
one-push k [] x v = (λ o. elim o [ inl y ↦ inr y | inr y ↦ absurd y ], λ o. elim o [ inl y ↦ absurd y | inr y ↦ inl y ])
one-push k (y ∷ xs) x v =
    let r = one-push k xs x v in (
      λ o. elim o [ inl a ↦ inl (inl a) | inr a ↦ elim (r.0 a) [ inl b ↦ inl (inr b) | inr b ↦ inr b ] ],
      λ o. elim o [
        | inl a ↦ elim a [ inl b ↦ inl b | inr b ↦ inr (r.1 (inl b)) ]
        | inr a ↦ inr (r.1 (inr a))
      ],
    )

module _ (InType : ℕ → ℕ → Type 0) (S : State) where
  is-same : (P Q : State) → P ≡ Q → (g : GroundAtom) → Q g ↔ P g
  is-same P Q e g = (λ x. subst (λ (R : State). R g) (sym e) x, λ x. subst (λ (R : State). R g) e x)

  module _ (v : List ℕ) where
    -- at an effect of this kind
    adds-as : (e d : Effect) (P : List ℕ → State) → e ≡ d → Adds InType S d ≡ P → Adds InType S e v ≡ P v
    adds-as e d P q p = ap (λ x. Adds InType S x v) q ∙ ap (λ (k : List ℕ → State). k v) p

    deletes-as : (e d : Effect) (P : List ℕ → State) → e ≡ d → Deletes InType S d ≡ P → Deletes InType S e v ≡ P v
    deletes-as e d P q p = ap (λ x. Deletes InType S x v) q ∙ ap (λ (k : List ℕ → State). k v) p

    pub touches-Add : (adds : Bool) (e : Effect) (a : Atom) → e ≡ E.Add a → adds ≡ true → (g : GroundAtom) → (g ≡ ground v a) ↔ Touches InType S adds e v g
    touches-Add true e a q t g = is-same (Adds InType S e v) (λ g. g ≡ ground v a) (adds-as e (E.Add a) _ q (adds-Add InType S a)) g
    touches-Add false e a q t g = absurd (true≢false (sym t))

    pub touches-Add-not : (adds : Bool) (e : Effect) (a : Atom) → e ≡ E.Add a → adds ≡ false → (g : GroundAtom) → Touches InType S adds e v g → ⊥
    touches-Add-not true e a q t g = absurd (true≢false t)
    touches-Add-not false e a q t g = (is-same (Deletes InType S e v) (λ g. ⊥) (deletes-as e (E.Add a) _ q (deletes-Add InType S a)) g).1

    pub touches-Delete : (adds : Bool) (e : Effect) (a : Atom) → e ≡ E.Delete a → adds ≡ false → (g : GroundAtom) → (g ≡ ground v a) ↔ Touches InType S adds e v g
    touches-Delete true e a q t g = absurd (true≢false t)
    touches-Delete false e a q t g = is-same (Deletes InType S e v) (λ g. g ≡ ground v a) (deletes-as e (E.Delete a) _ q (deletes-Delete InType S a)) g

    pub touches-Delete-not : (adds : Bool) (e : Effect) (a : Atom) → e ≡ E.Delete a → adds ≡ true → (g : GroundAtom) → Touches InType S adds e v g → ⊥
    touches-Delete-not true e a q t g = (is-same (Adds InType S e v) (λ g. ⊥) (adds-as e (E.Delete a) _ q (adds-Delete InType S a)) g).1
    touches-Delete-not false e a q t g = absurd (true≢false (sym t))

    -- what an atom that is added, or deleted, does to the lists
    pub gathers-Add : (e : Effect) (a : Atom) → e ≡ E.Add a → (old new : AtomLists) → new.adds ≡ old.adds ++ ground v a ∷ [] → new.deletes ≡ old.deletes → (b : Bool) → Gathers (Touches InType S b e v) (side b old) (side b new)
    gathers-Add e a q old new p d true = gathers-same (λ g. g ≡ ground v a) (Touches InType S true e v) old.adds new.adds (touches-Add true e a q refl) (gathers-push old.adds new.adds (ground v a) p)
    gathers-Add e a q old new p d false = subst (Gathers (Touches InType S false e v) old.deletes) (sym d) (gathers-none (Touches InType S false e v) old.deletes (touches-Add-not false e a q refl))

    pub gathers-Delete : (e : Effect) (a : Atom) → e ≡ E.Delete a → (old new : AtomLists) → new.deletes ≡ old.deletes ++ ground v a ∷ [] → new.adds ≡ old.adds → (b : Bool) → Gathers (Touches InType S b e v) (side b old) (side b new)
    gathers-Delete e a q old new p d false = gathers-same (λ g. g ≡ ground v a) (Touches InType S false e v) old.deletes new.deletes (touches-Delete false e a q refl) (gathers-push old.deletes new.deletes (ground v a) p)
    gathers-Delete e a q old new p d true = subst (Gathers (Touches InType S true e v) old.adds) (sym d) (gathers-none (Touches InType S true e v) old.adds (touches-Delete-not true e a q refl))

    pub touches-And : (adds : Bool) (e : Effect) (ps xs : List Effect) → e ≡ E.And ps → xs ≡ ps → (g : GroundAtom) → OneTouches InType S adds xs v g ↔ Touches InType S adds e v g
    touches-And true e ps xs q d g = subst (λ ys. OneTouches InType S true ys v g ↔ Touches InType S true e v g) (sym d) (is-same (Adds InType S e v) (OneTouches InType S true ps v) (adds-as e (E.And ps) _ q (adds-And InType S ps)) g)
    touches-And false e ps xs q d g = subst (λ ys. OneTouches InType S false ys v g ↔ Touches InType S false e v g) (sym d) (is-same (Deletes InType S e v) (OneTouches InType S false ps v) (deletes-as e (E.And ps) _ q (deletes-And InType S ps)) g)

    pub touches-Forall : (adds : Bool) (e : Effect) (ps xs : List Param) (p x : Effect) → e ≡ E.Forall ps p → xs ≡ ps → x ≡ p → (g : GroundAtom) → TouchesWithin InType S adds xs x v g ↔ Touches InType S adds e v g
    touches-Forall true e ps xs p x q d k g = subst (λ y. TouchesWithin InType S true xs y v g ↔ Touches InType S true e v g) (sym k)
        (subst (λ ys. TouchesWithin InType S true ys p v g ↔ Touches InType S true e v g) (sym d) (is-same (Adds InType S e v) (TouchesWithin InType S true ps p v) (adds-as e (E.Forall ps p) _ q (adds-Forall InType S ps p)) g))
    touches-Forall false e ps xs p x q d k g = subst (λ y. TouchesWithin InType S false xs y v g ↔ Touches InType S false e v g) (sym k)
        (subst (λ ys. TouchesWithin InType S false ys p v g ↔ Touches InType S false e v g) (sym d) (is-same (Deletes InType S e v) (TouchesWithin InType S false ps p v) (deletes-as e (E.Forall ps p) _ q (deletes-Forall InType S ps p)) g))

    -- with the condition
    both : (adds : Bool) (e : Effect) (f : Formula) (p : Effect) → e ≡ E.When f p → (g : GroundAtom) → (IsTrueIn InType S f v × Touches InType S adds p v g) ↔ Touches InType S adds e v g
    both true e f p q g = is-same (Adds InType S e v) (λ g. IsTrueIn InType S f v × Adds InType S p v g) (adds-as e (E.When f p) _ q (adds-When InType S f p)) g
    both false e f p q g = is-same (Deletes InType S e v) (λ g. IsTrueIn InType S f v × Deletes InType S p v g) (deletes-as e (E.When f p) _ q (deletes-When InType S f p)) g

    pub touches-When : (adds : Bool) (e : Effect) (f : Formula) (p x : Effect) → e ≡ E.When f p → x ≡ p → IsTrueIn InType S f v → (g : GroundAtom) → Touches InType S adds x v g ↔ Touches InType S adds e v g
    touches-When adds e f p x q d t g =
        let b = both adds e f p q g in
        (λ y. b.0 (t, subst (λ z. Touches InType S adds z v g) d y), λ y. subst (λ z. Touches InType S adds z v g) (sym d) (b.1 y).1)

    pub touches-When-not : (adds : Bool) (e : Effect) (f : Formula) (p : Effect) → e ≡ E.When f p → (IsTrueIn InType S f v → ⊥) → (g : GroundAtom) → Touches InType S adds e v g → ⊥
    touches-When-not adds e f p q n g t = n ((both adds e f p q g).1 t).0

    -- one effect more
    pub touches-next : (adds : Bool) (es : List Effect) (i : ℕ) (e : Effect) → i < length es → e ≡ get_or es i e → (g : GroundAtom) → OneTouches InType S adds (take (i + 1) es) v g ↔ (OneTouches InType S adds (take i es) v g ⊎ Touches InType S adds e v g)
    touches-next adds es i e l q g =
        let k : Effect → List ℕ → Type 0 = λ e v. Touches InType S adds e v g in
        subst (λ ys. OneTrue k ys v ↔ (OneTrue k (take i es) v ⊎ k e v)) (sym (take_next es i e l q)) (one-push k (take i es) e v)

    -- with no variables
    pub within-none : (adds : Bool) (ps : List Param) (e : Effect) → length ps ≡ 0 → (g : GroundAtom) → Touches InType S adds e v g ↔ TouchesWithin InType S adds ps e v g
    within-none adds [] e z g = (λ t. ([], tt, subst (λ w. Touches InType S adds e w g) (sym (append-nil v)) t), λ t. empty t.0 t.1 t.2)
      where
        empty : (os : List ℕ) → AreTyped InType [] os → Touches InType S adds e (v ++ os) g → Touches InType S adds e v g
        empty [] a t = subst (λ w. Touches InType S adds e w g) (append-nil v) t
        empty (o ∷ os) a t = absurd a
    within-none adds (p ∷ ps) e z g = absurd (omega (arith, z))

    -- with each object of the first type, below n, and the others
    pub within-all : (adds : Bool) (p : Param) (ps xs : List Param) (e : Effect) (n : ℕ) → xs ≡ p ∷ ps → ((o : ℕ) → InType o p.ty → o < n) → (g : GroundAtom)
        → ((o : ℕ) × (o < n) × (InType o p.ty × TouchesWithin InType S adds ps e (v ++ o ∷ []) g)) ↔ TouchesWithin InType S adds xs e v g
    within-all adds p ps xs e n q b g = subst (λ ys. ((o : ℕ) × (o < n) × (InType o p.ty × TouchesWithin InType S adds ps e (v ++ o ∷ []) g)) ↔ TouchesWithin InType S adds ys e v g) (sym q) (
      λ t. (t.0 ∷ t.2.1.0, (t.2.0, t.2.1.1), subst (λ w. Touches InType S adds e w g) (append_assoc v (t.0 ∷ []) t.2.1.0) t.2.1.2),
      λ t. split t.0 t.1 t.2,
    )
      where
        split : (os : List ℕ) → AreTyped InType (p ∷ ps) os → Touches InType S adds e (v ++ os) g → (o : ℕ) × (o < n) × (InType o p.ty × TouchesWithin InType S adds ps e (v ++ o ∷ []) g)
        split [] a t = absurd a
        split (o ∷ os) a t = (o, b o a.0, (a.0, (os, a.1, subst (λ w. Touches InType S adds e w g) (sym (append_assoc v (o ∷ []) os)) t)))

-- below the next number
pub below-more : (R : ℕ → Type 0) (Q : Type 0) (i : ℕ) → (R i ↔ Q) → ((o : ℕ) × (o < i + 1) × R o) ↔ (((o : ℕ) × (o < i) × R o) ⊎ Q)
below-more R Q i r = (
  λ t. elim (cases_lt t.0 i) [
    | inl l ↦ inl (t.0, l, t.2)
    | inr l ↦ inr (r.0 (let m = t.1 in let e : t.0 ≡ i = omega (arith, l, m) in subst R e t.2))
  ],
  λ t. elim t [
    | inl x ↦ (x.0, let l = x.1 in omega (arith, l), x.2)
    | inr x ↦ (i, omega arith, r.1 x)
  ],
)

pub below-none : (R : ℕ → Type 0) (i : ℕ) → (R i → ⊥) → ((o : ℕ) × (o < i) × R o) ↔ ((o : ℕ) × (o < i + 1) × R o)
below-none R i n =
    let m = below-more R ⊥ i (n, λ b. absurd b) in
    (λ t. m.1 (inl t), λ t. elim (m.0 t) [ inl x ↦ x | inr x ↦ absurd x ])

-- from empty lists on
pub from-empty : (P : Bool → State) (old new : AtomLists) → old.adds ≡ [] → old.deletes ≡ [] → ((b : Bool) → Gathers (P b) (side b old) (side b new)) → (b : Bool) → Gathers (P b) [] (side b new)
from-empty P old new d e h true = subst (λ xs. Gathers (P true) xs new.adds) d (h true)
from-empty P old new d e h false = subst (λ xs. Gathers (P false) xs new.deletes) e (h false)

-- from no atoms on
pub gathered : (P : State) (new : List GroundAtom) → Gathers P [] new → (g : GroundAtom) → Contains new g ↔ P g
gathered P new h g = (λ c. elim ((h g).0 c) [ inl x ↦ absurd (not-in_empty g x) | inr x ↦ x ], λ p. (h g).1 (inr p))

-- the state after what was gathered
pub after-gathered : (InType : ℕ → ℕ → Type 0) (S : State) (e : Effect) (v : List ℕ) (adds deletes : List GroundAtom) → Gathers (Touches InType S true e v) [] adds → Gathers (Touches InType S false e v) [] deletes
    → (g : GroundAtom) → ((S g × (Contains deletes g → ⊥)) ⊎ Contains adds g) ↔ after InType S e v g
after-gathered InType S e v adds deletes h k g =
    let a = gathered (Adds InType S e v) adds h g in
    let d = gathered (Deletes InType S e v) deletes k g in (
      λ x. elim x [ inl y ↦ inl (y.0, λ z. y.1 (d.1 z)) | inr y ↦ inr (a.0 y) ],
      λ x. elim x [ inl y ↦ inl (y.0, λ z. y.1 (d.0 z)) | inr y ↦ inr (a.1 y) ],
    )
