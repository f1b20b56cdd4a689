-- Which predicates may have true atoms goes by the words: whether a formula may be so, and what an effect adds, are decided by what these say.
use Rattle.std.proofs.Common.{ℕ, ◌≡◌, ◌↔◌, ◌⊎◌, inl, inr, List, [], ◌∷◌, map, sym, subst}
use Rattle.text_forms.specs.Words.{Word}
use Rattle.plan_texts.specs.Declared.{Declared, kind_at}
use Rattle.plan_texts.specs.Types.{Has}
use Rattle.plan_texts.specs.Said.{Typed, Said, holds, equal, no, all, any, imply, every, some, Saids, none, more, saids, typed, said_step, said, Done, adds, deletes, both, for_every, when, Dones, no_more, and_more, dones, done_step, done}
use Rattle.plan_texts.proofs.Members.{contains-has, has-contains, has-to_map, has-of_map}
use Rattle.plan_texts.proofs.Readings.{said_roll}
use Rattle.plan_texts.proofs.Effects.{done_roll}
use Rattle.plan_model.specs.declared.terms.Param.{Param}
use Rattle.plan_model.specs.declared.formulas.Formula.{Formula, roll-Formula}
use Rattle.plan_model.specs.declared.formulas.Formula.TheFolds.{map-Formula, ind-Formula}
use Rattle.plan_model.specs.declared.formulas.Formula.TheOpen.{Formula-F}
use Rattle.plan_model.specs.declared.effects.Effect.{Effect, roll-Effect}
use Rattle.plan_model.specs.declared.effects.Effect.TheFolds.{map-Effect, ind-Effect}
use Rattle.plan_model.specs.declared.effects.Effect.TheOpen.{Effect-F}
use Rattle.live_parts.specs.Live.{EachSo, OneSo, HasEmptyType, so_step, MayBeSo, adds_of_step, AddsOf}
use Rattle.live_parts.proofs.MaySo.{so_roll, adds_of_roll}

module _ (InWord : ℕ → List Word → Type 0) (IsLive : ℕ → Type 0) where
  abbrev pub HasEmptyKind : List Typed → Type 0
  HasEmptyKind xs = (x : Typed) × Has xs x × ((o : ℕ) → InWord o x.1 → ⊥)

  abbrev mutual
    pub MaySaid : Said → Type 0
    MaySaid (holds n ts) = IsLive n
    MaySaid (equal s t) = Unit {0}
    MaySaid (no s) = Unit {0}
    MaySaid (all ss) = AllMay ss
    MaySaid (any ss) = OneMay ss
    MaySaid (imply s t) = Unit {0}
    MaySaid (every xs s) = MaySaid s ⊎ HasEmptyKind xs
    MaySaid (some xs s) = MaySaid s

    pub AllMay : Saids → Type 0
    AllMay none = Unit {0}
    AllMay (more s ss) = MaySaid s × AllMay ss

    pub OneMay : Saids → Type 0
    OneMay none = ⊥
    OneMay (more s ss) = MaySaid s ⊎ OneMay ss

module _ (v : Declared) (InType : ℕ → ℕ → Type 0) (InWord : ℕ → List Word → Type 0) (same_type : (o t : ℕ) → InType o t ↔ InWord o (kind_at v t)) (IsLive : ℕ → Type 0) where
  empty_said : (xs : List Param) → HasEmptyType InType xs ↔ HasEmptyKind InWord IsLive (map (typed v) xs)
  empty_said xs = (
    λ e. (typed v e.0, has-to_map (typed v) xs e.0 (contains-has xs e.0 e.1), λ o k. e.2 o ((same_type o e.0.ty).1 k)),
    λ e. (let g = has-of_map (typed v) xs e.0 e.1 in (g.0, has-contains xs g.0 g.1, λ o k. e.2 o (subst (λ (z : Typed). InWord o z.1) g.2 ((same_type o g.0.ty).0 k)))),
  )

  abbrev May : Formula → Type 0
  May = MayBeSo InType IsLive

  abbrev Claim : Formula → Type 0
  Claim f = May f ↔ MaySaid InWord IsLive (said v f)

  each : (fs : List ((f : Formula) × Claim f)) → EachSo May (map (λ e. e.0) fs) ↔ AllMay InWord IsLive (saids (map (said v) (map (λ e. e.0) fs)))
  each [] = (λ x. x, λ x. x)
  each (e ∷ fs) = let h = each fs in let g = e.1 in (λ x. (g.0 x.0, h.0 x.1), λ x. (g.1 x.0, h.1 x.1))

  one : (fs : List ((f : Formula) × Claim f)) → OneSo May (map (λ e. e.0) fs) ↔ OneMay InWord IsLive (saids (map (said v) (map (λ e. e.0) fs)))
  one [] = (λ x. x, λ x. x)
  one (e ∷ fs) =
      let h = one fs in let g = e.1 in
      (λ x. elim x [ inl y ↦ inl (g.0 y) | inr y ↦ inr (h.0 y) ], λ x. elim x [ inl y ↦ inl (g.1 y) | inr y ↦ inr (h.1 y) ])

  abbrev Layer : Formula-F Formula → Type 0
  Layer x = so_step InType IsLive May x ↔ MaySaid InWord IsLive (said_step v (map-Formula Formula Said (said v) x))

  level : (y : Formula-F ((f : Formula) × Claim f)) → Layer (map-Formula ((f : Formula) × Claim f) Formula (λ e. e.0) y)
  level (Formula-F.Holds a) = (λ x. x, λ x. x)
  level (Formula-F.Equal s t) = (λ x. x, λ x. x)
  level (Formula-F.Not f) = (λ x. x, λ x. x)
  level (Formula-F.And fs) = each fs
  level (Formula-F.Or fs) = one fs
  level (Formula-F.Imply f h) = (λ x. x, λ x. x)
  level (Formula-F.Forall xs f) =
      let g = f.1 in let k = empty_said xs in
      (λ x. elim x [ inl y ↦ inl (g.0 y) | inr y ↦ inr (k.0 y) ], λ x. elim x [ inl y ↦ inl (g.1 y) | inr y ↦ inr (k.1 y) ])
  level (Formula-F.Exists xs f) = f.1

  pub may_said : (f : Formula) → Claim f
  may_said = ind-Formula Claim (λ x y is. subst (λ z. Claim (roll-Formula z)) is (claim (map-Formula ((f : Formula) × Claim f) Formula (λ e. e.0) y) (level y)))
    where
      claim : (x : Formula-F Formula) → Layer x → Claim (roll-Formula x)
      claim x h =
          subst (λ z. May (roll-Formula x) ↔ MaySaid InWord IsLive z) (sym (said_roll v x)) (subst (λ (z : Type 0). z ↔ MaySaid InWord IsLive (said_step v (map-Formula Formula Said (said v) x))) (sym (so_roll InType IsLive x)) h)

abbrev mutual
  pub AddsOfSaid : Done → ℕ → Type 0
  AddsOfSaid (adds n ts) p = n ≡ p
  AddsOfSaid (deletes n ts) p = ⊥
  AddsOfSaid (both ds) p = OneAddsOf ds p
  AddsOfSaid (for_every xs d) p = AddsOfSaid d p
  AddsOfSaid (when s d) p = AddsOfSaid d p

  pub OneAddsOf : Dones → ℕ → Type 0
  OneAddsOf no_more p = ⊥
  OneAddsOf (and_more d ds) p = AddsOfSaid d p ⊎ OneAddsOf ds p

module _ (v : Declared) where
  abbrev AddsClaim : Effect → Type 0
  AddsClaim e = (p : ℕ) → AddsOf e p ↔ AddsOfSaid (done v e) p

  one_adds : (es : List ((e : Effect) × AddsClaim e)) (p : ℕ) → OneSo (λ e. AddsOf e p) (map (λ e. e.0) es) ↔ OneAddsOf (dones (map (done v) (map (λ e. e.0) es))) p
  one_adds [] p = (λ x. x, λ x. x)
  one_adds (e ∷ es) p =
      let h = one_adds es p in let g = e.1 p in
      (λ x. elim x [ inl y ↦ inl (g.0 y) | inr y ↦ inr (h.0 y) ], λ x. elim x [ inl y ↦ inl (g.1 y) | inr y ↦ inr (h.1 y) ])

  abbrev AddsLayer : Effect-F Effect → Type 0
  AddsLayer x = (p : ℕ) → adds_of_step AddsOf x p ↔ AddsOfSaid (done_step v (map-Effect Effect Done (done v) x)) p

  adds_level : (y : Effect-F ((e : Effect) × AddsClaim e)) → AddsLayer (map-Effect ((e : Effect) × AddsClaim e) Effect (λ e. e.0) y)
  adds_level (Effect-F.Add a) p = (λ x. x, λ x. x)
  adds_level (Effect-F.Delete a) p = (λ x. x, λ x. x)
  adds_level (Effect-F.And es) p = one_adds es p
  adds_level (Effect-F.Forall xs e) p = e.1 p
  adds_level (Effect-F.When f e) p = e.1 p

  pub adds_of_said : (e : Effect) → AddsClaim e
  adds_of_said = ind-Effect AddsClaim (λ x y is. subst (λ z. AddsClaim (roll-Effect z)) is (claim (map-Effect ((e : Effect) × AddsClaim e) Effect (λ e. e.0) y) (adds_level y)))
    where
      claim : (x : Effect-F Effect) → AddsLayer x → AddsClaim (roll-Effect x)
      claim x h p =
          subst (λ z. AddsOf (roll-Effect x) p ↔ AddsOfSaid z p) (sym (done_roll v x)) (subst (λ (z : ℕ → Type 0). z p ↔ AddsOfSaid (done_step v (map-Effect Effect Done (done v) x)) p) (sym (adds_of_roll x)) (h p))
