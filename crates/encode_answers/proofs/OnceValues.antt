-- A plan has one latest gap function and, in its gaps, one first choice of values.
use Rattle.std.proofs.Common.{ℕ, ◌≡◌, inl, inr, ◌∙◌, Bool, true, false, cond, List, ◌∷◌, length, slice_get, Some, refl, ap, sym, subst}
use Rattle.plan_model.specs.declared.options.Checks.{Checks}
use Rattle.plan_model.specs.declared.schemas.MethodPlan.{MethodPlan}
use Rattle.plan_model.specs.declared.values.Hddl.{Hddl}
use Rattle.plan_model.specs.declared.values.Compiled.{Compiled}
use Rattle.plan_model.specs.task_networks.Net.{Net}
use Rattle.plan_model.specs.task_networks.Tree.{Tree, Label, ran, used, Address, label_at, IsAddress}
use Rattle.plan_model.specs.plan_meaning.Network.{check, GroundMethod, network, InTypeOf}
use Rattle.plan_proof.proofs.machine.Running.{typed_long}
use Rattle.hplan_text.specs.declared.values.HPlan.{HPlan}
use Rattle.schedules.specs.latest.Gaps.{IsLatest}
use Rattle.schedules.specs.latest.Execution.{IsSameShape}
use Rattle.schedules.proofs.latest.OnlyOne.{latest_is_the_only_one}
use Rattle.schedules.proofs.latest.Shapes.{same_gap_functions, shape_back, address_back}
use Rattle.value_choices.specs.Choices.{IsFirst}
use Rattle.value_choices.proofs.Comparing.{compared}
use Rattle.plan_encoder.specs.ChosenValues.{CanHave, is_checked_by, is_checked, asking_by, asking, LabelMayStand, MayStand}
use Rattle.plan_encoder.specs.Laws.{IsOf, IsTreeOfPlan, actions, MayStandSomehow}
use Rattle.plan_encoder.proofs.Standing.{check_below}
use Rattle.encode_answers.proofs.OnceTrees.{are_alike, same_actions, used_there, stands_there}

-- the first of as long values is one
pub first_once : (P Q : List ℕ → Type 0) → ((v : List ℕ) → P v → Q v) → ((v : List ℕ) → Q v → P v) → (xs ys : List ℕ)
    → length xs ≡ length ys → IsFirst P xs → IsFirst Q ys → xs ≡ ys
first_once P Q to from xs ys e a b = elim (compared xs ys e) [
  | inl p ↦ absurd (b.none_before xs (to xs a.is) p)
  | inr (inl f) ↦ f
  | inr (inr p) ↦ absurd (a.none_before ys (from ys b.is) p)
]

-- a latest gap function of a tree is that of a tree of its shape, where the same is allowed
pub latest_there : (N : Net) (tree other : Tree N) → IsSameShape N tree other → (plan : List Address) (Allowed Other : Address → ℕ → Type 0)
    → ((p : Address) → IsAddress N tree p → (i : ℕ) → Allowed p i → Other p i)
    → ((p : Address) → IsAddress N other p → (i : ℕ) → Other p i → Allowed p i)
    → (gap : Address → ℕ) → IsLatest N tree plan Allowed gap → IsLatest N other plan Other gap
latest_there N tree other shape plan Allowed Other to from gap l =
    let there = address_back N other tree (shape_back N tree other shape) in
    let back = address_back N tree other shape in
    record {
      is = same_gap_functions N tree other shape plan Allowed Other gap l.is (λ p a. to p (back p a) (gap p) (l.is.allowed p (back p a)));
      greatest = λ less g p a. l.greatest less
          (same_gap_functions N other tree (shape_back N tree other shape) plan Other Allowed less g (λ q b. from q (there q b) (less q) (g.allowed q (there q b))))
          p (back p a);
    }

module _ (h : Hddl) (mode : Checks) (c : Compiled) (of : IsOf h mode c) where
  abbrev N : Net
  N = network c

  -- as many values as the method has parameters
  as_many : (g k : GroundMethod) (v w : List ℕ) → k.number ≡ g.number → CanHave c g v → CanHave c k w → length v ≡ length w
  as_many g k v w e x y =
      let a = x.ground in
      let b = y.ground in
      let f : Some a.plan ≡ Some b.plan = sym a.is ∙ ap (slice_get c.methods) (sym e) ∙ b.is in
      let plans : a.plan ≡ b.plan = cc in
      typed_long (InTypeOf c) a.plan.schema.params v a.typed ∙ ap (λ (z : MethodPlan). length z.schema.params) plans
      ∙ sym (typed_long (InTypeOf c) b.plan.schema.params w b.typed)

  module _ (plan : HPlan) where
    module _ (tree : Tree N) (node : ℕ → Address) (t : IsTreeOfPlan c plan tree node) where
      -- the node that asks for the values of a method is its check, or itself
      asking_is : (q : Address) (g : GroundMethod) → label_at N tree q ≡ Some (used g) → asking c tree q ≡ cond (is_checked c g) (0 ∷ q) q
      asking_is q g e = ap (asking_by c q) e

      asking_address : (q : Address) (g : GroundMethod) → label_at N tree q ≡ Some (used g) → IsAddress N tree (asking c tree q)
      asking_address q g e = subst (IsAddress N tree) (sym (asking_is q g e)) (go (is_checked c g) refl)
        where
          go : (b : Bool) → is_checked c g ≡ b → IsAddress N tree (cond b (0 ∷ q) q)
          go true f = (ran (check g.number g.values), check_below c h mode of.sound of.compiled tree t.grown t.no_leaves t.root q g e f)
          go false f = (used g, e)

      -- with values with which it may stand, the method can have them
      asked_can_have : (labels : List (Label N)) (q : Address) (g : GroundMethod) → label_at N tree q ≡ Some (used g) → (v : List ℕ) (i : ℕ)
          → MayStand c tree labels (asking c tree q) v i → CanHave c g v
      asked_can_have labels q g e v i x = go (is_checked c g) refl (subst (λ z. MayStand c tree labels z v i) (asking_is q g e) x)
        where
          go : (b : Bool) → is_checked c g ≡ b → MayStand c tree labels (cond b (0 ∷ q) q) v i → CanHave c g v
          go true f x =
              let low = check_below c h mode of.sound of.compiled tree t.grown t.no_leaves t.root q g e f in
              let (k, above, y) = (subst (λ z. LabelMayStand c tree labels (0 ∷ q) z v i) low x).0 in
              let same : k ≡ g = cc in
              subst (λ z. CanHave c z v) same y
          go false f x = elim (subst (λ z. LabelMayStand c tree labels q z v i) e x) [
            | inl b ↦ absurd (let y : is_checked c g ≡ true = b in cc)
            | inr y ↦ y.0
          ]

    module _ (tree other : Tree N) (node another : ℕ → Address) (t : IsTreeOfPlan c plan tree node) (o : IsTreeOfPlan c plan other another)
        (labels : List (Label N)) (gap second : Address → ℕ)
        (latest : IsLatest N tree (actions c plan node) (MayStandSomehow c tree labels) gap)
        (other_latest : IsLatest N other (actions c plan another) (MayStandSomehow c other labels) second) where
      shape : IsSameShape N tree other
      shape = (are_alike h mode c of plan tree other node another t o).shape

      to : (p : Address) → IsAddress N tree p → (i : ℕ) → MayStandSomehow c tree labels p i → MayStandSomehow c other labels p i
      to p a i x = (x.0, stands_there h mode c of plan tree other node another t o labels p a x.0 i x.1)

      from : (p : Address) → IsAddress N other p → (i : ℕ) → MayStandSomehow c other labels p i → MayStandSomehow c tree labels p i
      from p a i x = (x.0, stands_there h mode c of plan other tree another node o t labels p a x.0 i x.1)

      pub second_latest : IsLatest N tree (actions c plan node) (MayStandSomehow c tree labels) second
      second_latest = latest_there N other tree (shape_back N tree other shape) (actions c plan node) (MayStandSomehow c other labels) (MayStandSomehow c tree labels)
          from to second
          (subst (λ z. IsLatest N other z (MayStandSomehow c other labels) second) (sym (same_actions h mode c of plan tree other node another t o)) other_latest)

      pub same_gap : (p : Address) → IsAddress N tree p → gap p ≡ second p
      same_gap = latest_is_the_only_one N tree (actions c plan node) (MayStandSomehow c tree labels) gap second latest second_latest

      module _ (values others : Address → List ℕ)
          (first : (p : Address) → IsAddress N tree p → IsFirst (λ v. MayStand c tree labels (asking c tree p) v (gap (asking c tree p))) (values p))
          (other_first : (p : Address) → IsAddress N other p
          → IsFirst (λ v. MayStand c other labels (asking c other p) v (second (asking c other p))) (others p)) where
        pub same_values : (q : Address) (g : GroundMethod) → label_at N tree q ≡ Some (used g) → values q ≡ others q
        same_values q g e = go (used_there h mode c of plan tree other node another t o q g e)
          where
            go : (k : GroundMethod) × (label_at N other q ≡ Some (used k)) × (k.number ≡ g.number) → values q ≡ others q
            go (k, f, number) =
                let one = first q (used g, e) in
                let two = other_first q (used k, f) in
                let a : IsAddress N tree (asking c tree q) = asking_address tree node t q g e in
                let b : IsAddress N other (asking c other q) = asking_address other another o q k f in
                let same : asking c tree q ≡ asking c other q =
                asking_is tree node t q g e ∙ ap (λ z. cond (is_checked_by c (slice_get c.methods z)) (0 ∷ q) q) (sym number)
                ∙ sym (asking_is other another o q k f) in
                let gaps : gap (asking c tree q) ≡ second (asking c tree q) = same_gap (asking c tree q) a in
                first_once (λ v. MayStand c tree labels (asking c tree q) v (gap (asking c tree q))) (λ v. MayStand c other labels (asking c other q) v (second (asking c other q)))
                (λ v x. subst (λ z. MayStand c other labels z v (second z)) same
                (subst (MayStand c other labels (asking c tree q) v) gaps (stands_there h mode c of plan tree other node another t o labels (asking c tree q) a v (gap (asking c tree q)) x)))
                (λ v x. subst (MayStand c tree labels (asking c tree q) v) (sym gaps)
                (subst (λ z. MayStand c tree labels z v (second z)) (sym same) (stands_there h mode c of plan other tree another node o t labels (asking c other q) b v (second (asking c other q)) x)))
                (values q) (others q)
                (as_many g k (values q) (others q) number
                (asked_can_have tree node t labels q g e (values q) (gap (asking c tree q)) one.is)
                (asked_can_have other another o labels q k f (others q) (second (asking c other q)) two.is))
                one two
