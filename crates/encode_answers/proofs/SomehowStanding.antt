-- It is told in which gaps a node may stand with some values, and where it may, there are first ones.
use Rattle.std.proofs.Common.{ℕ, ◌≡◌, inl, inr, IsTrue, List, [], ◌∷◌, map, take, length, slice_get}
use Rattle.std.proofs.Common.{Option, Some, None, refl, sym, subst, ◌∙◌, Contains, arith}
use Rattle.plan_model.specs.declared.schemas.MethodPlan.{MethodPlan}
use Rattle.plan_model.specs.declared.terms.Param.{Param}
use Rattle.plan_model.specs.declared.values.Compiled.{Compiled}
use Rattle.plan_model.specs.task_networks.Net.{Net}
use Rattle.plan_model.specs.task_networks.Spelling.{numbers}
use Rattle.plan_model.specs.task_networks.Tree.{Tree, Label, waits, ran, used, Address, label_at}
use Rattle.plan_model.specs.plan_meaning.Truth.{AreTyped}
use Rattle.plan_model.specs.plan_meaning.Network.{action, check, task, GroundMethod, InTypeOf, network}
use Rattle.plan_model.specs.plan_meaning.Solution.{Allows}
use Rattle.plan_model.proofs.task_networks.Lists.{not-in_empty, head_or_tail}
use Rattle.plan_model.proofs.task_networks.Numbers.{to_numbers}
use Rattle.slot_machine.proofs.bound_laws.Decided.{Or_not, both}
use Rattle.plan_encoder.specs.ChosenValues.{with_values, rechecked, CanHave, is_checked, state_in, LabelMayStand, MayStand}
use Rattle.plan_encoder.specs.Laws.{MayStandSomehow}
use Rattle.plan_proof.proofs.machine.Running.{typed_long}
use Rattle.value_choices.specs.Choices.{IsFirst}
use Rattle.decode_answers.proofs.SomehowSearched.{true_told, lists_told, lists_of, to_lists}
use Rattle.decode_answers.proofs.SomehowStates.{same_work, few, ground_told, allows_told}
use Rattle.encode_answers.proofs.SomehowFirst.{FirstOrNone, first_empty, first_or_none, first_alike}

module _ (c : Compiled) where
  abbrev N : Net
  N = network c

  can_have_told : (g : GroundMethod) (v : List ℕ) → Or_not (CanHave c g v)
  can_have_told g v = elim (both (ground_told c (with_values g v)) (both (same_work (N.head (with_values g v)) (N.head g))
      (lists_told same_work (N.works (with_values g v)) (map (rechecked v) (N.works g))))) [
        | inl h ↦ inl (record { ground = h.0; head = h.1.0; children = h.1.1 })
        | inr n ↦ inr (λ (x : CanHave c g v). n (x.ground, (x.head, x.children)))
      ]

  -- the values that a method can have are among finitely many
  abbrev params_by : Option MethodPlan → List Param
  params_by None = []
  params_by (Some p) = p.schema.params

  abbrev all_values : GroundMethod → List (List ℕ)
  all_values g = lists_of (length (params_by (slice_get c.methods g.number))) (numbers 0 (length c.hddl.objects))

  are_objects : (ps : List Param) (os : List ℕ) → AreTyped (InTypeOf c) ps os → (o : ℕ) → Contains os o
      → Contains (numbers 0 (length c.hddl.objects)) o
  are_objects [] [] a o k = absurd (not-in_empty o k)
  are_objects [] (x ∷ os) a o k = absurd a
  are_objects (p ∷ ps) [] a o k = absurd a
  are_objects (p ∷ ps) (x ∷ os) a o k = elim (head_or_tail x os o k) [
    | inl e ↦ subst (Contains (numbers 0 (length c.hddl.objects))) e
        (to_numbers 0 (length c.hddl.objects) x (omega arith) (let l = few c x p.ty a.0 in omega arith))
    | inr m ↦ are_objects ps os a.1 o m
  ]

  among_all : (g : GroundMethod) (v : List ℕ) → CanHave c g v → Contains (all_values g) v
  among_all g v x =
      let ps = params_by (slice_get c.methods g.number) in
      let typed = subst (λ o. AreTyped (InTypeOf c) (params_by o) v) (sym x.ground.is) x.ground.typed in
      subst (λ k. Contains (lists_of k (numbers 0 (length c.hddl.objects))) v) (typed_long (InTypeOf c) ps v typed)
      (to_lists (numbers 0 (length c.hddl.objects)) v (are_objects ps v typed))

  -- a question on the values that a method can have
  values_told : (g : GroundMethod) (Q : List ℕ → Type 0) → ((v : List ℕ) → Or_not (Q v)) → FirstOrNone (λ v. CanHave c g v × Q v)
  values_told g Q d = first_or_none (λ v. CanHave c g v × Q v) (λ v. both (can_have_told g v) (d v)) (all_values g)
      (λ v h. among_all g v h.0)

  module _ (tree : Tree N) (labels : List (Label N))
      (no_check : (m : ℕ) (v : List ℕ) → label_at N tree [] ≡ Some (ran (check m v)) → ⊥) where
    allowed_told : (i : ℕ) (l : Label N) → Or_not (Allows c (state_in c tree labels i) l)
    allowed_told i l = allows_told c (take i labels) l

    abbrev Stands : Address → ℕ → Option (Label N) → List ℕ → Type 0
    Stands p i o v = LabelMayStand c tree labels p o v i

    abbrev CheckStands : ℕ → ℕ → List ℕ → Type 0
    CheckStands m i v = Allows c (state_in c tree labels i) (ran (check m v))

    abbrev MethodStands : GroundMethod → ℕ → List ℕ → Type 0
    MethodStands g i v = Allows c (state_in c tree labels i) (used (with_values g v))

    check_first : (p : Address) (m : ℕ) (old : List ℕ) (i : ℕ) → label_at N tree p ≡ Some (ran (check m old))
        → FirstOrNone (Stands p i (Some (ran (check m old))))
    check_first [] m old i e = absurd (no_check m old e)
    check_first (j ∷ q) m old i e = on (label_at N tree q) refl
      where
        none : ((g : GroundMethod) → label_at N tree q ≡ Some (used g) → ⊥) → FirstOrNone (Stands (j ∷ q) i (Some (ran (check m old))))
        none n = inr (λ v x. n x.0.0 x.0.1)

        on : (o : Option (Label N)) → label_at N tree q ≡ o → FirstOrNone (Stands (j ∷ q) i (Some (ran (check m old))))
        on None f = none (λ g x. (let y = sym f ∙ x in cc))
        on (Some (waits w)) f = none (λ g x. (let y = sym f ∙ x in cc))
        on (Some (ran w)) f = none (λ g x. (let y = sym f ∙ x in cc))
        on (Some (used g)) f = first_alike (λ v. CanHave c g v × CheckStands m i v) (Stands (j ∷ q) i (Some (ran (check m old))))
            (λ v x. ((g, f, x.0), x.1)) (λ v x. (one v x.0.0 x.0.1 x.0.2, x.1))
            (values_told g (CheckStands m i) (λ v. allowed_told i (ran (check m v))))
          where
            one : (v : List ℕ) (k : GroundMethod) → label_at N tree q ≡ Some (used k) → CanHave c k v → CanHave c g v
            one v k x have = subst (λ z. CanHave c z v) (let y = sym f ∙ x in let same : k ≡ g = cc in same) have

    used_first : (p : Address) (g : GroundMethod) (i : ℕ) → Or_not (IsTrue (is_checked c g)) → FirstOrNone (Stands p i (Some (used g)))
    used_first p g i (inl t) = first_empty (Stands p i (Some (used g))) (inl t)
    used_first p g i (inr n) = first_alike (λ v. CanHave c g v × MethodStands g i v) (Stands p i (Some (used g)))
        (λ v x. inr (x.0, x.1)) (λ v x. elim x [ inl t ↦ absurd (n t) | inr y ↦ (y.0, y.1) ])
        (values_told g (MethodStands g i) (λ v. allowed_told i (used (with_values g v))))

    -- of each node and gap
    first_stands : (p : Address) (i : ℕ) → FirstOrNone (λ v. MayStand c tree labels p v i)
    first_stands p i = on (label_at N tree p) refl
      where
        on : (o : Option (Label N)) → label_at N tree p ≡ o → FirstOrNone (Stands p i o)
        on None e = first_empty (Stands p i None) tt
        on (Some (waits w)) e = first_empty (Stands p i (Some (waits w))) tt
        on (Some (ran (action a args))) e = elim (allowed_told i (ran (action a args))) [
          | inl x ↦ first_empty (Stands p i (Some (ran (action a args)))) x
          | inr n ↦ inr (λ v x. n x)
        ]
        on (Some (ran (check m old))) e = check_first p m old i e
        on (Some (ran (task t args))) e = first_empty (Stands p i (Some (ran (task t args)))) tt
        on (Some (used g)) e = used_first p g i (true_told (is_checked c g))

    pub may_told : (p : Address) (i : ℕ) → Or_not (MayStandSomehow c tree labels p i)
    may_told p i = elim (first_stands p i) [ inl (v, f) ↦ inl (v, f.is) | inr n ↦ inr (λ h. n h.0 h.1) ]

    pub first_values : (p : Address) (i : ℕ) → MayStandSomehow c tree labels p i
        → (v : List ℕ) × IsFirst (λ v. MayStand c tree labels p v i) v
    first_values p i h = elim (first_stands p i) [ inl x ↦ x | inr n ↦ absurd (n h.0 h.1) ]

    -- where nothing stands, each value is first
    pub first_nowhere : (p : Address) (i : ℕ) → label_at N tree p ≡ None → MayStandSomehow c tree labels p i
    first_nowhere p i e = ([], subst (λ o. LabelMayStand c tree labels p o [] i) (sym e) tt)
