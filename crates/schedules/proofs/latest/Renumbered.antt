-- Renumberings of plans: one after another, and back.
use Rattle.std.proofs.Common.{◌≡◌, ◌⊎◌, inl, inr, map, refl, ap, sym, subst, ◌∙◌, Contains}
use Rattle.std.specs.List.Sorted.{IsPermutation}
use Rattle.std.proofs.lemmas.Simd.{map-map}
use Rattle.std.proofs.lemmas.List.Sorted.{IsPermutation-refl, IsPermutation-trans, IsPermutation-map, Contains-permutation}
use Rattle.std.proofs.lemmas.List.Elements.{Contains-append_left, Contains-append_right, Contains-append_cases}
use Rattle.schedules.specs.latest.PlanLines.{StepLine, SplitLine, PlanLines, step_ids, line_ids, IsId, renamed_step, renamed_split, renamed, IsOneToOne, IsRenumbering}
use Rattle.plan_model.proofs.plan_meaning.Pairs.{map_to}
use Rattle.schedules.proofs.latest.Rearranged.{in_map, map_same, map_itself}

module _ {Id Step Split : Type 0} (P : PlanLines Id Step Split) where
  pub id_of_step : (l : StepLine Id Step) → Contains P.steps l → Contains (line_ids P) l.id
  id_of_step l c = Contains-append_left (step_ids P) (map (λ l. l.id) P.splits) l.id (in_map (λ l. l.id) P.steps l c)

  pub id_of_split : (l : SplitLine Id Split) → Contains P.splits l → Contains (line_ids P) l.id
  id_of_split l c = Contains-append_right (step_ids P) (map (λ l. l.id) P.splits) l.id (in_map (λ l. l.id) P.splits l c)

  -- whose id it is
  pub line_of : (i : Id) → Contains (line_ids P) i
      → ((l : StepLine Id Step) × Contains P.steps l × (l.id ≡ i)) ⊎ ((l : SplitLine Id Split) × Contains P.splits l × (l.id ≡ i))
  line_of i c = elim (Contains-append_cases (step_ids P) (map (λ l. l.id) P.splits) i c) [ inl d ↦ inl (map_to (λ l. l.id) P.steps i d) | inr d ↦ inr (map_to (λ l. l.id) P.splits i d) ]

module _ {Id Other Step Split : Type 0} (new : Id → Other) where
  -- an id is renamed to an id
  pub renamed_id : (P : PlanLines Id Step Split) (Q : PlanLines Other Step Split) → IsRenumbering new P Q → (i : Id) → IsId P i
      → IsId Q (new i)
  renamed_id P Q r i (inl c) = inl (elim (line_of P i c) [
    | inl (l, d, e) ↦ subst (λ z. Contains (line_ids Q) (new z)) e (id_of_step Q (renamed_step new l) (subst (λ z. Contains z (renamed_step new l)) (sym r.steps) (in_map (renamed_step new) P.steps l d)))
    | inr (l, d, e) ↦ subst (λ z. Contains (line_ids Q) (new z)) e (id_of_split Q (renamed_split new l) (Contains-permutation (map (renamed_split new) P.splits) Q.splits (renamed_split new l) r.splits (in_map (renamed_split new) P.splits l d)))
  ])
  renamed_id P Q r i (inr (inl c)) = inr (inl (subst (λ z. Contains z (new i)) (sym r.root) (in_map new P.root i c)))
  renamed_id P Q r i (inr (inr (l, d, c))) = inr (inr (
    renamed_split new l,
    Contains-permutation (map (renamed_split new) P.splits) Q.splits (renamed_split new l) r.splits (in_map (renamed_split new) P.splits l d),
    in_map new l.children i c,
  ))

  pub is_renamed : (P : PlanLines Id Step Split) → IsOneToOne new P → IsRenumbering new P (renamed new P)
  is_renamed P h = record { one_to_one = h; steps = refl; root = refl; splits = IsPermutation-refl (map (renamed_split new) P.splits) }

  -- an id of the renamed plan is that of an id
  pub id_before : (P : PlanLines Id Step Split) (j : Other) → IsId (renamed new P) j → (i : Id) × IsId P i × (new i ≡ j)
  id_before P j (inl c) = elim (line_of (renamed new P) j c) [
    | inl (l, d, e) ↦ (let h = map_to (renamed_step new) P.steps l d in (h.0.id, inl (id_of_step P h.0 h.1), ap (λ z. z.id) h.2 ∙ e))
    | inr (l, d, e) ↦ (let h = map_to (renamed_split new) P.splits l d in (h.0.id, inl (id_of_split P h.0 h.1), ap (λ z. z.id) h.2 ∙ e))
  ]
  id_before P j (inr (inl c)) = let h = map_to new P.root j c in (h.0, inr (inl h.1), h.2)
  id_before P j (inr (inr (l, d, c))) =
      let h = map_to (renamed_split new) P.splits l d in
      let k = map_to new h.0.children j (subst (λ z. Contains z j) (sym (ap (λ z. z.children) h.2)) c) in
      (k.0, inr (inr (h.0, h.1, k.1)), k.2)

  -- and back
  module _ (P : PlanLines Id Step Split) (old : Other → Id) (same : (i : Id) → IsId P i → old (new i) ≡ i) where
    pub is_old : IsRenumbering old (renamed new P) P
    is_old = record {
      one_to_one = λ i j a b e. (
          let x = id_before P i a in
          let y = id_before P j b in
          let f : x.0 ≡ y.0 = sym (same x.0 x.1) ∙ ap old x.2 ∙ e ∙ sym (ap old y.2) ∙ same y.0 y.1 in
          sym x.2 ∙ ap new f ∙ y.2);
      steps = sym (map-map (renamed_step old) (renamed_step new) P.steps ∙ map_itself (λ l. renamed_step old (renamed_step new l)) P.steps
          (λ l c. ap (λ z. (let r : StepLine Id Step = record { id = z; step = l.step } in r)) (same l.id (inl (id_of_step P l c)))));
      root = sym (map-map old new P.root ∙ map_itself (λ i. old (new i)) P.root (λ i c. same i (inr (inl c))));
      splits = subst (λ z. IsPermutation z P.splits) (sym (map-map (renamed_split old) (renamed_split new) P.splits ∙ map_itself (λ l. renamed_split old (renamed_split new l)) P.splits split_same)) (IsPermutation-refl P.splits);
    }
      where
        split_same : (l : SplitLine Id Split) → Contains P.splits l → renamed_split old (renamed_split new l) ≡ l
        split_same l c =
            ap (λ z. (let r : SplitLine Id Split = record { id = z; split = l.split; children = map old (map new l.children) } in r)) (same l.id (inl (id_of_split P l c)))
            ∙ ap (λ z. (let r : SplitLine Id Split = record { id = l.id; split = l.split; children = z } in r)) (map-map old new l.children ∙ map_itself (λ i. old (new i)) l.children (λ i d. same i (inr (inr (l, c, d)))))

-- one renumbering after another
pub renumbered_twice : {Id Other Third Step Split : Type 0} (f : Id → Other) (g : Other → Third) (P : PlanLines Id Step Split) (Q : PlanLines Other Step Split) (R : PlanLines Third Step Split)
    → IsRenumbering f P Q → IsRenumbering g Q R → IsRenumbering (λ i. g (f i)) P R
renumbered_twice {Third = Third} {Split = Split} f g P Q R a b = record {
  one_to_one = λ i j c d e. a.one_to_one i j c d (b.one_to_one (f i) (f j) (renamed_id f P Q a i c) (renamed_id f P Q a j d) e);
  steps = b.steps ∙ ap (map (renamed_step g)) a.steps ∙ map-map (renamed_step g) (renamed_step f) P.steps;
  root = b.root ∙ ap (map g) a.root ∙ map-map g f P.root;
  splits = subst (λ z. IsPermutation z R.splits) (map-map (renamed_split g) (renamed_split f) P.splits ∙ map_same (λ l. renamed_split g (renamed_split f l)) (renamed_split (λ i. g (f i))) P.splits
      (λ l c. ap (λ z. (let r : SplitLine Third Split = record { id = g (f l.id); split = l.split; children = z } in r)) (map-map g f l.children)))
      (IsPermutation-trans (map (renamed_split g) (map (renamed_split f) P.splits)) (map (renamed_split g) Q.splits) R.splits (IsPermutation-map (renamed_split g) (map (renamed_split f) P.splits) Q.splits a.splits) b.splits);
}
