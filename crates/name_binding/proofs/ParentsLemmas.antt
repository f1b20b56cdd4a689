-- The sets of parents with one more word of a section.
use Rattle.std.proofs.Common.{◌≡◌, ◌≢◌, ℕ, ◌<◌, List, [], ◌∷◌, ◌++◌, cond, nat_eq, map, length, get_or, set, Some, None, refl, sym, ap, ◌∙◌, inl, inr, arith, append-nil, length-set, get_or-set_other}
use Rattle.std.specs.Prelude.{unwrap_or, slice_get}
use Rattle.std.specs.List.{flat_map, fold}
use Rattle.std.proofs.lemmas.Bool.{cases_eq, eq-eqb, ne_eqb}
use Rattle.std.proofs.lemmas.Grind.{get_or-set_at}
use Rattle.std.proofs.lemmas.List.{append_assoc}
use Rattle.std.proofs.lemmas.Option.{slice_get_within, get_or_from_slice_get, slice_get-get_or}
use Rattle.name_binding.specs.Places.{first_place}
use Rattle.name_binding.proofs.Found.{first_within}
use Rattle.gd_reader.specs.declared.typed_lists.RawParam.{RawParam}
use Rattle.name_binding.specs.Seen.{first_seen, with_number}
use Rattle.name_binding.specs.Parents.{place_of, parents_behind, parents_written, AreParentsOf}
use Rattle.name_binding.proofs.SeenLemmas.{with_number-first_seen}
use Rattle.name_binding.proofs.StepLemmas.{flat_map-push}

pub with_numbers-first_seen : (xs ys : List ℕ) → fold with_number (first_seen [] xs) ys ≡ first_seen [] (xs ++ ys)
with_numbers-first_seen xs [] = ap (first_seen []) (sym (append-nil xs))
with_numbers-first_seen xs (y ∷ ys) =
    ap (λ keys. fold with_number keys ys) (with_number-first_seen xs y)
    ∙ with_numbers-first_seen (xs ++ y ∷ []) ys
    ∙ ap (first_seen []) (append_assoc xs (y ∷ []) ys)

module _ (types : List ℕ) (xs : List RawParam) (x : RawParam) where
  parents_written-push : (child : ℕ) → parents_written types (xs ++ x ∷ []) child ≡ first_seen [] (flat_map (parents_behind types child) xs ++ parents_behind types child x)
  parents_written-push child = ap (first_seen []) (flat_map-push (parents_behind types child) xs x)

  parents_behind-here : (child : ℕ) → first_place x.name.number types ≡ Some child → parents_behind types child x ≡ map (place_of types) x.ty
  parents_behind-here child place =
      ap (λ p. cond (nat_eq child (unwrap_or p 0)) (map (place_of types) x.ty) []) place
      ∙ ap (λ same. cond same (map (place_of types) x.ty) []) (eq-eqb child child refl)

  parents_behind-else : (child : ℕ) → child ≢ unwrap_or (first_place x.name.number types) 0 → parents_behind types child x ≡ []
  parents_behind-else child differ = ap (λ same. cond same (map (place_of types) x.ty) []) (ne_eqb child _ differ)

  parents_written-else : (child : ℕ) → child ≢ unwrap_or (first_place x.name.number types) 0 → parents_written types (xs ++ x ∷ []) child ≡ parents_written types xs child
  parents_written-else child differ =
      parents_written-push child
      ∙ ap (λ ps. first_seen [] (flat_map (parents_behind types child) xs ++ ps)) (parents_behind-else child differ)
      ∙ ap (first_seen []) (append-nil _)

  -- a word that is no type
  pub AreParentsOf-none : (sets : List (List ℕ)) → first_place x.name.number types ≡ None → AreParentsOf types xs sets → AreParentsOf types (xs ++ x ∷ []) sets
  AreParentsOf-none sets none before = record {
    count = before.count;
    each = λ child above s at.
        before.each child above s at
        ∙ sym (parents_written-else child (λ e. let zero = ap (λ p. unwrap_or p 0) none in omega arith));
  }

  -- a type
  pub AreParentsOf-put : (sets : List (List ℕ)) (k : ℕ) (old new : List ℕ)
      → first_place x.name.number types ≡ Some k → old ≡ get_or sets k old → new ≡ fold with_number old (map (place_of types) x.ty)
      → AreParentsOf types xs sets → AreParentsOf types (xs ++ x ∷ []) (set sets k new)
  AreParentsOf-put sets k old new place read put before = record {
    count = length-set sets k new ∙ before.count;
    each = λ child above s at. elim (cases_eq child k) [ inl e ↦ here child above s at e | inr d ↦ there child above s at d ];
  }
    where
      within : k < length sets
      within = let l = first_within x.name.number types k place in omega (arith, before.count)

      here : (child : ℕ) → 0 < child → (s : List ℕ) → slice_get (set sets k new) child ≡ Some s → child ≡ k → s ≡ parents_written types (xs ++ x ∷ []) child
      here child above s at e =
          let now : s ≡ new = sym (get_or_from_slice_get (set sets k new) child s s at) ∙ get_or-set_at sets k child new s e within in
          let had : old ≡ parents_written types xs k = before.each k (omega arith) old (slice_get-get_or sets k old within ∙ ap Some (sym read)) in
          now ∙ put
          ∙ ap (λ keys. fold with_number keys (map (place_of types) x.ty)) had
          ∙ with_numbers-first_seen (flat_map (parents_behind types k) xs) (map (place_of types) x.ty)
          ∙ ap (λ ps. first_seen [] (flat_map (parents_behind types k) xs ++ ps)) (sym (parents_behind-here k place))
          ∙ sym (parents_written-push k)
          ∙ ap (parents_written types (xs ++ x ∷ [])) (sym e)

      there : (child : ℕ) → 0 < child → (s : List ℕ) → slice_get (set sets k new) child ≡ Some s → child ≢ k → s ≡ parents_written types (xs ++ x ∷ []) child
      there child above s at d =
          let l = slice_get_within (set sets k new) child s at in
          let below : child < length sets = omega (arith, length-set sets k new) in
          let same : get_or sets child s ≡ s = sym (get_or-set_other sets k child new s d) ∙ get_or_from_slice_get (set sets k new) child s s at in
          let is = ap (λ p. unwrap_or p 0) place in
          before.each child above s (slice_get-get_or sets child s below ∙ ap Some same)
          ∙ sym (parents_written-else child (λ e. d (e ∙ is)))
