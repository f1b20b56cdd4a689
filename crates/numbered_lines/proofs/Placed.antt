-- The places of lines, kept one by one and found by ids.
use Rattle.std.proofs.Common.{ℕ, zero, suc, ◌≡◌, ◌+◌, ◌⊎◌, ◌==◌, inl, inr, cond, true, false, Some, None, List, [], ◌∷◌, ◌++◌, length, slice_get, refl, ap, sym, subst, ◌∙◌, arith}
use Rattle.std.specs.Option.{IsSome}
use Rattle.std.specs.Ordering.{nat_cmp, eq_by_cmp}
use Rattle.std.specs.BTreeMap.{BTreeMap, get, is_at, IsEmpty}
use Rattle.std.specs.Map.{lookup}
use Rattle.std.specs.Cmp.{unsigned_tied}
use Rattle.std.proofs.lemmas.Bool.Decides.{eqb_tells}
use Rattle.plan_texts.specs.Types.{Has}
use Rattle.tree_core.proofs.Gets.{get_left, get_right, get_cases}
use Rattle.numbered_lines.specs.Numbered.{IsAtPlace}
use Rattle.numbered_lines.specs.LinePlaces.{ArePlacesOf}
use Rattle.numbered_lines.specs.declared.line_places.LinePlaces.{LinePlaces}

pub none_placed : (places : LinePlaces) → places.ids ≡ [] → IsEmpty places.others → ArePlacesOf [] places
none_placed places none empty = record {
  are = none;
  kept = λ id place e. absurd (let f : get nat_cmp places.others id ≡ None = nothing id in cc);
  all = λ id place e. absurd cc;
}
  where
    nothing : (id : ℕ) → get nat_cmp places.others id ≡ None
    nothing id = ap (lookup (is_at (nat_cmp id))) empty

-- one line more, with this id
module _ (ids : List ℕ) (id : ℕ) (old new : LinePlaces) (is : ArePlacesOf ids old) (grown : new.ids ≡ old.ids ++ id ∷ []) where
  at_end : IsAtPlace (ids ++ id ∷ []) (length ids) id
  at_end = subst (λ k. IsAtPlace (ids ++ id ∷ []) k id) (let e : length ids + 0 ≡ length ids = omega arith in e) (get_right ids (id ∷ []) 0)

  before : (other place : ℕ) → IsAtPlace ids place other → IsAtPlace (ids ++ id ∷ []) place other
  before other place e = get_left ids (id ∷ []) place other e

  -- it stands at an earlier place or at the last
  earlier_or_last : (other place : ℕ) → IsAtPlace (ids ++ id ∷ []) place other
      → IsAtPlace ids place other ⊎ ((place ≡ length ids) × (id ≡ other))
  earlier_or_last other place e = elim (get_cases ids (id ∷ []) place other e) [ inl h ↦ inl h.1 | inr h ↦ inr (last h.0 h.1 h.2) ]
    where
      last : (j : ℕ) → place ≡ length ids + j → slice_get (id ∷ []) j ≡ Some other → (place ≡ length ids) × (id ≡ other)
      last zero p f = (omega arith, cc)
      last (suc j) p f = absurd cc

  now : new.ids ≡ ids ++ id ∷ []
  now = grown ∙ ap (λ z. z ++ id ∷ []) is.are

  -- the id is its place
  pub placed_there : new.others ≡ old.others → id ≡ length old.ids → ArePlacesOf (ids ++ id ∷ []) new
  placed_there same e = record {
    are = now;
    kept = λ n k g. before n k (is.kept n k (subst (λ (m : BTreeMap ℕ ℕ). get nat_cmp m n ≡ Some k) same g));
    all = λ n k a. elim (earlier_or_last n k a) [
      | inl f ↦ subst (λ (m : BTreeMap ℕ ℕ). (k ≡ n) ⊎ IsSome (get nat_cmp m n)) (sym same) (is.all n k f)
      | inr f ↦ inl (f.0 ∙ sym (ap length is.are) ∙ sym e ∙ f.1)
    ];
  }

  -- its place is kept beside
  pub placed_beside : ((n : ℕ)
      → get nat_cmp new.others n ≡ cond (eq_by_cmp nat_cmp id n) (Some (length old.ids)) (get nat_cmp old.others n))
      → ArePlacesOf (ids ++ id ∷ []) new
  placed_beside put = record { are = now; kept = kept; all = all }
    where
      room : length old.ids ≡ length ids
      room = ap length is.are

      at : (n : ℕ) → get nat_cmp new.others n ≡ cond (id == n) (Some (length old.ids)) (get nat_cmp old.others n)
      at n = put n ∙ ap (λ b. cond b (Some (length old.ids)) (get nat_cmp old.others n)) (unsigned_tied id n)

      here : (n : ℕ) → (id == n) ≡ true → get nat_cmp new.others n ≡ Some (length ids)
      here n b = at n ∙ ap (λ b. cond b (Some (length old.ids)) (get nat_cmp old.others n)) b ∙ ap Some room

      there : (n : ℕ) → (id == n) ≡ false → get nat_cmp new.others n ≡ get nat_cmp old.others n
      there n b = at n ∙ ap (λ b. cond b (Some (length old.ids)) (get nat_cmp old.others n)) b

      kept : (n k : ℕ) → get nat_cmp new.others n ≡ Some k → IsAtPlace (ids ++ id ∷ []) k n
      kept n k g = elim (eqb_tells id n) [
        | inl b ↦ (
            let e : length ids ≡ k = (let f = here n b.0 in cc) in
            subst (λ j. IsAtPlace (ids ++ id ∷ []) j n) e (subst (IsAtPlace (ids ++ id ∷ []) (length ids)) b.1 at_end)
            )
        | inr b ↦ before n k (is.kept n k (sym (there n b.0) ∙ g))
      ]

      all : (n k : ℕ) → IsAtPlace (ids ++ id ∷ []) k n → (k ≡ n) ⊎ IsSome (get nat_cmp new.others n)
      all n k a = elim (eqb_tells id n) [
        | inl b ↦ inr (subst IsSome (sym (here n b.0)) refl)
        | inr b ↦ elim (earlier_or_last n k a) [
          | inl f ↦ elim (is.all n k f) [ inl e ↦ inl e | inr s ↦ inr (subst IsSome (sym (there n b.0)) s) ]
          | inr f ↦ absurd (b.1 f.1)
        ]
      ]

-- an id that is there stands somewhere
pub has_place : (ids : List ℕ) (id : ℕ) → Has ids id → (place : ℕ) × IsAtPlace ids place id
has_place [] id h = absurd h
has_place (n ∷ ids) id (inl e) = (0, ap Some e)
has_place (n ∷ ids) id (inr h) = let p = has_place ids id h in (suc p.0, p.1)

-- an id that isn't at the place of this number is kept beside
pub kept_beside : (ids : List ℕ) (id : ℕ) (places : LinePlaces) → ArePlacesOf ids places → Has ids id → (IsAtPlace ids id id → ⊥)
    → IsSome (get nat_cmp places.others id)
kept_beside ids id places are h other =
    let (place, at) = has_place ids id h in
    elim (are.all id place at) [ inl e ↦ absurd (other (subst (λ k. IsAtPlace ids k id) e at)) | inr s ↦ s ]

-- as many ids as places
pub same_count : (ids : List ℕ) (places : LinePlaces) → ArePlacesOf ids places → length places.ids ≡ length ids
same_count ids places are = ap length are.are
