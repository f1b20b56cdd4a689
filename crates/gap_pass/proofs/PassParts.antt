-- The parts of the pass: the caps and gaps of single nodes, and the numbers of the primitives.
use Rattle.std.proofs.Common.{ℕ, zero, suc, ◌≡◌, ◌≢◌, ◌+◌, ◌<◌, ◌⊎◌, inl, inr, List, [], ◌∷◌, ◌++◌, length, length-set, take, set, get_or, Option, Some, None, slice_get, get_or-set_same, get_or-set_other, ap, sym, subst, ◌∙◌, Contains, arith}
use Rattle.std.specs.Prelude.{MatchOption, Result, Ok, Err, IfOk}
use Rattle.std.proofs.lemmas.Bool.{cases_eq}
use Rattle.std.proofs.lemmas.List.{length-take-le}
use Rattle.std.proofs.lemmas.Option.{get_or_from_slice_get, slice_get-get_or}
use Rattle.tree_core.specs.Tables.{Row}
use Rattle.tree_core.specs.Labels.{labels}
use Rattle.tree_core.specs.Runs.{label_in, parent_in, number_in}
use Rattle.tree_core.proofs.Gets.{get_left, get_cases, get_within}
use Rattle.tree_core.proofs.Setting.{get-push}
use Rattle.kept_front.specs.declared.later.Later.{Later}
use Rattle.gap_pass.specs.Children.{children_at}
use Rattle.gap_pass.specs.Conditions.{IsGreatestOrNone}
use Rattle.gap_pass.specs.Least.{IsLeast}
use Rattle.gap_pass.specs.Passes.{AreOwn, after_at, IsCapAt, IsGapBy}
use Rattle.gap_pass.specs.declared.pass.Pass.{Pass}
use Rattle.gap_pass.proofs.TourLaws.{one_more}

-- below a parent
pub cap_below : (later : List Later) (rows : List (Row labels)) (children : List (List ℕ)) (pass : Pass) (k x : ℕ)
    (gaps places numbers : List ℕ) (most cap : ℕ)
    → parent_in rows k ≡ Some x → gaps ≡ pass.gaps.items → places ≡ children_at children x → numbers ≡ after_at later (label_in rows x)
    (number_in rows k)
    → most ≡ get_or pass.caps.items x 0 → IsLeast gaps most (λ y. (j : ℕ) × Contains numbers j × (slice_get places j ≡ Some y)) cap
    → IsCapAt later rows children pass k cap
cap_below later rows children pass k x gaps places numbers most cap p g q n m least =
    subst (λ o. MatchOption o (cap ≡ pass.most) (λ x. IsLeast pass.gaps.items (get_or pass.caps.items x 0)
    (λ y. (j : ℕ) × Contains (after_at later (label_in rows x) (number_in rows k)) j
    × (slice_get (children_at children x) j ≡ Some y)) cap)) (sym p)
    (subst (λ z. IsLeast pass.gaps.items z (λ y. (j : ℕ) × Contains (after_at later (label_in rows x) (number_in rows k)) j
    × (slice_get (children_at children x) j ≡ Some y)) cap) m
    (subst (λ z. IsLeast pass.gaps.items most (λ y. (j : ℕ) × Contains z j × (slice_get (children_at children x) j ≡ Some y)) cap) n
    (subst (λ z. IsLeast pass.gaps.items most (λ y. (j : ℕ) × Contains numbers j × (slice_get z j ≡ Some y)) cap) q
    (subst (λ z. IsLeast z most (λ y. (j : ℕ) × Contains numbers j × (slice_get places j ≡ Some y)) cap) g least))))

-- of a node that is no primitive
pub other_gap : {E : Type 0} (children : List (List ℕ)) (pass : Pass) (At : ℕ → Type 0) (own : Option ℕ) (k bound cap : ℕ)
    (gaps places : List ℕ) (made : Result (Option ℕ) E)
    → own ≡ None → gaps ≡ pass.gaps.items → places ≡ children_at children k → cap ≡ get_or pass.caps.items k 0
    → IsLeast gaps cap (Contains places) bound
    → IfOk made (IsGreatestOrNone At bound) → IfOk made (IsGapBy children pass At own k)
other_gap children pass At own k bound cap gaps places (Err e) o g p m least found = found
other_gap children pass At own k bound cap gaps places (Ok found) o g p m least is =
    subst (λ z. IsGapBy children pass At z k found) (sym o) (
      bound,
      subst (λ z. IsLeast pass.gaps.items z (Contains (children_at children k)) bound) m
          (subst (λ z. IsLeast pass.gaps.items cap (Contains z) bound) p (subst (λ z. IsLeast z cap (Contains places) bound) g least)),
      is,
    )

module _ (size : ℕ) (actions : List ℕ) where
  pub one_own : (n : ℕ) (old new : List (Option ℕ)) → n < length actions → new ≡ set old (get_or actions n 0) (Some n)
      → AreOwn size (take n actions) old
      → AreOwn size (take (n + 1) actions) new
  one_own n old new l e are = record {
    many = ap length e ∙ length-set old (get_or actions n 0) (Some n) ∙ are.many;
    each = λ k i f. each k i f (cases_eq k (get_or actions n 0));
    all = λ i k f below. all i k f below (cases_eq k (get_or actions n 0));
  }
    where
      a : ℕ
      a = get_or actions n 0

      longer : take (n + 1) actions ≡ take n actions ++ a ∷ []
      longer = one_more actions n a (slice_get-get_or actions n 0 l)

      at_end : slice_get (take (n + 1) actions) n ≡ Some a
      at_end = ap (λ z. slice_get z n) longer ∙ get-push (take n actions) a n (length-take-le n actions (omega arith))

      same : a < size → get_or new a None ≡ Some n
      same b = ap (λ z. get_or z a None) e ∙ get_or-set_same old a (Some n) None (let m = are.many in omega arith)

      other : (k : ℕ) → k ≢ a → get_or new k None ≡ get_or old k None
      other k d = ap (λ z. get_or z k None) e ∙ get_or-set_other old a k (Some n) None d

      within : (k : ℕ) (o : Option ℕ) → slice_get new k ≡ Some o → k < size
      within k o f = let m = get_within new k o f in let h = ap length e in let j = length-set old a (Some n) in let i
          = are.many in omega arith

      old_at : (k : ℕ) → k < size → slice_get old k ≡ Some (get_or old k None)
      old_at k b = slice_get-get_or old k None (let m = are.many in omega arith)

      new_at : (k : ℕ) → k < size → slice_get new k ≡ Some (get_or new k None)
      new_at k b = slice_get-get_or new k None (let h = ap length e in let j = length-set old a (Some n) in let i = are.many in omega arith)

      each : (k i : ℕ) → slice_get new k ≡ Some (Some i) → (k ≡ a) ⊎ (k ≢ a) → slice_get (take (n + 1) actions) i ≡ Some k
      each k i f (inl d) =
          let b : a < size = (let m = within k (Some i) f in omega arith) in
          let g : get_or new a None ≡ Some i = ap (λ z. get_or new z None) (sym d) ∙ get_or_from_slice_get new k (Some i) None f in
          let h = same b in
          let j : n ≡ i = cc in
          subst (λ z. slice_get (take (n + 1) actions) z ≡ Some k) j (at_end ∙ ap Some (sym d))
      each k i f (inr d) =
          let g : get_or old k None ≡ Some i = sym (other k d) ∙ get_or_from_slice_get new k (Some i) None f in
          let h = are.each k i (old_at k (within k (Some i) f) ∙ ap Some g) in
          ap (λ z. slice_get z i) longer ∙ get_left (take n actions) (a ∷ []) i k h

      no_more : (k j : ℕ) → slice_get (a ∷ []) j ≡ Some k → k ≢ a → ⊥
      no_more k zero g d = let h : k ≡ a = cc in d h
      no_more k (suc j) g d = absurd cc

      all : (i k : ℕ) → slice_get (take (n + 1) actions) i ≡ Some k → k < size → (k ≡ a) ⊎ (k ≢ a) → (j : ℕ)
          × (slice_get new k ≡ Some (Some j))
      all i k f below (inl d) = (n, new_at k below ∙ ap (λ z. Some (get_or new z None)) d ∙ ap Some (same (omega arith)))
      all i k f below (inr d) = elim (get_cases (take n actions) (a ∷ []) i k (ap (λ z. slice_get z i) (sym longer) ∙ f)) [
        | inl b ↦ (
            let (j, g) = are.all i k b.1 below in
            (j, new_at k below ∙ ap Some (other k d ∙ get_or_from_slice_get old k (Some j) None g)))
        | inr b ↦ absurd (no_more k b.0 b.2 d)
      ]
