-- Where the subtrees of rows end, from the last row to the first.
use Rattle.std.proofs.Common.{ℕ, suc, ◌≡◌, ◌+◌, ◌<◌, ◌≤◌, ◌⊎◌, inl, inr, List, length, set, Option, Some, slice_get, refl, ap, sym, subst, ◌∙◌, arith}
use Rattle.std.proofs.lemmas.Bool.{cases_lt, cases_eq}
use Rattle.plan_model.specs.task_networks.Tree.{Tree}
use Rattle.tree_core.specs.Tables.{Row, table, AreConsistent}
use Rattle.tree_core.specs.Labels.{labels}
use Rattle.tree_core.specs.Growing.{AreParents, AreEnds, AreLater}
use Rattle.tree_core.proofs.Gets.{get_some, get_within}
use Rattle.tree_core.proofs.Siblings.{consistent_table}
use Rattle.tree_core.proofs.Setting.{get-set_same, get-set_other}

-- the subtree of the row reaches as far as this, where it begins, or where one of its children ends
abbrev pub IsReached : ℕ → ℕ → Tree labels → Type 0
IsReached place end tree = (r : Row labels) → slice_get (table labels tree) place ≡ Some r
    → (end ≤ r.end) × ((end ≡ place + 1) ⊎ ((j : ℕ) × (child : Row labels) × (slice_get (table labels tree) j ≡ Some child) × (child.parent ≡ Some place) × (child.end ≡ end)))

module _ (tree : Tree labels) where
  same : AreConsistent labels (table labels tree)
  same = consistent_table labels tree

  pub reached_first : (place : ℕ) → IsReached place (place + 1) tree
  reached_first place r e = let l = same.later place r e in (omega arith, inl refl)

  row_with : (parents : List (Option ℕ)) → AreParents parents tree → (k : ℕ) (o : Option ℕ) → slice_get parents k ≡ Some o → (r : Row labels) × (slice_get (table labels tree) k ≡ Some r) × (r.parent ≡ o)
  row_with parents p k o e =
      let l = get_within parents k o e in
      let m = p.many in
      let (r, f) = get_some (table labels tree) k (omega arith) in
      let g = p.each k r f in
      (r, f, cc)

  -- a child stands here, so it reaches to that one's end
  pub reached_more : (parents : List (Option ℕ)) → AreParents parents tree → (ends : List ℕ) (place end e : ℕ) → AreEnds (place + 1) ends tree → place < end → slice_get parents end ≡ Some (Some place) → slice_get ends end ≡ Some e → IsReached place e tree
  reached_more parents p ends place end e are l h f r t =
      let (child, c, q) = row_with parents p end (Some place) h in
      let g = are end child (omega arith) c in
      let is : child.end ≡ e = cc in
      let w = same.within end place child r c q t in
      (omega arith, inr (end, child, c, q, is))

  -- where none stands, it ends
  pub reached_end : (parents : List (Option ℕ)) → AreParents parents tree → (place end : ℕ) → IsReached place end tree → (slice_get parents end ≡ Some (Some place) → ⊥) → (r : Row labels) → slice_get (table labels tree) place ≡ Some r → r.end ≡ end
  reached_end parents p place end h none r t =
      let (l, how) = h r t in
      elim (cases_lt end r.end) [
        | inr m ↦ omega arith
        | inl m ↦ absurd (elim how [
          | inl z ↦ (
              let (child, c, q, n) = same.first place r t (omega arith) in
              none (subst (λ k. slice_get parents k ≡ Some (Some place)) (let y : suc place ≡ end = omega arith in y) (p.each (suc place) child c ∙ ap Some q))
              )
          | inr (j, child, c, q, z) ↦ (
              let (next, d, u, n) = same.next j place child r c q t (omega arith) in
              none (subst (λ k. slice_get parents k ≡ Some (Some place)) z (p.each child.end next d ∙ ap Some u))
              )
        ])
      ]

  -- one more end
  pub ends_more : (ends : List ℕ) (place e : ℕ) → AreEnds (place + 1) ends tree → place < length ends → ((r : Row labels) → slice_get (table labels tree) place ≡ Some r → r.end ≡ e) → AreEnds place (set ends place e) tree
  ends_more ends place e are l here k r m t = elim (cases_eq k place) [
    | inl z ↦ ap (slice_get (set ends place e)) z ∙ get-set_same ends place e l ∙ ap Some (sym (here r (subst (λ y. slice_get (table labels tree) y ≡ Some r) z t)))
    | inr n ↦ get-set_other ends place k e n ∙ are k r (omega arith) t
  ]

pub later_more : (n : ℕ) (ends : List ℕ) (place e : ℕ) → AreLater n (place + 1) ends → place < length ends → (place < e) × (e ≤ n) → AreLater n place (set ends place e)
later_more n ends place e are l here k d m f = elim (cases_eq k place) [
  | inl z ↦ (
      let g : Some e ≡ Some d = sym (get-set_same ends place e l) ∙ ap (slice_get (set ends place e)) (sym z) ∙ f in
      let same : e ≡ d = cc in
      let h0 = here.0 in
      let h1 = here.1 in
      (omega arith, omega arith)
      )
  | inr x ↦ are k d (omega arith) (sym (get-set_other ends place k e x) ∙ f)
]
