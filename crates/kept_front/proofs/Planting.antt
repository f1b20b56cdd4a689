-- The children of a growth are put into their slots one after another.
use Rattle.std.proofs.Common.{ℕ, zero, suc, ◌≡◌, ◌≢◌, ◌+◌, ◌<◌, List, [], ◌∷◌, length, get_or, Some, None, slice_get, refl, ap, sym, ◌∙◌, arith}
use Rattle.std.proofs.Math.Decide.{ℕ_discrete}
use Rattle.htn_base.specs.Different.{AreDifferent}
use Rattle.tree_core.proofs.Gets.{one_place, get_within}
use Rattle.kept_front.specs.declared.leaves.Leaf.{Leaf}
use Rattle.kept_front.specs.declared.leaves.Leaves.{Leaves}
use Rattle.kept_front.specs.declared.later.Later.{Later}
use Rattle.kept_front.specs.Leaves.{leaf_at}
use Rattle.kept_front.specs.Later.{before}
use Rattle.kept_front.specs.Planted.{ArePlanted, AreRegrown}

-- an element by its place
pub read_at : (xs : List ℕ) (i d : ℕ) → i < length xs → slice_get xs i ≡ Some (get_or xs i d)
read_at [] i d l = absurd (omega arith)
read_at (x ∷ xs) zero d l = refl
read_at (x ∷ xs) (suc i) d l = read_at xs i d (omega arith)

module _ (growth : ℕ) (slots : List ℕ) (later : Later) (old : Leaves) where
  pub none_planted : ArePlanted growth slots later old old 0
  none_planted = record { children = λ i x l e. absurd (omega arith); others = λ x h. refl }

  abbrev child : ℕ → Leaf
  child i = record { parent = Some growth; child = i; blocked = before later i }

  module _ (different : AreDifferent slots) (now : Leaves) (n : ℕ) (planted : ArePlanted growth slots later old now n) where
    pub one_planted : (s : ℕ) → slice_get slots n ≡ Some s → (next : Leaves) → leaf_at next s ≡ Some (child n) → ((x : ℕ) → x ≢ s → leaf_at next x ≡ leaf_at now x) → ArePlanted growth slots later old next (n + 1)
    one_planted s at next here others = record { children = children; others = kept }
      where
        children : (i x : ℕ) → i < n + 1 → slice_get slots i ≡ Some x → leaf_at next x ≡ Some (child i)
        children i x l e = elim (ℕ_discrete i n) [
          | yes f ↦ (
              let g : slice_get slots n ≡ Some x = ap (slice_get slots) (sym f) ∙ e in
              let h : x ≡ s = (let k : Some x ≡ Some s = sym g ∙ at in cc) in
              ap (leaf_at next) h ∙ here ∙ ap (λ z. Some (child z)) (sym f))
          | no d ↦ (
              let apart : x ≢ s = (λ h. d (one_place slots different i n s (e ∙ ap Some h) at)) in
              others x apart ∙ planted.children i x (omega arith) e)
        ]

        kept : (x : ℕ) → ((i : ℕ) → i < n + 1 → slice_get slots i ≡ Some x → ⊥) → leaf_at next x ≡ leaf_at old x
        kept x h = others x (λ e. h n (omega arith) (at ∙ ap Some (sym e))) ∙ planted.others x (λ i l e. h i (omega arith) e)

pub regrown : (slot growth : ℕ) (slots : List ℕ) (later : Later) (old mid new : Leaves) → leaf_at mid slot ≡ None → ((x : ℕ) → x ≢ slot → leaf_at mid x ≡ leaf_at old x) → ArePlanted growth slots later mid new (length slots)
    → AreRegrown slot growth slots (Some later) old new
regrown slot growth slots later old mid new here others planted = record {
  children = λ l i x e at. planted.children i x (get_within slots i x at) at ∙ ap (λ z. Some (record { parent = Some growth; child = i; blocked = before z i })) (let f : later ≡ l = cc in f);
  freed = λ x e h. planted.others x (λ i l at. h i at) ∙ ap (leaf_at mid) e ∙ here;
  others = λ x d h. planted.others x (λ i l at. h i at) ∙ others x d;
}

pub given_up : (slot growth : ℕ) (slots : List ℕ) (old new : Leaves) → leaf_at new slot ≡ None → ((x : ℕ) → x ≢ slot → leaf_at new x ≡ leaf_at old x) → AreRegrown slot growth slots None old new
given_up slot growth slots old new here others = record {
  children = λ l i x e at. absurd cc;
  freed = λ x e h. ap (leaf_at new) e ∙ here;
  others = λ x d h. others x d;
}
