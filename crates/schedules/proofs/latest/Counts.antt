-- How many primitives stand before a node of an order.
use Rattle.std.proofs.Common.{ℕ, zero, suc, ◌≡◌, ◌+◌, List, [], ◌∷◌, ◌++◌, length, filter, slice_get, Some, Bool, true, false, cond, refl, ap, sym, subst, ◌∙◌, Contains, arith}
use Rattle.std.proofs.lemmas.List.Elements.{filter-append, Contains-append_right}
use Rattle.std.proofs.lemmas.List.{length-append}
use Rattle.std.proofs.lemmas.Option.{slice_get_within, slice_get_read, get_or_from_slice_get}
use Rattle.plan_model.specs.task_networks.Net.{Net}
use Rattle.plan_model.specs.task_networks.Tree.{Tree, Address}
use Rattle.htn_base.specs.Different.{AreDifferent}
use Rattle.plan_model.specs.task_networks.Listed.{same_address, is_listed}
use Rattle.plan_model.proofs.task_networks.Lists.{Contains-here, Contains-later}
use Rattle.plan_model.proofs.task_networks.PendingNodes.{to_among, among_to, same_to, address_same_itself}
use Rattle.schedules.specs.latest.Gaps.{passed, gap_in}

pub found : {A : Type 0} (xs : List A) (i : ℕ) (x : A) → slice_get xs i ≡ Some x → Contains xs x
found xs i x e = (i, slice_get_within xs i x e, get_or_from_slice_get xs i x x e)

-- a place of an element in a list of different ones
pub place_of : {A : Type 0} (xs ys : List A) (x : A) (i : ℕ) → AreDifferent (xs ++ x ∷ ys) → slice_get (xs ++ x ∷ ys) i ≡ Some x
    → i ≡ length xs
place_of [] ys x zero d e = refl
place_of [] ys x (suc i) d e = absurd (d.0 (found ys i x e))
place_of (y ∷ xs) ys x zero d e = absurd (d.0 (Contains-append_right xs (x ∷ ys) y (subst (Contains (x ∷ ys)) (let f : x ≡ y = cc in f) (Contains-here x ys))))
place_of (y ∷ xs) ys x (suc i) d e = ap suc (place_of xs ys x i d.1 e)

pub to_place : {A : Type 0} (xs : List A) (x : A) → Contains xs x → (i : ℕ) × (slice_get xs i ≡ Some x)
to_place xs x (i, l, e) = (i, slice_get_read xs (length xs) i x refl l (sym e))

module _ (N : Net) (tree : Tree N) (plan : List Address) where
  pub passed_append : (xs ys : List Address) → passed N tree plan (xs ++ ys) ≡ passed N tree plan xs + passed N tree plan ys
  passed_append xs ys = ap length (filter-append (is_listed plan) xs ys) ∙ length-append (filter (is_listed plan) xs) (filter (is_listed plan) ys)

  pub filter_kept : (x : Address) (xs : List Address) → Contains plan x → filter (is_listed plan) (x ∷ xs) ≡ x ∷ filter (is_listed plan) xs
  filter_kept x xs c = ap (λ b. cond b (x ∷ filter (is_listed plan) xs) (filter (is_listed plan) xs)) (to_among plan x c)

  pub filter_left : (x : Address) (xs : List Address) → (Contains plan x → ⊥)
      → filter (is_listed plan) (x ∷ xs) ≡ filter (is_listed plan) xs
  filter_left x xs n = go (is_listed plan x) refl
    where
      go : (b : Bool) → is_listed plan x ≡ b
          → cond b (x ∷ filter (is_listed plan) xs) (filter (is_listed plan) xs) ≡ filter (is_listed plan) xs
      go true e = absurd (n (among_to plan x e))
      go false e = refl

  pub other_address : (q p : Address) → (q ≡ p → ⊥) → same_address q p ≡ false
  other_address q p n = go (same_address q p) refl
    where
      go : (b : Bool) → same_address q p ≡ b → b ≡ false
      go true e = absurd (n (same_to q p e))
      go false e = refl

  -- the gap of a node is what is passed before it
  pub gap_at : (taken rest : List Address) (p : Address) → (Contains taken p → ⊥)
      → gap_in N tree plan (taken ++ p ∷ rest) p ≡ passed N tree plan taken
  gap_at [] rest p n = ap (λ b. cond b 0 (cond (is_listed plan p) 1 0 + gap_in N tree plan rest p)) (address_same_itself p)
  gap_at (q ∷ taken) rest p n =
      ap (λ b. cond b 0 (cond (is_listed plan q) 1 0 + gap_in N tree plan (taken ++ p ∷ rest) p)) (other_address q p (λ e. n (subst (Contains (q ∷ taken)) e (Contains-here q taken))))
      ∙ go (is_listed plan q) (gap_at taken rest p (λ c. n (Contains-later q taken p c)))
    where
      go : (b : Bool) → gap_in N tree plan (taken ++ p ∷ rest) p ≡ passed N tree plan taken
          → cond b 1 0 + gap_in N tree plan (taken ++ p ∷ rest) p ≡ length (cond b (q ∷ filter (is_listed plan) taken) (filter (is_listed plan) taken))
      go true e = omega arith
      go false e = omega arith

  pub passed_kept : (p : Address) (rest : List Address) → Contains plan p → passed N tree plan (p ∷ rest) ≡ suc (passed N tree plan rest)
  passed_kept p rest c = ap length (filter_kept p rest c)

  pub passed_left : (p : Address) (rest : List Address) → (Contains plan p → ⊥) → passed N tree plan (p ∷ rest) ≡ passed N tree plan rest
  passed_left p rest n = ap length (filter_left p rest n)
