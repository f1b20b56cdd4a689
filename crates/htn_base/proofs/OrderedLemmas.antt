-- What an ordered map keeps for a list of numbers, where another list is put into it.
use Rattle.std.proofs.Common.{ℕ, ◌≡◌, ◌≢◌, Bool, true, false, List, Vec, Global, refl, ap, sym, ◌∙◌, true≢false}
use Rattle.std.specs.Map.{IsKeyTest, AreApart, KeepsOthers}
use Rattle.std.specs.BTreeMap as tree
use Rattle.std.specs.BTreeMap.{BTreeMap}
use Rattle.std.specs.Cmp.Lexicographic.{slice_cmp}
use Rattle.std.specs.Ordering.{nat_cmp, is_eq, eq_by_cmp}
use Rattle.std.specs.declared.cmp.Ordering.{Ordering}
use Rattle.std.specs.declared.cmp.Ordering.TheVariants.{Less, Equal, Greater}
use Rattle.std.proofs.lemmas.Map.Lookups.{exact_bytes}

equal_from : (r : Ordering) → is_eq r ≡ true → r ≡ Equal
equal_from Less e = absurd (true≢false (sym e))
equal_from Equal e = refl
equal_from Greater e = absurd (true≢false (sym e))

same_lists : (xs ys : List ℕ) → is_eq (slice_cmp nat_cmp xs ys) ≡ true → xs ≡ ys
same_lists xs ys e = exact_bytes xs ys (equal_from (slice_cmp nat_cmp xs ys) e)

-- how keys compare, and how a list compares with a key
abbrev pub key_order : Vec ℕ Global → Vec ℕ Global → Ordering
key_order x y = slice_cmp nat_cmp x.items y.items

abbrev pub list_order : List ℕ → Vec ℕ Global → Ordering
list_order xs key = slice_cmp nat_cmp xs key.items

is-key : (xs : List ℕ) → IsKeyTest (eq_by_cmp key_order) (tree.is_at (list_order xs))
is-key xs x y e = ap (λ zs. is_eq (slice_cmp nat_cmp zs y.items)) (same_lists xs x.items e)

apart : (xs ys : List ℕ) → xs ≢ ys → AreApart (tree.is_at (list_order xs)) (tree.is_at (list_order ys))
apart xs ys differ key e = by (tree.is_at (list_order ys) key) refl
  where
    by : (b : Bool) → tree.is_at (list_order ys) key ≡ b → b ≡ false
    by true d = absurd (differ (same_lists xs key.items e ∙ sym (same_lists ys key.items d)))
    by false d = refl

-- what is kept for another list stays
pub others-same : {X : Type 0} (xs ys : List ℕ) → xs ≢ ys → (old new : BTreeMap (Vec ℕ Global) X) → KeepsOthers (eq_by_cmp key_order) (tree.is_at (list_order xs)) old.entries new.entries
    → tree.get_by (list_order ys) new ≡ tree.get_by (list_order ys) old
unfolding KeepsOthers
others-same xs ys differ old new keeps = keeps (tree.is_at (list_order ys)) (is-key ys) (apart xs ys differ)
