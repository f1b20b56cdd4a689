-- The gaps that are kept for keys, once those of one of them are changed.
use Rattle.std.proofs.Common.{ℕ, ◌≡◌, ◌≢◌, ◌^◌, inl, inr, Bool, true, false, Option, Some, None, List, [], ◌∷◌, Vec, Global, refl, ap, sym, subst, ◌∙◌, true≢false}
use Rattle.std.specs.Map.{IsKeyTest, AreApart, KeepsOthers, lookup}
use Rattle.std.specs.BTreeMap as tree
use Rattle.std.specs.BTreeMap.{BTreeMap}
use Rattle.std.specs.Cmp.Lexicographic.{slice_cmp}
use Rattle.std.specs.Ordering.{nat_cmp, is_eq, eq_by_cmp}
use Rattle.plan_model.proofs.NumberLaws.{same_number}
use Rattle.std.specs.declared.cmp.Ordering.{Ordering}
use Rattle.std.specs.declared.cmp.Ordering.TheVariants.{Less, Equal, Greater}
use Rattle.std.proofs.lemmas.Map.Lookups.{exact_unsigned}
use Rattle.state_history.proofs.GapLaws.{turned-push}
use Rattle.ground_state.proofs.Lists.{order, query, same-lists, one-list-or-not}
use Rattle.state_history.specs.declared.gaps.Gaps.{Gaps}
use Rattle.state_history.specs.Gaps.{AreWithin, AreAllWithin, AreSame, AreTurned, IsTurned, number_of, items_of, flips_by, flips_at}

is-key : (xs : List ℕ) → IsKeyTest (eq_by_cmp order) (tree.is_at (query xs))
is-key xs x y e = ap (λ zs. is_eq (slice_cmp nat_cmp zs y.items)) (same-lists xs x.items e)

apart : (xs ys : List ℕ) → xs ≢ ys → AreApart (tree.is_at (query xs)) (tree.is_at (query ys))
apart xs ys n k e = by (tree.is_at (query ys) k) refl
  where
    by : (b : Bool) → tree.is_at (query ys) k ≡ b → b ≡ false
    by true d = absurd (n (same-lists xs k.items e ∙ sym (same-lists ys k.items d)))
    by false d = refl

others : (xs ys : List ℕ) → xs ≢ ys → (old new : List (Vec ℕ Global × Vec ℕ Global)) → KeepsOthers (eq_by_cmp order) (tree.is_at (query xs)) old new
    → lookup (tree.is_at (query ys)) new ≡ lookup (tree.is_at (query ys)) old
unfolding KeepsOthers
others xs ys n old new k = k (tree.is_at (query ys)) (is-key ys) (apart xs ys n)

-- the gaps of this key are these now, and those of other keys are as they were
pub record HasGaps (old : Gaps) (key flips : List ℕ) (new : Gaps) : Type 0 where
  pub here : flips_at new key ≡ flips
  pub others : (other : List ℕ) → other ≢ key → flips_at new other ≡ flips_at old other

-- those of a key without a number are put
pub far-put : (old new : Gaps) (key : List ℕ) (w : Option (Vec ℕ Global)) → number_of old.most key ≡ None → new.most ≡ old.most → new.near ≡ old.near → tree.UpdatesBy order (query key) old.far new.far w → HasGaps old key (items_of w) new
far-put old new key w e m s u = record {
  here = ap (λ n. flips_by new key (number_of n key)) m ∙ ap (flips_by new key) e ∙ ap items_of u.1;
  others = λ other d. ap (λ n. flips_by new other (number_of n other)) m ∙ by other d (number_of old.most other) refl;
}
  where
    by : (other : List ℕ) → other ≢ key → (o : Option ℕ) → number_of old.most other ≡ o → flips_by new other (number_of old.most other) ≡ flips_at old other
    by other d (Some n) f = ap (flips_by new other) f ∙ ap (λ (near : BTreeMap ℕ (Vec ℕ Global)). items_of (tree.get nat_cmp near n)) s ∙ sym (ap (flips_by old other) f)
    by other d None f = ap (flips_by new other) f ∙ ap items_of (others key other (λ g. d (sym g)) old.far.entries new.far.entries u.3) ∙ sym (ap (flips_by old other) f)

apart-number : (n k : ℕ) → n ≢ k → tree.is_at (nat_cmp n) k ≡ false
apart-number n k d = is-not (nat_cmp n k) (λ e. d (exact_unsigned n k e))
  where
    is-not : (r : Ordering) → (r ≡ Equal → ⊥) → is_eq r ≡ false
    is-not Less d = refl
    is-not Equal d = absurd (d refl)
    is-not Greater d = refl

-- those of a key with a number
pub near-put : (old new : Gaps) (key : List ℕ) (n : ℕ) (w : Option (Vec ℕ Global)) → number_of old.most key ≡ Some n → new.most ≡ old.most → new.far ≡ old.far → tree.UpdatesBy nat_cmp (nat_cmp n) old.near new.near w → HasGaps old key (items_of w) new
near-put old new key n w e m s u = record {
  here = ap (λ n. flips_by new key (number_of n key)) m ∙ ap (flips_by new key) e ∙ ap items_of u.1;
  others = λ other d. ap (λ n. flips_by new other (number_of n other)) m ∙ by other d (number_of old.most other) refl;
}
  where
    by : (other : List ℕ) → other ≢ key → (o : Option ℕ) → number_of old.most other ≡ o → flips_by new other (number_of old.most other) ≡ flips_at old other
    by other d (Some k) f = ap (flips_by new other) f ∙ ap items_of (u.2 k (apart-number n k (λ g. d (same_number old.most (2 ^ 64) other key n (f ∙ ap (λ i. Some i) (sym g)) e)))) ∙ sym (ap (flips_by old other) f)
    by other d None f = ap (flips_by new other) f ∙ ap (λ (far : BTreeMap (Vec ℕ Global) (Vec ℕ Global)). items_of (tree.get_by (query other) far)) s ∙ sym (ap (flips_by old other) f)

-- what is kept for a key with a number, and for one without
pub kept-near : (gaps : Gaps) (key : List ℕ) (n : ℕ) (o : Option (Vec ℕ Global)) → number_of gaps.most key ≡ Some n → o ≡ tree.get nat_cmp gaps.near n → flips_at gaps key ≡ items_of o
kept-near gaps key n o e f = ap (flips_by gaps key) e ∙ ap items_of (sym f)

pub kept-far : (gaps : Gaps) (key : List ℕ) (o : Option (Vec ℕ Global)) → number_of gaps.most key ≡ None → o ≡ tree.get_by (query key) gaps.far → flips_at gaps key ≡ items_of o
kept-far gaps key o e f = ap (flips_by gaps key) e ∙ ap items_of (sym f)

pub turned : (old new : Gaps) (key before flips : List ℕ) (gap : ℕ) (truth : Bool) → flips_at old key ≡ before → HasGaps old key flips new → IsTurned gap truth before flips → AreTurned gap truth old key new
turned old new key before flips gap truth e h t = record { here = subst (λ xs. IsTurned gap truth xs (flips_at new key)) (sym e) (subst (IsTurned gap truth before) (sym h.here) t); others = h.others }

-- where none were kept, and it becomes true
pub entered : (old new : Gaps) (key flips : List ℕ) (gap : ℕ) (truth : Bool) → flips_at old key ≡ [] → HasGaps old key flips new → flips ≡ gap ∷ [] → AreWithin gap (flips_at old key) → truth ≡ true → AreTurned gap truth old key new
entered old new key flips gap truth e h f s t = turned old new key [] flips gap truth e h (turned-push gap truth [] flips f (subst (AreWithin gap) e s) (λ d. true≢false (sym t ∙ sym d)))

pub same : (old new : Gaps) (key flips : List ℕ) → HasGaps old key flips new → flips ≡ flips_at old key → AreSame old new
same old new key flips h e other = elim (one-list-or-not other key) [
  | inl d ↦ subst (λ k. flips_at new k ≡ flips_at old k) (sym d) (h.here ∙ e)
  | inr n ↦ h.others other n
]

pub still-within : (last : ℕ) (truth : Bool) (old new : Gaps) (key : List ℕ) → AreTurned last truth old key new → AreAllWithin last old → AreAllWithin last new
still-within last truth old new key t all other = elim (one-list-or-not other key) [
  | inl e ↦ subst (λ k. AreWithin last (flips_at new k)) (sym e) t.here.sound
  | inr n ↦ subst (AreWithin last) (sym (t.others other n)) (all other)
]

pub same-within : (last : ℕ) (old new : Gaps) → AreSame old new → AreAllWithin last old → AreAllWithin last new
same-within last old new s all key = subst (AreWithin last) (sym (s key)) (all key)
