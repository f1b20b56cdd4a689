-- New slots that are looked at one after another: those so far hold nothing and differ.
use Rattle.std.proofs.Common.{ℕ, ◌≡◌, ◌≤◌, ◌<◌, ◌+◌, ◌↔◌, ◌⊎◌, inl, inr, Bool, true, false, not, cond, IsTrue, is_some, List, [], ◌∷◌, ◌++◌, length, get_or, take, Contains, refl, ap, sym, subst, ◌∙◌, true≢false, arith}
use Rattle.std.proofs.lemmas.List.{take_all}
use Rattle.std.proofs.lemmas.List.Elements.{Contains-append_left, Contains-append_right}
use Rattle.std.proofs.lemmas.Map.Views.{tells_apart}
use Rattle.std.proofs.lemmas.Map.Lookups.{exact_unsigned}
use Rattle.std.specs.Cmp.{nat_cmp_is}
use Rattle.std.specs.declared.cmp.Ordering.TheVariants.{Equal}
use Rattle.std.specs.Ordering.{nat_cmp, is_eq}
use Rattle.std.specs.List.{list_any}
use Rattle.std.specs.BTreeMap.{is_at}
use Rattle.std.specs.BTreeSet.{BTreeSet, IsEmpty, contains}
use Rattle.htn_base.specs.Different.{AreDifferent}
use Rattle.htn_base.proofs.DifferentLemmas.{different-one, different-push, different-take}
use Rattle.plan_model.proofs.task_networks.Lists.{not-in_empty, head_or_tail, Contains-here}
use Rattle.plan_model.proofs.plan_meaning.Pairs.{append_to}
use Rattle.ground_state.proofs.Lists.{take_next}
use Rattle.kept_front.specs.declared.front.Front.{Front}
use Rattle.kept_front.specs.Leaves.{leaf_at}
use Rattle.tree_decoder.specs.Acts.{IsOneHeld}

-- the set has these numbers
abbrev pub AreSeen : BTreeSet ℕ → List ℕ → Type 0
AreSeen seen xs = (n : ℕ) → IsTrue (contains nat_cmp seen n) ↔ Contains xs n

pub record IsFreeTo (front : Front) (new : List ℕ) (i : ℕ) (seen : BTreeSet ℕ) : Type 0 where
  pub free : (x : ℕ) → Contains (take i new) x → is_some (leaf_at front.leaves x) ≡ false
  pub apart : AreDifferent (take i new)
  pub seen_are : AreSeen seen (take i new)

among : (xs : List ℕ) (k n : ℕ) → Contains (xs ++ k ∷ []) n → Contains xs n ⊎ (k ≡ n)
among xs k n c = elim (append_to xs (k ∷ []) n c) [
  | inl d ↦ inl d
  | inr d ↦ (elim (head_or_tail k [] n d) [ inl e ↦ inr e | inr f ↦ absurd (not-in_empty n f) ])
]

last_of : (xs : List ℕ) (k : ℕ) → Contains (xs ++ k ∷ []) k
last_of xs k = Contains-append_right xs (k ∷ []) k (Contains-here k [])

twice : (xs : List ℕ) (k : ℕ) → AreDifferent (xs ++ k ∷ []) → Contains xs k → ⊥
twice [] k d c = not-in_empty k c
twice (x ∷ xs) k d c = elim (head_or_tail x xs k c) [
  | inl e ↦ d.0 (subst (λ y. Contains (xs ++ k ∷ []) y) (sym e) (last_of xs k))
  | inr f ↦ twice xs k d.1 f
]

one_more_seen : (old new : BTreeSet ℕ) (xs : List ℕ) (k : ℕ) → AreSeen old xs
    → ((q : ℕ) → contains nat_cmp new q ≡ cond (is_at (nat_cmp k) q) true (contains nat_cmp old q)) → AreSeen new (xs ++ k ∷ [])
one_more_seen old new xs k seen u n = go (is_at (nat_cmp k) n) refl
  where
    here : is_at (nat_cmp k) k ≡ true
    here = ap is_eq (sym (nat_cmp_is k k Equal refl))

    go : (t : Bool) → is_at (nat_cmp k) n ≡ t → IsTrue (contains nat_cmp new n) ↔ Contains (xs ++ k ∷ []) n
    go true f = (
      λ h. subst (λ y. Contains (xs ++ k ∷ []) y) (tells_apart {R = nat_cmp} exact_unsigned k n f) (last_of xs k),
      λ c. u n ∙ ap (λ t. cond t true (contains nat_cmp old n)) f,
    )
    go false f =
        let same : contains nat_cmp new n ≡ contains nat_cmp old n = u n ∙ ap (λ t. cond t true (contains nat_cmp old n)) f in (
          λ h. Contains-append_left xs (k ∷ []) n ((seen n).0 (sym same ∙ h)),
          λ c. elim (among xs k n c) [
            | inl d ↦ same ∙ (seen n).1 d
            | inr e ↦ absurd (true≢false (sym here ∙ ap (is_at (nat_cmp k)) e ∙ f))
          ],
        )

module _ (front : Front) (new : List ℕ) where
  not_held : ((y : ℕ) → Contains new y → is_some (leaf_at front.leaves y) ≡ false) → AreDifferent new → IsTrue false ↔ IsOneHeld front new
  not_held free d = (λ t. absurd (true≢false (sym t)), λ h. absurd (none h))
    where
      none : IsOneHeld front new → ⊥
      none (inl (x, c, s)) = true≢false (sym s ∙ free x c)
      none (inr n) = n d

  pub none_at_first : (seen : BTreeSet ℕ) → IsEmpty seen → IsFreeTo front new 0 seen
  none_at_first seen e = record {
    free = λ x c. absurd (not-in_empty x c);
    apart = tt;
    seen_are = λ n. (λ h. absurd (true≢false (sym h ∙ ap (λ ks. list_any (is_at (nat_cmp n)) ks) e)), λ c. absurd (not-in_empty n c));
  }

  module _ (i x : ℕ) (seen : BTreeSet ℕ) (l : i < length new) (is : x ≡ get_or new i x) where
    at_place : Contains new x
    at_place = (i, l, sym is)

    pub one_held : IsTrue (is_some (leaf_at front.leaves x)) → IsTrue true ↔ IsOneHeld front new
    one_held h = (λ t. inl (x, at_place, h), λ t. refl)

    module _ (to : IsFreeTo front new i seen) where
      longer : take (i + 1) new ≡ take i new ++ x ∷ []
      longer = take_next new i x l is

      free : is_some (leaf_at front.leaves x) ≡ false → (y : ℕ) → Contains (take (i + 1) new) y → is_some (leaf_at front.leaves y) ≡ false
      free f y c = elim (among (take i new) x y (subst (λ ys. Contains ys y) longer c)) [
        | inl d ↦ to.free y d
        | inr e ↦ subst (λ z. is_some (leaf_at front.leaves z) ≡ false) e f
      ]

      pub stands_twice : (added : Bool) → added ≡ not (contains nat_cmp seen x) → added ≡ false → IsTrue true ↔ IsOneHeld front new
      stands_twice added e f = (
        λ t. inr (λ d. twice (take i new) x (subst AreDifferent longer (different-take (i + 1) new d)) ((to.seen_are x).0 (was (contains nat_cmp seen x) (sym e ∙ f)))),
        λ t. refl,
      )
        where
          was : (b : Bool) → not b ≡ false → b ≡ true
          was true g = refl
          was false g = absurd (true≢false g)

      pub one_more : (after : BTreeSet ℕ) (added : Bool) → is_some (leaf_at front.leaves x) ≡ false → added ≡ not (contains nat_cmp seen x) → added ≡ true
          → ((q : ℕ) → contains nat_cmp after q ≡ cond (is_at (nat_cmp x) q) true (contains nat_cmp seen q)) → IsFreeTo front new (i + 1) after
      one_more after added f e t u = record {
        free = free f;
        apart = subst AreDifferent (sym longer) (different-push (take i new) x to.apart (λ c. fresh (contains nat_cmp seen x) (sym e ∙ t) ((to.seen_are x).1 c)));
        seen_are = subst (AreSeen after) (sym longer) (one_more_seen seen after (take i new) x to.seen_are u);
      }
        where
          fresh : (b : Bool) → not b ≡ true → b ≡ true → ⊥
          fresh true g h = true≢false (sym g)
          fresh false g h = true≢false (sym h)

      -- one slot alone can't stand twice
      pub only_one : is_some (leaf_at front.leaves x) ≡ false → length new ≡ 1 → IsTrue false ↔ IsOneHeld front new
      only_one f one = not_held (λ y c. free f y (subst (λ ys. Contains ys y) (sym all) c)) (single new one)
        where
          all : take (i + 1) new ≡ new
          all = take_all (i + 1) new (omega (arith, one, l))

          single : (xs : List ℕ) → length xs ≡ 1 → AreDifferent xs
          single [] e = tt
          single (y ∷ []) e = different-one y
          single (y ∷ z ∷ xs) e = absurd (omega (arith, e))

  pub all_free : (i : ℕ) (seen : BTreeSet ℕ) → length new ≤ i → IsFreeTo front new i seen → IsTrue false ↔ IsOneHeld front new
  all_free i seen l to =
      let all = take_all i new l in
      not_held (λ y c. to.free y (subst (λ ys. Contains ys y) (sym all) c)) (subst AreDifferent all to.apart)
