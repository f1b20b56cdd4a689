-- Pairs are single where the marks of those before tell which are new.
use Rattle.std.proofs.Common.{ℕ, ◌≡◌, ◌≢◌, ◌&&◌, ◌==◌, ◌+◌, ◌<◌, ◌⊎◌, inl, inr, Bool, true, false, not, List, [], ◌∷◌, ◌++◌, length, take, drop, get_or, refl, ap, sym, ◌∙◌, arith}
use Rattle.std.proofs.lemmas.Bool.{false≢true, true≢false}
use Rattle.std.proofs.lemmas.Bool.Decides.{eqb_tells}
use Rattle.std.proofs.lemmas.List.{take_all, take-append-le}
use Rattle.plan_model.specs.declared.networks.Pair.{Pair}
use Rattle.plan_model.specs.plan_meaning.Compilation.{once, same_pair}
use Rattle.plan_model.specs.net_order.Marks.{marked}
use Rattle.plan_model.specs.net_order.Closure.{IsDirect}
use Rattle.bound_calc.proofs.method_precs.Fits.{same_itself}
use Rattle.plan_model.proofs.plan_meaning.Once.{has_there, not_there, once_next_new, once_next_old}

-- a slice as long as the list that is written over the list
pub written : {X : Type 0} (n : ℕ) (xs ys : List X) → length xs ≡ n → take n (xs ++ drop (length xs) ys) ≡ xs
written n xs ys e = take-append-le n xs (drop (length xs) ys) (omega arith) ∙ take_all n xs (omega arith)

tells_pair : (p q : Pair) → (same_pair p q ≡ false) ⊎ (p ≡ q)
tells_pair p q = go (eqb_tells p.first q.first) (eqb_tells p.then q.then)
  where
    go : (((p.first == q.first) ≡ true) × (p.first ≡ q.first)) ⊎ (((p.first == q.first) ≡ false) × (p.first ≢ q.first)) → (((p.then == q.then) ≡ true) × (p.then ≡ q.then)) ⊎ (((p.then == q.then) ≡ false) × (p.then ≢ q.then)) → (same_pair p q ≡ false) ⊎ (p ≡ q)
    go (inl a) (inl b) = inr (λ i. record { first = a.1 i; then = b.1 i })
    go (inl a) (inr b) = inl (ap (λ x. x && (p.then == q.then)) a.0 ∙ b.0)
    go (inr a) b = inl (ap (λ x. x && (p.then == q.then)) a.0)

pub not_true : (b : Bool) → not b ≡ true → b ≡ false
not_true true e = absurd (true≢false (sym e))
not_true false e = refl

pub not_false : (b : Bool) → not b ≡ false → b ≡ true
not_false true e = refl
not_false false e = absurd (true≢false e)

module _ (count : ℕ) (pairs : List Pair) (k : ℕ) (d : Pair) (l : k < length pairs)
    (now : List (List Bool)) (direct : IsDirect count (take k pairs) now)
    (told : Bool) (is : told ≡ not (marked now (get_or pairs k d).first (get_or pairs k d).then)) where
  abbrev next : Pair
  next = get_or pairs k d

  pub single_new : told ≡ true → once same_pair (take (k + 1) pairs) ≡ once same_pair (take k pairs) ++ get_or pairs k d ∷ []
  single_new t =
      let unmarked = not_true (marked now next.first next.then) (sym is ∙ t) in
      once_next_new same_pair pairs k d l (not_there same_pair same_itself tells_pair (take k pairs) next (λ c. false≢true (sym unmarked ∙ (direct.marks next.first next.then).1 c)))

  pub single_old : told ≡ false → once same_pair (take (k + 1) pairs) ≡ once same_pair (take k pairs)
  single_old t = once_next_old same_pair pairs k d l (has_there same_pair same_itself tells_pair (take k pairs) next ((direct.marks next.first next.then).0 (not_false (marked now next.first next.then) (sym is ∙ t))))
