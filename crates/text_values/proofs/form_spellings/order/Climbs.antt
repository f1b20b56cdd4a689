-- Items of a list whose offsets rise, from one place on up to another.
use Rattle.std.proofs.Common.{◌≡◌, ℕ, suc, ◌≤◌, ◌<◌, List, [], ◌∷◌, ◌++◌, map, All, sym, subst, arith}
use Rattle.std.proofs.lemmas.List.Elements.{All-nil, All-cons, All-contains}
use Rattle.std.proofs.lemmas.List.Kept.{AllPairs-cons}
use Rattle.htn_base.specs.Different.{AreDifferent}
use Rattle.plan_texts.specs.Types.{EachIs}
use Rattle.text_values.specs.form_spellings.Rising.{Rise}

module _ {X : Type 0} (at : X → ℕ) where
  abbrev pub Climbs : ℕ → List X → ℕ → Type 0
  Climbs from [] to = from ≤ to
  Climbs from (x ∷ xs) to = (from ≤ at x) × Climbs (suc (at x)) xs to

  pub climbs_fit : (xs : List X) (from to : ℕ) → Climbs from xs to → from ≤ to
  climbs_fit [] from to c = c
  climbs_fit (x ∷ xs) from to c = let a = c.0 in let b = climbs_fit xs (suc (at x)) to c.1 in omega arith

  pub climbs_from : (xs : List X) (before from to : ℕ) → before ≤ from → Climbs from xs to → Climbs before xs to
  climbs_from [] before from to l c = omega arith
  climbs_from (x ∷ xs) before from to l c = let a = c.0 in (omega arith, c.1)

  pub climbs_to : (xs : List X) (from to later : ℕ) → to ≤ later → Climbs from xs to → Climbs from xs later
  climbs_to [] from to later l c = omega arith
  climbs_to (x ∷ xs) from to later l c = (c.0, climbs_to xs (suc (at x)) to later l c.1)

  pub climbs_join : (xs ys : List X) (from middle to : ℕ) → Climbs from xs middle → Climbs middle ys to → Climbs from (xs ++ ys) to
  climbs_join [] ys from middle to c d = climbs_from ys from middle to c d
  climbs_join (x ∷ xs) ys from middle to c d = (c.0, climbs_join xs ys (suc (at x)) middle to c.1 d)

  pub climbs_one : (x : X) (from to : ℕ) → from ≤ at x → at x < to → Climbs from (x ∷ []) to
  climbs_one x from to l m = (l, omega arith)

  -- one more in front, at a known place
  pub climbs_put : (x : X) (xs : List X) (here from to : ℕ) → at x ≡ here → from ≤ here → Climbs (suc here) xs to → Climbs from (x ∷ xs) to
  climbs_put x xs here from to e l c = (subst (λ n. from ≤ n) (sym e) l, subst (λ n. Climbs (suc n) xs to) (sym e) c)

  above : (xs : List X) (from to : ℕ) → Climbs from xs to → (k : ℕ) → k < from → All (λ y. k < y) (map at xs)
  above [] from to c k l = All-nil (λ y. k < y)
  above (x ∷ xs) from to c k l = let a = c.0 in All-cons (λ y. k < y) (at x) (map at xs) (omega arith) (above xs (suc (at x)) to c.1 k (omega arith))

  pub climbs_rise : (xs : List X) (from to : ℕ) → Climbs from xs to → Rise (map at xs)
  climbs_rise [] from to c = λ i j d l m. absurd (omega arith)
  climbs_rise (x ∷ xs) from to c = AllPairs-cons (λ x y. x < y) (at x) (map at xs) (above xs (suc (at x)) to c.1 (at x) (omega arith)) (climbs_rise xs (suc (at x)) to c.1)

  -- a place in front of them, and one behind them
  pub lacks_before : (xs : List X) (from to n : ℕ) → Climbs from xs to → n < from → EachIs (λ x. n ≡ at x → ⊥) xs
  lacks_before [] from to n c l = tt
  lacks_before (x ∷ xs) from to n c l = let a = c.0 in ((λ e. absurd (omega arith)), lacks_before xs (suc (at x)) to n c.1 (omega arith))

  pub lacks_behind : (xs : List X) (from to n : ℕ) → Climbs from xs to → to ≤ n → EachIs (λ x. n ≡ at x → ⊥) xs
  lacks_behind [] from to n c l = tt
  lacks_behind (x ∷ xs) from to n c l = let a = climbs_fit xs (suc (at x)) to c.1 in ((λ e. absurd (omega arith)), lacks_behind xs (suc (at x)) to n c.1 l)

  pub climbs_differ : (xs : List X) (from to : ℕ) → Climbs from xs to → AreDifferent (map at xs)
  climbs_differ [] from to c = tt
  climbs_differ (x ∷ xs) from to c = (λ h. (let l = All-contains (λ y. at x < y) (map at xs) (at x) (above xs (suc (at x)) to c.1 (at x) (omega arith)) h in absurd (omega arith)), climbs_differ xs (suc (at x)) to c.1)
