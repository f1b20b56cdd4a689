-- A list that is sorted by places, in which one thing may stand several times, names the same things in the same order as the list
-- at rising places in which each stands once.
use Rattle.std.proofs.Common.{◌≡◌, ◌∙◌, ◌⊎◌, inl, inr, ℕ, suc, ◌≤◌, ◌<◌, Bool, true, false, cond, List, [], ◌∷◌, ◌++◌, length, slice_index_or, refl, sym, ap, subst, arith}
use Rattle.std.proofs.lemmas.Bool.{cond-true, cond-false, or_left, or_right}
use Rattle.std.specs.List.{list_any}
use Rattle.std.specs.List.Sorted.{IsNonDecreasingBy}
use Rattle.plan_texts.specs.Types.{Has, EachIs}
use Rattle.plan_texts.proofs.Members.{each-has}
use Rattle.text_values.specs.form_spellings.Written.{Written, all_written}
use Rattle.text_values.proofs.form_spellings.order.Climbs.{Climbs}
use Rattle.text_values.proofs.form_spellings.seen.Adding.{Same}

module _ {X : Type 0} where
  abbrev pub place : Written X → ℕ
  place w = w.at

  -- no later one stands earlier
  abbrev pub Sorted : List (Written X) → Type 0
  Sorted [] = Unit {0}
  Sorted (w ∷ ws) = EachIs (λ v. w.at ≤ v.at) ws × Sorted ws

  pub sorted : (ws : List (Written X)) → IsNonDecreasingBy (λ (w : Written X). w.at) ws → Sorted ws
  sorted [] n = tt
  sorted (w ∷ ws) n = (each ws (λ j l. n 0 (suc j) w (omega arith) (omega arith)), sorted ws (λ i j d l m. n (suc i) (suc j) d (omega arith) (omega arith)))
    where
      each : (vs : List (Written X)) → ((j : ℕ) → j < length vs → w.at ≤ (slice_index_or vs j w).at) → EachIs (λ v. w.at ≤ v.at) vs
      each [] h = tt
      each (v ∷ vs) h = (h 0 (omega arith), each vs (λ j l. h (suc j) (omega arith)))

  behind : (ws : List (Written X)) (from to : ℕ) → Climbs place from ws to → EachIs (λ v. from ≤ v.at) ws
  behind [] from to c = tt
  behind (w ∷ ws) from to c = (c.0, later ws (behind ws (suc w.at) to c.1))
    where
      later : (vs : List (Written X)) → EachIs (λ v. suc w.at ≤ v.at) vs → EachIs (λ v. from ≤ v.at) vs
      later [] e = tt
      later (v ∷ vs) e = let a = e.0 in let b = c.0 in (omega arith, later vs e.1)

  -- what is kept of a list: things that were not seen before, each once, where a test tells which are the same
  module _ (same : X → X → Bool) (alike : (x : X) → same x x ≡ true) (kept : List X → List X → List X) (none : (seen : List X) → kept seen [] ≡ [])
      (more : (seen : List X) (x : X) (xs : List X) → kept seen (x ∷ xs) ≡ cond (list_any (same x) seen) (kept seen xs) (x ∷ kept (x ∷ seen) xs)) where
    -- each of the sorted list was seen before these places, or stands in the other list, whose members all stand in it
    record Agree (seen : List X) (from : ℕ) (ss ts : List (Written X)) : Type 0 where
      to : (w : Written X) → Has ss w → ((list_any (same w.is) seen ≡ true) × (w.at < from)) ⊎ Has ts w
      back : (w : Written X) → Has ts w → Has ss w

    -- the first of the one is the first of the other
    first : (seen : List X) (from to : ℕ) (s t : Written X) (ss ts : List (Written X)) → Sorted (s ∷ ss) → Climbs place from (t ∷ ts) to → Has (t ∷ ts) s → Has (s ∷ ss) t → t ≡ s
    first seen from to s t ss ts o c (inl e) h = e
    first seen from to s t ss ts o c (inr k) (inl e) = sym e
    first seen from to s t ss ts o c (inr k) (inr h) =
        let a = each-has (λ v. suc t.at ≤ v.at) ts s (behind ts (suc t.at) to c.1) k in
        let b = each-has (λ v. s.at ≤ v.at) ss t o.0 h in
        absurd (omega arith)

    -- one that was seen is passed over
    passed : (s : Written X) (ss ts : List (Written X)) (seen : List X) (from to : ℕ) → s.at < from → Climbs place from ts to → Agree seen from (s ∷ ss) ts → Agree seen from ss ts
    passed s ss ts seen from to l c a = record { to = λ w h. a.to w (inr h); back = λ w h. back w h (a.back w h) }
      where
        back : (w : Written X) → Has ts w → (s ≡ w) ⊎ Has ss w → Has ss w
        back w h (inl e) = let b = each-has (λ v. from ≤ v.at) ts w (behind ts from to c) h in let f = ap place e in absurd (omega arith)
        back w h (inr k) = k

    -- and so is one that is the first of both, in front of these things
    both_passed : (s t : Written X) (ss ts : List (Written X)) (old seen : List X) (from to : ℕ) → t ≡ s → Climbs place from (t ∷ ts) to → Agree old from (s ∷ ss) (t ∷ ts)
        → ((x : X) → list_any (same x) old ≡ true → list_any (same x) seen ≡ true) → list_any (same s.is) seen ≡ true → Agree seen (suc t.at) ss ts
    both_passed s t ss ts old seen from to e c a grown here = record { to = λ w h. to_w w (a.to w (inr h)); back = λ w h. back w h (a.back w (inr h)) }
      where
        to_w : (w : Written X) → ((list_any (same w.is) old ≡ true) × (w.at < from)) ⊎ ((t ≡ w) ⊎ Has ts w) → ((list_any (same w.is) seen ≡ true) × (w.at < suc t.at)) ⊎ Has ts w
        to_w w (inl x) = let l = c.0 in let m = x.1 in inl (grown w.is x.0, omega arith)
        to_w w (inr (inl f)) = inl (subst (λ (v : Written X). list_any (same v.is) seen ≡ true) (sym e ∙ f) here, let g = ap place f in omega arith)
        to_w w (inr (inr k)) = inr k

        back : (w : Written X) → Has ts w → (s ≡ w) ⊎ Has ss w → Has ss w
        back w h (inl f) = let b = each-has (λ v. suc t.at ≤ v.at) ts w (behind ts (suc t.at) to c.1) h in let g = ap place (e ∙ f) in absurd (omega arith)
        back w h (inr k) = k

    abbrev NamesSame : List (Written X) → List (Written X) → List X → Type 0
    NamesSame ss ts seen = kept seen (all_written ss) ≡ kept seen (all_written ts)

    names_same : (ss ts : List (Written X)) (seen : List X) (from to : ℕ) → Sorted ss → Climbs place from ts to → Agree seen from ss ts → NamesSame ss ts seen
    names_same [] [] seen from to o c a = refl
    names_same [] (t ∷ ts) seen from to o c a = absurd (a.back t (inl refl))
    names_same (s ∷ ss) [] seen from to o c a = go (a.to s (inl refl)) (λ b. names_same ss [] seen from to o.1 c b)
      where
        go : ((list_any (same s.is) seen ≡ true) × (s.at < from)) ⊎ Has [] s → (Agree seen from ss [] → NamesSame ss [] seen) → NamesSame (s ∷ ss) [] seen
        go (inl x) rest = more seen s.is (all_written ss) ∙ cond-true _ _ _ x.0 ∙ rest (passed s ss [] seen from to x.1 c a)
        go (inr k) rest = absurd k
    names_same (s ∷ ss) (t ∷ ts) seen from to o c a = go (a.to s (inl refl)) (λ b. names_same ss (t ∷ ts) seen from to o.1 c b) (λ seen b. names_same ss ts seen (suc t.at) to o.1 c.1 b)
      where
        step : t ≡ s → (b : Bool) → list_any (same s.is) seen ≡ b → ((seen : List X) → Agree seen (suc t.at) ss ts → NamesSame ss ts seen) → kept seen (s.is ∷ all_written ss) ≡ kept seen (s.is ∷ all_written ts)
        step e true f rest =
            more seen s.is (all_written ss) ∙ cond-true _ _ _ f ∙ rest seen (both_passed s t ss ts seen seen from to e c a (λ x h. h) f) ∙ sym (more seen s.is (all_written ts) ∙ cond-true _ _ _ f)
        step e false f rest =
            let grown : (x : X) → list_any (same x) seen ≡ true → list_any (same x) (s.is ∷ seen) ≡ true = λ x h. or_right (same x s.is) (list_any (same x) seen) h in
            let both = both_passed s t ss ts seen (s.is ∷ seen) from to e c a grown (or_left (same s.is s.is) (list_any (same s.is) seen) (alike s.is)) in
            more seen s.is (all_written ss) ∙ cond-false _ _ _ f ∙ ap (λ xs. s.is ∷ xs) (rest (s.is ∷ seen) both) ∙ sym (more seen s.is (all_written ts) ∙ cond-false _ _ _ f)

        go : ((list_any (same s.is) seen ≡ true) × (s.at < from)) ⊎ Has (t ∷ ts) s → (Agree seen from ss (t ∷ ts) → NamesSame ss (t ∷ ts) seen) → ((seen : List X) → Agree seen (suc t.at) ss ts → NamesSame ss ts seen) → NamesSame (s ∷ ss) (t ∷ ts) seen
        go (inl x) rest both = more seen s.is (all_written ss) ∙ cond-true _ _ _ x.0 ∙ rest (passed s ss (t ∷ ts) seen from to x.1 c a)
        go (inr k) rest both =
            let e = first seen from to s t ss ts o c k (a.back t (inl refl)) in
            step e (list_any (same s.is) seen) refl both ∙ ap (λ (w : Written X). kept seen (w.is ∷ all_written ts)) (sym e)

    pub kept_same : (ss ts : List (Written X)) (seen : List X) (from to : ℕ) → IsNonDecreasingBy (λ (w : Written X). w.at) ss → Climbs place from ts to → Same ss ts → kept seen (all_written ss) ≡ kept seen (all_written ts)
    kept_same ss ts seen from to n c is = names_same ss ts seen from to (sorted ss n) c (record { to = λ w h. inr ((is w).0 h); back = λ w h. (is w).1 h })

    -- what is kept of two lists, one behind the other, depends on what is kept of each
    pushed : List X → List X → List X
    pushed [] seen = seen
    pushed (x ∷ xs) seen = pushed xs (x ∷ seen)

    abbrev Splits : List X → List X → List X → Type 0
    Splits xs ys seen = kept seen (xs ++ ys) ≡ kept seen xs ++ kept (pushed (kept seen xs) seen) ys

    kept_split : (xs ys seen : List X) → Splits xs ys seen
    unfolding pushed
    kept_split [] ys seen = sym (ap (λ ks. ks ++ kept (pushed ks seen) ys) (none seen))
    kept_split (x ∷ xs) ys seen = go (list_any (same x) seen) refl (kept_split xs ys seen) (kept_split xs ys (x ∷ seen))
      where
        go : (b : Bool) → list_any (same x) seen ≡ b → Splits xs ys seen → Splits xs ys (x ∷ seen) → Splits (x ∷ xs) ys seen
        go true e rest later =
            let here = more seen x xs ∙ cond-true _ _ _ e in
            more seen x (xs ++ ys) ∙ cond-true _ _ _ e ∙ rest ∙ sym (ap (λ ks. ks ++ kept (pushed ks seen) ys) here)
        go false e rest later =
            let here = more seen x xs ∙ cond-false _ _ _ e in
            more seen x (xs ++ ys) ∙ cond-false _ _ _ e ∙ ap (λ ks. x ∷ ks) later ∙ sym (ap (λ ks. ks ++ kept (pushed ks seen) ys) here)

    pub kept_both : (xs xs' ys ys' seen : List X) → kept seen xs ≡ kept seen xs' → ((seen : List X) → kept seen ys ≡ kept seen ys') → kept seen (xs ++ ys) ≡ kept seen (xs' ++ ys')
    kept_both xs xs' ys ys' seen e f = kept_split xs ys seen ∙ ap (λ ks. ks ++ kept (pushed ks seen) ys) e ∙ ap (λ us. kept seen xs' ++ us) (f (pushed (kept seen xs') seen)) ∙ sym (kept_split xs' ys' seen)
