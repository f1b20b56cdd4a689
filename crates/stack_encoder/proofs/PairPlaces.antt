-- The first place of a pair in a list.
use Rattle.std.proofs.Common.{ℕ, ◌≡◌, ◌+◌, ◌<◌, inl, inr, Bool, true, false, cond, nat_lt, Option, Some, None, MatchOption, List, take, drop, length, get_or, Contains, refl, ap, sym, subst, ◌∙◌, arith, eq-eqb}
use Rattle.std.specs.List.{position, position_or_len}
use Rattle.std.proofs.lemmas.Bool.{lt-ltb}
use Rattle.std.proofs.lemmas.List.{take-append-drop, length-take, length-drop}
use Rattle.std.proofs.lemmas.List.Elements.{Contains-append_left, Contains-append_right, Contains-append_cases}
use Rattle.std.proofs.lemmas.List.Quantifiers.{position-Some}
use Rattle.std.proofs.lemmas.List.Sums.{fails_before_first}
use Rattle.plan_model.specs.declared.networks.Pair.{Pair}
use Rattle.plan_model.specs.plan_meaning.Compilation.{same_pair}
use Rattle.plan_model.proofs.plan_meaning.Pairs.{tells_pair}

module _ (w : Pair) where
  abbrev is_it : Pair → Bool
  is_it p = same_pair p w

  found-in : (ps : List Pair) (k : ℕ) → position is_it ps ≡ Some k → (k < length ps) × Contains ps w
  found-in ps k e =
      let it = position-Some is_it ps k w e in
      (it.0, elim (tells_pair (get_or ps k w) w) [ inl other ↦ absurd (let yes = it.1 in cc) | inr same ↦ (k, it.0, same) ])

  itself : is_it w ≡ true
  itself = rw (eq-eqb w.first w.first refl) (eq-eqb w.then w.then refl)

  none-in : (ps : List Pair) → position is_it ps ≡ None → Contains ps w → ⊥
  none-in ps e (k, l, is) = go (nat_lt (position_or_len is_it ps) (length ps)) refl
    where
      go : (b : Bool) → nat_lt (position_or_len is_it ps) (length ps) ≡ b → ⊥
      go true t = let f : position is_it ps ≡ Some (position_or_len is_it ps) = ap (λ b. cond b (Some (position_or_len is_it ps)) None) t in cc
      go false f =
          let end : position_or_len is_it ps < length ps → ⊥ = λ h. (let yes = lt-ltb (position_or_len is_it ps) (length ps) h in cc) in
          let fails = fails_before_first is_it ps k w (omega (arith, end)) in
          let passes = ap is_it is ∙ itself in cc

  -- sought from a place on, and then before it
  module _ (ps : List Pair) (start : ℕ) where
    pub found_from : (k : ℕ) → position is_it (drop start ps) ≡ Some k → (start + k < length ps) × Contains ps w
    found_from k e =
        let it = found-in (drop start ps) k e in
        let within = it.0 in (
          omega (arith, within, length-drop start ps),
          subst (λ xs. Contains xs w) (take-append-drop start ps) (Contains-append_right (take start ps) (drop start ps) w it.1),
        )

    pub found_before : (o : Option ℕ) → position is_it (drop start ps) ≡ None → o ≡ position is_it (take start ps) → MatchOption o (Contains ps w → ⊥) (λ k. (k < length ps) × Contains ps w)
    found_before None e f = λ c. elim (Contains-append_cases (take start ps) (drop start ps) w (subst (λ xs. Contains xs w) (sym (take-append-drop start ps)) c)) [
      | inl h ↦ none-in (take start ps) (sym f) h
      | inr h ↦ none-in (drop start ps) e h
    ]
    found_before (Some k) e f =
        let it = found-in (take start ps) k (sym f) in
        let within = it.0 in (
          omega (arith, within, length-take start ps),
          subst (λ xs. Contains xs w) (take-append-drop start ps) (Contains-append_left (take start ps) (drop start ps) w it.1),
        )
