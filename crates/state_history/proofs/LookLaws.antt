-- What a look comes to, by the kinds of formulas.
use Rattle.std.proofs.Common.{ℕ, ◌≡◌, ◌≤◌, ◌↔◌, ◌++◌, Bool, true, false, not, IsTrue, List, [], ◌∷◌, length, Result, Ok, Err, IfOk, OnOk, refl, sym, subst, ◌∙◌, append-nil, true≢false, arith}
use Rattle.std.specs.Bool.{beq}
use Rattle.htn_base.specs.declared.memory.Memory.{Memory}
use Rattle.plan_model.specs.declared.terms.Atom.{Atom}
use Rattle.plan_model.specs.declared.terms.Param.{Param}
use Rattle.plan_model.specs.declared.formulas.Formula.{Formula}
use Rattle.plan_model.specs.declared.formulas.Formula.TheVariants as F
use Rattle.plan_model.specs.plan_meaning.Truth.{State, ground, AreTyped, IsTrueIn}
use Rattle.ground_state.specs.Search.{Is, IsAmongParts, IsFound}
use Rattle.ground_state.proofs.TruthCases as truth
use Rattle.state_history.specs.declared.flips.Flips.{Flips}
use Rattle.state_history.specs.declared.desk.Desk.{Desk}
use Rattle.state_history.specs.Flips.{states, IsSoIn}
use Rattle.state_history.specs.Desks.{IsLater}

pub later-same : (gap : ℕ) (desk : Desk) → IsLater gap desk desk
later-same gap desk = record { values = refl; later = omega arith; within = λ l. l }

pub later-twice : (gap : ℕ) (a b c : Desk) → IsLater gap a b → IsLater gap b c → IsLater gap a c
later-twice gap a b c s t = record {
  values = t.values ∙ s.values;
  later = (let l = s.later in let m = t.later in omega (arith, l, m));
  within = λ l. t.within (s.within l);
}

-- with one more object in force in between
pub later-within : (gap o : ℕ) (a b c d : Desk) (v : List ℕ) → b.values.items ≡ v ++ o ∷ [] → b.since ≡ a.since → IsLater gap b c → a.values.items ≡ v → d.values.items ≡ v → d.since ≡ c.since → IsLater gap a d
later-within gap o a b c d v e f s g h k = record {
  values = h ∙ sym g;
  later = (let l = s.later in omega (arith, l, f, k));
  within = λ l. subst (λ n. n ≤ gap) (sym k) (s.within (subst (λ n. n ≤ gap) (sym f) l));
}

pub as-wanted : (t w : Bool) (P : Type 0) → t ≡ w → IsTrue t ↔ P → Is w P
as-wanted true true P e h = h.0 refl
as-wanted true false P e h = absurd (true≢false e)
as-wanted false true P e h = absurd (true≢false (sym e))
as-wanted false false P e h = λ p. true≢false (sym (h.1 p))

pub as-not-wanted : (t w : Bool) (P : Type 0) → (t ≡ w → ⊥) → IsTrue t ↔ P → Is (not w) P
as-not-wanted true true P n h = absurd (n refl)
as-not-wanted true false P n h = h.0 refl
as-not-wanted false true P n h = λ p. true≢false (sym (h.1 p))
as-not-wanted false false P n h = absurd (n refl)

module _ (I : ℕ → ℕ → Type 0) where
  -- with no more variables it is found where the body is as wanted
  pub found-none : (S : State) (wanted t : Bool) (ps : List Param) (f : Formula) (v : List ℕ) → length ps ≡ 0 → IsTrue t ↔ IsTrueIn I S f v → IsFound I S wanted (beq t wanted) ps f v
  found-none S wanted t (p ∷ ps) f v z h = absurd (omega (arith, z))
  found-none S wanted t [] f v z h = by wanted t h
    where
      one : (P : List ℕ → Type 0) → P v → P (v ++ [])
      one P p = subst P (sym (append-nil v)) p

      each : (P : List ℕ → Type 0) → P v → (os : List ℕ) → AreTyped I [] os → P (v ++ os)
      each P p [] a = one P p
      each P p (o ∷ os) a = absurd a

      by : (wanted t : Bool) → IsTrue t ↔ IsTrueIn I S f v → IsFound I S wanted (beq t wanted) [] f v
      by true true h = ([], tt, one (λ w. Is true (IsTrueIn I S f w)) (as-wanted true true (IsTrueIn I S f v) refl h))
      by true false h = each (λ w. Is false (IsTrueIn I S f w)) (as-not-wanted false true (IsTrueIn I S f v) (λ e. true≢false (sym e)) h)
      by false true h = each (λ w. Is true (IsTrueIn I S f w)) (as-not-wanted true false (IsTrueIn I S f v) (λ e. true≢false e) h)
      by false false h = ([], tt, one (λ w. Is false (IsTrueIn I S f w)) (as-wanted false false (IsTrueIn I S f v) refl h))

  module _ (flips : Flips) (v : List ℕ) (gap : ℕ) (f : Formula) where
    pub if-Holds : (since : ℕ) (a : Atom) (r : Result Bool Memory) → f ≡ F.Holds a → IfOk r (λ t. IsSoIn flips since gap (λ S. IsTrue t ↔ S (ground v a))) → IfOk r (λ t. IsSoIn flips since gap (λ S. IsTrue t ↔ IsTrueIn I S f v))
    if-Holds since a (Ok t) e h = λ j l m. truth.is-Holds I (states flips j) v f a t e (h j l m)
    if-Holds since a (Err x) e h = h

    pub if-Or : (since : ℕ) (ps xs : List Formula) (r : Result Bool Memory) → f ≡ F.Or ps → xs ≡ ps → IfOk r (λ t. IsSoIn flips since gap (λ S. IsAmongParts I S true t xs v)) → IfOk r (λ t. IsSoIn flips since gap (λ S. IsTrue t ↔ IsTrueIn I S f v))
    if-Or since ps xs (Ok t) e d h = λ j l m. truth.is-Or I (states flips j) v f ps xs t e d (h j l m)
    if-Or since ps xs (Err x) e d h = h

    pub if-Exists : (since : ℕ) (ps xs : List Param) (p x : Formula) (r : Result Bool Memory) → f ≡ F.Exists ps p → xs ≡ ps → x ≡ p → IfOk r (λ t. IsSoIn flips since gap (λ S. IsFound I S true t xs x v))
        → IfOk r (λ t. IsSoIn flips since gap (λ S. IsTrue t ↔ IsTrueIn I S f v))
    if-Exists since ps xs p x (Ok t) e d k h = λ j l m. truth.is-Exists I (states flips j) v f ps xs p x t e d k (h j l m)
    if-Exists since ps xs p x (Err y) e d k h = h

    pub if-Imply : (first since : ℕ) (p q x y : Formula) (r : Result Bool Memory) → f ≡ F.Imply p q → x ≡ p → y ≡ q → IsSoIn flips first gap (λ S. IsTrueIn I S x v) → OnOk r (first ≤ since) → IfOk r (λ t. IsSoIn flips since gap (λ S. IsTrue t ↔ IsTrueIn I S y v))
        → IfOk r (λ t. IsSoIn flips since gap (λ S. IsTrue t ↔ IsTrueIn I S f v))
    if-Imply first since p q x y (Ok t) e d k g n h = λ j l m. truth.is-Imply I (states flips j) v f p q x y t e d k (g j (omega (arith, n, l)) m) (h j l m)
    if-Imply first since p q x y (Err z) e d k g n h = h
