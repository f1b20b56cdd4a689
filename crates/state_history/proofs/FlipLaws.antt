-- The gaps that are kept for atoms, once those of one atom are changed.
use Rattle.std.proofs.Common.{ℕ, ◌≡◌, ◌≢◌, ◌<◌, ◌≤◌, ◌⊎◌, ◌↔◌, inl, inr, Bool, true, false, IsTrue, ap, sym, subst, ◌∙◌, true≢false, arith}
use Rattle.std.specs.Prelude.{Result, Ok, Err, OnOk, OnErr}
use Rattle.std.proofs.lemmas.Bool.{cases_eq}
use Rattle.plan_model.specs.declared.terms.GroundAtom.{GroundAtom}
use Rattle.ground_state.proofs.Lists.{one-list-or-not, put-then, taken-then}
use Rattle.ground_state.proofs.StateLaws.{same-atoms}
use Rattle.state_history.specs.declared.gaps.Gaps.{Gaps}
use Rattle.state_history.specs.declared.flips.Flips.{Flips}
use Rattle.state_history.specs.Gaps.{is_true_in, AreAllWithin, AreTurned, flips_at}
use Rattle.state_history.specs.Flips.{key_of, truth_in, states, IsSet, AreSet, changed}
use Rattle.state_history.proofs.GapLaws.{is_odd, until-all}

same-key : (g a : GroundAtom) → key_of g ≡ key_of a → g ≡ a
same-key g a e = same-atoms g a (let p : g.predicate ≡ a.predicate = cc in p) (let p : g.args ≡ a.args = cc in p)

pub same-or-not : (g a : GroundAtom) → (g ≡ a) ⊎ (g ≢ a)
same-or-not g a = elim (cases_eq g.predicate a.predicate) [
  | inl p ↦ elim (one-list-or-not g.args a.args) [ inl e ↦ inl (same-atoms g a p e) | inr d ↦ inr (λ e. d (ap (λ (x : GroundAtom). x.args) e)) ]
  | inr n ↦ inr (λ e. n (ap (λ (x : GroundAtom). x.predicate) e))
]

-- an atom whose gaps are turned at the last one is so from that on
pub set-by : (old new : Flips) (a : GroundAtom) (truth : Bool) → new.last ≡ old.last → AreTurned old.last truth old.gaps (key_of a) new.gaps → IsSet old a truth new
set-by old new a truth l t = record {
  last = l;
  here = t.here.here;
  others = λ j g n. ap (is_true_in j) (t.others (key_of g) (λ e. n (same-key g a e)));
  before = λ j g m. elim (same-or-not g a) [
    | inl e ↦ subst (λ x. truth_in new j x ≡ truth_in old j x) (sym e) (t.here.before j m)
    | inr n ↦ ap (is_true_in j) (t.others (key_of g) (λ e. n (same-key g a e)))
  ];
}

-- past the last gap all is as in it
pub still : (flips : Flips) (j : ℕ) (g : GroundAtom) → flips.last ≤ j → truth_in flips j g ≡ truth_in flips flips.last g
still flips j g l =
    let s = flips.sound (key_of g) in
    let xs = flips_at flips.gaps (key_of g) in
    ap is_odd (until-all flips.last j xs s.within l ∙ sym (until-all flips.last flips.last xs s.within (omega arith)))

pub later-within : (last next : ℕ) (gaps : Gaps) → last ≤ next → AreAllWithin last gaps → AreAllWithin next gaps
later-within last next gaps l all key = record { ordered = (all key).ordered; within = λ k d m. (let w = (all key).within k d m in omega (arith, w, l)) }

pub truth-as : {b c : Bool} → b ≡ c → IsTrue b ↔ IsTrue c
truth-as e = (λ x. sym e ∙ x, λ x. e ∙ x)

-- one atom is made so
pub set-one : (old new : Flips) (a : GroundAtom) (truth : Bool) → IsSet old a truth new → (g : GroundAtom) → states new old.last g ↔ changed truth (states old old.last) (λ x. x ≡ a) g
set-one old new a true s g = elim (same-or-not g a) [
  | inl e ↦ (λ x. inr e, λ x. subst (λ y. IsTrue (truth_in new old.last y)) (sym e) s.here)
  | inr n ↦ (λ x. inl (sym (s.others old.last g n) ∙ x), λ x. elim x [ inl y ↦ s.others old.last g n ∙ y | inr y ↦ absurd (n y) ])
]
set-one old new a false s g = elim (same-or-not g a) [
  | inl e ↦ (λ x. absurd (true≢false (sym (subst (λ y. IsTrue (truth_in new old.last y)) e x) ∙ s.here)), λ x. absurd (x.1 e))
  | inr n ↦ (λ x. (sym (s.others old.last g n) ∙ x, n), λ x. s.others old.last g n ∙ x.0)
]

-- one atom more is made so
pub set-more : (old mid new : Flips) (P Q : GroundAtom → Type 0) (a : GroundAtom) (truth : Bool) → ((g : GroundAtom) → Q g ↔ (P g ⊎ (g ≡ a))) → AreSet old P truth mid → IsSet mid a truth new → AreSet old Q truth new
set-more old mid new P Q a truth more s t = record {
  last = t.last ∙ s.last;
  here = by truth s.here (subst (λ l. (g : GroundAtom) → states new l g ↔ changed truth (states mid l) (λ x. x ≡ a) g) s.last (set-one mid new a truth t));
  before = λ j g m. t.before j g (subst (λ l. j < l) (sym s.last) m) ∙ s.before j g m;
}
  where
    by : (truth : Bool) → ((g : GroundAtom) → states mid old.last g ↔ changed truth (states old old.last) P g) → ((g : GroundAtom) → states new old.last g ↔ changed truth (states mid old.last) (λ x. x ≡ a) g)
        → (g : GroundAtom) → states new old.last g ↔ changed truth (states old old.last) Q g
    by true h k g = put-then (more g) (h g) (k g)
    by false h k g = taken-then (more g) (h g) (k g)

-- what follows from each outcome
pub in-either : {T E P Q X : Type 0} (r : Result T E) → OnOk r P → OnErr r Q → (P → X) → (Q → X) → X
in-either (Ok x) p q f g = f p
in-either (Err e) p q f g = g q
