-- A repetition in which each step puts what it reads to what stands: here next says what is there, one reads it, and all reads the repetition.
use Rattle.std.proofs.Common.{◌≡◌, Ok, Result, Option, Some, None, sym, ◌∙◌, ap, subst}
use Rattle.text_forms.specs.Placed.{Placed}
use Rattle.gd_reader.specs.declared.stop.Stop.{Stop}
use Rattle.gd_reader.specs.declared.stop.Failure.{Failure}
use Rattle.gd_reader.specs.Answers.{◌>>=◌, Fails}
use Rattle.gd_reader.proofs.Steps.{fails_bind}

module _ {V S : Type 0} (next : S → Placed → Result (Option V) Stop) (behind : V → Placed) (one : S → V → Result S Stop) (all : S → Placed → Result S Stop) where
  abbrev pub fold_by : S → Option V → Result S Stop
  fold_by st None = Ok st
  fold_by st (Some v) = one st v >>= (λ r. all r (behind v))

  module _ (is : (st : S) (p : Placed) → all st p ≡ next st p >>= fold_by st) (st : S) (p : Placed) (whole : Result S Stop) (so_far : all st p ≡ whole) where
    pub fold_end : next st p ≡ Ok None → whole ≡ Ok st
    fold_end e = sym so_far ∙ is st p ∙ ap (λ r. r >>= fold_by st) e

    pub fold_stuck : (e : Failure) → Fails e (next st p) → Fails e whole
    fold_stuck e h = subst (Fails e) (sym (is st p) ∙ so_far) (fails_bind e (next st p) (fold_by st) h)

    pub fold_stop : (e : Failure) (v : V) → next st p ≡ Ok (Some v) → Fails e (one st v) → Fails e whole
    fold_stop e v h f = subst (Fails e) (sym (is st p ∙ ap (λ r. r >>= fold_by st) h) ∙ so_far) (fails_bind e (one st v) (λ r. all r (behind v)) f)

    pub fold_next : (v : V) (st' : S) → next st p ≡ Ok (Some v) → one st v ≡ Ok st' → all st' (behind v) ≡ whole
    fold_next v st' h t = sym (ap (λ a. a >>= (λ r. all r (behind v))) t) ∙ sym (is st p ∙ ap (λ r. r >>= fold_by st) h) ∙ so_far
