-- What comes right after in the methods, one method after another.
use Rattle.std.proofs.Common.{ℕ, ◌≡◌, ◌+◌, ◌<◌, ◌≤◌, List, [], ◌∷◌, ◌++◌, length, get_or, Some, slice_get, refl, ap, sym, subst, ◌∙◌, arith}
use Rattle.std.specs.Prelude.{Result, Ok, Err, IfOk, IsOkAnd}
use Rattle.std.proofs.Math.Decide.{ℕ_discrete}
use Rattle.std.proofs.lemmas.List.{length-append}
use Rattle.std.proofs.lemmas.Option.{slice_get_read}
use Rattle.plan_model.specs.declared.schemas.MethodPlan.{MethodPlan}
use Rattle.plan_model.specs.declared.values.Compiled.{Compiled}
use Rattle.tree_core.proofs.Gets.{get_left, get_right, get_within}
use Rattle.kept_front.specs.declared.later.Later.{Later}
use Rattle.kept_front.specs.Later.{AreLater, AreAllLater, HasSoundPairs}

-- those of the first n methods
pub record AreLaterUpTo (plans : List MethodPlan) (n : ℕ) (laters : List Later) : Type 0 where
  pub many : length laters ≡ n
  pub each : (m : ℕ) (plan : MethodPlan) → m < n → slice_get plans m ≡ Some plan
      → (later : Later) × (slice_get laters m ≡ Some later) × AreLater plan.schema.pairs later

pub none_yet : (plans : List MethodPlan) → AreLaterUpTo plans 0 []
none_yet plans = record { many = refl; each = λ m plan l e. absurd (omega arith) }

pub one_more : (plans : List MethodPlan) (n : ℕ) (laters : List Later) (plan : MethodPlan) (later : Later)
    → AreLaterUpTo plans n laters → slice_get plans n ≡ Some plan → AreLater plan.schema.pairs later
    → AreLaterUpTo plans (n + 1) (laters ++ later ∷ [])
one_more plans n laters plan later so is l = record {
  many = length-append laters (later ∷ []) ∙ (let e = so.many in omega arith);
  each = each;
}
  where
    last : slice_get (laters ++ later ∷ []) n ≡ Some later
    last =
        ap (slice_get (laters ++ later ∷ [])) (let e = so.many in let f : n ≡ length laters + 0 = omega arith in f)
        ∙ get_right laters (later ∷ []) 0

    each : (m : ℕ) (p : MethodPlan) → m < n + 1 → slice_get plans m ≡ Some p
        → (k : Later) × (slice_get (laters ++ later ∷ []) m ≡ Some k) × AreLater p.schema.pairs k
    each m p lt e = elim (ℕ_discrete m n) [
      | yes f ↦ (
          let g : plan ≡ p = (let i = ap (slice_get plans) (sym f) ∙ e in let j = is in cc) in
          (later, ap (slice_get (laters ++ later ∷ [])) f ∙ last, subst (λ (z : MethodPlan). AreLater z.schema.pairs later) g l))
      | no d ↦ (
          let (k, at, are) = so.each m p (omega arith) e in
          (k, get_left laters (later ∷ []) m k at, are))
    ]

-- the next is what has been made of the next method
pub next_made : {E : Type 0} (plans items : List MethodPlan) (n : ℕ) (old new : List Later) (plan : MethodPlan) (made : Result Later E)
    → items ≡ plans → AreLaterUpTo plans n old → n < length items → plan ≡ get_or items n plan
    → IfOk made (AreLater plan.schema.pairs) → IsOkAnd made (λ later. new ≡ old ++ later ∷ []) → AreLaterUpTo plans (n + 1) new
next_made plans items n old new plan (Ok later) same so l is are put =
    let at = subst (λ z. slice_get z n ≡ Some plan) same (slice_get_read items (length items) n plan refl l is) in
    subst (AreLaterUpTo plans (n + 1)) (sym put) (one_more plans n old plan later so at are)
next_made plans items n old new plan (Err e) same so l is are put = absurd put

pub all_later : (c : Compiled) (n : ℕ) (laters : List Later) → HasSoundPairs c → length c.methods ≤ n → AreLaterUpTo c.methods n laters
    → AreAllLater c laters
all_later c n laters sound le so m plan e =
    let (later, at, are) = so.each m plan (let l = get_within c.methods m plan e in omega arith) e in
    (later, at, are, (sound m plan e).different)
