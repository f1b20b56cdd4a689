-- What stands on an empty text when all was put on a sheet over it.
use Rattle.std.proofs.Common.{ℕ, ◌≡◌, ◌^◌, ◌<◌, ◌≤◌, List, [], ◌++◌, length, Result, Ok, Err, IfOk, inl, inr, ap, sym, refl, subst, ◌∙◌, arith}
use Rattle.htn_base.specs.declared.memory.Memory.{Memory}
use Rattle.plan_model.specs.declared.values.Hddl.{Hddl}
use Rattle.text_forms.specs.sheets.Sheets.{capped, Wrote, IsFresh, EndsAs}
use Rattle.text_forms.specs.declared.sheets.sheet.Sheet.{Sheet}
use Rattle.text_forms.specs.declared.sheets.sheet.Ended.{Ended}
use Rattle.text_forms.specs.declared.sheets.sheet.Ended.TheVariants.{Whole, TooLong}
use Rattle.text_forms.proofs.sheets.Written.{whole-has, whole-fits, long-counts, long-is-long}
use Rattle.hddl_texts.specs.PrintedHddl.{hddl_domain_text, hddl_problem_text}
use Rattle.hddl_texts.specs.Lengths.{IsTextWithin, IsFirstPast, ArePrintedWithin}
use Rattle.hddl_texts.specs.declared.texts.Printed.TheVariants as P

-- the text is as the sheet has it in the end
module _ {bytes old : List ℕ} {limit : ℕ} {s t : Sheet} (fresh : IsFresh old limit s) (w : Wrote bytes s t) (empty : old ≡ []) (new : List ℕ) (same : new ≡ t.into.now) where
  pub is-within : (r : Result Ended Memory) → ((n : ℕ) → r ≡ Ok (TooLong n) → n < 2 ^ 64) → EndsAs t r → IfOk r (IsTextWithin bytes limit new)
  is-within (Ok Whole) fits e = (same ∙ whole-has fresh w e ∙ ap (λ o. o ++ bytes) empty, whole-fits fresh w e)
  is-within (Ok (TooLong n)) fits e =
      (long-is-long fresh w e.0 e.1, (let counts = long-counts fresh w in let n_is = e.2 in let small = fits n refl in omega (arith, counts, n_is, small)))
  is-within (Err m) fits e = tt

module _ (h : Hddl) (limit : ℕ) (new : List ℕ) (ended : Ended) (domain : IsTextWithin (hddl_domain_text h) limit new ended) where
  -- the domain is the first that is too long
  pub past-domain : (n : ℕ) → ended ≡ TooLong n → IsFirstPast limit (hddl_domain_text h) (hddl_problem_text h) n
  past-domain n is = inl (subst (IsTextWithin (hddl_domain_text h) limit new) is domain)

  module _ (new' : List ℕ) (ended' : Ended) (problem : IsTextWithin (hddl_problem_text h) limit new' ended') (is : ended ≡ Whole) where
    -- the problem is the first
    pub past-problem : (n : ℕ) → ended' ≡ TooLong n → IsFirstPast limit (hddl_domain_text h) (hddl_problem_text h) n
    past-problem n is' =
        let d = subst (IsTextWithin (hddl_domain_text h) limit new) is domain in
        let p = subst (IsTextWithin (hddl_problem_text h) limit new') is' problem in
        inr (d.1, p.0, p.1)

    -- neither is too long
    pub both-within : ended' ≡ Whole → ArePrintedWithin h limit (P.Whole (record { domain = new; problem = new' }))
    both-within is' =
        let d = subst (IsTextWithin (hddl_domain_text h) limit new) is domain in
        let p = subst (IsTextWithin (hddl_problem_text h) limit new') is' problem in
        (d.0, p.0, subst (λ text. capped (length text) ≤ limit) (sym d.0) d.1, subst (λ text. capped (length text) ≤ limit) (sym p.0) p.1)
