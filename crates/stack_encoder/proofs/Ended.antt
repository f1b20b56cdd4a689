-- What stands on a text when all was put on a sheet over it.
use Rattle.std.proofs.Common.{ℕ, ◌≡◌, ◌^◌, ◌<◌, List, [], ◌++◌, Result, Ok, Err, IfOk, inl, inr, ap, refl, subst, ◌∙◌, arith}
use Rattle.htn_base.specs.declared.memory.Memory.{Memory}
use Rattle.plan_texts.specs.PrintedTexts.{domain_text, problem_text}
use Rattle.plan_model.specs.declared.values.Pddl.{Pddl}
use Rattle.text_forms.specs.sheets.Sheets.{Wrote, IsFresh, EndsAs}
use Rattle.text_forms.specs.declared.sheets.sheet.Sheet.{Sheet}
use Rattle.text_forms.specs.declared.sheets.sheet.Ended.{Ended}
use Rattle.text_forms.specs.declared.sheets.sheet.Ended.TheVariants.{Whole, TooLong}
use Rattle.text_forms.proofs.sheets.Written.{whole-has, whole-fits, long-counts, long-is-long}
use Rattle.problem_texts.specs.Lengths.{IsFirstPast}
use Rattle.problem_texts.specs.Pages.{IsAppended, AreTextsWithin}
use Rattle.problem_texts.specs.declared.printing.Printed.TheVariants as P

-- the text is as the sheet has it in the end
module _ {bytes old : List ℕ} {limit : ℕ} {s t : Sheet} (fresh : IsFresh old limit s) (w : Wrote bytes s t) (new : List ℕ) (same : new ≡ t.into.now) where
  pub is-appended : (r : Result Ended Memory) → ((n : ℕ) → r ≡ Ok (TooLong n) → n < 2 ^ 64) → EndsAs t r → IfOk r (IsAppended bytes limit old new)
  is-appended (Ok Whole) fits e = (same ∙ whole-has fresh w e, whole-fits fresh w e)
  is-appended (Ok (TooLong n)) fits e =
      (long-is-long fresh w e.0 e.1, (let counts = long-counts fresh w in let n_is = e.2 in let small = fits n refl in omega (arith, counts, n_is, small)))
  is-appended (Err m) fits e = tt

module _ (limit : ℕ) (p : Pddl) where
  -- the domain is the first that is too long
  pub past-domain : (old new : List ℕ) (ended : Ended) (n : ℕ) → ended ≡ TooLong n → IsAppended (domain_text p) limit old new ended → IsFirstPast limit (domain_text p) (problem_text p) n
  past-domain old new ended n is past = inl (subst (IsAppended (domain_text p) limit old new) is past)

  -- the problem is the first
  pub past-problem : (old new old' new' : List ℕ) (ended ended' : Ended) (n : ℕ) → ended ≡ Whole → ended' ≡ TooLong n → IsAppended (domain_text p) limit old new ended → IsAppended (problem_text p) limit old' new' ended'
      → IsFirstPast limit (domain_text p) (problem_text p) n
  past-problem old new old' new' ended ended' n is is' domain problem =
      let d = subst (IsAppended (domain_text p) limit old new) is domain in
      let r = subst (IsAppended (problem_text p) limit old' new') is' problem in
      inr (d.1, r.0, r.1)

  -- neither is too long
  pub both-within : (old new old' new' : List ℕ) (ended ended' : Ended) → old ≡ [] → old' ≡ [] → ended ≡ Whole → ended' ≡ Whole → IsAppended (domain_text p) limit old new ended → IsAppended (problem_text p) limit old' new' ended'
      → AreTextsWithin p limit (P.Whole (record { domain = new; problem = new' }))
  both-within old new old' new' ended ended' none none' is is' domain problem =
      let d = subst (IsAppended (domain_text p) limit old new) is domain in
      let r = subst (IsAppended (problem_text p) limit old' new') is' problem in
      (d.0 ∙ ap (λ o. o ++ domain_text p) none, r.0 ∙ ap (λ o. o ++ problem_text p) none', d.1, r.1)
