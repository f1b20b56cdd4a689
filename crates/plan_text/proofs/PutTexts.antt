-- What stands on a text in the end, where all was put on an empty one that has few bytes.
use Rattle.std.proofs.Common.{ℕ, ◌≡◌, ◌∙◌, ◌<◌, ◌^◌, List, [], length, Result, Ok, Err, IfOk, refl, ap, arith}
use Rattle.htn_base.specs.declared.memory.Memory.{Memory}
use Rattle.text_forms.specs.sheets.Sheets.{Wrote, IsFresh, EndsAs}
use Rattle.text_forms.specs.declared.sheets.sheet.Sheet.{Sheet}
use Rattle.text_forms.specs.declared.sheets.sheet.Ended.{Ended}
use Rattle.text_forms.specs.declared.sheets.sheet.Ended.TheVariants as sheet
use Rattle.text_forms.proofs.sheets.Written.{whole-has, whole-fits, long-counts, long-is-long}
use Rattle.plan_text.specs.Printing.{IsPutWithin}

module _ (whole : List ℕ) {most : ℕ} {s t : Sheet} (fresh : IsFresh [] most s) (w : Wrote whole s t) (text : List ℕ)
    (same : text ≡ t.into.now) (few : length text < 2 ^ 64) where
  pub is_put : (r : Result Ended Memory) → ((n : ℕ) → r ≡ Ok (sheet.TooLong n) → n < 2 ^ 64) → EndsAs t r
      → IfOk r (IsPutWithin whole most text)
  is_put (Ok sheet.Whole) fits e =
      let is : text ≡ whole = same ∙ whole-has fresh w e in
      (is, (let l = ap length is in let f = whole-fits fresh w e in omega (arith, l, f, few)))
  is_put (Ok (sheet.TooLong n)) fits e =
      let counts = long-counts fresh w in
      let n_is = e.2 in
      let small = fits n refl in
      let l = long-is-long fresh w e.0 e.1 in
      (omega (arith, counts, n_is, small), omega (arith, l, counts, n_is, small))
  is_put (Err m) fits e = tt
