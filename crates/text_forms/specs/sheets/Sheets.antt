-- What is put on a sheet, what is counted, and what stands on the text in the end.
-- Source: this project's.
use Rattle.std.specs.Prelude.{ℕ, ◌≡◌, ◌+◌, ◌-◌, ◌^◌, ◌<◌, ◌≤◌, ◌⊎◌, min, true, false, Ok, Err, Result, List, ◌++◌, length}
use Rattle.htn_base.specs.declared.memory.Memory.{Memory}
use Rattle.text_forms.specs.declared.sheets.sheet.Ended.{Ended}
use Rattle.text_forms.specs.declared.sheets.sheet.Ended.TheVariants.{Whole, TooLong}
use Rattle.text_forms.specs.declared.sheets.sheet.Sheet.{Sheet}

-- a number of bytes, as far as 64 bits go: past 2^64 - 1 it counts as 2^64 - 1
abbrev pub capped : ℕ → ℕ
capped n = min n (2 ^ 64 - 1)

-- a prefix of the bytes stands behind the old text
abbrev pub AppendsPrefix : List ℕ → List ℕ → List ℕ → Type 0
AppendsPrefix bytes old new = (done : List ℕ) × (rest : List ℕ) × (bytes ≡ done ++ rest) × (new ≡ old ++ done)

-- Bytes were put on a sheet. If its text has all that was put, then it had all before, and these stand at its end; else a prefix of them
-- does, and nothing where it did not have all before. All are counted, and the text has no more than its limit.
pub record Wrote (bytes : List ℕ) (old new : Sheet) : Type 0 where
  pub same_text : new.into.ghost_name ≡ old.into.ghost_name
  pub same_limit : new.limit ≡ old.limit
  pub all : new.whole ≡ true → (old.whole ≡ true) × (new.into.now ≡ old.into.now ++ bytes)
  pub prefix : AppendsPrefix bytes old.into.now new.into.now
  pub stopped : old.whole ≡ false → new.into.now ≡ old.into.now
  pub counted : capped new.count ≡ capped (old.count + length bytes)
  pub within : new.whole ≡ true → old.count ≤ old.limit → new.count ≤ new.limit
  pub wanting : old.wanting ≡ true → new.wanting ≡ true
  pub cause : new.whole ≡ false → (old.whole ≡ false) ⊎ (new.wanting ≡ true) ⊎ (new.limit < capped new.count)

-- so many bytes are counted and nothing else changes
pub record Counts (bytes : ℕ) (old new : Sheet) : Type 0 where
  pub same_into : new.into ≡ old.into
  pub same_limit : new.limit ≡ old.limit
  pub same_whole : new.whole ≡ old.whole
  pub same_wanting : new.wanting ≡ old.wanting
  pub counted : new.count ≡ capped (old.count + bytes)

-- nothing was put, and the text takes at most so many bytes
pub record IsFresh (into : List ℕ) (limit : ℕ) (sheet : Sheet) : Type 0 where
  pub text : sheet.into.now ≡ into
  pub limit_is : sheet.limit ≡ limit
  pub count : sheet.count ≡ 0
  pub whole : sheet.whole ≡ true
  pub wanting : sheet.wanting ≡ false

-- the text has all; or it does not, and so many bytes were put; or memory was wanting
abbrev pub EndsAs : Sheet → Result Ended Memory → Type 0
EndsAs sheet (Ok Whole) = sheet.whole ≡ true
EndsAs sheet (Ok (TooLong n)) = (sheet.whole ≡ false) × (sheet.wanting ≡ false) × (n ≡ sheet.count)
EndsAs sheet (Err _) = (sheet.whole ≡ false) × (sheet.wanting ≡ true)
