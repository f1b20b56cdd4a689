use Rattle.std.proofs.Common.{◌≡◌, ◌≢◌, ◌≤◌, ℕ, true, false, List, [], ◌∷◌, length, Option, Some, None, find, inl, inr, refl, sym, ◌∙◌}
use Rattle.std.specs.Option.{option_or}
use Rattle.std.specs.List.{position_or_len}
use Rattle.std.specs.Str.{bytes_eq}
use Rattle.std.proofs.lemmas.Bool.{cases_Bool, cases_lt, lt-ltb, le-ltb}
use Rattle.std.proofs.lemmas.List.Folds.{find_at, find-append, find-set, find_past}
use Rattle.std.proofs.lemmas.List.Sums.{passes_at_first}
use Rattle.std.proofs.lemmas.Option.{slice_get_past}
use Rattle.std.proofs.lemmas.Slice.Eq.{bytes_eq-Decides}
use Rattle.outside_io.specs.Folder.{Folder, has_name, bytes_of, with_bytes}

same : (name : List ℕ) → bytes_eq name name ≡ true
same name = (bytes_eq-Decides name name).1 refl

-- a name that is not another's
apart : (name other : List ℕ) → other ≢ name → bytes_eq name other ≡ false
apart name other differ = elim (cases_Bool (bytes_eq name other)) [ inl is ↦ absurd (differ (sym ((bytes_eq-Decides name other).0 is))) | inr is ↦ is ]

-- no file of a name that has no place
find-past : (folder : Folder) (name : List ℕ) → length folder ≤ position_or_len (has_name name) folder → find (has_name name) folder ≡ None
find-past folder name past = find_at (has_name name) folder ∙ slice_get_past folder (position_or_len (has_name name) folder) past

option_or-none : {X : Type 0} (o : Option X) → option_or o None ≡ o
option_or-none None = refl
option_or-none (Some x) = refl

-- after a put the name holds the bytes
pub bytes_of-with_bytes : (folder : Folder) (name bytes : List ℕ) → bytes_of (with_bytes folder name bytes) name ≡ Some bytes
bytes_of-with_bytes folder name bytes =
    elim (cases_lt (position_or_len (has_name name) folder) (length folder)) [
      | inl within ↦
          let placed = lt-ltb _ _ within in
          let found = find-set (has_name name) folder _ (name, bytes) refl within (same name) in
          rw (placed, found) refl
      | inr past ↦
          let placed = le-ltb _ _ past in
          let itself = same name in
          rw (placed, find-append (has_name name) folder ((name, bytes) ∷ []), find-past folder name past, itself) refl
    ]

-- and each other name what it held
pub bytes_of-with_bytes_other : (folder : Folder) (name bytes other : List ℕ) → other ≢ name → bytes_of (with_bytes folder name bytes) other ≡ bytes_of folder other
bytes_of-with_bytes_other folder name bytes other differ =
    let fails = apart name other differ in
    elim (cases_lt (position_or_len (has_name name) folder) (length folder)) [
      | inl within ↦
          let placed = lt-ltb _ _ within in
          let d : List ℕ × List ℕ = (name, bytes) in
          let named = (bytes_eq-Decides _ _).0 (passes_at_first (has_name name) folder d within) in
          let replaced = apart _ other (λ e. differ (e ∙ named)) in
          rw (placed, find_past (has_name other) folder _ (name, bytes) d replaced fails) refl
      | inr past ↦
          let placed = le-ltb _ _ past in
          rw (placed, find-append (has_name other) folder ((name, bytes) ∷ []), fails, option_or-none (find (has_name other) folder)) refl
    ]

pub ruleset puts = (bytes_of-with_bytes, bytes_of-with_bytes_other)
