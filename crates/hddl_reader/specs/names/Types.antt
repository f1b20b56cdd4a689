-- Faults of types: a cycle of parents (12), too many types (22).
-- Source: this project's; several parents of a type, and types named only as parents, are this project's.
use Rattle.std.specs.Prelude.{ℕ, ◌≡◌, ◌≢◌, ◌<◌, ◌⊎◌, ◌↔◌, List, [], ◌∷◌, ◌++◌, map, length, codes}
use Rattle.htn_base.specs.Limits as limits
use Rattle.htn_base.specs.Different.{AreDifferent}
use Rattle.text_forms.specs.Words.{Word}
use Rattle.gd_reader.specs.declared.typed_lists.RawParam.{RawParam}
use Rattle.gd_reader.specs.Terms.{Names}
use Rattle.hddl_reader.specs.declared.sections.Language.{Language}
use Rattle.hddl_reader.specs.declared.sections.Language.TheVariants.{Hddl, Pddl}
use Rattle.hddl_reader.specs.declared.sections.RawDomain.{RawDomain}
use Rattle.htn_base.specs.Lists.{One, Has, IsFirst}
use Rattle.hddl_reader.specs.names.Words.{WordAt, term_word, param_word, term_at, param_at}

-- a chain of pairs leads from one word to another
pub data Leads (Pair : Word → Word → Type 0) (v : Word) : Word → Type 0 where
  direct : {w : Word} → Pair v w → Leads Pair v w
  through : {w x : Word} → Leads Pair v w → Pair w x → Leads Pair v x

-- so many types other than object there may be; a PDDL domain may be a printed one, which has two more
abbrev pub most_types : Language → ℕ
most_types Hddl = limits.most_types
most_types Pddl = limits.most_pddl_types

module _ (names : Names) where
  -- each word of a section of types: types and their parents
  abbrev pub mentioned : List RawParam → List WordAt
  mentioned [] = []
  mentioned (x ∷ xs) = param_at names x ∷ (map (term_at names) x.ty ++ mentioned xs)

  -- a type is declared where :types has its word, be it as a parent alone; object always is
  abbrev pub IsType : RawDomain → Word → Type 0
  IsType d w = (w ≡ codes "object") ⊎ One (λ (m : WordAt). m.word ≡ w) (mentioned d.types)

  abbrev pub IsParent : List RawParam → Word → Word → Type 0
  IsParent xs child parent = One (λ x. (param_word names x ≡ child) × One (λ t. term_word names t ≡ parent) x.ty) xs

  -- a type with a parent closes a cycle with the earlier pairs, object always
  abbrev pub ClosesCycle : List RawParam → RawParam → Type 0
  ClosesCycle earlier x = One (λ t. (param_word names x ≡ codes "object") ⊎ ((term_word names t ≡ param_word names x) ⊎ Leads (IsParent earlier) (term_word names t) (param_word names x))) x.ty

  -- 12: the child of the first pair that closes one
  abbrev pub TypeCycle : RawDomain → ℕ → Type 0
  TypeCycle d at = (x : RawParam) × (x.at ≡ at) × IsFirst ClosesCycle d.types x

-- The types other than object that are mentioned in front of a place are these.
abbrev pub AreTypesBefore : List WordAt → ℕ → List Word → Type 0
AreTypesBefore xs at types = (w : Word) → Has types w ↔ ((w ≢ codes "object") × One (λ (m : WordAt). (m.word ≡ w) × (m.at < at)) xs)

-- At this place a further type other than object is mentioned, in front of which so many different ones are.
pub record IsOneTooMany (most : ℕ) (xs : List WordAt) (at : ℕ) : Type 0 where
  pub word : Word
  pub said : One (λ (m : WordAt). (m.word ≡ word) × (m.at ≡ at)) xs
  pub not_object : word ≢ codes "object"
  pub earlier : List Word
  pub are_before : AreTypesBefore xs at earlier
  pub different : AreDifferent earlier
  pub most_stand : length earlier ≡ most
  pub new : Has earlier word → ⊥

-- 22: the first word of the type that is one too many
abbrev pub TooManyTypes : Language → Names → RawDomain → ℕ → Type 0
TooManyTypes l names d at = IsOneTooMany (most_types l) (mentioned names d.types) at
