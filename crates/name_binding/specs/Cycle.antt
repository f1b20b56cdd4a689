-- A cycle of types (12), over the numbers of names.
-- Source: this project's; several parents of a type are this project's.
use Rattle.std.specs.Prelude.{ℕ, ◌≡◌, ◌⊎◌, List}
use Rattle.plan_model.specs.task_networks.Order.{Precedes}
use Rattle.htn_base.specs.Lists.{One, IsFirst}
use Rattle.name_binding.specs.Spots.{IsInTextOrder}
use Rattle.name_binding.specs.declared.faults.Spot.{Spot}
use Rattle.gd_reader.specs.declared.typed_lists.RawParam.{RawParam}
use Rattle.name_binding.specs.Mentions.{mentioned}
use Rattle.name_binding.specs.TooMany.{HaveOneWordAPlace, IsTooManyTypes}
use Rattle.std.specs.Prelude.{map}

abbrev pub IsParent : List RawParam → ℕ → ℕ → Type 0
IsParent xs child parent = One (λ x. (x.name.number ≡ child) × One (λ t. t.name.number ≡ parent) x.ty) xs

module _ (object : ℕ) where
  -- a type with a parent closes a cycle with the earlier pairs, object always
  abbrev pub ClosesCycle : List RawParam → RawParam → Type 0
  ClosesCycle earlier x = One (λ t. (x.name.number ≡ object) ⊎ ((t.name.number ≡ x.name.number) ⊎ Precedes (IsParent earlier) t.name.number x.name.number)) x.ty

  -- 12: the child of the first pair that closes one
  abbrev pub IsTypeCycle : List RawParam → Spot → Type 0
  IsTypeCycle xs s = (s.code ≡ 12) × ((x : RawParam) × (x.at ≡ s.at) × IsFirst ClosesCycle xs x)

-- 12 and 22: the faults of a section of types
abbrev pub IsSectionFault : (most object : ℕ) → List RawParam → Spot → Type 0
IsSectionFault most object xs s = IsTooManyTypes most object xs s ⊎ IsTypeCycle object xs s

-- The words of a section of types stand in the order of the text, and no two at one place.
pub record IsSection (xs : List RawParam) : Type 0 where
  pub words : HaveOneWordAPlace (mentioned xs)
  pub in_order : IsInTextOrder (map (λ x. x.at) xs)
