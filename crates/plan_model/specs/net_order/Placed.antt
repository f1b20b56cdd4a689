-- Fronts: no child is left to be placed, and one child is placed.
use Rattle.std.specs.Prelude.{ℕ, Bool, List}
use Rattle.plan_model.specs.declared.net_order.front.Front.{Front}
use Rattle.plan_model.specs.net_order.Front.{IsFront, IsPlaced}

-- no child is left
abbrev pub AreAllPlaced : List (List Bool) → Front → Type 0
AreAllPlaced before front = IsFront before (λ i. ⊥) front.listed front.ready front.waiting.items

-- the child became ready or waits, by what the old front has listed
abbrev pub PlacesChild : List (List Bool) → ℕ → Front → Front → Type 0
PlacesChild before i old new = IsPlaced before old.listed i old.ready old.waiting.items new.ready new.waiting.items
