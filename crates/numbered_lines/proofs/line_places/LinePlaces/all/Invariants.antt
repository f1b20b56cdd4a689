use Rattle.std.proofs.Common.{ℕ, take}
use Rattle.plan_texts.specs.Together.{Together}
use Rattle.numbered_lines.specs.Numbered.{IsAtPlace}
use Rattle.numbered_lines.proofs.line_places.LinePlaces.all.Given as goal

abbrev pub invariant-loop-id : goal.invariant-loop-id
invariant-loop-id l = Together (λ (id place : ℕ). IsAtPlace l.self.ids place id) (take l.id-index l.id-items) l.places
