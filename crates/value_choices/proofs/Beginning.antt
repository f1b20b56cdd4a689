-- A choice begins with the first values of all.
use Rattle.std.proofs.Common.{ℕ, ◌≡◌, List, Option, length}
use Rattle.plan_model.specs.declared.terms.Param.{Param}
use Rattle.value_choices.specs.declared.choice.Choice.{Choice}
use Rattle.value_choices.specs.Choices.{CanBe, IsFirst}
use Rattle.value_choices.specs.Ranges.{AreRanges, AreLeast, IsOver}
use Rattle.value_choices.proofs.Ranged.{ranges_increasing}
use Rattle.value_choices.proofs.Turning.{least_first}
use Rattle.value_choices.proofs.Typed.{among_can_be}

module _ (Is : ℕ → ℕ → Type 0) (params : List Param) (known : List (Option ℕ)) where
  pub begins : (choice : Choice) → AreRanges Is params known choice.ranges.items → length choice.ranges.items ≡ length params
      → AreLeast choice.ranges.items choice.values.items
      → IsOver (CanBe Is params known) choice × IsFirst (CanBe Is params known) choice.values.items
  begins choice a e least =
      let same = among_can_be Is params known choice.ranges.items a e in
      let first = least_first choice.ranges.items choice.values.items least in (
        record {
          is = record { increasing = ranges_increasing Is params known choice.ranges.items e a; among = first.is };
          each = same;
        },
        record {
          is = (same choice.values.items).0 first.is;
          none_before = λ others p q. first.none_before others ((same others).1 p) q;
        },
      )
