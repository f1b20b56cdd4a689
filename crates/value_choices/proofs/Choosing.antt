-- The first values that meet what a method asks, as a choice comes to them.
use Rattle.std.proofs.Common.{ℕ, ◌≡◌, ◌↔◌, inl, inr, List, length, Option, sym, subst, ◌∙◌}
use Rattle.plan_model.specs.declared.networks.Constraint.{Constraint}
use Rattle.plan_model.specs.declared.terms.Param.{Param}
use Rattle.value_choices.specs.declared.choice.Choice.{Choice}
use Rattle.value_choices.specs.declared.range.Range.{Range}
use Rattle.value_choices.specs.Choices.{Precedes, CanBe, IsFirst, IsNext, IsLast}
use Rattle.value_choices.specs.Ranges.{IsChoice, IsOver, AreAmong}
use Rattle.value_choices.proofs.Comparing.{compared}
use Rattle.value_choices.specs.Meeting.{AreMet, CanMeet}

module _ (InType : ℕ → ℕ → Type 0) (params : List Param) (constraints : List Constraint) (known : List (Option ℕ)) where
  abbrev P : List ℕ → Type 0
  P = CanBe InType params known

  -- the choice goes through the values, and none before the chosen ones meet what is asked
  pub record IsComing (choice : Choice) : Type 0 where
    pub over : IsOver P choice
    pub none : (others : List ℕ) → P others → AreMet constraints others → Precedes others choice.values.items → ⊥

  pub coming_first : (choice : Choice) → IsOver P choice → IsFirst P choice.values.items → IsComing choice
  coming_first choice o f = record { over = o; none = λ others p m q. f.none_before others p q }

  pub chosen_can : (choice : Choice) → IsComing choice → P choice.values.items
  chosen_can choice i = (i.over.each choice.values.items).0 i.over.is.among

  pub chosen_first : (choice : Choice) → IsComing choice → AreMet constraints choice.values.items → IsFirst
      (CanMeet InType params constraints known) choice.values.items
  chosen_first choice i m = record {
    is = record { can = chosen_can choice i; meets = m };
    none_before = λ others p q. i.none others p.can p.meets q;
  }

  module _ (choice : Choice) (i : IsComing choice) (unmet : AreMet constraints choice.values.items → ⊥) where
    among : (others : List ℕ) → P others → AreAmong choice.ranges.items others
    among others p = (i.over.each others).1 p

    as_long : (others : List ℕ) → P others → length others ≡ length choice.values.items
    as_long others p = (among others p).as_many ∙ sym i.over.is.among.as_many

    behind : (others : List ℕ) → P others → AreMet constraints others → Precedes choice.values.items others
    behind others p m = elim (compared others choice.values.items (as_long others p)) [
      | inl q ↦ absurd (i.none others p m q)
      | inr (inl e) ↦ absurd (unmet (subst (AreMet constraints) e m))
      | inr (inr q) ↦ q
    ]

    pub coming_next : (new : Choice) → new.ranges.items ≡ choice.ranges.items → IsChoice new
        → IsNext (AreAmong choice.ranges.items) choice.values.items new.values.items → IsComing new
    coming_next new e is n = record {
      over = record { is = is; each = subst (λ (rs : List Range). (values : List ℕ) → AreAmong rs values ↔ P values) (sym e) i.over.each };
      none = λ others p m q. n.none_between others (among others p) (behind others p m) q;
    }

    pub never : IsLast (AreAmong choice.ranges.items) choice.values.items → (values : List ℕ)
        → CanMeet InType params constraints known values → ⊥
    never last values p = last values (among values p.can) (behind values p.can p.meets)
