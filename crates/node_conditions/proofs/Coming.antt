-- The first values that suit, as a choice comes to them.
use Rattle.std.proofs.Common.{ℕ, ◌≡◌, ◌≤◌, ◌↔◌, inl, inr, max, true, false, List, length, Option, sym, subst, ◌∙◌, arith}
use Rattle.std.specs.Borrow.{Bor}
use Rattle.plan_model.specs.declared.formulas.Formula.{Formula}
use Rattle.plan_model.specs.declared.schemas.MethodPlan.{MethodPlan}
use Rattle.plan_model.specs.plan_meaning.Truth.{State}
use Rattle.value_choices.specs.declared.choice.Choice.{Choice}
use Rattle.value_choices.specs.declared.range.Range.{Range}
use Rattle.value_choices.specs.Choices.{Precedes, CanBe, IsFirst, IsNext, IsLast}
use Rattle.value_choices.specs.Ranges.{IsChoice, IsOver, AreAmong}
use Rattle.value_choices.proofs.Comparing.{compared}
use Rattle.state_history.specs.declared.gaps.Look.{Look}
use Rattle.state_history.specs.declared.flips.Flips.{Flips}
use Rattle.state_history.specs.Flips.{states}
use Rattle.node_conditions.specs.Demands.{IsMetBy, Suit}
use Rattle.node_conditions.specs.Looks.{IsLook, HoldsNever}

module _ (InType : ℕ → ℕ → Type 0) (state : ℕ
    → State) (plan : MethodPlan) (known : List (Option ℕ)) (condition : Option (Bor Formula)) (gap : ℕ) where
  abbrev pub Can : List ℕ → Type 0
  Can = CanBe InType plan.schema.params known

  abbrev pub At : ℕ → List ℕ → Type 0
  At j values = IsMetBy InType (state j) plan condition values

  abbrev pub Suits : ℕ → List ℕ → Type 0
  Suits j values = Suit InType (state j) plan known condition values

  -- the choice goes through the values, and none before the chosen ones suit since the gap
  pub record IsComing (choice : Choice) (since : ℕ) : Type 0 where
    pub over : IsOver Can choice
    pub within : since ≤ gap
    pub none : (others : List ℕ) → Can others → Precedes others choice.values.items → (j : ℕ) → since ≤ j → j ≤ gap → At j others → ⊥

  pub coming_first : (choice : Choice) → IsOver Can choice × IsFirst Can choice.values.items → IsComing choice 0
  coming_first choice b = record { over = b.0; within = omega arith; none = λ others p q j l m a. b.1.none_before others p q }

  pub can_none : ((values : List ℕ) → Can values → ⊥) → HoldsNever Suits 0 gap
  can_none n = record { since_is = omega arith; never = λ j l m values s. n values s.can }

  pub chosen_can : (choice : Choice) → IsOver Can choice → Can choice.values.items
  chosen_can choice o = (o.each choice.values.items).0 o.is.among

  pub chosen_first : (choice : Choice) (since : ℕ) → IsComing choice since → At gap choice.values.items
      → IsFirst (Suits gap) choice.values.items
  chosen_first choice since i a = record {
    is = record { can = chosen_can choice i.over; by = a };
    none_before = λ others s q. i.none others s.can q gap i.within (omega arith) s.by;
  }

  module _ (choice : Choice) (since : ℕ) (i : IsComing choice since) (look : Look) (is : IsLook
      (λ j. At j choice.values.items) gap look) (unmet : look.truth ≡ false) where
    among : (others : List ℕ) → Can others → AreAmong choice.ranges.items others
    among others p = (i.over.each others).1 p

    as_long : (others : List ℕ) → Can others → length others ≡ length choice.values.items
    as_long others p = (among others p).as_many ∙ sym i.over.is.among.as_many

    -- those that suit since the gap come behind
    behind : (others : List ℕ) → Can others → (j : ℕ) → max since look.since ≤ j → j ≤ gap → At j others
        → Precedes choice.values.items others
    behind others p j l m a = elim (compared others choice.values.items (as_long others p)) [
      | inl q ↦ absurd (i.none others p q j (omega arith) m a)
      | inr (inl e) ↦ absurd (let t : look.truth ≡ true = is.truth.1 ((is.same j (omega arith) m).0 (subst (At j) e a)) in cc)
      | inr (inr q) ↦ q
    ]

    within : max since look.since ≤ gap
    within = let a = i.within in let b = is.since in omega arith

    pub coming_next : (new : Choice) → new.ranges.items ≡ choice.ranges.items → IsChoice new
        → IsNext (AreAmong choice.ranges.items) choice.values.items new.values.items → IsComing new (max since look.since)
    coming_next new e of n = record {
      over = record {
        is = of;
        each = subst (λ (rs : List Range). (values : List ℕ) → AreAmong rs values
            ↔ Can values) (sym e) i.over.each;
      };
      within = within;
      none = λ others p q j l m a. n.none_between others (among others p) (behind others p j l m a) q;
    }

    pub never : IsLast (AreAmong choice.ranges.items) choice.values.items → HoldsNever Suits (max since look.since) gap
    never last = record { since_is = within; never = λ j l m values s. last values (among values s.can) (behind values s.can j l m s.by) }

-- a look in a history with the same flips, at the same values
pub look_here : (InType : ℕ → ℕ → Type 0) (flips others : Flips) (plan : MethodPlan) (condition : Option (Bor Formula))
    (values chosen : List ℕ) (gap : ℕ) (look : Look)
    → flips ≡ others → values ≡ chosen → IsLook (λ j. IsMetBy InType (states flips j) plan condition values) gap look
    → IsLook (λ j. IsMetBy InType (states others j) plan condition chosen) gap look
look_here InType flips others plan condition values chosen gap look e f h =
    subst (λ (z : Flips). IsLook (λ j. IsMetBy InType (states z j) plan condition chosen) gap look) e
    (subst (λ (z : List ℕ). IsLook (λ j. IsMetBy InType (states flips j) plan condition z) gap look) f h)
