-- The value of Transport is the compiled one: the arguments of subtasks are all declared of the right types, so that there is no guard.
use Rattle.std.proofs.Common.{ℕ, zero, suc, inl, inr, [], ◌∷◌, refl, arith}
use Rattle.std.specs.List.Sorted.{IsStrictlyIncreasing}
use Rattle.plan_model.specs.declared.options.Checks.TheVariants.{Leaf}
use Rattle.plan_model.specs.Typing.{IsPart, InType, stay}
use Rattle.plan_model.specs.plan_meaning.Compilation.{AreGuards, IsCompiled}
use Rattle.plan_model.proofs.plan_meaning.examples.PlanKinds.{plain, with_check, holds_counts, none_rise}
use Rattle.plan_model.proofs.plan_meaning.examples.TransportValue.{transport, types, objects, top, m_deliver, deliver, m_via, via, m_there, there, at}

-- a type is a part of itself
same_type : (ty : ℕ) → IsPart types ty ty
same_type ty = inl (inr stay)

-- an argument within its type is no guard
within : {A : Type 0} → A → (A → ⊥) → ⊥
within a f = f a

no_guards_on_top : AreGuards transport.hddl top.schema []
no_guards_on_top = ([], inr (within p1, inr (within l1, inr (within p2, inr (within l1, inr (within p3, inr (within l1, refl)))))), refl)
  where
    l1 : InType types objects 1 1
    l1 = (_, refl, same_type 1)

    p1 : InType types objects 5 4
    p1 = (_, refl, same_type 4)

    p2 : InType types objects 6 4
    p2 = (_, refl, same_type 4)

    p3 : InType types objects 7 4
    p3 = (_, refl, same_type 4)

-- get-to, pick-up, get-to and drop
no_guards_of_deliver : AreGuards transport.hddl m_deliver []
no_guards_of_deliver = (
  [],
  inr (
    within (same_type 3),
    inr (
      within (same_type 1),
      inr (
        within (same_type 3),
        inr (
          within (same_type 1),
          inr (
            within (same_type 4),
            inr (
              within (same_type 3),
              inr (
                within (same_type 1),
                inr (within (same_type 3), inr (within (same_type 1), inr (within (same_type 4), refl))),
              ),
            ),
          ),
        ),
      ),
    ),
  ),
  refl,
)

-- drive and get-to
no_guards_of_via : AreGuards transport.hddl m_via []
no_guards_of_via = ([], inr (within (same_type 3), inr (within (same_type 1), inr (within (same_type 1), inr (within (same_type 3), inr (within (same_type 1), refl))))), refl)

pub transport_is_compiled : IsCompiled transport.hddl Leaf transport
transport_is_compiled = record {
  hddl = refl;
  methods = (
    plain transport.hddl Leaf top.schema top refl refl refl (record { schema = refl; up = tt; line = refl; heir = refl; copiers = refl; rising = λ k l. zero_one k l; guards = no_guards_on_top }),
    (
      plain transport.hddl Leaf m_deliver deliver refl refl refl (record { schema = refl; up = (omega arith, (omega arith, (omega arith, tt))); line = refl; heir = refl; copiers = refl; rising = none_rise; guards = no_guards_of_deliver }),
      (
        plain transport.hddl Leaf m_via via refl refl refl (record { schema = refl; up = (omega arith, tt); line = refl; heir = refl; copiers = refl; rising = none_rise; guards = no_guards_of_via }),
        (with_check transport.hddl m_there there (holds_counts (at 0 1)) refl refl (record { schema = refl; up = tt; line = refl; heir = refl; copiers = refl; rising = none_rise; guards = ([], refl, refl) }), tt),
      ),
    ),
  );
}
  where
    zero_one : IsStrictlyIncreasing (0 ∷ 1 ∷ [])
    zero_one zero l = omega arith
    zero_one (suc k) l = absurd (omega arith)
