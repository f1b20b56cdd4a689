-- The first state, atom by atom, and the state after one effect more.
use Rattle.std.proofs.Common.{ℕ, ◌≡◌, ◌+◌, ◌<◌, ◌⊎◌, ◌↔◌, inl, inr, true, false, List, [], length, get_or, take, Contains, sym, subst, ◌∙◌, arith}
use Rattle.plan_model.specs.declared.terms.GroundAtom.{GroundAtom}
use Rattle.plan_model.specs.declared.effects.Effect.{Effect}
use Rattle.plan_model.specs.plan_meaning.Truth.{after}
use Rattle.ground_state.specs.Search.{Gathers, Touches}
use Rattle.ground_state.proofs.GatherCases.{after-gathered}
use Rattle.ground_state.proofs.StateLaws.{taken-next}
use Rattle.state_history.specs.declared.flips.Flips.{Flips}
use Rattle.state_history.specs.Flips.{truth_in, states, IsSet, AreSet}
use Rattle.state_history.proofs.FlipLaws.{still, set-one}

-- one atom more of the first state
pub first-next : (xs : List GroundAtom) (i : ℕ) (a : GroundAtom) (old new : Flips) → i < length xs → a ≡ get_or xs i a → old.last ≡ 0 → ((g : GroundAtom) → states old 0 g ↔ Contains (take i xs) g) → IsSet old a true new → (g : GroundAtom) → states new 0 g ↔ Contains (take (i + 1) xs) g
first-next xs i a old new l e z h s g =
    let more = taken-next xs i a l e g in
    let one = subst (λ n. states new n g ↔ (states old n g ⊎ (g ≡ a))) z (set-one old new a true s g) in (
      λ x. more.1 (elim (one.0 x) [ inl y ↦ inl ((h g).0 y) | inr y ↦ inr y ]),
      λ x. one.1 (elim (more.0 x) [ inl y ↦ inl ((h g).1 y) | inr y ↦ inr y ]),
    )

-- the state in one gap more
pub pushed : (I : ℕ → ℕ → Type 0) (old next denied new : Flips) (e : Effect) (v : List ℕ) (adds deletes : List GroundAtom) → next.last ≡ old.last + 1 → ((j : ℕ) (g : GroundAtom) → truth_in next j g ≡ truth_in old j g)
    → AreSet next (Contains deletes) false denied → AreSet denied (Contains adds) true new → Gathers (Touches I (states old old.last) true e v) [] adds → Gathers (Touches I (states old old.last) false e v) [] deletes
    → (g : GroundAtom) → states new new.last g ↔ after I (states old old.last) e v g
pushed I old next denied new e v adds deletes l same d a up down g =
    let was : truth_in next next.last g ≡ truth_in old old.last g = same next.last g ∙ still old next.last g (omega (arith, l)) in
    let one = d.here g in
    let two = subst (λ n. states new n g ↔ (states denied n g ⊎ Contains adds g)) d.last (a.here g) in
    let all = after-gathered I (states old old.last) e v adds deletes up down g in
    let end : new.last ≡ next.last = a.last ∙ d.last in
    subst (λ n. states new n g ↔ after I (states old old.last) e v g) (sym end) (
      λ x. all.0 (elim (two.0 x) [ inl y ↦ (let z = one.0 y in inl (sym was ∙ z.0, z.1)) | inr y ↦ inr y ]),
      λ x. two.1 (elim (all.1 x) [ inl y ↦ inl (one.1 (was ∙ y.0, y.1)) | inr y ↦ inr y ]),
    )
