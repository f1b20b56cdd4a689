-- Notes, and states, after what is true of some lists is noted as false.
use Rattle.std.proofs.Common.{ℕ, zero, suc, ◌≡◌, ◌<◌, ◌⊎◌, ◌↔◌, ◌++◌, inl, inr, Bool, true, false, IsTrue, List, [], ◌∷◌, length, get_or, slice_get, Option, Some, None, refl, ap, sym, subst, ◌∙◌, true≢false, arith}
use Rattle.std.proofs.Math.ListN.{set}
use Rattle.std.specs.Prelude.{unwrap_or, IsSome, MatchBool}
use Rattle.std.specs.Option.{option_map, option_and_then}
use Rattle.std.specs.Vec.{with_item}
use Rattle.std.proofs.lemmas.Bool.{cases_lt, cases_eq}
use Rattle.std.proofs.lemmas.List.{get_or_past}
use Rattle.std.proofs.lemmas.Option.{slice_get_within}
use Rattle.plan_model.specs.declared.terms.Term.{Term}
use Rattle.plan_model.specs.declared.terms.Atom.{Atom}
use Rattle.plan_model.specs.declared.terms.GroundAtom.{GroundAtom}
use Rattle.plan_model.specs.declared.terms.Param.{Param}
use Rattle.plan_model.specs.declared.effects.Effect.{Effect}
use Rattle.plan_model.specs.declared.effects.Effect.TheVariants as E
use Rattle.plan_model.specs.plan_meaning.Truth as truth
use Rattle.plan_model.specs.plan_meaning.Truth.{ground, values_of, AreTyped}
use Rattle.problem_index.specs.declared.domain.Domain.{Domain}
use Rattle.problem_index.specs.Domains.{IsIn}
use Rattle.ground_state.specs.declared.notes.Notes.{Notes}
use Rattle.ground_state.specs.declared.state.State.{State}
use Rattle.ground_state.specs.declared.passes.Pass.{Pass}
use Rattle.ground_state.specs.declared.passes.Pass.TheVariants as passes
use Rattle.ground_state.specs.Numbers.{number_of}
use Rattle.ground_state.specs.Notes as notes
use Rattle.ground_state.specs.Notes.{noted_at, noted, holds, IsNoted, IsSet, AreNone, AreSame, HoldSame, AreDenied}
use Rattle.ground_state.specs.States as states
use Rattle.ground_state.specs.States.{note, atom, has, has_ground, HasSameNotes, IsSame}
use Rattle.ground_state.specs.Search.{Touches, TouchesWithin}
use Rattle.ground_state.specs.Passes.{of_adds, Passes, IsWithOne, HasDenied}
use Rattle.ground_state.proofs.Lists.{one-list-or-not, taken-then, near-set}
use Rattle.ground_state.proofs.StateLaws.{is_true, same-atoms, same-has, set-false, set-Some}
use Rattle.ground_state.proofs.GatherCases.{touches-Delete}
use Rattle.ground_state.proofs.PassLaws.{passes-same}

-- the same lists
pub denied-same : (P Q : List ℕ → Type 0) (s t : Notes) → ((list : List ℕ) → P list ↔ Q list) → AreDenied s P t → AreDenied s Q t
denied-same P Q s t e h = record {
  without = λ list. (
    λ x. let y = (h.without list).0 x in (y.0, λ q. y.1 ((e list).1 q)),
    λ x. (h.without list).1 (x.0, λ p. x.1 ((e list).0 p)),
  );
  kept = h.kept;
}

-- some lists and then others
pub denied-then : (P Q R : List ℕ → Type 0) (s m t : Notes) → ((list : List ℕ) → R list ↔ (P list ⊎ Q list)) → AreDenied s P m → AreDenied m Q t → AreDenied s R t
denied-then P Q R s m t e h k = record {
  without = λ list. taken-then (e list) (h.without list) (k.without list);
  kept = λ list i. k.kept list (h.kept list i);
}

-- lists that are not noted as true
pub denied-none : (P : List ℕ → Type 0) (s : Notes) → ((list : List ℕ) → P list → holds s list ≡ false) → AreDenied s P s
denied-none P s n = record {
  without = λ list. (λ x. (x, λ p. true≢false (sym x ∙ n list p)), λ x. x.0);
  kept = λ list i. i;
}

-- one list
pub denied-one : (K : Type 0) (s t : Notes) (args : List ℕ) → K → IsSet s args false t → AreDenied s (λ list. K × (list ≡ args)) t
denied-one K s t args k n = record {
  without = λ list. elim (one-list-or-not list args) [
    | inl d ↦ (λ x. absurd (true≢false (sym (subst (λ l. IsTrue (holds t l)) d x) ∙ ap is_true n.here ∙ set-false (noted s args))), λ x. absurd (x.1 (k, d)))
    | inr d ↦ (λ x. (sym (ap is_true (n.others list d)) ∙ x, λ y. d y.1), λ x. ap is_true (n.others list d) ∙ x.0)
  ];
  kept = λ list i. elim (one-list-or-not list args) [
    | inl d ↦ subst (λ l. IsSome (noted t l)) (sym d) (subst IsSome (sym (n.here ∙ set-Some false (noted s args) (subst (λ l. IsSome (noted s l)) d i))) refl)
    | inr d ↦ subst IsSome (sym (n.others list d)) i
  ];
}

-- where it was noted as false, nothing is noted
pub hold_same : (s t : Notes) (args : List ℕ) → IsNoted s args None t → noted s args ≡ Some false → HoldSame s t
hold_same s t args n e list = elim (one-list-or-not list args) [
  | inl d ↦ subst (λ l. holds t l ≡ holds s l) (sym d) (ap is_true n.here ∙ sym (ap is_true e))
  | inr d ↦ ap is_true (n.others list d)
]

true-at : (o : Option Bool) → unwrap_or o false ≡ true → o ≡ Some true
true-at (Some true) e = refl
true-at (Some false) e = absurd (true≢false (sym e))
true-at None e = absurd (true≢false (sym e))

-- at a number at which true is noted
module _ (notes : Notes) (n : ℕ) (is : unwrap_or (get_or notes.near.items n None) false ≡ true) where
  pub within : n < length notes.near.items
  within = elim (cases_lt n (length notes.near.items)) [
    | inl l ↦ l
    | inr l ↦ absurd (true≢false (sym is ∙ ap (λ o. unwrap_or o false) (get_or_past notes.near.items n None l)))
  ]

  -- false is noted there now
  pub set-there : (args : List ℕ) → number_of notes.numbers args ≡ Some n → IsSet notes args false (record { numbers = notes.numbers; near = with_item notes.near n (Some false); far = notes.far })
  set-there args e =
      let was : noted notes args ≡ Some true = ap (noted_at notes args) e ∙ true-at (get_or notes.near.items n None) is in
      subst (λ w. IsNoted notes args w (record { numbers = notes.numbers; near = with_item notes.near n (Some false); far = notes.far })) (sym (ap (option_map (λ _. false)) was)) (near-set notes notes.near args n (Some false) e (λ k. refl) within)

set_same : {X : Type 0} (xs : List X) (i : ℕ) (x : X) → i < length xs → slice_get (set xs i x) i ≡ Some x
set_same [] i x l = absurd (omega (arith, l))
set_same (y ∷ xs) zero x l = refl
set_same (y ∷ xs) (suc i) x l = set_same xs i x (omega (arith, l))

set_other : {X : Type 0} (xs : List X) (i j : ℕ) (x : X) → (j ≡ i → ⊥) → slice_get (set xs i x) j ≡ slice_get xs j
set_other [] i j x n = refl
set_other (y ∷ xs) zero zero x n = absurd (n refl)
set_other (y ∷ xs) zero (suc j) x n = refl
set_other (y ∷ xs) (suc i) zero x n = refl
set_other (y ∷ xs) (suc i) (suc j) x n = set_other xs i j x (λ e. n (ap suc e))

-- one more predicate, of which nothing is noted
pub pushed_same : (before after : List Notes) (new : Notes) → AreNone new → after ≡ before ++ new ∷ [] → (p : ℕ) (args : List ℕ)
    → option_and_then (λ lists. noted lists args) (slice_get after p) ≡ option_and_then (λ lists. noted lists args) (slice_get before p)
pushed_same before after new none e p args = ap (λ xs. option_and_then (λ lists. noted lists args) (slice_get xs p)) e ∙ at before p
  where
    at : (xs : List Notes) (q : ℕ) → option_and_then (λ lists. noted lists args) (slice_get (xs ++ new ∷ []) q) ≡ option_and_then (λ lists. noted lists args) (slice_get xs q)
    at [] zero = none args
    at [] (suc q) = refl
    at (x ∷ xs) zero = refl
    at (x ∷ xs) (suc q) = at xs q

-- a state in which what is noted of one predicate is something else
module _ (s : State) (p : ℕ) (old new : Notes) (at : slice_get s.facts.items p ≡ Some old) where
  abbrev t : State
  t = record { facts = with_item s.facts p new; most = s.most; crowded = s.crowded; touched = s.touched }

  as_before : (args : List ℕ) → note s p args ≡ noted old args
  as_before args = ap (option_and_then (λ lists. noted lists args)) at

  as_new : (args : List ℕ) → note t p args ≡ noted new args
  as_new args = ap (option_and_then (λ lists. noted lists args)) (set_same s.facts.items p new (slice_get_within s.facts.items p old at))

  elsewhere : (predicate : ℕ) (args : List ℕ) → (predicate ≡ p → ⊥) → note t predicate args ≡ note s predicate args
  elsewhere predicate args n = ap (option_and_then (λ lists. noted lists args)) (set_other s.facts.items p predicate new n)

  pub same_notes : AreSame old new → HasSameNotes s t
  same_notes h predicate args = elim (cases_eq predicate p) [
    | inl d ↦ subst (λ q. note t q args ≡ note s q args) (sym d) (as_new args ∙ h args ∙ sym (as_before args))
    | inr n ↦ elsewhere predicate args n
  ]

  noted_there : (args : List ℕ) (w : Option Bool) → IsNoted old args w new → states.IsNoted s (atom p args) w t
  noted_there args w h = record {
    here = as_new args ∙ h.here;
    others = λ g n. elim (cases_eq g.predicate p) [
      | inl d ↦ subst (λ q. note t q g.args ≡ note s q g.args) (sym d) (as_new g.args ∙ h.others g.args (λ e. n (same-atoms g (atom p args) d e)) ∙ sym (as_before g.args))
      | inr m ↦ elsewhere g.predicate g.args m
    ];
  }

  -- since an earlier state in which the same was noted
  pub noted_since : (r : State) (args : List ℕ) (w : Option Bool) → HasSameNotes r s → IsNoted old args w new → states.IsNoted r (atom p args) w t
  noted_since r args w e h = let n = noted_there args w h in record { here = n.here; others = λ g d. n.others g d ∙ e g.predicate g.args }

  pub same_since : (r : State) → HasSameNotes r s → AreSame old new → IsSame r t
  same_since r e h g = same-has r t g (ap is_true (same_notes h g.predicate g.args ∙ e g.predicate g.args))

  -- where something was noted of the objects
  pub set_at : (args : List ℕ) (b : Bool) → IsSet old args b new → states.IsSet s (atom p args) b t
  set_at args b h = noted_there args (option_map (λ _. b) (note s p args)) (subst (λ w. IsNoted old args w new) (ap (option_map (λ _. b)) (sym (as_before args))) h)

  pub passes_denied : (P : List ℕ → Type 0) (Q : truth.State) → ((g : GroundAtom) → Q g ↔ ((g.predicate ≡ p) × P g.args)) → AreDenied old P new → Passes passes.Deny Q s t
  passes_denied P Q e h = (
    λ g. elim (cases_eq g.predicate p) [
      | inl d ↦ (
          let was : has_ground s g ≡ holds old g.args = ap (λ q. has s q g.args) d ∙ ap is_true (as_before g.args) in
          let is : has_ground t g ≡ holds new g.args = ap (λ q. has t q g.args) d ∙ ap is_true (as_new g.args) in (
            λ x. let y = (h.without g.args).0 (sym is ∙ x) in (was ∙ y.0, λ q. y.1 ((e g).0 q).1),
            λ x. is ∙ (h.without g.args).1 (sym was ∙ x.0, λ r. x.1 ((e g).1 (d, r))),
          )
          )
      | inr n ↦ (
          let same : has_ground t g ≡ has_ground s g = ap is_true (elsewhere g.predicate g.args n) in
          (λ x. (sym same ∙ x, λ q. n ((e g).0 q).0), λ x. same ∙ x.0)
          )
    ],
    λ g i. elim (cases_eq g.predicate p) [
      | inl d ↦ subst (λ q. IsSome (note t q g.args)) (sym d) (subst IsSome (sym (as_new g.args)) (h.kept g.args (subst IsSome (as_before g.args) (subst (λ q. IsSome (note s q g.args)) d i))))
      | inr n ↦ subst IsSome (sym (elsewhere g.predicate g.args n)) i
    ],
  )

  -- the atom is made false with each object of the domain
  pub denied : (pass : Pass) (k : Domain) (e : Effect) (a : Atom) (terms : List Term) (values : List ℕ) (found : Bool) → pass ≡ passes.Deny → e ≡ E.Delete a → a.predicate ≡ p → terms ≡ a.args
      → MatchBool found (AreDenied old (notes.AreOf k values terms) new) (AreSame old new) → MatchBool found (HasDenied pass k e values s t) (HasSameNotes s t)
  denied pass k e a terms values false d f q r h = same_notes h
  denied pass k e a terms values true d f q r h = (
    d,
    (
      a,
      f,
      passes_denied (notes.AreOf k values terms) (IsWithOne k a values) (λ g. (
        λ x. (ap (λ (b : GroundAtom). b.predicate) x.2 ∙ q, (x.0, x.1, ap (λ (b : GroundAtom). b.args) x.2 ∙ ap (values_of (values ++ x.0 ∷ [])) (sym r))),
        λ x. (x.1.0, x.1.1, same-atoms g (ground (values ++ x.1.0 ∷ []) a) (x.0 ∙ sym q) (x.1.2 ∙ ap (values_of (values ++ x.1.0 ∷ [])) r)),
      )) h,
    ),
  )

-- with each object of the one type the pass has been made
pub denied-within : (InType : ℕ → ℕ → Type 0) (S : truth.State) (pass : Pass) (k : Domain) (e : Effect) (v : List ℕ) (p : Param) (ps : List Param) (old new : State)
    → ps ≡ p ∷ [] → ((x : ℕ) → IsIn k x ↔ InType x p.ty) → HasDenied pass k e v old new → Passes pass (TouchesWithin InType S (of_adds pass) ps e v) old new
denied-within InType S pass k e v p ps old new one typed (d, (a, q, h)) =
    subst (λ r. Passes r (TouchesWithin InType S (of_adds r) ps e v) old new) (sym d)
    (subst (λ qs. Passes passes.Deny (TouchesWithin InType S false qs e v) old new) (sym one) (passes-same passes.Deny (IsWithOne k a v) (TouchesWithin InType S false (p ∷ []) e v) old new same h))
  where
    deletes : (os : List ℕ) (g : GroundAtom) → (g ≡ ground (v ++ os) a) ↔ Touches InType S false e (v ++ os) g
    deletes os = touches-Delete InType S (v ++ os) false e a q refl

    of-one : (g : GroundAtom) (os : List ℕ) → AreTyped InType (p ∷ []) os → Touches InType S false e (v ++ os) g → IsWithOne k a v g
    of-one g [] t h = absurd t
    of-one g (x ∷ []) t h = (x, (typed x).1 t.0, (deletes (x ∷ []) g).1 h)
    of-one g (x ∷ (y ∷ os)) t h = absurd t.1

    same : (g : GroundAtom) → IsWithOne k a v g ↔ TouchesWithin InType S false (p ∷ []) e v g
    same g = (λ x. (x.0 ∷ [], ((typed x.0).0 x.1, tt), (deletes (x.0 ∷ []) g).0 x.2), λ t. of-one g t.0 t.1 t.2)
