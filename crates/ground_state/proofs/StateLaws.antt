-- The atoms of a state after something is noted of one, and of each of a list.
use Rattle.std.proofs.Common.{ℕ, ◌+◌, ◌<◌, ◌++◌, length, get_or, take, Contains, ◌≡◌, ◌≢◌, ◌⊎◌, ◌↔◌, inl, inr, Bool, true, false, Option, Some, None, List, [], ◌∷◌, refl, ap, sym, subst, ◌∙◌, true≢false}
use Rattle.std.specs.Prelude.{unwrap_or, IsSome}
use Rattle.std.specs.Option.{is_some, option_map}
use Rattle.std.proofs.lemmas.Bool.{cases_eq}
use Rattle.std.proofs.lemmas.List.Elements.{Contains-push, Contains-push_cases, Contains-append_left}
use Rattle.plan_model.specs.declared.terms.GroundAtom.{GroundAtom}
use Rattle.ground_state.specs.declared.state.State.{State}
use Rattle.ground_state.specs.States.{atom, note_of, has, atoms, Has, IsSame, IsNoted, AreNoted, KeepsNotes, WithAll, WithoutAll}
use Rattle.ground_state.proofs.Lists.{take_next, one-list-or-not, put-then, taken-then}

pub same-atoms : (g a : GroundAtom) → g.predicate ≡ a.predicate → g.args ≡ a.args → g ≡ a
same-atoms g a p e = λ i. record { predicate = p i; args = e i }

-- what is true of the atom of this predicate and these objects is true of this one
pub of-atom : (P : GroundAtom → Type 0) (predicate : ℕ) (args : List ℕ) (a : GroundAtom) → predicate ≡ a.predicate → args ≡ a.args → P (atom predicate args) → P a
of-atom P predicate args a p e = subst P (same-atoms (atom predicate args) a p e)

-- two atoms are one, or not
same-or-not : (g a : GroundAtom) → (g ≡ a) ⊎ (g ≢ a)
same-or-not g a = elim (cases_eq g.predicate a.predicate) [
  | inl p ↦ elim (one-list-or-not g.args a.args) [ inl e ↦ inl (same-atoms g a p e) | inr d ↦ inr (λ e. d (ap (λ (x : GroundAtom). x.args) e)) ]
  | inr n ↦ inr (λ e. n (ap (λ (x : GroundAtom). x.predicate) e))
]

-- the atoms of a state, and one
abbrev pub With : State → GroundAtom → GroundAtom → Type 0
With s a g = atoms s g ⊎ (g ≡ a)

-- those of a state but one
abbrev pub Without : State → GroundAtom → GroundAtom → Type 0
Without s a g = atoms s g × (g ≢ a)

abbrev pub is_true : Option Bool → Bool
is_true o = unwrap_or o false

pub same-has : (s t : State) (g : GroundAtom) → has t g.predicate g.args ≡ has s g.predicate g.args → atoms t g ↔ atoms s g
same-has s t g e = (λ x. sym e ∙ x, λ x. e ∙ x)

pub same-twice : (r s t : State) → IsSame r s → IsSame s t → IsSame r t
same-twice r s t f h g = (λ x. (f g).0 ((h g).0 x), λ x. (h g).1 ((f g).1 x))

-- atoms made false and then others made true, between two states that have the same atoms as these
pub changed_by : (old entered denied affirmed new : State) (A D : GroundAtom → Type 0) → IsSame old entered → Has denied (λ g. atoms entered g × (D g → ⊥)) → Has affirmed (λ g. atoms denied g ⊎ A g) → IsSame affirmed new
    → Has new (λ g. (atoms old g × (D g → ⊥)) ⊎ A g)
changed_by old entered denied affirmed new A D e d a f g = (
  λ x. elim ((a g).0 ((f g).0 x)) [ inl y ↦ (let z = (d g).0 y in inl ((e g).0 z.0, z.1)) | inr y ↦ inr y ],
  λ x. (f g).1 ((a g).1 (elim x [ inl y ↦ inl ((d g).1 ((e g).1 y.0, y.1)) | inr y ↦ inr y ])),
)

module _ (s t : State) (a : GroundAtom) (v : Option Bool) (n : IsNoted s a v t) where
  pub made-true : v ≡ Some true → Has t (With s a)
  made-true e g = elim (same-or-not g a) [
    | inl d ↦ (λ x. inr d, λ x. subst (atoms t) (sym d) (ap is_true (n.here ∙ e)))
    | inr d ↦ (
      λ x. inl (sym (ap is_true (n.others g d)) ∙ x),
      λ x. elim x [ inl y ↦ ap is_true (n.others g d) ∙ y | inr y ↦ absurd (d y) ],
    )
  ]

  pub made-false : is_true v ≡ false → Has t (Without s a)
  made-false e g = elim (same-or-not g a) [
    | inl d ↦ (λ x. absurd (true≢false (sym (subst (atoms t) d x) ∙ ap is_true n.here ∙ e)), λ x. absurd (x.1 d))
    | inr d ↦ (λ x. (sym (ap is_true (n.others g d)) ∙ x, d), λ x. ap is_true (n.others g d) ∙ x.0)
  ]

  pub still-same : is_true v ≡ has s a.predicate a.args → IsSame s t
  still-same e g = elim (same-or-not g a) [
    | inl d ↦ same-has s t g (subst (λ (x : GroundAtom). has t x.predicate x.args ≡ has s x.predicate x.args) (sym d) (ap is_true n.here ∙ e))
    | inr d ↦ same-has s t g (ap is_true (n.others g d))
  ]

  -- where something is noted now of what something was
  pub keeps-notes : (IsSome (note_of s a) → IsSome v) → KeepsNotes s t
  keeps-notes k g i = elim (same-or-not g a) [
    | inl d ↦ subst (λ (x : GroundAtom). IsSome (note_of t x)) (sym d) (subst IsSome (sym n.here) (k (subst (λ (x : GroundAtom). IsSome (note_of s x)) d i)))
    | inr d ↦ subst IsSome (sym (n.others g d)) i
  ]

pub set-Some : (b : Bool) (o : Option Bool) → IsSome o → option_map (λ _. b) o ≡ Some b
set-Some b (Some x) i = refl
set-Some b None i = absurd (true≢false (sym i))

pub set-false : (o : Option Bool) → is_true (option_map (λ _. false) o) ≡ false
set-false (Some x) = refl
set-false None = refl

-- what is noted as true or false
module _ (s t : State) (a : GroundAtom) (b : Bool) (n : IsNoted s a (option_map (λ _. b) (note_of s a)) t) where
  pub set-true : IsSome (note_of s a) → b ≡ true → Has t (With s a)
  set-true i e = made-true s t a (option_map (λ _. b) (note_of s a)) n (set-Some b (note_of s a) i ∙ ap (λ x. Some x) e)

  pub set-keeps : KeepsNotes s t
  set-keeps = keeps-notes s t a (option_map (λ _. b) (note_of s a)) n (λ i. subst IsSome (sym (set-Some b (note_of s a) i)) refl)

-- one item more of a list
pub taken-next : {X : Type 0} (xs : List X) (i : ℕ) (a : X) → i < length xs → a ≡ get_or xs i a → (g : X) → Contains (take (i + 1) xs) g ↔ (Contains (take i xs) g ⊎ (g ≡ a))
taken-next xs i a l e g =
    let more = take_next xs i a l e in (
      λ h. elim (Contains-push_cases (take i xs) a g (subst (λ ys. Contains ys g) more h)) [ inl c ↦ inl c | inr d ↦ inr (sym d) ],
      λ h. subst (λ ys. Contains ys g) (sym more) (elim h [ inl c ↦ Contains-append_left (take i xs) (a ∷ []) g c | inr d ↦ subst (λ b. Contains (take i xs ++ a ∷ []) b) (sym d) (Contains-push (take i xs) a) ]),
    )

-- the state of the first atoms, and one more
pub new-next : (xs : List GroundAtom) (i : ℕ) (a : GroundAtom) (s t : State) → i < length xs → a ≡ get_or xs i a → Has s (Contains (take i xs)) → Has t (With s a) → Has t (Contains (take (i + 1) xs))
new-next xs i a s t l e h w g =
    let more = taken-next xs i a l e g in (
      λ x. more.1 (elim ((w g).0 x) [ inl y ↦ inl ((h g).0 y) | inr y ↦ inr y ]),
      λ x. (w g).1 (elim (more.0 x) [ inl y ↦ inl ((h g).1 y) | inr y ↦ inr y ]),
    )

-- atoms put in, and one more
pub with-more : (old s t : State) (P Q : GroundAtom → Type 0) (a : GroundAtom) → ((g : GroundAtom) → Q g ↔ (P g ⊎ (g ≡ a))) → Has s (λ g. atoms old g ⊎ P g) → Has t (With s a) → Has t (λ g. atoms old g ⊎ Q g)
with-more old s t P Q a more h w g = put-then (more g) (h g) (w g)

pub with-next : (old s t : State) (xs : List GroundAtom) (i : ℕ) (a : GroundAtom) → i < length xs → a ≡ get_or xs i a → Has s (WithAll old (take i xs)) → Has t (With s a) → Has t (WithAll old (take (i + 1) xs))
with-next old s t xs i a l e = with-more old s t (Contains (take i xs)) (Contains (take (i + 1) xs)) a (taken-next xs i a l e)

-- and taken out
pub without-more : (old s t : State) (P Q : GroundAtom → Type 0) (a : GroundAtom) → ((g : GroundAtom) → Q g ↔ (P g ⊎ (g ≡ a))) → Has s (λ g. atoms old g × (P g → ⊥)) → Has t (Without s a) → Has t (λ g. atoms old g × (Q g → ⊥))
without-more old s t P Q a more h w g = taken-then (more g) (h g) (w g)

pub without-next : (old s t : State) (xs : List GroundAtom) (i : ℕ) (a : GroundAtom) → i < length xs → a ≡ get_or xs i a → Has s (WithoutAll old (take i xs)) → Has t (Without s a) → Has t (WithoutAll old (take (i + 1) xs))
without-next old s t xs i a l e = without-more old s t (Contains (take i xs)) (Contains (take (i + 1) xs)) a (taken-next xs i a l e)

-- one atom more of those of which something is noted
pub noted-next : (xs : List GroundAtom) (i : ℕ) (a : GroundAtom) (s t : State) → i < length xs → a ≡ get_or xs i a → AreNoted (take i xs) s → KeepsNotes s t → IsSome (note_of t a) → AreNoted (take (i + 1) xs) t
noted-next xs i a s t l e h k n g c = elim ((taken-next xs i a l e g).0 c) [
  | inl d ↦ k g (h g d)
  | inr d ↦ subst (λ (x : GroundAtom). IsSome (note_of t x)) (sym d) n
]

-- the atom at the place is one of the list
pub item-of : {X : Type 0} (xs : List X) (i : ℕ) (a : X) → i < length xs → a ≡ get_or xs i a → Contains xs a
item-of xs i a l e = (i, l, sym e)

-- where nothing was noted of the atom, it is now noted as false
pub entered : (s t : State) (a : GroundAtom) → is_some (note_of s a) ≡ false → IsNoted s a (Some false) t → IsSame s t × KeepsNotes s t × IsSome (note_of t a)
entered s t a e n =
    let was : note_of s a ≡ None = none (note_of s a) e in (
      still-same s t a (Some false) n (sym (ap is_true was)),
      keeps-notes s t a (Some false) n (λ i. refl),
      subst IsSome (sym n.here) refl,
    )
  where
    none : (o : Option Bool) → is_some o ≡ false → o ≡ None
    none None e = refl
    none (Some x) e = absurd (true≢false e)
