-- How the first state of the printed problem reads.
use Rattle.std.proofs.Common.{ℕ, ◌≡◌, ◌≢◌, ◌↔◌, ◌⊎◌, ◌+◌, ◌-◌, ◌<◌, ◌≤◌, ◌==◌, ◌&&◌, inl, inr, true, false, cond, List, [], ◌∷◌, ◌++◌, map, length, refl, ap, sym, subst, ◌∙◌, Contains, arith, eq-eqb, Bool}
use Rattle.std.specs.Str.{bytes_eq}
use Rattle.std.proofs.lemmas.Bool.Decides.{eqb_tells}
use Rattle.std.proofs.lemmas.List.Elements.{Contains-append_left, Contains-append_right, Contains-append_cases}
use Rattle.plan_model.specs.declared.options.Style.{Style}
use Rattle.plan_model.specs.declared.terms.GroundAtom.{GroundAtom}
use Rattle.plan_model.specs.declared.values.Compiled.{Compiled}
use Rattle.plan_model.specs.declared.values.Pddl.{Pddl}
use Rattle.plan_model.specs.task_networks.Spelling.{numbers}
use Rattle.plan_model.proofs.task_networks.Lists.{Contains-here, Contains-later, head_or_tail, not-in_empty}
use Rattle.plan_model.proofs.task_networks.Numbers.{numbers_to, to_numbers}
use Rattle.slot_machine.specs.Machine as Machine
use Rattle.plan_texts.proofs.Basics.{bytes_eq-true}
use Rattle.plan_model.specs.plan_meaning.Network.{Work, network, top_task}
use Rattle.plan_model.specs.plan_meaning.Solution.{top_work, initial}
use Rattle.plan_model.specs.plan_meaning.Compilation.{once}
use Rattle.slot_encoding.specs.EncodedNames.{guard_types, top_predicate, free_predicate, task_predicate, guard_predicate, first_slot, first_task}
use Rattle.slot_encoding.specs.EncodedValue.{same_atom, atom, first_atoms, AreGuardAtoms, IsInitial}
use Rattle.plan_model.proofs.plan_meaning.Pairs.{once_to, to_once, map_to}
use Rattle.slot_encoding.proofs.Pieces.{slot_object, IsSlot}
use Rattle.plan_proof.proofs.machine.Reading.{IsKnown, held, free_atom, pair, Reads}
use Rattle.plan_proof.proofs.machine.Facts.{PiecesMean}
use Rattle.plan_proof.proofs.machine.Atoms.{held_free, same_held, source_held, source_free, source_before, source_guard, free_before, guard_held, guard_free, guard_before}

tells_atom : (g k : GroundAtom) → (same_atom g k ≡ false) ⊎ (g ≡ k)
tells_atom g k = go (eqb_tells g.predicate k.predicate) (bytes_eq g.args k.args) refl
  where
    go : (((g.predicate == k.predicate) ≡ true) × (g.predicate ≡ k.predicate)) ⊎ (((g.predicate == k.predicate) ≡ false) × (g.predicate ≢ k.predicate)) → (q : Bool) → bytes_eq g.args k.args ≡ q → (same_atom g k ≡ false) ⊎ (g ≡ k)
    go (inr a) q e = inl (ap (λ x. x && bytes_eq g.args k.args) a.0)
    go (inl a) true e = let f = bytes_eq-true g.args k.args e in inr (λ i. record { predicate = a.1 i; args = f i })
    go (inl a) false e = inl (ap (λ x. x && bytes_eq g.args k.args) a.0 ∙ e)

pub Contains-mapped : {A B : Type 0} (f : A → B) (xs : List A) (x : A) → Contains xs x → Contains (map f xs) (f x)
Contains-mapped f [] x k = absurd (not-in_empty x k)
Contains-mapped f (y ∷ xs) x k = elim (head_or_tail y xs x k) [ inl e ↦ (0, omega arith, ap f e) | inr d ↦ Contains-later (f y) (map f xs) (f x) (Contains-mapped f xs x d) ]

module _ (c : Compiled) (b : ℕ) (style : Style) (p : Pddl) (means : PiecesMean c b style p) where
  -- the atoms of guards have predicates of guards
  guard_atom : (tys : List ℕ) (atoms : List GroundAtom) (g : GroundAtom) → AreGuardAtoms c p.names b style tys atoms → Contains atoms g → (ty : ℕ) × (o : ℕ) × (g ≡ atom (guard_predicate c ty) o)
  guard_atom [] atoms g e k = absurd (not-in_empty g (subst (λ l. Contains l g) e k))
  guard_atom (ty ∷ tys) atoms g (members, rest, keeps, e, others) k =
      elim (Contains-append_cases (map (atom (guard_predicate c ty)) members) rest g (subst (λ l. Contains l g) e k)) [
        | inl d ↦ (let (o, q, f) = map_to (atom (guard_predicate c ty)) members g d in (ty, o, sym f))
        | inr d ↦ guard_atom tys rest g others d
      ]

  abbrev frees : List GroundAtom
  frees = map (λ k. atom (free_predicate c) (first_slot c + k)) (numbers 1 (b - 1))

  init_is : IsInitial c p.names b style p.init
  init_is = means.encoded.init

  -- the first atoms by their kinds
  pub data Kind (g : GroundAtom) : Type 0 where
    is_top : g ≡ atom (top_predicate c) (first_slot c) → Kind g
    is_free : (k : ℕ) → 1 ≤ k → k < b → g ≡ atom (free_predicate c) (first_slot c + k) → Kind g
    is_source : Contains c.hddl.init g → Kind g
    is_guard : (ty o : ℕ) → g ≡ atom (guard_predicate c ty) o → Kind g

  pub kind_of : (g : GroundAtom) → Contains p.init g → Kind g
  kind_of g k = elim (Contains-append_cases (first_atoms c p.names b style) init_is.0 g (subst (λ l. Contains l g) init_is.2 k)) [
    | inl d ↦ of_first (head_or_tail (atom (top_predicate c) (first_slot c)) (frees ++ once same_atom c.hddl.init) g d)
    | inr d ↦ (let (ty, o, e) = guard_atom (guard_types c) init_is.0 g init_is.1 d in is_guard ty o e)
  ]
    where
      of_free : (k : ℕ) × Contains (numbers 1 (b - 1)) k × (atom (free_predicate c) (first_slot c + k) ≡ g) → Kind g
      of_free (k, d, e) = let (l, r) = numbers_to 1 (b - 1) k d in is_free k l (omega arith) (sym e)

      of_rest : Contains frees g ⊎ Contains (once same_atom c.hddl.init) g → Kind g
      of_rest (inl d) = of_free (map_to (λ k. atom (free_predicate c) (first_slot c + k)) (numbers 1 (b - 1)) g d)
      of_rest (inr d) = is_source (once_to same_atom c.hddl.init g d)

      of_first : (atom (top_predicate c) (first_slot c) ≡ g) ⊎ Contains (frees ++ once same_atom c.hddl.init) g → Kind g
      of_first (inl e) = is_top (sym e)
      of_first (inr d) = of_rest (Contains-append_cases frees (once same_atom c.hddl.init) g d)

  in_first : (g : GroundAtom) → Contains (first_atoms c p.names b style) g → Contains p.init g
  in_first g d = subst (λ l. Contains l g) (sym init_is.2) (Contains-append_left (first_atoms c p.names b style) init_is.0 g d)

  in_rest : (g : GroundAtom) → Contains (frees ++ once same_atom c.hddl.init) g → Contains p.init g
  in_rest g d = in_first g (Contains-later (atom (top_predicate c) (first_slot c)) (frees ++ once same_atom c.hddl.init) g d)

  top_there : Contains p.init (atom (top_predicate c) (first_slot c))
  top_there = in_first (atom (top_predicate c) (first_slot c)) (Contains-here (atom (top_predicate c) (first_slot c)) (frees ++ once same_atom c.hddl.init))

  free_there : (k : ℕ) → 1 ≤ k → k < b → Contains p.init (atom (free_predicate c) (first_slot c + k))
  free_there k l r = in_rest (atom (free_predicate c) (first_slot c + k))
      (Contains-append_left frees (once same_atom c.hddl.init) (atom (free_predicate c) (first_slot c + k)) (Contains-mapped (λ k. atom (free_predicate c) (first_slot c + k)) (numbers 1 (b - 1)) k (to_numbers 1 (b - 1) k l (omega arith))))

  source_there : (g : GroundAtom) → Contains c.hddl.init g → Contains p.init g
  source_there g d = in_rest g (Contains-append_right frees (once same_atom c.hddl.init) g (to_once same_atom tells_atom c.hddl.init g d))

  -- the first slot holds the top task
  first_held : held c b style p 1 (top_work c) ≡ atom (top_predicate c) (first_slot c)
  first_held =
      let t : (length c.hddl.tasks == length c.hddl.tasks) ≡ true = eq-eqb (length c.hddl.tasks) (length c.hddl.tasks) refl in
      let e : task_predicate c (top_task c) ≡ top_predicate c = ap (λ q. cond q (top_predicate c) (first_task c + length c.hddl.tasks)) t in
      let f : slot_object c b style p 1 ≡ first_slot c = omega arith in
      λ i. record { predicate = e i; args = f i ∷ [] }

  module _ (positive : 1 ≤ b) where
    known_top : IsKnown c (top_work c)
    known_top = let e : length c.hddl.tasks ≤ length c.hddl.tasks = omega arith in e

    first_known : IsSlot c b style p 1
    first_known = (omega arith, positive)

    start_holds : (x : ℕ) (w : Work) → ((x ≡ 1) × (w ≡ top_work c)) ↔ (IsKnown c w × IsSlot c b style p x × Contains p.init (held c b style p x w))
    start_holds x w = (to, λ k. from k.0 k.1 (kind_of (held c b style p x w) k.2))
      where
        to : (x ≡ 1) × (w ≡ top_work c) → IsKnown c w × IsSlot c b style p x × Contains p.init (held c b style p x w)
        to (e, f) =
            let atoms : held c b style p 1 (top_work c) ≡ held c b style p x w = ap (held c b style p 1) (sym f) ∙ ap (λ z. held c b style p z w) (sym e) in
            (subst (IsKnown c) (sym f) known_top, subst (IsSlot c b style p) (sym e) first_known, subst (Contains p.init) (sym first_held ∙ atoms) top_there)

        from : IsKnown c w → IsSlot c b style p x → Kind (held c b style p x w) → (x ≡ 1) × (w ≡ top_work c)
        from k s (is_top e) = same_held c b style p means.differ x 1 w (top_work c) k known_top s first_known (e ∙ sym first_held)
        from k s (is_free n l r e) = absurd (held_free c b style p means.differ x (first_slot c + n) w k e)
        from k s (is_source d) = absurd (source_held c b style p means.differ x w k (means.fits.init (held c b style p x w) d))
        from k s (is_guard ty o e) = absurd (guard_held c b style p means.differ ty o x w k (sym e))

    start_free : (x : ℕ) → ((1 < x) × (x ≤ b)) ↔ (IsSlot c b style p x × Contains p.init (free_atom c b style p x))
    start_free x = (to, λ k. from k.0 (kind_of (free_atom c b style p x) k.1))
      where
        to : (1 < x) × (x ≤ b) → IsSlot c b style p x × Contains p.init (free_atom c b style p x)
        to (l, r) = ((omega arith, r), free_there (x - 1) (omega arith) (omega arith))

        from : IsSlot c b style p x → Kind (free_atom c b style p x) → (1 < x) × (x ≤ b)
        from s (is_top e) = absurd (let f = ap (λ (z : GroundAtom). z.predicate) e in let y = means.differ.top in let z = means.differ.free in omega arith)
        from s (is_free n l r e) =
            let f = ap (λ (z : GroundAtom). z.args) e in
            let q : slot_object c b style p x ≡ first_slot c + n = cc in
            let u = s.0 in let v = s.1 in
            (omega arith, v)
        from s (is_source d) = absurd (source_free c b style p means.differ (means.fits.init (free_atom c b style p x) d))
        from s (is_guard ty o e) = absurd (guard_free c b style p means.differ ty o (slot_object c b style p x) (sym e))

    start_before : (x y : ℕ) → Contains p.init (pair c b style p x y) → ⊥
    start_before x y k = from (kind_of (pair c b style p x y) k)
      where
        from : Kind (pair c b style p x y) → ⊥
        from (is_top e) = let f = ap (λ (z : GroundAtom). z.predicate) e in let y = means.differ.top in let z = means.differ.before in omega arith
        from (is_free n l r e) = free_before c b style p means.differ (first_slot c + n) (slot_object c b style p x ∷ slot_object c b style p y ∷ []) (sym e)
        from (is_source d) = source_before c b style p means.differ (means.fits.init (pair c b style p x y) d)
        from (is_guard ty o e) = guard_before c b style p means.differ ty o (slot_object c b style p x ∷ slot_object c b style p y ∷ []) (sym e)

    start_source : (g : GroundAtom) → g.predicate < length c.hddl.predicates → Contains p.init g ↔ Contains c.hddl.init g
    start_source g l = (λ k. from (kind_of g k), source_there g)
      where
        from : Kind g → Contains c.hddl.init g
        from (is_top e) = absurd (let f = ap (λ (z : GroundAtom). z.predicate) e in let y = means.differ.top in omega arith)
        from (is_free n u r e) = absurd (source_free c b style p means.differ (subst (λ (z : GroundAtom). z.predicate < length c.hddl.predicates) e l))
        from (is_source d) = d
        from (is_guard ty o e) = absurd (source_guard c b style p means.differ ty (subst (λ (z : GroundAtom). z.predicate < length c.hddl.predicates) e l))

    pub start_reads : Reads c b style p (Contains p.init) (Machine.start (network c) b (top_work c)) (initial c)
    start_reads = record {
      holds = start_holds;
      free = start_free;
      before = λ x y. (λ k. absurd k, λ k. start_before x y k.2);
      source = start_source;
      guards = means.guard_atoms;
    }
