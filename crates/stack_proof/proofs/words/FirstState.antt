-- How the first state of the printed problem of a stack reads.
-- Source: this project's.
use Rattle.std.proofs.Common.{ℕ, suc, ◌≡◌, ◌≢◌, ◌⊎◌, ◌+◌, ◌<◌, ◌≤◌, ◌==◌, ◌&&◌, inl, inr, true, false, cond, List, [], ◌∷◌, ◌++◌, map, length, refl, ap, sym, subst, ◌∙◌, Contains, arith, eq-eqb, Bool}
use Rattle.std.specs.Str.{bytes_eq}
use Rattle.std.proofs.lemmas.Bool.Decides.{eqb_tells}
use Rattle.std.proofs.lemmas.List.Elements.{Contains-append_left, Contains-append_right, Contains-append_cases}
use Rattle.plan_model.specs.declared.options.Style.TheVariants.{Adl}
use Rattle.plan_model.specs.declared.terms.GroundAtom.{GroundAtom}
use Rattle.plan_model.specs.declared.values.Compiled.{Compiled}
use Rattle.plan_model.specs.declared.values.Pddl.{Pddl}
use Rattle.plan_model.specs.task_networks.Spelling.{numbers}
use Rattle.plan_model.proofs.task_networks.Lists.{Contains-here, Contains-later, head_or_tail, not-in_empty}
use Rattle.plan_model.proofs.task_networks.Numbers.{to_numbers}
use Rattle.plan_texts.proofs.Basics.{bytes_eq-true}
use Rattle.plan_model.specs.plan_meaning.Network.{Work, network, top_task}
use Rattle.plan_model.specs.plan_meaning.Solution.{top_work, initial}
use Rattle.plan_model.specs.plan_meaning.Compilation.{once}
use Rattle.slot_encoding.specs.EncodedNames.{guard_types, top_predicate, task_predicate, guard_predicate, first_task}
use Rattle.slot_encoding.specs.EncodedValue.{same_atom, atom, AreGuardAtoms}
use Rattle.plan_model.proofs.plan_meaning.Pairs.{once_to, to_once, map_to}
use Rattle.slot_encoding.proofs.Pieces.{GuardAtomsAgree}
use Rattle.plan_proof.proofs.machine.Reading.{IsKnown}
use Rattle.plan_proof.proofs.machine.Atoms.{known_numbered}
use Rattle.plan_proof.proofs.machine.Starts.{Contains-mapped}
use Rattle.stack_machine.specs.StackMachine.{first_stack}
use Rattle.stack_encoding.specs.StackNames.{cell_object}
use Rattle.stack_encoding.specs.StackValue.{up_fact, first_atoms, IsInitial}
use Rattle.stack_proof.proofs.machine.StackReading.{IsCell, held, tip_atom, up_atom, Reads}
use Rattle.stack_proof.proofs.machine.StackFacts.{StackPieces}
use Rattle.stack_proof.proofs.machine.CellAtoms.{one_cell, held_tip, held_up, tip_up, same_held, same_tip, source_held, source_tip, source_up}

tells_atom : (g k : GroundAtom) → (same_atom g k ≡ false) ⊎ (g ≡ k)
tells_atom g k = go (eqb_tells g.predicate k.predicate) (bytes_eq g.args k.args) refl
  where
    go : (((g.predicate == k.predicate) ≡ true) × (g.predicate ≡ k.predicate)) ⊎ (((g.predicate == k.predicate) ≡ false) × (g.predicate ≢ k.predicate)) → (q : Bool) → bytes_eq g.args k.args ≡ q → (same_atom g k ≡ false) ⊎ (g ≡ k)
    go (inr a) q e = inl (ap (λ x. x && bytes_eq g.args k.args) a.0)
    go (inl a) true e = let f = bytes_eq-true g.args k.args e in inr (λ i. record { predicate = a.1 i; args = f i })
    go (inl a) false e = inl (ap (λ x. x && bytes_eq g.args k.args) a.0 ∙ e)

module _ (c : Compiled) (b : ℕ) (p : Pddl) (means : StackPieces c b p) where
  -- the atoms of guards have predicates of guards
  guard_atom : (tys : List ℕ) (atoms : List GroundAtom) (g : GroundAtom) → AreGuardAtoms c p.names b Adl tys atoms → Contains atoms g → (ty : ℕ) × (o : ℕ) × (g ≡ atom (guard_predicate c ty) o)
  guard_atom [] atoms g e k = absurd (not-in_empty g (subst (λ l. Contains l g) e k))
  guard_atom (ty ∷ tys) atoms g (members, rest, keeps, e, others) k =
      elim (Contains-append_cases (map (atom (guard_predicate c ty)) members) rest g (subst (λ l. Contains l g) e k)) [
        | inl d ↦ (let (o, q, f) = map_to (atom (guard_predicate c ty)) members g d in (ty, o, sym f))
        | inr d ↦ guard_atom tys rest g others d
      ]

  abbrev top_there : GroundAtom
  top_there = atom (top_predicate c) (cell_object c 1)

  abbrev facts : List GroundAtom
  facts = map (up_fact c p.names b) (numbers 0 b)

  abbrev sources : List GroundAtom
  sources = once same_atom c.hddl.init

  abbrev rest : List GroundAtom
  rest = facts ++ sources

  init_is : IsInitial c p.names b p.init
  init_is = means.encoded.init

  -- the first atoms by their kinds
  data Kind (g : GroundAtom) : Type 0 where
    is_top : g ≡ atom (top_predicate c) (cell_object c 1) → Kind g
    is_tip : g ≡ tip_atom c b p 1 → Kind g
    is_up : (k : ℕ) → g ≡ up_atom c b p k (suc k) → Kind g
    is_source : Contains c.hddl.init g → Kind g
    is_guard : (ty o : ℕ) → g ≡ atom (guard_predicate c ty) o → Kind g

  kind_of : (g : GroundAtom) → Contains p.init g → Kind g
  kind_of g k = elim (Contains-append_cases (first_atoms c p.names b) init_is.0 g (subst (λ l. Contains l g) init_is.2 k)) [
    | inl d ↦ of_first (head_or_tail top_there (tip_atom c b p 1 ∷ rest) g d)
    | inr d ↦ (let (ty, o, e) = guard_atom (guard_types c) init_is.0 g init_is.1 d in is_guard ty o e)
  ]
    where
      of_up : (k : ℕ) × Contains (numbers 0 b) k × (up_fact c p.names b k ≡ g) → Kind g
      of_up (k, d, e) = is_up k (sym e)

      of_rest : Contains facts g ⊎ Contains sources g → Kind g
      of_rest (inl d) = of_up (map_to (up_fact c p.names b) (numbers 0 b) g d)
      of_rest (inr d) = is_source (once_to same_atom c.hddl.init g d)

      of_second : (tip_atom c b p 1 ≡ g) ⊎ Contains rest g → Kind g
      of_second (inl e) = is_tip (sym e)
      of_second (inr d) = of_rest (Contains-append_cases facts sources g d)

      of_first : (top_there ≡ g) ⊎ Contains (tip_atom c b p 1 ∷ rest) g → Kind g
      of_first (inl e) = is_top (sym e)
      of_first (inr d) = of_second (head_or_tail (tip_atom c b p 1) rest g d)

  in_first : (g : GroundAtom) → Contains (first_atoms c p.names b) g → Contains p.init g
  in_first g d = subst (λ l. Contains l g) (sym init_is.2) (Contains-append_left (first_atoms c p.names b) init_is.0 g d)

  in_rest : (g : GroundAtom) → Contains rest g → Contains p.init g
  in_rest g d = in_first g (Contains-later top_there (tip_atom c b p 1 ∷ rest) g (Contains-later (tip_atom c b p 1) rest g d))

  has_top : Contains p.init top_there
  has_top = in_first top_there (Contains-here top_there (tip_atom c b p 1 ∷ rest))

  has_tip : Contains p.init (tip_atom c b p 1)
  has_tip = in_first (tip_atom c b p 1) (Contains-later top_there (tip_atom c b p 1 ∷ rest) (tip_atom c b p 1) (Contains-here (tip_atom c b p 1) rest))

  has_up : (k : ℕ) → k < b → Contains p.init (up_atom c b p k (suc k))
  has_up k l = in_rest (up_atom c b p k (suc k)) (Contains-append_left facts sources (up_atom c b p k (suc k)) (Contains-mapped (up_fact c p.names b) (numbers 0 b) k (to_numbers 0 b k (omega arith) (omega arith))))

  has_source : (g : GroundAtom) → Contains c.hddl.init g → Contains p.init g
  has_source g d = in_rest g (Contains-append_right facts sources g (to_once same_atom tells_atom c.hddl.init g d))

  -- cell 1 holds the top task
  first_held : held c b p 1 (top_work c) ≡ atom (top_predicate c) (cell_object c 1)
  first_held =
      let t : (length c.hddl.tasks == length c.hddl.tasks) ≡ true = eq-eqb (length c.hddl.tasks) (length c.hddl.tasks) refl in
      let e : task_predicate c (top_task c) ≡ top_predicate c = ap (λ q. cond q (top_predicate c) (first_task c + length c.hddl.tasks)) t in
      λ i. record { predicate = e i; args = cell_object c 1 ∷ [] }

  known_top : IsKnown c (top_work c)
  known_top = let e : length c.hddl.tasks ≤ length c.hddl.tasks = omega arith in e

  -- what is held at the beginning is the top task, in cell 1
  held_is : (x : ℕ) (w : Work) → IsKnown c w → Kind (held c b p x w) → (x ≡ 1) × (w ≡ top_work c)
  held_is x w k (is_top e) = same_held c b p means.differ x 1 w (top_work c) k known_top (e ∙ sym first_held)
  held_is x w k (is_tip e) = absurd (held_tip c b p means.differ x 1 w k e)
  held_is x w k (is_up n e) = absurd (held_up c b p means.differ x n (suc n) w k e)
  held_is x w k (is_source d) = absurd (source_held c b p means.differ x w k (means.fits.init (held c b p x w) d))
  held_is x w k (is_guard ty o e) = absurd (let f = ap (λ (g : GroundAtom). g.predicate) e in let l = means.differ.guard_from_work ty w (known_numbered c w k) in omega arith)

  tip_is : (x : ℕ) → Kind (tip_atom c b p x) → x ≡ 1
  tip_is x (is_top e) = absurd (let f = ap (λ (z : GroundAtom). z.predicate) e in let y = means.differ.top in let z = means.differ.free in omega arith)
  tip_is x (is_tip e) = same_tip c b p means.differ x 1 e
  tip_is x (is_up n e) = absurd (tip_up c b p means.differ x n (suc n) e)
  tip_is x (is_source d) = absurd (source_tip c b p means.differ (means.fits.init (tip_atom c b p x) d))
  tip_is x (is_guard ty o e) = absurd (let f = ap (λ (g : GroundAtom). g.predicate) e in let l = means.differ.guard_from_before ty in let z = means.differ.before in let y = means.differ.free in omega arith)

  up_is : (x y : ℕ) → Kind (up_atom c b p x y) → y ≡ suc x
  up_is x y (is_top e) = absurd (let f = ap (λ (z : GroundAtom). z.predicate) e in let y = means.differ.top in let z = means.differ.before in omega arith)
  up_is x y (is_tip e) = absurd (tip_up c b p means.differ 1 x y (sym e))
  up_is x y (is_up n e) =
      let f = ap (λ (g : GroundAtom). g.args) e in
      let i : x ≡ n = one_cell c x n cc in
      let j : y ≡ suc n = one_cell c y (suc n) cc in
      omega arith
  up_is x y (is_source d) = absurd (source_up c b p means.differ (means.fits.init (up_atom c b p x y) d))
  up_is x y (is_guard ty o e) = absurd (let f = ap (λ (g : GroundAtom). g.predicate) e in let l = means.differ.guard_from_before ty in omega arith)

  source_is : (g : GroundAtom) → g.predicate < length c.hddl.predicates → Kind g → Contains c.hddl.init g
  source_is g l (is_top e) = absurd (let f = ap (λ (z : GroundAtom). z.predicate) e in let y = means.differ.top in omega arith)
  source_is g l (is_tip e) = absurd (source_tip c b p means.differ (subst (λ (z : GroundAtom). z.predicate < length c.hddl.predicates) e l))
  source_is g l (is_up n e) = absurd (source_up c b p means.differ (subst (λ (z : GroundAtom). z.predicate < length c.hddl.predicates) e l))
  source_is g l (is_source d) = d
  source_is g l (is_guard ty o e) = absurd (let f = ap (λ (z : GroundAtom). z.predicate) e in let y = means.differ.before in let z = means.differ.guard_from_before ty in omega arith)

  module _ (guards : GuardAtomsAgree c b Adl p) (positive : 1 ≤ b) where
    first_cell : IsCell c b p 1
    first_cell = (omega arith, positive)

    holds_first : (x : ℕ) (w : Work) → (x ≡ 1) × (w ≡ top_work c) → IsKnown c w × IsCell c b p x × Contains p.init (held c b p x w)
    holds_first x w (e, f) =
        let atoms : held c b p 1 (top_work c) ≡ held c b p x w = ap (held c b p 1) (sym f) ∙ ap (λ z. held c b p z w) (sym e) in
        (subst (IsKnown c) (sym f) known_top, subst (IsCell c b p) (sym e) first_cell, subst (Contains p.init) (sym first_held ∙ atoms) has_top)

    pub first_reads : Reads c b p (Contains p.init) (first_stack (network c) (top_work c)) (initial c)
    first_reads = record {
      holds = λ x w. (holds_first x w, λ k. held_is x w k.0 (kind_of (held c b p x w) k.2));
      bottom = λ w k d. (let e = (held_is 0 w k (kind_of (held c b p 0 w) d)).0 in omega arith);
      tip = λ x. (λ e. (omega arith, subst (λ z. Contains p.init (tip_atom c b p z)) (sym e) has_tip), λ k. tip_is x (kind_of (tip_atom c b p x) k.1));
      source = λ g l. (λ k. source_is g l (kind_of g k), has_source g);
      guards = guards;
      ups = λ x y l k. (λ d. up_is x y (kind_of (up_atom c b p x y) d), λ e. subst (λ z. Contains p.init (up_atom c b p x z)) (sym e) (has_up x (omega arith)));
    }
