-- The facts that tell which slot is lower: those of the first state, and that they never change.
use Rattle.std.proofs.Common.{ℕ, suc, ◌≡◌, ◌↔◌, ◌-◌, ◌<◌, ◌≤◌, inl, inr, List, [], ◌∷◌, map, length, ap, sym, subst, Contains, arith}
use Rattle.std.proofs.lemmas.List.Elements.{Contains-append_left, Contains-append_right, Contains-append_cases}
use Rattle.plan_model.specs.declared.options.Style.{Style}
use Rattle.plan_model.specs.declared.terms.GroundAtom.{GroundAtom}
use Rattle.plan_model.specs.declared.values.Compiled.{Compiled}
use Rattle.plan_model.specs.declared.values.Pddl.{Pddl}
use Rattle.plan_model.specs.task_networks.Spelling.{numbers}
use Rattle.plan_model.proofs.task_networks.Lists.{Contains-here, Contains-later, head_or_tail, not-in_empty}
use Rattle.plan_model.proofs.task_networks.Numbers.{numbers_to, to_numbers}
use Rattle.plan_model.proofs.plan_meaning.Pairs.{map_to}
use Rattle.plan_model.specs.plan_meaning.Truth.{State}
use Rattle.plan_model.specs.plan_meaning.Network.{Work, network}
use Rattle.plan_model.specs.plan_meaning.Solution.{top_work, initial}
use Rattle.slot_machine.specs.Machine as Machine
use Rattle.slot_encoding.specs.EncodedNames.{joined, guard_predicate}
use Rattle.slot_encoding.specs.EncodedValue.{atom}
use Rattle.slot_encoding.specs.FirstFree.{less_predicate, is_less, less_facts}
use Rattle.slot_encoding.proofs.Pieces.{slot_object, IsSlot}
use Rattle.plan_proof.proofs.machine.Reading.{IsKnown, held, free_atom, pair, Reads, Keeps}
use Rattle.plan_proof.proofs.machine.Atoms.{one_slot, behind_held, behind_free, behind_before, behind_source}
use Rattle.plan_proof.proofs.machine.Facts.{PiecesMean}
use Rattle.plan_proof.proofs.machine.Starts.{Kind, is_top, is_free, is_source, is_guard, kind_of, Contains-mapped, start_reads}
use Rattle.slot_encoding.proofs.first_free.FirstValue.{first_of}

joined_to : {A : Type 0} (xss : List (List A)) (x : A) → Contains (joined xss) x → (xs : List A) × Contains xss xs × Contains xs x
joined_to [] x d = absurd (not-in_empty x d)
joined_to (xs ∷ xss) x d = elim (Contains-append_cases xs (joined xss) x d) [ inl e ↦ (xs, Contains-here xs xss, e) | inr e ↦ (let (ys, f, g) = joined_to xss x e in (ys, Contains-later xs xss ys f, g)) ]

to_joined : {A : Type 0} (xss : List (List A)) (xs : List A) (x : A) → Contains xss xs → Contains xs x → Contains (joined xss) x
to_joined [] xs x d e = absurd (not-in_empty xs d)
to_joined (ys ∷ xss) xs x d e = elim (head_or_tail ys xss xs d) [
  | inl f ↦ Contains-append_left ys (joined xss) x (subst (λ z. Contains z x) (sym f) e)
  | inr f ↦ Contains-append_right ys (joined xss) x (to_joined xss xs x f e)
]

module _ (c : Compiled) (b : ℕ) (style : Style) (q : Pddl) where
  -- that object o, a slot, is lower than object u
  abbrev pub less_atom : ℕ → ℕ → GroundAtom
  less_atom o u = record { predicate = less_predicate c; args = o ∷ u ∷ [] }

  -- the state tells of two slots whether the one is lower
  abbrev pub TellsLess : State → Type 0
  TellsLess S = (x y : ℕ) → IsSlot c b style q x → IsSlot c b style q y → S (less_atom (slot_object c b style q x) (slot_object c b style q y)) ↔ (x < y)

  pub tells_after : (S S' : State) → Keeps c S S' → TellsLess S → TellsLess S'
  tells_after S S' k l x y s t =
      let e = k (less_atom (slot_object c b style q x) (slot_object c b style q y)) (omega arith) in let f = l x y s t in
      (λ z. f.0 (e.0 z), λ z. e.1 (f.1 z))

  abbrev facts : List GroundAtom
  facts = less_facts c q.names b style

  abbrev row : ℕ → List GroundAtom
  row j = map (is_less c q.names b style j) (numbers (suc j) (b - j))

  -- each of the facts
  record IsFact (g : GroundAtom) : Type 0 where
    low : ℕ
    high : ℕ
    low_slot : IsSlot c b style q low
    high_slot : IsSlot c b style q high
    below : low < high
    is : g ≡ less_atom (slot_object c b style q low) (slot_object c b style q high)

  fact_of : (g : GroundAtom) → Contains facts g → IsFact g
  fact_of g d =
      let (xs, e, f) = joined_to (map row (numbers 1 b)) g d in
      let (j, k, i) = map_to row (numbers 1 b) xs e in
      let (n, m, r) = map_to (is_less c q.names b style j) (numbers (suc j) (b - j)) g (subst (λ z. Contains z g) (sym i) f) in
      let (l, h) = numbers_to 1 b j k in
      let (l', h') = numbers_to (suc j) (b - j) n m in
      record { low = j; high = n; low_slot = (l, omega arith); high_slot = (omega arith, omega arith); below = l'; is = sym r }

  to_fact : (x y : ℕ) → IsSlot c b style q x → IsSlot c b style q y → x < y → Contains facts (less_atom (slot_object c b style q x) (slot_object c b style q y))
  to_fact x y s t l =
      let (s1, s2) = s in let (t1, t2) = t in
      to_joined (map row (numbers 1 b)) (row x) (less_atom (slot_object c b style q x) (slot_object c b style q y))
      (Contains-mapped row (numbers 1 b) x (to_numbers 1 b x s1 (omega arith)))
      (Contains-mapped (is_less c q.names b style x) (numbers (suc x) (b - x)) y (to_numbers (suc x) (b - x) y l (omega arith)))

  facts_tell : TellsLess (Contains facts)
  facts_tell x y s t = (to, to_fact x y s t)
    where
      to : Contains facts (less_atom (slot_object c b style q x) (slot_object c b style q y)) → x < y
      to d =
          let f = fact_of (less_atom (slot_object c b style q x) (slot_object c b style q y)) d in
          let e = ap (λ (g : GroundAtom). g.args) f.is in
          let m = one_slot c b style q x f.low s f.low_slot (cc) in
          let n = one_slot c b style q y f.high t f.high_slot (cc) in
          let l = f.below in
          omega arith

  -- other atoms
  abbrev IsOther : GroundAtom → Type 0
  IsOther g = (o u : ℕ) → g ≡ less_atom o u → ⊥

  module _ (means : PiecesMean c b style q) where
    not_plain : (o u : ℕ) → Contains q.init (less_atom o u) → ⊥
    not_plain o u d = go (kind_of c b style q means (less_atom o u) d)
      where
        go : Kind c b style q means (less_atom o u) → ⊥
        go (is_top e) = let f = ap (λ (g : GroundAtom). g.args) e in cc
        go (is_free k l m e) = let f = ap (λ (g : GroundAtom). g.args) e in cc
        go (is_source e) = behind_source c b style q means.differ (less_atom o u) (omega arith) (means.fits.init (less_atom o u) e)
        go (is_guard ty v e) = let f = ap (λ (g : GroundAtom). g.args) e in cc

    abbrev first : State
    first = Contains (first_of c b style q).init

    pub start_tells : TellsLess first
    start_tells x y s t = (
      λ d. elim (Contains-append_cases q.init facts (less_atom (slot_object c b style q x) (slot_object c b style q y)) d) [
        | inl e ↦ absurd (not_plain (slot_object c b style q x) (slot_object c b style q y) e)
        | inr e ↦ (facts_tell x y s t).0 e
      ],
      λ l. Contains-append_right q.init facts (less_atom (slot_object c b style q x) (slot_object c b style q y)) ((facts_tell x y s t).1 l),
    )

    others_alike : (g : GroundAtom) → IsOther g → Contains q.init g ↔ first g
    others_alike g n = (
      λ d. Contains-append_left q.init facts g d,
      λ d. elim (Contains-append_cases q.init facts g d) [
        | inl e ↦ e
        | inr e ↦ absurd (let f = fact_of g e in n (slot_object c b style q f.low) (slot_object c b style q f.high) f.is)
      ],
    )

    -- no atom that a state reads by is such a fact
    reads_elsewhere : (S S' : State) (t : Machine.SlotState (network c)) (T : State) → ((g : GroundAtom) → IsOther g → S g ↔ S' g) → Reads c b style q S t T → Reads c b style q S' t T
    reads_elsewhere S S' t T s r = record {
      holds = λ x w. (let h = r.holds x w in (λ k. (let z = h.0 k in (z.0, z.1, (s (held c b style q x w) (not_held x w z.0)).0 z.2)), λ z. h.1 (z.0, z.1, (s (held c b style q x w) (not_held x w z.0)).1 z.2)));
      free = λ x. (let h = r.free x in let e = s (free_atom c b style q x) (λ o u f. behind_free c b style q means.differ (less_atom o u) (slot_object c b style q x) (omega arith) (sym f)) in (λ k. (let z = h.0 k in (z.0, e.0 z.1)), λ z. h.1 (z.0, e.1 z.1)));
      before = λ x y. (let h = r.before x y in let e = s (pair c b style q x y) (λ o u f. behind_before c b style q means.differ (less_atom o u) (slot_object c b style q x ∷ slot_object c b style q y ∷ []) (omega arith) (sym f)) in (λ k. (let z = h.0 k in (z.0, z.1, e.0 z.2)), λ z. h.1 (z.0, z.1, e.1 z.2)));
      source = λ g l. (let h = r.source g l in let e = s g (λ o u f. behind_source c b style q means.differ (less_atom o u) (omega arith) (subst (λ (z : GroundAtom). z.predicate < length c.hddl.predicates) f l)) in (λ k. h.0 (e.1 k), λ k. e.0 (h.1 k)));
      guards = λ ty o k. (let h = r.guards ty o k in let e = s (atom (guard_predicate c ty) o) (λ o' u f. (let v = ap (λ (g : GroundAtom). g.args) f in cc)) in (λ z. h.0 (e.1 z), λ z. e.0 (h.1 z)));
    }
      where
        not_held : (x : ℕ) (w : Work) → IsKnown c w → IsOther (held c b style q x w)
        not_held x w k o u e = behind_held c b style q means.differ (less_atom o u) x w (omega arith) k (sym e)

    pub first_reads : 1 ≤ b → Reads c b style q first (Machine.start (network c) b (top_work c)) (initial c)
    first_reads positive = reads_elsewhere (Contains q.init) first (Machine.start (network c) b (top_work c)) (initial c) others_alike (start_reads c b style q means positive)
