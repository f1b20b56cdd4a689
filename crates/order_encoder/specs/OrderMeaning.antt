-- What the formulas on order pairs, and on free slots, mean: no pair comes to a slot, all that leave it go, those that leave it are copied.
-- Source: this project's encoding, after Alford et al., "Bound to Plan", ICAPS 2016.
use Rattle.std.specs.Prelude.{ℕ, ◌≡◌, ◌+◌, ◌<◌, ◌≤◌, ◌↔◌, List, [], ◌∷◌, length, slice_index}
use Rattle.plan_model.specs.declared.options.Style.{Style}
use Rattle.plan_model.specs.declared.terms.GroundAtom.{GroundAtom}
use Rattle.plan_model.specs.declared.terms.Term.TheVariants.{Var}
use Rattle.plan_model.specs.plan_meaning.Truth.{State, EachTrue, OneTrue, IsTrueIn, Adds, Deletes}
use Rattle.order_encoder.specs.OrderFormulas.{OrderNumbers, wait_parts, clear_parts, copy_parts, free_parts}

-- an atom of one object
abbrev pub atom : ℕ → ℕ → GroundAtom
atom predicate object = record { predicate = predicate; args = object ∷ [] }

-- Order pairs and free slots. An object of a slot, an atom of two slots, and an atom of one.
module _ (n : OrderNumbers) (slots : ℕ) where
  abbrev pub IsSlotObject : ℕ → Type 0
  IsSlotObject o = (n.first_slot ≤ o) × (o < n.first_slot + slots)

  abbrev pub pair_atom : ℕ → ℕ → GroundAtom
  pair_atom x y = record { predicate = n.before; args = x ∷ y ∷ [] }

  -- the slots are those of the type of slots
  abbrev pub AreTheSlots : (ℕ → ℕ → Type 0) → Type 0
  AreTheSlots InType = (o : ℕ) → InType o n.slot_type ↔ IsSlotObject o

  -- what the parts mean in state S, where these are the values of the variables in force, and i and j are numbers of variables
  pub record OrderMeaning (InType : ℕ → ℕ → Type 0) (S : State) (values : List ℕ) (style : Style) : Type 0 where
    -- no slot comes before that of variable i
    pub waits : (i : ℕ) → i < length values
        → EachTrue (IsTrueIn InType S) (wait_parts n slots (length values) style (Var i)) values ↔ ((o : ℕ) → IsSlotObject o → S (pair_atom o (slice_index values i)) → ⊥)
    -- all pairs that leave it are deleted
    pub clear_adds : (i : ℕ) (g : GroundAtom) → OneTrue (λ e v. Adds InType S e v g) (clear_parts n slots (length values) style (Var i)) values → ⊥
    pub clear_deletes : (i : ℕ) (g : GroundAtom) → i < length values
        → OneTrue (λ e v. Deletes InType S e v g) (clear_parts n slots (length values) style (Var i)) values ↔ ((o : ℕ) × IsSlotObject o × (g ≡ pair_atom (slice_index values i) o))
    -- those that are true are added for j
    pub copy_adds : (i j : ℕ) (g : GroundAtom) → i < length values → j < length values
        → OneTrue (λ e v. Adds InType S e v g) (copy_parts n slots (length values) style (Var i) (Var j)) values
        ↔ ((o : ℕ) × IsSlotObject o × S (pair_atom (slice_index values i) o) × (g ≡ pair_atom (slice_index values j) o))
    pub copy_deletes : (i j : ℕ) (g : GroundAtom) → OneTrue (λ e v. Deletes InType S e v g) (copy_parts n slots (length values) style (Var i) (Var j)) values → ⊥
    -- every slot is free
    pub free : (predicate : ℕ) → EachTrue (IsTrueIn InType S) (free_parts n slots (length values) style predicate) values ↔ ((o : ℕ) → IsSlotObject o → S (atom predicate o))
