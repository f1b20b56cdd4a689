-- The least of the spots that were noted is the least fault, where these spots are the faults or have the least of them.
use Rattle.std.proofs.Common.{ℕ, ◌≡◌, ◌<◌, ◌≤◌, Bool, true, false, inl, inr, List, [], ◌++◌, Some, None, refl, sym, ap, arith}
use Rattle.std.specs.Prelude.{◌⊎◌, ◌↔◌, ◌==◌, ◌&&◌, ◌||◌, nat_lt, Contains}
use Rattle.std.proofs.lemmas.Bool.{ltb-true, ltb-false, eqb-true, eqb-false}
use Rattle.hddl_reader.specs.names.Faults.{IsInFront, IsLeast, HasNoFault}
use Rattle.htn_base.specs.Lists.{Has}
use Rattle.name_binding.specs.declared.faults.Spot.{Spot}
use Rattle.name_binding.specs.Spots.{spot, is_in_front, noted, AreLeastOf}
use Rattle.name_binding.proofs.Least.{least_is_fault, least_is_first, none_is_fault, least-append, least_of_themselves}
use Rattle.text_values.proofs.form_spellings.binding_laws.Numbered.{contains_has, has_contains}

less : (m n : ℕ) → m ≤ n → (n ≡ m → ⊥) → m < n
less m n l x = go (nat_lt m n) refl
  where
    go : (b : Bool) → nat_lt m n ≡ b → m < n
    go true e = ltb-true m n e
    go false e = let k = ltb-false m n e in absurd (x (omega arith))

-- no spot in front of another is behind it
behind_front : (at code at' code' : ℕ) → is_in_front (spot at' code') (spot at code) ≡ false → IsInFront code at code' at'
behind_front at code at' code' e = by (nat_lt at' at) refl (at' == at) refl (nat_lt code' code) refl e
  where
    by : (a : Bool) → nat_lt at' at ≡ a → (b : Bool) → (at' == at) ≡ b → (c : Bool) → nat_lt code' code ≡ c → (a || (b && c)) ≡ false → IsInFront code at code' at'
    by true f b g c h e = absurd (cc)
    by false f true g true h e = absurd (cc)
    by false f true g false h e = inr (sym (eqb-true at' at g), ltb-false code' code h)
    by false f false g c h e = inl (less at at' (ltb-false at' at f) (eqb-false at' at g))

-- a list of spots, the first of which have the least of some faults, while the others are faults themselves
module _ (IsFault : Spot → Type 0) (HasFault : ℕ → ℕ → Type 0) (firsts others : List Spot) (least : AreLeastOf IsFault firsts)
    (are : (code at : ℕ) → (IsFault (spot at code) ⊎ Has others (spot at code)) ↔ HasFault at code) where
  abbrev Is : Spot → Type 0
  Is s = IsFault s ⊎ Contains others s

  all : AreLeastOf Is (firsts ++ others)
  all = least-append firsts others least (least_of_themselves others)

  there : (code at : ℕ) → Is (spot at code) → HasFault at code
  there code at (inl f) = (are code at).0 (inl f)
  there code at (inr c) = (are code at).0 (inr (contains_has others (spot at code) c))

  back : (code at : ℕ) → HasFault at code → Is (spot at code)
  back code at f = elim ((are code at).1 f) [ inl i ↦ inl i | inr h ↦ inr (has_contains others (spot at code) h) ]

  pub least_is : (code at : ℕ) → noted None (firsts ++ others) ≡ Some (spot at code) → IsLeast HasFault code at
  least_is code at e = record {
    is = there code at (least_is_fault (firsts ++ others) all (spot at code) e);
    least = λ code' at' f. behind_front at code at' code' (least_is_first (firsts ++ others) all (spot at code) e (spot at' code') (back code' at' f));
  }

  pub none_is : firsts ++ others ≡ [] → HasNoFault HasFault
  none_is e at code f = none_is_fault (firsts ++ others) all (ap (noted None) e) (spot at code) (back code at f)
