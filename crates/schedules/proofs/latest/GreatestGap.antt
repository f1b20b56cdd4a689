-- The greatest gap of one node.
use Rattle.std.proofs.Common.{ℕ, zero, suc, ◌≡◌, ◌+◌, ◌-◌, ◌<◌, ◌≤◌, inl, inr, subst, arith}
use Rattle.plan_model.specs.task_networks.Net.{Net}
use Rattle.plan_model.specs.task_networks.Tree.{Address}
use Rattle.schedules.specs.latest.GreatestGap.{IsUnchanged, IsFoundBelow, SearchGoesDown, FoundIsGreatest, NothingFits, OwnIsGreatest}
use Rattle.schedules.proofs.latest.Counts.{found}
use Rattle.schedules.proofs.latest.Search.{less_or}

module _ (At : ℕ → Type 0) (s bound : ℕ) (within : s ≤ bound) (same : IsUnchanged At s bound) where
  up : (n i : ℕ) → n + i ≡ bound → s ≤ i → At i → At bound
  up zero i e l a = subst At (let f : i ≡ bound = omega arith in f) a
  up (suc n) i e l a = up n (suc i) (omega arith) (omega arith) ((same i l (omega arith)).0 a)

  -- it holds at no gap from s on
  early : (At bound → ⊥) → (i : ℕ) → i ≤ bound → At i → i < s
  early n i l a = elim (less_or i s) [ inl h ↦ h | inr h ↦ absurd (n (up (bound - i) i (omega arith) h a)) ]

  pub found_below : IsFoundBelow At s bound
  found_below = record {
    here = λ a. record { within = omega arith; holds = a; greatest = λ i l b. l };
    found = λ r k e n g. record {
      within = (let x = g.within in omega arith);
      holds = g.holds;
      greatest = λ i l a. g.greatest i (let x = early n i l a in omega arith) a;
    };
    nowhere = λ r e n h i l a. h i (let x = early n i l a in omega arith) a;
    start = λ e n i l a. (let x = early n i l a in omega arith);
  }

module _ (N : Net) (Allowed : Address → ℕ → Type 0) where
  pub goes_down : SearchGoesDown N Allowed
  goes_down p s bound l same = found_below (Allowed p) s bound l same

  pub is_greatest : FoundIsGreatest N Allowed
  is_greatest tree plan gap u bound n b g =
      let x = (b (gap u)).1 g.within in
      record {
        fits = record { under = x.0; own = λ i e. absurd (n (found plan i u e)); children = x.1; primitive = λ c. absurd (n c); allowed = g.holds };
        greatest = λ k f. g.greatest k ((b k).0 (f.under, f.children)) f.allowed;
      }

  pub nothing_fits : NothingFits N Allowed
  nothing_fits tree plan gap u bound b h k f = h k ((b k).0 (f.under, f.children)) f.allowed

  pub own_is_greatest : OwnIsGreatest N Allowed
  own_is_greatest tree plan gap i u e f = (f.own i e, record { fits = f; greatest = λ k h. (let x = h.own i e in let y = f.own i e in omega arith) })
