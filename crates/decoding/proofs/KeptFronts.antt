-- What a decoder keeps follows a step, in its own words.
use Rattle.std.proofs.Common.{ℕ, zero, suc, ◌≡◌, ◌≢◌, ◌+◌, ◌<◌, ◌≤◌, ◌⊎◌, ◌↔◌, inl, inr, List, [], ◌∷◌, ◌++◌, length, Some, None, slice_get, refl, ap, sym, subst, ◌∙◌, Contains, arith}
use Rattle.htn_base.specs.Different.{AreDifferent}
use Rattle.plan_model.specs.task_networks.Net.{Net, count}
use Rattle.plan_model.specs.task_networks.Lawful.{IsLawful}
use Rattle.plan_model.specs.task_networks.Tree.{Tree, open_leaf, used, Address, label_at, IsProcessed}
use Rattle.plan_model.specs.task_networks.Spelling.{Act, label_of, Spells}
use Rattle.plan_model.proofs.task_networks.Parents.{child_address}
use Rattle.slot_machine.specs.Machine.{with_heir}
use Rattle.slot_machine.specs.Reached.{HasLeaf}
use Rattle.slot_machine.specs.Causes.{IsWaiting}
use Rattle.slot_machine.specs.Laws.{SpellsFront}
use Rattle.slot_machine.proofs.FrontSteps.{open_apart, used_back}
use Rattle.slot_machine.proofs.OtherChildren.{get_number}
use Rattle.slot_machine.proofs.RunSpellings.{spells_none}
use Rattle.slot_machine.proofs.SpellingSteps.{open_slots_apart}
use Rattle.tree_core.specs.Growths.{Growth, IsUnder, AreGrowths}
use Rattle.tree_core.proofs.Gets.{get_right, get_cases, get_within, at_place}
use Rattle.decoding.specs.FailingAct.{slot_in, work_in, new_in, WaitsAt, IsSlotTaken}
use Rattle.decoding.specs.Waiting.{works_below}
use Rattle.decoding.specs.WaitingLaws.{IsNextStep}
use Rattle.decoding.specs.HeldLeaves.{Leaf, Fits}
use Rattle.decoding.specs.Counted.{IsWhole, IsToldTo, AreNumberedNew, AreNumberedNone}
use Rattle.decoding.specs.CountedLaws.{CountsFollow, WalkTells, WalkEnds}
use Rattle.decoding.specs.HeldLaws.{HeldTells}
use Rattle.decoding.specs.Keeping.{Kept, AreChildSlots, Keeps, KeepsWhole, MayTake, IsGrownBy, IsLoweredBy}
use Rattle.decoding.specs.KeepingLaws.{KeptAtFirst, KeptTells, KeepingTells, KeepsWithChildren, KeepsWithout, WalkGoes, WalkGoesUp, WalkIsOver}
use Rattle.decoding.proofs.FailingSteps.{can_take}
use Rattle.decoding.proofs.Taken.{can_push}
use Rattle.decoding.proofs.Kept.{fits_at_first, fitting_tells, step_fits}
use Rattle.decoding.proofs.Numbers.{growth}
use Rattle.decoding.proofs.NextSteps.{step_is_next}
use Rattle.decoding.proofs.Counts.{counted_at_first, count_tells_waiting, step_counts}

module _ (N : Net) where
  pub kept_at_first : IsLawful N → KeptAtFirst N
  kept_at_first law b top kept positive first = record {
    tree = open_leaf top;
    order = [];
    slot = λ p. 1;
    spells = spells_none N law b top positive;
    fits = subst (λ z. Fits N z kept.held (open_leaf top) [] (λ p. 1)) (sym first.growths) (fits_at_first N top kept.held (λ p. 1) refl first.root first.others);
    counted = counted_at_first N top (λ p. 1) kept.blocked kept.open_at first.unblocked;
    child_slots = λ k q m j e f l. absurd cc;
  }

  module _ (law : IsLawful N) where
    pub keeping_tells : KeepingTells N
    keeping_tells b top kept acts keeps = record { holds = tells.holds; waits = waits_at; taken = λ new. (to new, from new) }
      where
        tells : HeldTells N kept.held keeps.tree keeps.slot
        tells = fitting_tells N law b top acts keeps.tree keeps.order keeps.slot kept.growths kept.held keeps.spells keeps.fits

        waits_at : (x : ℕ) (leaf : Leaf N) → kept.held x ≡ Some leaf → WaitsAt N keeps.tree keeps.slot x ↔ (1 ≤ kept.blocked x)
        waits_at x leaf e =
            let (p, o, at) = (tells.is_held x).1 (leaf, e) in
            subst (λ z. WaitsAt N keeps.tree keeps.slot z ↔ (1 ≤ kept.blocked z)) at
            (count_tells_waiting N law b top acts keeps.tree keeps.order keeps.slot kept.blocked kept.open_at keeps.spells keeps.counted p o)

        to : (new : List ℕ) → IsSlotTaken N keeps.tree keeps.slot new → ((x : ℕ) × (leaf : Leaf N) × Contains new x × (kept.held x ≡ Some leaf)) ⊎ (AreDifferent new → ⊥)
        to new (inl (p, o, c)) = let (leaf, e) = (tells.is_held (keeps.slot p)).0 (p, o, refl) in inl (keeps.slot p, leaf, c, e)
        to new (inr d) = inr d

        from : (new : List ℕ) → ((x : ℕ) × (leaf : Leaf N) × Contains new x × (kept.held x ≡ Some leaf)) ⊎ (AreDifferent new → ⊥) → IsSlotTaken N keeps.tree keeps.slot new
        from new (inl (x, leaf, c, e)) = let (p, o, at) = (tells.is_held x).1 (leaf, e) in inl (p, o, subst (Contains new) (sym at) c)
        from new (inr d) = inr d

    module _ (b : ℕ) (top : N.Work) (positive : 1 ≤ b) (old : Kept N) (acts : List (Act N)) (a : Act N) (leaf : Leaf N) (keeps : Keeps N b top old acts) (may : MayTake N b top old a leaf) where
      next_front : SpellsFront N b top (acts ++ a ∷ [])
      next_front = can_push N law b top positive acts a keeps.tree keeps.order keeps.slot keeps.spells
          (can_take N (Unit {0} → Type 0) (λ S l. Unit {0}) (λ S l. S) b keeps.tree keeps.slot a may.formed has_leaf unblocked free may.different may.met)
        where
          tells : KeptTells N b top old acts keeps
          tells = keeping_tells b top old acts keeps

          has_leaf : HasLeaf N keeps.tree keeps.slot (slot_in N a) (work_in N a)
          has_leaf = (tells.holds (slot_in N a) (work_in N a)).1 (leaf, may.held, may.work)

          unblocked : IsWaiting N keeps.tree has_leaf.0 → ⊥
          unblocked w = let l = (tells.waits (slot_in N a) leaf may.held).0 (has_leaf.0, (work_in N a, has_leaf.1), has_leaf.2, w) in let e = may.unblocked in omega arith

          free : IsSlotTaken N keeps.tree keeps.slot (new_in N a) → ⊥
          free t = go ((tells.taken (new_in N a)).0 t)
            where
              go : ((x : ℕ) × (leaf : Leaf N) × Contains (new_in N a) x × (old.held x ≡ Some leaf)) ⊎ (AreDifferent (new_in N a) → ⊥) → ⊥
              go (inl (x, l, c, e)) = let f = may.free x c in cc
              go (inr d) = d may.different

      module _ (new : Kept N) (by : IsGrownBy N old new a leaf) where
        abbrev grown : Tree N
        grown = next_front.0

        abbrev longer : List Address
        longer = next_front.1

        abbrev slots : Address → ℕ
        slots = next_front.2

        spelled : Spells N b top (acts ++ a ∷ []) grown longer slots
        spelled = next_front.3

        n : IsNextStep N a keeps.tree grown keeps.order longer keeps.slot slots
        n = step_is_next N law b top acts a keeps.tree grown keeps.order longer keeps.slot slots keeps.spells spelled

        many : length keeps.order ≡ length old.growths
        many = keeps.fits.growths_are.many

        fits : Fits N new.growths new.held grown longer slots
        fits = subst (λ z. Fits N z new.held grown longer slots) (sym by.growths)
            (step_fits N law b top acts a keeps.tree grown keeps.order longer keeps.slot slots old.growths old.held new.held leaf keeps.spells spelled keeps.fits may.held by.held)

        counts : CountsFollow N b top acts a keeps.tree grown keeps.order longer keeps.slot slots
        counts = step_counts N law b top acts a keeps.tree grown keeps.order longer keeps.slot slots keeps.spells spelled

        child_slots : AreChildSlots N grown longer slots new.child_slot
        child_slots k q m j e f l = go (get_cases keeps.order (n.leaf ∷ []) k q (ap (λ z. slice_get z k) (sym n.ordered) ∙ e))
          where
            here : (k ≡ length keeps.order) → q ≡ n.leaf → new.child_slot k j ≡ slots (j ∷ q)
            here x y =
                let is : label_of N a ≡ used m = (let z = n.grows.now in let w = ap (label_at N grown) y in cc) in
                let at : slice_get (with_heir (N.heir m) (slot_in N a) (new_in N a)) j ≡ Some (slots (j ∷ n.leaf)) =
                ap (λ z. slice_get z j) (n.children m is) ∙ (get_number (λ i. slots (i ∷ n.leaf)) (count N m) j (slots (j ∷ n.leaf))).1 (l, refl) in
                ap (λ z. new.child_slot z j) (x ∙ many) ∙ by.new_slots m j (slots (j ∷ n.leaf)) is at ∙ ap (λ z. slots (j ∷ z)) (sym y)

            only : (i : ℕ) → k ≡ length keeps.order + i → slice_get (n.leaf ∷ []) i ≡ Some q → new.child_slot k j ≡ slots (j ∷ q)
            only zero x g = here (omega arith) (let y : n.leaf ≡ q = cc in sym y)
            only (suc i) x g = absurd cc

            go : ((k < length keeps.order) × (slice_get keeps.order k ≡ Some q)) ⊎ ((i : ℕ) × (k ≡ length keeps.order + i) × (slice_get (n.leaf ∷ []) i ≡ Some q)) → new.child_slot k j ≡ slots (j ∷ q)
            go (inr (i, x, g)) = only i x g
            go (inl (lt, g)) =
                let (lab, is, t) = (keeps.spells.front.schedule.covers q).0 (at_place keeps.order k q g) in
                let apart : q ≢ n.leaf = (λ x. open_apart N keeps.tree n.leaf (work_in N a, n.is) (subst (IsProcessed N keeps.tree) x (lab, is, t))) in
                let was : label_at N keeps.tree q ≡ Some (used m) = used_back N keeps.tree grown n.leaf n.grows.was.0 (label_of N a) (growth N keeps.tree grown n.leaf (label_of N a) n.grows) q m apart f in
                let address = child_address N keeps.tree q m j keeps.spells.front.grown was l in
                by.other_slots k j (let x = many in omega arith) ∙ keeps.child_slots k q m j g was l ∙ sym (n.same (j ∷ q) address)

        with_children : (m : N.Method) → label_of N a ≡ used m → 0 < count N m → AreNumberedNew N a m (length old.growths) old.blocked old.open_at new.blocked new.open_at → Keeps N b top new (acts ++ a ∷ [])
        with_children m is some numbered = record {
          tree = grown;
          order = longer;
          slot = slots;
          spells = spelled;
          fits = fits;
          counted = counts.with_children m old.blocked old.open_at new.blocked new.open_at is some keeps.counted
              (subst (λ z. AreNumberedNew N a m z old.blocked old.open_at new.blocked new.open_at) (sym many) numbered);
          child_slots = child_slots;
        }

        without : works_below N (label_of N a) ≡ [] → AreNumberedNone N a (length old.growths) old.blocked old.open_at new.blocked new.open_at → KeepsWhole N b top new acts a (length old.growths)
        without none numbered = record {
          tree = keeps.tree;
          order = keeps.order;
          slot = keeps.slot;
          before = keeps.spells;
          grown = grown;
          longer = longer;
          slots = slots;
          spells = spelled;
          fits = fits;
          child_slots = child_slots;
          node = n.leaf;
          is_at = ap (λ z. slice_get z (length old.growths)) n.ordered ∙ ap (slice_get (keeps.order ++ n.leaf ∷ [])) (let x = many in let y : length old.growths ≡ length keeps.order + 0 = omega arith in y) ∙ get_right keeps.order (n.leaf ∷ []) 0;
          whole = counts.begins n.leaf old.blocked old.open_at new.blocked new.open_at none n.is n.at_slot keeps.counted
              (subst (λ z. AreNumberedNone N a z old.blocked old.open_at new.blocked new.open_at) (sym many) numbered);
        }

    pub keeps_with_children : KeepsWithChildren N
    keeps_with_children b top old new acts a leaf m positive keeps may by is some numbered = with_children b top positive old acts a leaf keeps may new by m is some numbered

    pub keeps_without : KeepsWithout N
    keeps_without b top old new acts a leaf positive keeps may by none numbered = without b top positive old acts a leaf keeps may new by none numbered

    module _ (b : ℕ) (top : N.Work) (kept : Kept N) (acts : List (Act N)) (a : Act N) (k : ℕ) (w : KeepsWhole N b top kept acts a k) where
      counted : CountsFollow N b top acts a w.tree w.grown w.order w.longer w.slot w.slots
      counted = step_counts N law b top acts a w.tree w.grown w.order w.longer w.slot w.slots w.before w.spells

      module _ (g : Growth N) (is : slice_get kept.growths k ≡ Some g) where
        under : IsUnder N w.longer k g.parent g.child w.node
        under = w.fits.growths_are.under k g w.node is w.is_at

        over : g.parent ≡ None → Keeps N b top kept (acts ++ a ∷ [])
        over e = record {
          tree = w.grown;
          order = w.longer;
          slot = w.slots;
          spells = w.spells;
          fits = w.fits;
          counted = counted.ends_at_root kept.blocked kept.open_at
              (subst (IsWhole N w.tree w.grown w.longer w.slots kept.blocked kept.open_at) (subst (λ z. IsUnder N w.longer k z g.child w.node) e under) w.whole);
          child_slots = w.child_slots;
        }

        module _ (x : ℕ) (up : Growth N) (m : N.Method) (e : g.parent ≡ Some x) (is_up : slice_get kept.growths x ≡ Some up) (f : up.label ≡ used m) where
          parent : (x < k) × ((q : Address) × (slice_get w.longer x ≡ Some q) × (w.node ≡ g.child ∷ q))
          parent = subst (λ z. IsUnder N w.longer k z g.child w.node) e under

          abbrev q : Address
          q = parent.1.0

          at_x : slice_get w.longer x ≡ Some q
          at_x = parent.1.1

          labelled : label_at N w.grown q ≡ Some (used m)
          labelled = w.fits.growths_are.labels x up q is_up at_x ∙ ap Some f

          tells : WalkTells N b top acts a w.tree w.grown w.order w.longer w.slot w.slots q g.child x m kept.blocked kept.open_at
          tells = counted.goes_on q g.child x m kept.blocked kept.open_at (subst (IsWhole N w.tree w.grown w.longer w.slots kept.blocked kept.open_at) parent.1.2 w.whole) at_x labelled

          slot_of : (j : ℕ) → N.Pair m g.child j → kept.child_slot x j ≡ w.slots (j ∷ q)
          slot_of j d = w.child_slots x q m j at_x labelled (law.pairs m g.child j d).1

          waiting : (j : ℕ) → N.Pair m g.child j → (1 ≤ kept.blocked (kept.child_slot x j)) × ((leaf : Leaf N) × (kept.held (kept.child_slot x j) ≡ Some leaf))
          waiting j d =
              let (o, l) = tells.waiting j d in
              let (leaf, h) = w.fits.all (j ∷ q) o in
              (subst (λ z. 1 ≤ kept.blocked z) (sym (slot_of j d)) l, (leaf, ap kept.held (slot_of j d) ∙ h))

          apart : (j i : ℕ) → N.Pair m g.child j → N.Pair m g.child i → kept.child_slot x j ≡ kept.child_slot x i → j ≡ i
          apart j i d c s =
              let z : j ∷ q ≡ i ∷ q = open_slots_apart N b top (acts ++ a ∷ []) w.grown w.longer w.slots w.spells (j ∷ q) (i ∷ q) (tells.waiting j d).0 (tells.waiting i c).0 (sym (slot_of j d) ∙ s ∙ slot_of i c) in
              cc

          module _ (new : Kept N) (by : IsLoweredBy N kept new m g.child x) where
            fits_new : Fits N new.growths new.held w.grown w.longer w.slots
            fits_new = record {
              growths_are = subst (λ z. AreGrowths N z w.grown w.longer) (sym by.growths) w.fits.growths_are;
              held_are = λ y leaf h. w.fits.held_are y leaf (sym (by.held y) ∙ h);
              all = λ p o. (let (leaf, h) = w.fits.all p o in (leaf, by.held (w.slots p) ∙ h));
            }

            slots_new : AreChildSlots N w.grown w.longer w.slots new.child_slot
            slots_new y p n j h i l = by.slots y j (let z = get_within w.longer y p h in let v = w.fits.growths_are.many in omega arith) ∙ w.child_slots y p n j h i l

            told : IsToldTo N w.tree w.grown w.longer w.slots new.blocked new.open_at q
            told = tells.told new.blocked new.open_at (record {
              blocked_falls = λ j d. subst (λ z. kept.blocked z ≡ suc (new.blocked z)) (slot_of j d) (by.blocked_falls j d);
              blocked_stays = λ y h. by.blocked_stays y (λ j d z. h j d (z ∙ slot_of j d));
              open_falls = by.open_falls;
              open_stays = by.open_stays;
            })

            ends : WalkEnds N b top acts a w.tree w.grown w.order w.longer w.slot w.slots q x m new.blocked new.open_at
            ends = counted.is_decided q x m new.blocked new.open_at told at_x labelled

            whole : new.open_at x ≡ 0 → KeepsWhole N b top new acts a x
            whole z = record {
              tree = w.tree;
              order = w.order;
              slot = w.slot;
              before = w.before;
              grown = w.grown;
              longer = w.longer;
              slots = w.slots;
              spells = w.spells;
              fits = fits_new;
              child_slots = slots_new;
              node = q;
              is_at = at_x;
              whole = ends.whole z;
            }

            done : 1 ≤ new.open_at x → Keeps N b top new (acts ++ a ∷ [])
            done l = record {
              tree = w.grown;
              order = w.longer;
              slot = w.slots;
              spells = w.spells;
              fits = fits_new;
              counted = ends.counted l;
              child_slots = slots_new;
            }

          goes : WalkGoes N b top kept acts a g.child x m
          goes = record { waiting = waiting; apart = apart; parent = tells.parent; whole = whole; done = done }

    pub walk_goes_up : WalkGoesUp N
    walk_goes_up b top kept acts a k x g up m w is e is_up f = goes b top kept acts a k w g is x up m e is_up f

    pub walk_is_over : WalkIsOver N
    walk_is_over b top kept acts a k g w is e = over b top kept acts a k w g is e
