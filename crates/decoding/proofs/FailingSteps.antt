-- A list of steps is a spelled solution, or it fails at one step for one first cause.
use Rattle.std.proofs.Common.{ℕ, ◌≡◌, ◌≤◌, ◌<◌, ◌+◌, ◌⊎◌, inl, inr, List, [], ◌∷◌, ◌++◌, length, refl, ap, sym, subst, ◌∙◌, Contains, append_assoc, append-nil, arith}
use Rattle.std.proofs.Math.Decide.{ℕ_discrete}
use Rattle.plan_model.specs.task_networks.Net.{Net}
use Rattle.plan_model.specs.task_networks.Lawful.{IsLawful}
use Rattle.plan_model.specs.task_networks.Tree.{Tree, Label, Address, waits, open_leaf, IsOpen}
use Rattle.plan_model.specs.task_networks.Executable.{AreAllowed, last_state}
use Rattle.plan_model.specs.task_networks.Spelling.{Act, run, apply, label_of, Spells}
use Rattle.htn_base.specs.Different.{AreDifferent}
use Rattle.plan_model.proofs.task_networks.Lists.{cuts, Contains-later, not-in_empty, head_or_tail}
use Rattle.slot_machine.specs.Reached.{HasLeaf, SameSlots}
use Rattle.slot_machine.specs.Causes.{IsWaiting, IsNextAt, Can}
use Rattle.slot_machine.specs.Laws.{SpellsFront}
use Rattle.slot_machine.proofs.RunSpellings.{spells_none}
use Rattle.slot_machine.proofs.SpellingSteps.{open_slots_apart}
use Rattle.slot_machine.proofs.Unique.{one_front}
use Rattle.decoding.specs.declared.causes.Why.{Why}
use Rattle.decoding.specs.declared.causes.Why.TheVariants.{UnknownAction, Arguments, SlotHolds, Waiting, SlotTaken, Constraint, Precondition, Unfinished, GoalFalse}
use Rattle.decoding.specs.FailingAct.{place, slot_in, work_in, new_in, IsFormed, IsSlotTaken, IsMet, IsUnmet, ActSentence, IsReading, AreRead, Sentence, FailsBy, SpellsExecutable, StepFails, EndSentence, EndFails, Fails, SpellsSolution}
use Rattle.decoding.specs.FailingLaws.{EachIsSolutionOrFails}
use Rattle.decoding.proofs.FirstCauses.{extend, none_first, first_is_one}
use Rattle.decoding.proofs.Taken.{labels, allowed_parts, allowed_push, same_labels, allowed_of, executable_of, can_push, could}

pub is_in : (xs : List ℕ) (x : ℕ) → Dec (Contains xs x)
is_in [] x = no (λ c. not-in_empty x c)
is_in (y ∷ xs) x = go (ℕ_discrete y x) (is_in xs x)
  where
    go : Dec (y ≡ x) → Dec (Contains xs x) → Dec (Contains (y ∷ xs) x)
    go (yes e) d = yes (0, omega arith, e)
    go (no n) (yes c) = yes (Contains-later y xs x c)
    go (no n) (no m) = no (λ c. elim (head_or_tail y xs x c) [ inl e ↦ n e | inr d ↦ m d ])

pub are_different : (xs : List ℕ) → Dec (AreDifferent xs)
are_different [] = yes tt
are_different (x ∷ xs) = go (is_in xs x) (are_different xs)
  where
    go : Dec (Contains xs x) → Dec (AreDifferent xs) → Dec (AreDifferent (x ∷ xs))
    go (yes c) d = no (λ h. h.0 c)
    go (no n) (yes d) = yes (n, d)
    go (no n) (no m) = no (λ h. m h.1)

module _ (N : Net) (State : Type 1) (Allows : State → Label N → Type 0) (next : State → Label N → State) where
  -- an act that can be taken makes no sentence true
  pub no_sentence : (b : ℕ) (tree : Tree N) (slot : Address → ℕ) (apart : (u v : Address) → IsOpen N tree u → IsOpen N tree v → slot u ≡ slot v → u ≡ v) (S : State) (a : Act N) → Can N tree slot b a → Allows S (label_of N a) → (c : Why) → ActSentence N State Allows next tree slot S a c → ⊥
  no_sentence b tree slot apart S a can allowed c s = go c s
    where
      holds : (a : Act N) → Can N tree slot b a → IsNextAt N tree slot (slot_in N a) (work_in N a)
      holds (run h w) can = can.next
      holds (apply h new m) can = can.next

      n : IsNextAt N tree slot (slot_in N a) (work_in N a)
      n = holds a can

      taken : (a : Act N) → Can N tree slot b a → IsSlotTaken N tree slot (new_in N a) → ⊥
      taken (run h w) can (inl (p, o, c)) = let k = c.1 in omega arith
      taken (run h w) can (inr d) = d tt
      taken (apply h new m) can (inl (p, o, c)) = (can.left (slot p) c).2 p o refl
      taken (apply h new m) can (inr d) = d can.different

      met : (a : Act N) → Can N tree slot b a → IsUnmet N a → ⊥
      met (run h w) can u = u
      met (apply h new m) can u = u can.ground

      go : (c : Why) → ActSentence N State Allows next tree slot S a c → ⊥
      go UnknownAction s = s
      go Arguments s = s
      go SlotHolds s = s n.holds
      go Waiting (p, o, e, w) = n.unblocked (subst (IsWaiting N tree) (apart p n.holds.0 o (work_in N a, n.holds.1) (e ∙ sym n.holds.2)) w)
      go SlotTaken s = taken a can s
      go Constraint s = met a can s
      go Precondition s = s allowed
      go Unfinished s = s
      go GoalFalse s = s

  -- and where none is true, it can be taken
  pub can_take : (b : ℕ) (tree : Tree N) (slot : Address → ℕ) (a : Act N) → IsFormed N b a → (leaf : HasLeaf N tree slot (slot_in N a) (work_in N a)) → (IsWaiting N tree leaf.0 → ⊥) → (IsSlotTaken N tree slot (new_in N a) → ⊥) → AreDifferent (new_in N a) → IsMet N a → Can N tree slot b a
  can_take b tree slot (run h w) f leaf nw nt d g = record { next = record { holds = leaf; unblocked = nw }; simple = f.form }
  can_take b tree slot (apply h new m) f leaf nw nt d g = record {
    next = record { holds = leaf; unblocked = nw };
    enough = f.form;
    left = λ x c. (let r = f.new x c in (r.0, r.1, λ p o e. nt (inl (p, o, subst (Contains new) (sym e) c))));
    different = d;
    ground = g;
  }

  -- sentences see only the slots of addresses
  same_act_sentence : (tree : Tree N) (f g : Address → ℕ) → SameSlots N tree f g → (S : State) (a : Act N) (c : Why) → ActSentence N State Allows next tree g S a c → ActSentence N State Allows next tree f S a c
  same_act_sentence tree f g agree S a UnknownAction s = s
  same_act_sentence tree f g agree S a Arguments s = s
  same_act_sentence tree f g agree S a SlotHolds s = λ leaf. s (leaf.0, leaf.1, agree leaf.0 (waits (work_in N a), leaf.1) ∙ leaf.2)
  same_act_sentence tree f g agree S a Waiting (p, o, e, w) = (p, o, sym (agree p (waits o.0, o.1)) ∙ e, w)
  same_act_sentence tree f g agree S a SlotTaken (inl (p, o, c)) = inl (p, o, subst (Contains (new_in N a)) (agree p (waits o.0, o.1)) c)
  same_act_sentence tree f g agree S a SlotTaken (inr d) = inr d
  same_act_sentence tree f g agree S a Constraint s = s
  same_act_sentence tree f g agree S a Precondition s = s
  same_act_sentence tree f g agree S a Unfinished s = s
  same_act_sentence tree f g agree S a GoalFalse s = s

  module _ (Step : Type 0) (Named : Step → Type 0) (Reads : ℕ → Step → Act N → Type 0) (b : ℕ) where
    abbrev pub Says : Tree N → (Address → ℕ) → State → Step → Why → Type 0
    Says tree slot S s c = Sentence N State Allows next Step Named Reads b tree slot S s c

    same_sentence : (tree : Tree N) (f g : Address → ℕ) → SameSlots N tree f g → (S : State) (s : Step) (c : Why) → Says tree g S s c → Says tree f S s c
    same_sentence tree f g agree S s UnknownAction h = h
    same_sentence tree f g agree S s Arguments h = h
    same_sentence tree f g agree S s SlotHolds (a, r, h) = (a, r, same_act_sentence tree f g agree S a SlotHolds h)
    same_sentence tree f g agree S s Waiting (a, r, h) = (a, r, same_act_sentence tree f g agree S a Waiting h)
    same_sentence tree f g agree S s SlotTaken (a, r, h) = (a, r, same_act_sentence tree f g agree S a SlotTaken h)
    same_sentence tree f g agree S s Constraint (a, r, h) = (a, r, h)
    same_sentence tree f g agree S s Precondition (a, r, h) = (a, r, h)
    same_sentence tree f g agree S s Unfinished (a, r, h) = absurd h
    same_sentence tree f g agree S s GoalFalse (a, r, h) = absurd h

    read_parts : (before more : List Step) (s : Step) (acts : List (Act N)) → AreRead N State Allows next Step Named Reads b (before ++ s ∷ more) acts
        → (ds : List (Act N)) × (a : Act N) × (es : List (Act N)) × (acts ≡ ds ++ a ∷ es) × AreRead N State Allows next Step Named Reads b before ds × Reads b s a
    read_parts [] more s [] h = absurd h
    read_parts [] more s (a ∷ acts) h = ([], a, acts, refl, tt, h.0)
    read_parts (x ∷ before) more s [] h = absurd h
    read_parts (x ∷ before) more s (a ∷ acts) h = let (ds, d, es, e, k, r) = read_parts before more s acts h.1 in (a ∷ ds, d, es, ap (λ z. a ∷ z) e, (h.0, k), r)

    read_push : (before : List Step) (s : Step) (acts : List (Act N)) (a : Act N) → AreRead N State Allows next Step Named Reads b before acts → Reads b s a → AreRead N State Allows next Step Named Reads b (before ++ s ∷ []) (acts ++ a ∷ [])
    read_push [] s [] a h r = (r, tt)
    read_push [] s (d ∷ acts) a h r = absurd h
    read_push (x ∷ before) s [] a h r = absurd h
    read_push (x ∷ before) s (d ∷ acts) a h r = (h.0, read_push before s acts a h.1 r)

    module _ (reading : IsReading N State Allows next Step Named Reads b) where
      read_same : (steps : List Step) (acts others : List (Act N)) → AreRead N State Allows next Step Named Reads b steps acts → AreRead N State Allows next Step Named Reads b steps others → acts ≡ others
      read_same [] [] [] h k = refl
      read_same [] [] (a ∷ others) h k = absurd k
      read_same [] (a ∷ acts) others h k = absurd h
      read_same (s ∷ steps) [] others h k = absurd h
      read_same (s ∷ steps) (a ∷ acts) [] h k = absurd k
      read_same (s ∷ steps) (a ∷ acts) (c ∷ others) h k = let e = reading.one s a c h.0 k.0 in let f = read_same steps acts others h.1 k.1 in λ i. e i ∷ f i

      pub one_act : (tree : Tree N) (slot : Address → ℕ) (S : State) (s : Step) (a : Act N) → Reads b s a → (c : Why) → (ActSentence N State Allows next tree slot S a c → ⊥) → (d : Act N) × Reads b s d × ActSentence N State Allows next tree slot S d c → ⊥
      one_act tree slot S s a r c n (d, q, h) = n (subst (λ (z : Act N). ActSentence N State Allows next tree slot S z c) (reading.one s d a q r) h)

      no_step_sentence : (tree : Tree N) (slot : Address → ℕ) (apart : (u v : Address) → IsOpen N tree u → IsOpen N tree v → slot u ≡ slot v → u ≡ v) (S : State) (s : Step) (a : Act N) → Reads b s a → Can N tree slot b a → Allows S (label_of N a) → (c : Why) → Says tree slot S s c → ⊥
      no_step_sentence tree slot apart S s a r can allowed UnknownAction h = h (reading.named s a r)
      no_step_sentence tree slot apart S s a r can allowed Arguments h = h a r
      no_step_sentence tree slot apart S s a r can allowed SlotHolds h = one_act tree slot S s a r SlotHolds (no_sentence b tree slot apart S a can allowed SlotHolds) h
      no_step_sentence tree slot apart S s a r can allowed Waiting h = one_act tree slot S s a r Waiting (no_sentence b tree slot apart S a can allowed Waiting) h
      no_step_sentence tree slot apart S s a r can allowed SlotTaken h = one_act tree slot S s a r SlotTaken (no_sentence b tree slot apart S a can allowed SlotTaken) h
      no_step_sentence tree slot apart S s a r can allowed Constraint h = one_act tree slot S s a r Constraint (no_sentence b tree slot apart S a can allowed Constraint) h
      no_step_sentence tree slot apart S s a r can allowed Precondition h = one_act tree slot S s a r Precondition (no_sentence b tree slot apart S a can allowed Precondition) h
      no_step_sentence tree slot apart S s a r can allowed Unfinished h = h.2
      no_step_sentence tree slot apart S s a r can allowed GoalFalse h = h.2

      module _ (law : IsLawful N) (first : State) (Goal : State → Type 0) (top : N.Work) (positive : 1 ≤ b) where
        abbrev after : List (Act N) → State
        after acts = last_state N State Allows next first (labels N acts)

        abbrev Steps : List Step → List (Act N) → Type 0
        Steps steps acts = AreRead N State Allows next Step Named Reads b steps acts

        -- where a longer list spells an executable front, no sentence is true of a step of it
        not_inside : (before more : List Step) (s : Step) (whole : List (Act N)) → Steps (before ++ s ∷ more) whole → SpellsFront N b top whole → AreAllowed N State Allows next first (labels N whole)
            → (acts : List (Act N)) → Steps before acts → (tree : Tree N) (order : List Address) (slot : Address → ℕ) → Spells N b top acts tree order slot → (c : Why) → Says tree slot (after acts) s c → ⊥
        not_inside before more s whole rw front allowed acts rd tree order slot sp c says =
            let (ds, a, es, e, k, r) = read_parts before more s whole rw in
            let f : ds ≡ acts = read_same before ds acts k rd in
            let g : whole ≡ acts ++ a ∷ es = e ∙ ap (λ z. z ++ a ∷ es) f in
            let can = could N law b top positive acts es a (subst (SpellsFront N b top) g front) tree order slot sp in
            let al = allowed_parts N State Allows next first acts es a (subst (λ z. AreAllowed N State Allows next first (labels N z)) g allowed) in
            no_step_sentence tree slot (open_slots_apart N b top acts tree order slot sp) (after acts) s a r can al.1 c says

        abbrev Failing : List Step → ℕ → Why → Type 0
        Failing steps n why = StepFails N State Allows next Step Named Reads top first b steps n why

        abbrev Ending : List Step → ℕ → Why → Type 0
        Ending steps n why = EndFails N State Allows next Step Named Reads top first Goal b steps n why

        abbrev Reached : List Step → Tree N → List Address → (Address → ℕ) → Type 0
        Reached steps tree order slot = SpellsExecutable N State Allows next Step Named Reads top first b steps tree order slot

        allowed_in : (steps : List Step) (tree : Tree N) (order : List Address) (slot : Address → ℕ) (r : Reached steps tree order slot) → AreAllowed N State Allows next first (labels N r.acts)
        allowed_in steps tree order slot r = allowed_of N State Allows next first b top r.acts tree order slot r.spells r.executable

        says_of : (steps : List Step) (n : ℕ) (why : Why) (f : Failing steps n why) → FailsBy N State Allows next Step Named Reads b f.tree f.slot (after f.reached.acts) f.step why
        says_of steps n why f = subst (λ z. FailsBy N State Allows next Step Named Reads b f.tree f.slot (last_state N State Allows next first z) f.step why) (same_labels N State Allows next first b top f.reached.acts f.tree f.order f.slot f.reached.spells f.reached.executable) f.fails

        not_past : (steps : List Step) (n : ℕ) (why : Why) → Failing steps n why → (acts : List (Act N)) → Steps steps acts → SpellsFront N b top acts → AreAllowed N State Allows next first (labels N acts) → ⊥
        not_past steps n why f acts rd front allowed = not_inside f.before f.rest f.step acts (subst (λ z. Steps z acts) f.parts rd) front allowed f.reached.acts f.reached.read f.tree f.order f.slot f.reached.spells why (says_of steps n why f).0

        not_in_longer : (steps : List Step) (n : ℕ) (why : Why) (f : Failing steps n why) (before more : List Step) (s : Step) (c : Why) → f.before ≡ before ++ s ∷ more
            → (acts : List (Act N)) → Steps before acts → (tree : Tree N) (order : List Address) (slot : Address → ℕ) → Spells N b top acts tree order slot → Says tree slot (after acts) s c → ⊥
        not_in_longer steps n why f before more s c e acts rd tree order slot sp says =
            not_inside before more s f.reached.acts (subst (λ z. Steps z f.reached.acts) e f.reached.read) (f.tree, f.order, f.slot, f.reached.spells) (allowed_in f.before f.tree f.order f.slot f.reached) acts rd tree order slot sp c says

        -- two sets of sentences on one step, at one front told twice
        same_cause : (acts : List (Act N)) (t : Tree N) (o : List Address) (f : Address → ℕ) (t' : Tree N) (o' : List Address) (f' : Address → ℕ) → Spells N b top acts t o f → Spells N b top acts t' o' f' → (s : Step) (why because : Why)
            → FailsBy N State Allows next Step Named Reads b t f (after acts) s why → FailsBy N State Allows next Step Named Reads b t' f' (after acts) s because → why ≡ because
        same_cause acts t o f t' o' f' sp sp' s why because x y =
            let (et, eo, agree) = one_front N law b top acts t o f t' o' f' sp sp' in
            let back : SameSlots N t f' f = λ p a. sym (agree p a) in
            let z : FailsBy N State Allows next Step Named Reads b t f' (after acts) s because = subst (λ u. FailsBy N State Allows next Step Named Reads b u f' (after acts) s because) et y in
            first_is_one (Says t f (after acts) s) why because x.0 x.1 (same_sentence t f f' agree (after acts) s because z.0) (λ c l h. z.1 c l (same_sentence t f' f back (after acts) s c h))

        abbrev Same : ℕ → ℕ → Why → Why → Type 0
        Same n m why because = (n ≡ m) × (why ≡ because)

        steps_once : (steps : List Step) (n m : ℕ) (why because : Why) → Failing steps n why → Failing steps m because → Same n m why because
        steps_once steps n m why because f g = go (cuts f.before f.step f.rest g.before g.step g.rest (sym f.parts ∙ g.parts))
          where
            one : f.before ≡ g.before → f.step ≡ g.step → why ≡ because
            one e k =
                let h : f.reached.acts ≡ g.reached.acts = read_same g.before f.reached.acts g.reached.acts (subst (λ z. Steps z f.reached.acts) e f.reached.read) g.reached.read in
                let y : FailsBy N State Allows next Step Named Reads b g.tree g.slot (after f.reached.acts) f.step because =
                subst (λ z. FailsBy N State Allows next Step Named Reads b g.tree g.slot (after z) f.step because) (sym h) (subst (λ z. FailsBy N State Allows next Step Named Reads b g.tree g.slot (after g.reached.acts) z because) (sym k) (says_of steps m because g)) in
                same_cause f.reached.acts f.tree f.order f.slot g.tree g.order g.slot f.reached.spells (subst (λ z. Spells N b top z g.tree g.order g.slot) (sym h) g.reached.spells) f.step why because (says_of steps n why f) y

            go : ((f.before ≡ g.before) × (f.step ≡ g.step)) ⊎ (((more : List Step) × (g.before ≡ f.before ++ f.step ∷ more)) ⊎ ((more : List Step) × (f.before ≡ g.before ++ g.step ∷ more))) → Same n m why because
            go (inl (e, k)) = (f.place ∙ ap (λ z. length z + 1) e ∙ sym g.place, one e k)
            go (inr (inl (more, e))) = absurd (not_in_longer steps m because g f.before more f.step why e f.reached.acts f.reached.read f.tree f.order f.slot f.reached.spells (says_of steps n why f).0)
            go (inr (inr (more, e))) = absurd (not_in_longer steps n why f g.before more g.step because e g.reached.acts g.reached.read g.tree g.order g.slot g.reached.spells (says_of steps m because g).0)

        end_cause : (t t' : Tree N) → t' ≡ t → (S S' : State) (why because : Why) → EndSentence N State Allows next Step Named Reads top first Goal t S why → EndSentence N State Allows next Step Named Reads top first Goal t' S' because → why ≡ because
        end_cause t t' e S S' Unfinished Unfinished x y = refl
        end_cause t t' e S S' GoalFalse GoalFalse x y = refl
        end_cause t t' e S S' Unfinished GoalFalse x y = absurd (y.0 x.0 (subst (λ z. IsOpen N z x.0) (sym e) x.1))
        end_cause t t' e S S' GoalFalse Unfinished x y = absurd (x.0 y.0 (subst (λ z. IsOpen N z y.0) e y.1))
        end_cause t t' e S S' Unfinished because x y = absurd y
        end_cause t t' e S S' GoalFalse because x y = absurd y
        end_cause t t' e S S' why because x y = absurd x

        ends_once : (steps : List Step) (n m : ℕ) (why because : Why) → Ending steps n why → Ending steps m because → Same n m why because
        ends_once steps n m why because f g =
            let h : f.reached.acts ≡ g.reached.acts = read_same steps f.reached.acts g.reached.acts f.reached.read g.reached.read in
            let u = one_front N law b top g.reached.acts f.tree f.order f.slot g.tree g.order g.slot (subst (λ z. Spells N b top z f.tree f.order f.slot) h f.reached.spells) g.reached.spells in
            (f.place ∙ sym g.place, end_cause f.tree g.tree u.0 (last_state N State Allows next first f.reached.executable.labels) (last_state N State Allows next first g.reached.executable.labels) why because f.fails g.fails)

        not_past_end : (steps : List Step) (n m : ℕ) (why because : Why) → Failing steps n why → Ending steps m because → ⊥
        not_past_end steps n m why because f g = not_past steps n why f g.reached.acts g.reached.read (g.tree, g.order, g.slot, g.reached.spells) (allowed_in steps g.tree g.order g.slot g.reached)

        abbrev FailsAt : List Step → ℕ → Why → Type 0
        FailsAt steps n why = Fails N State Allows next Step Named Reads top first Goal b steps n why

        abbrev Solves : List Step → Type 0
        Solves steps = SpellsSolution N State Allows next Step Named Reads top first Goal b steps

        pub fails_once : (steps : List Step) (n m : ℕ) (why because : Why) → FailsAt steps n why → FailsAt steps m because → Same n m why because
        fails_once steps n m why because (inl f) (inl g) = steps_once steps n m why because f g
        fails_once steps n m why because (inl f) (inr g) = absurd (not_past_end steps n m why because f g)
        fails_once steps n m why because (inr f) (inl g) = absurd (not_past_end steps m n because why g f)
        fails_once steps n m why because (inr f) (inr g) = ends_once steps n m why because f g

        pub not_both : (steps : List Step) (n : ℕ) (why : Why) → Solves steps → FailsAt steps n why → ⊥
        not_both steps n why (acts, t, o, f, rd, sp, sol) (inl g) = not_past steps n why g acts rd (t, o, f, sp) (allowed_of N State Allows next first b top acts t o f sp sol.executable)
        not_both steps n why (acts, t, o, f, rd, sp, sol) (inr g) = go why g.fails
          where
            h : g.reached.acts ≡ acts
            h = read_same steps g.reached.acts acts g.reached.read rd

            sp' : Spells N b top g.reached.acts t o f
            sp' = subst (λ z. Spells N b top z t o f) (sym h) sp

            e : g.tree ≡ t
            e = (one_front N law b top g.reached.acts t o f g.tree g.order g.slot sp' g.reached.spells).0

            same : g.reached.executable.labels ≡ sol.executable.labels
            same = same_labels N State Allows next first b top g.reached.acts g.tree g.order g.slot g.reached.spells g.reached.executable ∙ ap (labels N) h ∙ sym (same_labels N State Allows next first b top acts t o f sp sol.executable)

            go : (c : Why) → EndSentence N State Allows next Step Named Reads top first Goal g.tree (last_state N State Allows next first g.reached.executable.labels) c → ⊥
            go Unfinished (p, x) = sol.finished.no_leaves p (subst (λ z. IsOpen N z p) e x)
            go GoalFalse x = x.1 (subst (λ z. Goal (last_state N State Allows next first z)) (sym same) sol.goal)
            go c x = x

  -- a question put to an answer of type R: either way leads to R
  abbrev pub Ask : Type 0 → Type 0 → Type 0
  Ask R X = (X → R) → ((X → ⊥) → R) → R

  module _ (first : State) (Goal : State → Type 0) (Step : Type 0) (Named : Step → Type 0) (Reads : ℕ → Step → Act N → Type 0) (b : ℕ) where
    pub record Asks (R : Type 0) : Type 0 where
      pub named : (s : Step) → Ask R (Named s)
      pub reads : (s : Step) → Ask R ((a : Act N) × Reads b s a)
      pub leaf : (tree : Tree N) (slot : Address → ℕ) (h : ℕ) (w : N.Work) → Ask R (HasLeaf N tree slot h w)
      pub waiting : (tree : Tree N) (p : Address) → Ask R (IsWaiting N tree p)
      pub taken : (tree : Tree N) (slot : Address → ℕ) (new : List ℕ) → Ask R (IsSlotTaken N tree slot new)
      pub ground : (m : N.Method) → Ask R (N.IsGround m)
      pub allows : (ls : List (Label N)) (l : Label N) → Ask R (Allows (last_state N State Allows next first ls) l)
      pub left : (tree : Tree N) → Ask R ((p : Address) × IsOpen N tree p)
      pub goal : (ls : List (Label N)) → Ask R (Goal (last_state N State Allows next first ls))

    module _ (reading : IsReading N State Allows next Step Named Reads b) (law : IsLawful N) (top : N.Work) (positive : 1 ≤ b) (R : Type 0) (asks : Asks R) (steps : List Step)
        (win : SpellsSolution N State Allows next Step Named Reads top first Goal b steps → R) (lose : (n : ℕ) (why : Why) → Fails N State Allows next Step Named Reads top first Goal b steps n why → R) where
      abbrev Front : List Step → Type 0
      Front before = (acts : List (Act N)) × (tree : Tree N) × (order : List Address) × (slot : Address → ℕ) × AreRead N State Allows next Step Named Reads b before acts × Spells N b top acts tree order slot × AreAllowed N State Allows next first (labels N acts)

      reached : (before : List Step) (f : Front before) → SpellsExecutable N State Allows next Step Named Reads top first b before f.1 f.2 f.3
      reached before f = record { acts = f.0; read = f.4; spells = f.5; executable = executable_of N State Allows next first b top f.0 f.1 f.2 f.3 f.5 f.6 }

      at_end : Front steps → R
      unfolding reached
      at_end (acts, tree, order, slot, rd, sp, al) =
          asks.left tree
          (λ open_one. lose (length steps + 1) Unfinished (inr (record { place = refl; tree = tree; order = order; slot = slot; reached = reached steps (acts, tree, order, slot, rd, sp, al); fails = open_one })))
          (λ none. asks.goal (labels N acts)
          (λ g. win (acts, tree, order, slot, rd, sp, record { finished = record { front = sp.front; no_leaves = λ p o. none (p, o) }; executable = executable_of N State Allows next first b top acts tree order slot sp al; goal = g }))
          (λ ng. lose (length steps + 1) GoalFalse (inr (record { place = refl; tree = tree; order = order; slot = slot; reached = reached steps (acts, tree, order, slot, rd, sp, al); fails = (λ p o. none (p, o), ng) }))))

      -- a step read as an act, at a front
      module _ (before : List Step) (s : Step) (rest : List Step) (parts : steps ≡ before ++ s ∷ rest) (f : Front before) (on : Front (before ++ s ∷ []) → R) where
        abbrev S : State
        S = last_state N State Allows next first (labels N f.0)

        abbrev Says_here : Why → Type 0
        Says_here c = Sentence N State Allows next Step Named Reads b f.1 f.3 S s c

        fail : (why : Why) → Says_here why → ((c : Why) → place c < place why → Says_here c → ⊥) → R
        unfolding reached
        fail why h k = lose (length before + 1) why (inl (record { before = before; step = s; rest = rest; parts = parts; place = refl; tree = f.1; order = f.2; slot = f.3; reached = reached before f; fails = (h, k) }))

        module _ (a : Act N) (r : Reads b s a) where
          one : (c : Why) → (ActSentence N State Allows next f.1 f.3 S a c → ⊥) → (d : Act N) × Reads b s d × ActSentence N State Allows next f.1 f.3 S d c → ⊥
          one c n = one_act Step Named Reads b reading f.1 f.3 S s a r c n

          none_1 : (c : Why) → place c < 2 → Says_here c → ⊥
          none_1 = extend Says_here Arguments (extend Says_here UnknownAction (none_first Says_here) (λ n. n (reading.named s a r))) (λ n. n a r)

          take : Can N f.1 f.3 b a → Allows S (label_of N a) → R
          take can allowed =
              let (t, o, g, sp) = can_push N law b top positive f.0 a f.1 f.2 f.3 f.5 can in
              on (f.0 ++ a ∷ [], t, o, g, read_push Step Named Reads b before s f.0 a f.4 r, sp, allowed_push N State Allows next first f.0 a f.6 allowed)

          at_precondition : ((c : Why) → place c < 6 → Says_here c → ⊥) → Can N f.1 f.3 b a → R
          at_precondition h can = asks.allows (labels N f.0) (label_of N a) (λ x. take can x) (λ n. fail Precondition (a, r, n) h)

          at_constraint : ((c : Why) → place c < 5 → Says_here c → ⊥) → (IsMet N a → Can N f.1 f.3 b a) → R
          at_constraint h can = go a refl
            where
              go : (d : Act N) → a ≡ d → R
              go (run x w) e = at_precondition (extend Says_here Constraint h (one Constraint (λ u. (let v : IsUnmet N (run x w) = subst (IsUnmet N) e u in v)))) (can (subst (IsMet N) (sym e) tt))
              go (apply x new m) e = asks.ground m
                  (λ g. at_precondition (extend Says_here Constraint h (one Constraint (λ u. (let v : IsUnmet N (apply x new m) = subst (IsUnmet N) e u in v g)))) (can (subst (IsMet N) (sym e) g)))
                  (λ n. fail Constraint (a, r, subst (IsUnmet N) (sym e) n) h)

          at_slots : ((c : Why) → place c < 4 → Says_here c → ⊥) → (leaf : HasLeaf N f.1 f.3 (slot_in N a) (work_in N a)) → (IsWaiting N f.1 leaf.0 → ⊥) → R
          at_slots h leaf nw = asks.taken f.1 f.3 (new_in N a)
              (λ t. fail SlotTaken (a, r, t) h)
              (λ nt. at_constraint (extend Says_here SlotTaken h (one SlotTaken nt)) (can_take b f.1 f.3 a (reading.formed s a r) leaf nw nt (apart nt)))
            where
              apart : (IsSlotTaken N f.1 f.3 (new_in N a) → ⊥) → AreDifferent (new_in N a)
              apart nt = elim (are_different (new_in N a)) [ yes d ↦ d | no n ↦ absurd (nt (inr n)) ]

          at_leaf : ((c : Why) → place c < 3 → Says_here c → ⊥) → HasLeaf N f.1 f.3 (slot_in N a) (work_in N a) → R
          at_leaf h leaf = asks.waiting f.1 leaf.0
              (λ w. fail Waiting (a, r, (leaf.0, (work_in N a, leaf.1), leaf.2, w)) h)
              (λ nw. at_slots (extend Says_here Waiting h (one Waiting (λ x. nw (subst (IsWaiting N f.1) (open_slots_apart N b top f.0 f.1 f.2 f.3 f.5 x.0 leaf.0 x.1 (work_in N a, leaf.1) (x.2 ∙ sym leaf.2)) x.3)))) leaf nw)

          at_act : R
          at_act = asks.leaf f.1 f.3 (slot_in N a) (work_in N a)
              (λ leaf. at_leaf (extend Says_here SlotHolds none_1 (one SlotHolds (λ n. n leaf))) leaf)
              (λ n. fail SlotHolds (a, r, n) none_1)

        at_step : R
        at_step = asks.named s
            (λ nm. asks.reads s (λ r. at_act r.0 r.1) (λ nr. fail Arguments (λ a r. nr (a, r)) (extend Says_here UnknownAction (none_first Says_here) (λ n. n nm))))
            (λ nn. fail UnknownAction nn (none_first Says_here))

      walk : (before rest : List Step) → steps ≡ before ++ rest → Front before → R
      walk before [] e f = at_end (subst Front (sym (e ∙ append-nil before)) f)
      walk before (s ∷ rest) e f = at_step before s rest e f (λ g. walk (before ++ s ∷ []) rest (e ∙ sym (append_assoc before (s ∷ []) rest)) g)

      pub found : R
      found = walk [] steps refl ([], open_leaf top, [], (λ p. 1), tt, spells_none N law b top positive, tt)

module _ (N : Net) (law : IsLawful N) (State : Type 1) (Allows : State → Label N → Type 0) (next : State → Label N → State) (first : State) (Goal : State → Type 0) (Step : Type 0) (Named : Step → Type 0) (Reads : ℕ → Step → Act N → Type 0) where
  pub each_is_solution_or_fails : EachIsSolutionOrFails N State Allows next first Goal Step Named Reads
  each_is_solution_or_fails b top steps positive reading = record {
    one_of = λ ns nf. found N State Allows next first Goal Step Named Reads b reading law top positive ⊥ (record {
      named = λ s k n. n k;
      reads = λ s k n. n k;
      leaf = λ tree slot h w k n. n k;
      waiting = λ tree p k n. n k;
      taken = λ tree slot new k n. n k;
      ground = λ m k n. n k;
      allows = λ ls l k n. n k;
      left = λ tree k n. n k;
      goal = λ ls k n. n k;
    }) steps ns nf;
    not_both = λ n why x y. not_both N State Allows next Step Named Reads b reading law first Goal top positive steps n why x y;
    step = λ n m why because x y. (fails_once N State Allows next Step Named Reads b reading law first Goal top positive steps n m why because x y).0;
    cause = λ n m why because x y. (fails_once N State Allows next Step Named Reads b reading law first Goal top positive steps n m why because x y).1;
  }
