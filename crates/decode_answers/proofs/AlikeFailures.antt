-- A list of steps fails alike over two networks that are the same but for names, where neither steps nor states tell them apart.
use Rattle.std.proofs.Common.{ℕ, ◌≡◌, ◌↔◌, inl, inr, List, [], ◌∷◌, Some, refl, ap, sym, subst, ◌∙◌}
use Rattle.plan_model.specs.task_networks.Net.{Net}
use Rattle.plan_model.specs.task_networks.Tree.{Tree, Label, waits, ran, used, Address, label_at, IsOpen}
use Rattle.plan_model.specs.task_networks.Executable.{last_state}
use Rattle.plan_model.specs.task_networks.Spelling.{Act, run, apply, label_of}
use Rattle.slot_machine.specs.Reached.{HasLeaf}
use Rattle.slot_machine.specs.Causes.{IsWaiting}
use Rattle.decoding.specs.declared.causes.Why.{Why}
use Rattle.decoding.specs.declared.causes.Why.TheVariants.{UnknownAction, Arguments, SlotHolds, Waiting, SlotTaken, Constraint, Precondition, Unfinished, GoalFalse}
use Rattle.decoding.specs.FailingAct.{slot_in, work_in, new_in, WaitsAt, IsSlotTaken, IsUnmet, ActSentence, AreRead, Sentence, SpellsExecutable, StepFails, EndSentence, EndFails, Fails}
use Rattle.renamed_networks.specs.Renamed.{AreSame, IsRenaming, SameLabel}
use Rattle.renamed_networks.proofs.RenamedTrees.{flip, flipped, Same, same_flip, to_label, open_back, blocks_back}
use Rattle.renamed_networks.proofs.RenamedRuns.{SameAct, other_tree, spells_to, executable_to}

module _ (State : Type 1) (Step : Type 0) where
  -- a network with its executions, and what steps are read as
  pub record Reader : Type 1 where
    pub net : Net
    pub Allows : State → Label net → Type 0
    pub next : State → Label net → State
    pub Named : Step → Type 0
    pub Reads : ℕ → Step → Act net → Type 0
    pub top : net.Work
    pub first : State
    pub Goal : State → Type 0

  -- the list fails at step n for this cause
  abbrev pub FailsIn : Reader → ℕ → List Step → ℕ → Why → Type 0
  FailsIn A = Fails A.net State A.Allows A.next Step A.Named A.Reads A.top A.first A.Goal

  -- each work and each method has another that is the same; R says which states are the same
  pub record AreAlike (A B : Reader) (W : A.net.Work → B.net.Work → Type 0) (G : A.net.Method → B.net.Method → Type 0) (R : State → State → Type 1) : Type 1 where
    pub renaming : IsRenaming A.net B.net W G
    pub work : (v : A.net.Work) → (w : B.net.Work) × W v w
    pub method : (g : A.net.Method) → (m : B.net.Method) × G g m
    pub work_back : (w : B.net.Work) → (v : A.net.Work) × W v w
    pub method_back : (m : B.net.Method) → (g : A.net.Method) × G g m
    pub allows : (S S' : State) → R S S' → (k : Label A.net) (l : Label B.net) → SameLabel A.net B.net W G k l → A.Allows S k ↔ B.Allows S' l
    pub next : (S S' : State) → R S S' → (k : Label A.net) (l : Label B.net) → SameLabel A.net B.net W G k l → R (A.next S k) (B.next S' l)
    pub named : (s : Step) → A.Named s ↔ B.Named s
    pub reads : (b : ℕ) (s : Step) (a : Act A.net) (d : Act B.net) → SameAct A.net B.net W G a d → A.Reads b s a ↔ B.Reads b s d
    pub top : W A.top B.top
    pub first : R A.first B.first
    pub goal : (S S' : State) → R S S' → A.Goal S ↔ B.Goal S'

label_flip : (M N : Net) (W : M.Work → N.Work → Type 0) (G : M.Method → N.Method → Type 0) (l : Label N) (k : Label M) → SameLabel N M (flip W) (flip G) l k → SameLabel M N W G k l
label_flip M N W G (waits w) (waits v) s = s
label_flip M N W G (ran w) (ran v) s = s
label_flip M N W G (used m) (used g) s = s
label_flip M N W G (waits w) (ran v) s = absurd s
label_flip M N W G (waits w) (used g) s = absurd s
label_flip M N W G (ran w) (waits v) s = absurd s
label_flip M N W G (ran w) (used g) s = absurd s
label_flip M N W G (used m) (waits v) s = absurd s
label_flip M N W G (used m) (ran v) s = absurd s

act_flip : (M N : Net) (W : M.Work → N.Work → Type 0) (G : M.Method → N.Method → Type 0) (d : Act N) (a : Act M) → SameAct N M (flip W) (flip G) d a → SameAct M N W G a d
act_flip M N W G (run i w) (run h v) s = (sym s.0, s.1)
act_flip M N W G (apply i slots m) (apply h new g) s = (sym s.0, sym s.1, s.2)
act_flip M N W G (run i w) (apply h new g) s = absurd s
act_flip M N W G (apply i slots m) (run h v) s = absurd s

-- the other way round
turned : (State : Type 1) (Step : Type 0) (A B : Reader State Step) (W : A.net.Work → B.net.Work → Type 0) (G : A.net.Method → B.net.Method → Type 0) (R : State → State → Type 1)
    → AreAlike State Step A B W G R → AreAlike State Step B A (flip W) (flip G) (λ S' S. R S S')
turned State Step A B W G R x = record {
  renaming = flipped A.net B.net W G x.renaming;
  work = x.work_back;
  method = x.method_back;
  work_back = x.work;
  method_back = x.method;
  allows = λ S' S h l k s. let y = x.allows S S' h k l (label_flip A.net B.net W G l k s) in (y.1, y.0);
  next = λ S' S h l k s. x.next S S' h k l (label_flip A.net B.net W G l k s);
  named = λ s. let y = x.named s in (y.1, y.0);
  reads = λ b s d a e. let y = x.reads b s a d (act_flip A.net B.net W G d a e) in (y.1, y.0);
  top = x.top;
  first = x.first;
  goal = λ S' S h. let y = x.goal S S' h in (y.1, y.0);
}

-- what is seen of two trees and their slots
module _ (M N : Net) (W : M.Work → N.Work → Type 0) (G : M.Method → N.Method → Type 0) (r : IsRenaming M N W G) where
  other_label : (a : Act M) (d : Act N) → SameAct M N W G a d → SameLabel M N W G (label_of M a) (label_of N d)
  other_label (run h v) (run i w) s = s.1
  other_label (apply h new g) (apply i slots m) s = s.2
  other_label (run h v) (apply i slots m) s = absurd s
  other_label (apply h new g) (run i w) s = absurd s

  slot_same : (a : Act M) (d : Act N) → SameAct M N W G a d → slot_in M a ≡ slot_in N d
  slot_same (run h v) (run i w) s = s.0
  slot_same (apply h new g) (apply i slots m) s = s.0
  slot_same (run h v) (apply i slots m) s = absurd s
  slot_same (apply h new g) (run i w) s = absurd s

  new_same : (a : Act M) (d : Act N) → SameAct M N W G a d → new_in M a ≡ new_in N d
  new_same (run h v) (run i w) s = refl
  new_same (apply h new g) (apply i slots m) s = s.1
  new_same (run h v) (apply i slots m) s = absurd s
  new_same (apply h new g) (run i w) s = absurd s

  work_same : (a : Act M) (d : Act N) → SameAct M N W G a d → W (work_in M a) (work_in N d)
  work_same (run h v) (run i w) s = s.1
  work_same (apply h new g) (apply i slots m) s = r.head g m s.2
  work_same (run h v) (apply i slots m) s = absurd s
  work_same (apply h new g) (run i w) s = absurd s

  unmet_to : (a : Act M) (d : Act N) → SameAct M N W G a d → IsUnmet M a → IsUnmet N d
  unmet_to (run h v) (run i w) s x = x
  unmet_to (apply h new g) (apply i slots m) s x = λ y. x ((r.ground g m s.2).1 y)
  unmet_to (run h v) (apply i slots m) s x = absurd s
  unmet_to (apply h new g) (run i w) s x = absurd s

  one_act : (a : Act M) (d e : Act N) → SameAct M N W G a d → SameAct M N W G a e → d ≡ e
  one_act (run h v) (run i w) (run j x) s t = let f = r.one_work v w x s.1 t.1 in let k = sym s.0 ∙ t.0 in λ z. run (k z) (f z)
  one_act (apply h new g) (apply i slots m) (apply j more n) s t = let f = r.one_method g m n s.2 t.2 in let k = sym s.0 ∙ t.0 in let l = sym s.1 ∙ t.1 in λ z. apply (k z) (l z) (f z)
  one_act (run h v) (run i w) (apply j more n) s t = absurd t
  one_act (apply h new g) (apply i slots m) (run j x) s t = absurd t
  one_act (run h v) (apply i slots m) e s t = absurd s
  one_act (apply h new g) (run i w) e s t = absurd s

  module _ (t : Tree M) (u : Tree N) (s : Same M N W G t u) (slot : Address → ℕ) where
    open_to : (p : Address) → IsOpen M t p → IsOpen N u p
    open_to = open_back N M (flip W) (flip G) (flipped M N W G r) u t (same_flip M N W G t u s)

    leaf_to : (x : ℕ) (v : M.Work) (w : N.Work) → W v w → HasLeaf M t slot x v → HasLeaf N u slot x w
    leaf_to x v w same (p, e, f) = (let k = to_label M N W G t u s p (waits v) e in go k.0 k.1 k.2)
      where
        go : (l : Label N) → label_at N u p ≡ Some l → SameLabel M N W G (waits v) l → HasLeaf N u slot x w
        go (waits y) g z = (p, g ∙ ap (λ q. Some (waits q)) (r.one_work v y w z same), f)
        go (ran y) g z = absurd z
        go (used m) g z = absurd z

    waiting_to : (p : Address) → IsWaiting M t p → IsWaiting N u p
    waiting_to p (q, o, (c, a, b)) = (q, open_to q o, (c, a, blocks_back N M (flip W) (flip G) (flipped M N W G r) u t (same_flip M N W G t u s) q c b))

    waits_to : (x : ℕ) → WaitsAt M t slot x → WaitsAt N u slot x
    waits_to x (p, o, e, w) = (p, open_to p o, e, waiting_to p w)

    taken_to : (new : List ℕ) → IsSlotTaken M t slot new → IsSlotTaken N u slot new
    taken_to new (inl (p, o, c)) = inl (p, open_to p o, c)
    taken_to new (inr d) = inr d

module _ (State : Type 1) (Step : Type 0) (A B : Reader State Step) (W : A.net.Work → B.net.Work → Type 0) (G : A.net.Method → B.net.Method → Type 0) (R : State → State → Type 1)
    (x : AreAlike State Step A B W G R) where
  abbrev M : Net
  M = A.net

  abbrev N : Net
  N = B.net

  abbrev SameActs : Act M → Act N → Type 0
  SameActs = SameAct M N W G

  other_act : (a : Act M) → (d : Act N) × SameActs a d
  other_act (run h v) = let (w, s) = x.work v in (run h w, (refl, s))
  other_act (apply h new g) = let (m, s) = x.method g in (apply h new m, (refl, refl, s))

  act_back : (d : Act N) → (a : Act M) × SameActs a d
  act_back (run h w) = let (v, s) = x.work_back w in (run h v, (refl, s))
  act_back (apply h new m) = let (g, s) = x.method_back m in (apply h new g, (refl, refl, s))

  read_to : (b : ℕ) (steps : List Step) (acts : List (Act M)) (others : List (Act N)) → AreSame SameActs acts others
      → AreRead M State A.Allows A.next Step A.Named A.Reads b steps acts → AreRead N State B.Allows B.next Step B.Named B.Reads b steps others
  read_to b [] [] [] s a = tt
  read_to b (p ∷ steps) (c ∷ acts) (d ∷ others) s a = ((x.reads b p c d s.0).0 a.0, read_to b steps acts others s.1 a.1)
  read_to b [] [] (d ∷ others) s a = absurd s
  read_to b (p ∷ steps) [] others s a = absurd a
  read_to b [] (c ∷ acts) others s a = absurd a
  read_to b (p ∷ steps) (c ∷ acts) [] s a = absurd s

  pub another_tree : (t : Tree M) → (u : Tree N) × Same M N W G t u
  another_tree t = (let (u, s) = other_tree N M (flip W) (flip G) t (λ p k e. partner k) in (u, same_flip N M (flip W) (flip G) u t s))
    where
      partner : (k : Label M) → (l : Label N) × SameLabel N M (flip W) (flip G) l k
      partner (waits v) = let (w, s) = x.work v in (waits w, s)
      partner (ran v) = let (w, s) = x.work v in (ran w, s)
      partner (used g) = let (m, s) = x.method g in (used m, s)

  module _ (t : Tree M) (u : Tree N) (s : Same M N W G t u) (slot : Address → ℕ) where
    -- the sentences on an act
    act_to : (S S' : State) → R S S' → (a : Act M) (d : Act N) → SameActs a d → (c : Why) → ActSentence M State A.Allows A.next t slot S a c → ActSentence N State B.Allows B.next u slot S' d c
    act_to S S' h a d e UnknownAction y = y
    act_to S S' h a d e Arguments y = y
    act_to S S' h a d e SlotHolds y = λ leaf. y
        (subst (λ z. HasLeaf M t slot z (work_in M a)) (sym (slot_same M N W G x.renaming a d e))
        (leaf_to N M (flip W) (flip G) (flipped M N W G x.renaming) u t (same_flip M N W G t u s) slot (slot_in N d) (work_in N d) (work_in M a) (work_same M N W G x.renaming a d e) leaf))
    act_to S S' h a d e Waiting y = waits_to M N W G x.renaming t u s slot (slot_in N d) (subst (WaitsAt M t slot) (slot_same M N W G x.renaming a d e) y)
    act_to S S' h a d e SlotTaken y = taken_to M N W G x.renaming t u s slot (new_in N d) (subst (IsSlotTaken M t slot) (new_same M N W G x.renaming a d e) y)
    act_to S S' h a d e Constraint y = unmet_to M N W G x.renaming a d e y
    act_to S S' h a d e Precondition y = λ z. y ((x.allows S S' h (label_of M a) (label_of N d) (other_label M N W G x.renaming a d e)).1 z)
    act_to S S' h a d e Unfinished y = y
    act_to S S' h a d e GoalFalse y = y

    module _ (b : ℕ) (S S' : State) (h : R S S') (p : Step) where
      by_act : (c : Why) → (a : Act M) × A.Reads b p a × ActSentence M State A.Allows A.next t slot S a c → (d : Act N) × B.Reads b p d × ActSentence N State B.Allows B.next u slot S' d c
      by_act c (a, q, y) = let (d, e) = other_act a in (d, (x.reads b p a d e).0 q, act_to S S' h a d e c y)

      -- the sentences on a step
      sentence_to : (c : Why) → Sentence M State A.Allows A.next Step A.Named A.Reads b t slot S p c → Sentence N State B.Allows B.next Step B.Named B.Reads b u slot S' p c
      sentence_to UnknownAction y = λ n. y ((x.named p).1 n)
      sentence_to Arguments y = λ d q. let (a, e) = act_back d in y a ((x.reads b p a d e).1 q)
      sentence_to SlotHolds y = by_act SlotHolds y
      sentence_to Waiting y = by_act Waiting y
      sentence_to SlotTaken y = by_act SlotTaken y
      sentence_to Constraint y = by_act Constraint y
      sentence_to Precondition y = by_act Precondition y
      sentence_to Unfinished y = by_act Unfinished y
      sentence_to GoalFalse y = by_act GoalFalse y

  -- the same steps spell the other front
  module _ (b : ℕ) (steps : List Step) (t : Tree M) (u : Tree N) (s : Same M N W G t u) (order : List Address) (slot : Address → ℕ) where
    abbrev There : Type 0
    There = SpellsExecutable N State B.Allows B.next Step B.Named B.Reads B.top B.first b steps u order slot

    reached_to : (e : SpellsExecutable M State A.Allows A.next Step A.Named A.Reads A.top A.first b steps t order slot)
        → (d : There) × R (last_state M State A.Allows A.next A.first e.executable.labels) (last_state N State B.Allows B.next B.first d.executable.labels)
    reached_to e =
        let (others, sp, y) = spells_to M N W G x.renaming t u s slot b A.top B.top x.top e.acts order e.spells in
        let (along, l) = executable_to M N W G State R A.Allows A.next B.Allows B.next (λ S S' h k l z. (x.allows S S' h k l z).0) x.next t u s order A.first B.first x.first e.executable in
        (record { acts = others; read = read_to b steps e.acts others y e.read; spells = sp; executable = along }, l)

module _ (State : Type 1) (Step : Type 0) (A B : Reader State Step) (W : A.net.Work → B.net.Work → Type 0) (G : A.net.Method → B.net.Method → Type 0) (R : State → State → Type 1)
    (x : AreAlike State Step A B W G R) (b : ℕ) (steps : List Step) (n : ℕ) (why : Why) where
  step_fails_to : StepFails A.net State A.Allows A.next Step A.Named A.Reads A.top A.first b steps n why → StepFails B.net State B.Allows B.next Step B.Named B.Reads B.top B.first b steps n why
  step_fails_to f =
      let (u, s) = another_tree State Step A B W G R x f.tree in
      let (there, l) = reached_to State Step A B W G R x b f.before f.tree u s f.order f.slot f.reached in
      record {
        before = f.before;
        step = f.step;
        rest = f.rest;
        parts = f.parts;
        place = f.place;
        tree = u;
        order = f.order;
        slot = f.slot;
        reached = there;
        fails = (
          sentence_to State Step A B W G R x f.tree u s f.slot b _ _ l f.step why f.fails.0,
          λ c less y. f.fails.1 c less
              (sentence_to State Step B A (flip W) (flip G) (λ S' S. R S S') (turned State Step A B W G R x) u f.tree (same_flip A.net B.net W G f.tree u s) f.slot b _ _ l f.step c y),
        );
      }

  end_fails_to : EndFails A.net State A.Allows A.next Step A.Named A.Reads A.top A.first A.Goal b steps n why → EndFails B.net State B.Allows B.next Step B.Named B.Reads B.top B.first B.Goal b steps n why
  end_fails_to f = (
      let (u, s) = another_tree State Step A B W G R x f.tree in
      let (there, l) = reached_to State Step A B W G R x b steps f.tree u s f.order f.slot f.reached in
      record { place = f.place; tree = u; order = f.order; slot = f.slot; reached = there; fails = go u s _ _ l why f.fails })
    where
      go : (u : Tree B.net) → Same A.net B.net W G f.tree u → (S S' : State) → R S S' → (c : Why)
          → EndSentence A.net State A.Allows A.next Step A.Named A.Reads A.top A.first A.Goal f.tree S c → EndSentence B.net State B.Allows B.next Step B.Named B.Reads B.top B.first B.Goal u S' c
      go u s S S' h Unfinished (p, o) = (p, open_to A.net B.net W G x.renaming f.tree u s f.slot p o)
      go u s S S' h GoalFalse (closed, unreached) = (λ p o. closed p (open_back A.net B.net W G x.renaming f.tree u s p o), λ g. unreached ((x.goal S S' h).1 g))
      go u s S S' h UnknownAction y = absurd y
      go u s S S' h Arguments y = absurd y
      go u s S S' h SlotHolds y = absurd y
      go u s S S' h Waiting y = absurd y
      go u s S S' h SlotTaken y = absurd y
      go u s S S' h Constraint y = absurd y
      go u s S S' h Precondition y = absurd y

  -- a list that fails over the one fails over the other, at the same step for the same cause
  pub fails_to : FailsIn State Step A b steps n why → FailsIn State Step B b steps n why
  fails_to (inl f) = inl (step_fails_to f)
  fails_to (inr f) = inr (end_fails_to f)
