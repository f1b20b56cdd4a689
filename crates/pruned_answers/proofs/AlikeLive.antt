-- The same is live in alike values, the same is kept of them, and both may be solved or neither.
use Rattle.std.proofs.Common.{ℕ, ◌≡◌, ◌↔◌, Some, slice_get, ap, sym, subst, Contains}
use Rattle.plan_texts.specs.Declared.{Declared}
use Rattle.plan_texts.specs.SpellsHddl.{hddl_words}
use Rattle.plan_texts.specs.Said.{said, done}
use Rattle.plan_texts.specs.Alike.{child_said, method_said, action_said, AreAlikeHddl}
use Rattle.plan_texts.specs.Types.{Has}
use Rattle.plan_texts.proofs.AlikeLaws.{hddl_symmetric}
use Rattle.plan_texts.proofs.Members.{contains-has, has-contains, has-to_map, has-of_map}
use Rattle.plan_model.specs.declared.formulas.Formula.{Formula}
use Rattle.plan_model.specs.declared.effects.Effect.{Effect}
use Rattle.plan_model.specs.declared.networks.Head.{Head}
use Rattle.plan_model.specs.declared.networks.Head.TheVariants.{Task, Action}
use Rattle.plan_model.specs.declared.networks.Child.{Child}
use Rattle.plan_model.specs.declared.schemas.ActionSchema.{ActionSchema}
use Rattle.plan_model.specs.declared.schemas.MethodSchema.{MethodSchema}
use Rattle.plan_model.specs.declared.values.Hddl.{Hddl}
use Rattle.plan_proof.specs.SoundWords.{HasSoundWords}
use Rattle.plan_proof.proofs.values.Pairing.{got}
use Rattle.plan_proof.proofs.texts.TypeWords.{InWords}
use Rattle.live_parts.specs.Live.{Parts, AddsOf, IsLiveHead, TypeOf, MayHold, IsLiveMethod, AreClosed, AreLive, MayBeSolved}
use Rattle.live_parts.specs.Kept.{Kept, IsReached, below_top, below, IsKeptMethod, AreKept}
use Rattle.pruned_answers.proofs.Meanings.{source, in_here, in_there}
use Rattle.pruned_answers.proofs.MaySaid.{MaySaid, may_said, AddsOfSaid, adds_of_said}

-- two values that are alike, whose words are sound
pub record AreAlikeSound (c d : Hddl) : Type 0 where
  pub alike : AreAlikeHddl c d
  pub sound : HasSoundWords (source c)
  pub sound_other : HasSoundWords (source d)

pub alike_back : (c d : Hddl) → AreAlikeSound c d → AreAlikeSound d c
alike_back c d t = record { alike = hddl_symmetric c d t.alike; sound = t.sound_other; sound_other = t.sound }

module _ (c d : Hddl) (t : AreAlikeSound c d) where
  abbrev v : Declared
  v = hddl_words c

  abbrev w : Declared
  w = hddl_words d

  -- the method of the one at this place, and that of the other
  method_at : (n : ℕ) (s : MethodSchema) → slice_get d.methods n ≡ Some s → (r : MethodSchema) × (slice_get c.methods n ≡ Some r) × (method_said v r ≡ method_said w s)
  method_at n s e = got (method_said v) (method_said w) c.methods d.methods t.alike.methods n s e

  action_at : (n : ℕ) (s : ActionSchema) → slice_get d.actions n ≡ Some s → (r : ActionSchema) × (slice_get c.actions n ≡ Some r) × (action_said v r ≡ action_said w s)
  action_at n s e = got (action_said v) (action_said w) c.actions d.actions t.alike.actions n s e

  -- a subtask of the one stands among those of the other
  child_in : (r s : MethodSchema) → method_said v r ≡ method_said w s → (child : Child) → Contains s.children child → (other : Child) × Contains r.children other × (other.head ≡ child.head)
  child_in r s e child k =
      let (x, h, f) = has-of_map (child_said v) r.children (child_said w child)
      (subst (λ z. Has z (child_said w child)) (sym (ap (λ z. z.4.1) e)) (has-to_map (child_said w) s.children child (contains-has s.children child k))) in
      (x, has-contains r.children x h, ap (λ z. z.1) f)

  module _ (parts : Parts) where
    may : (f g : Formula) → said v f ≡ said w g → MayHold c parts f → MayHold d parts g
    may f g e x =
        (may_said w (TypeOf d) (InWords (source c)) (in_there c d t.sound t.sound_other t.alike) (Contains parts.predicates) g).1
        (subst (MaySaid (InWords (source c)) (Contains parts.predicates)) e
        ((may_said v (TypeOf c) (InWords (source c)) (in_here c d t.sound t.sound_other t.alike) (Contains parts.predicates) f).0 x))

    live_method : (r s : MethodSchema) → method_said v r ≡ method_said w s → IsLiveMethod c parts r → IsLiveMethod d parts s
    live_method r s e x = record {
      pre = may r.pre s.pre (ap (λ z. z.3) e) x.pre;
      heads = λ child k. (let (y, there, f) = child_in r s e child k in subst (IsLiveHead parts) f (x.heads y there));
    }

    pub solved_to : MayBeSolved c parts → MayBeSolved d parts
    solved_to x = record { top = live_method c.top d.top t.alike.top x.top; goal = may c.goal d.goal t.alike.goal x.goal }

adds_to : (v w : Declared) (e f : Effect) → done v e ≡ done w f → (p : ℕ) → AddsOf f p → AddsOf e p
adds_to v w e f i p x = (adds_of_said v e p).1 (subst (λ z. AddsOfSaid z p) (sym i) ((adds_of_said w f p).0 x))

module _ (c d : Hddl) (t : AreAlikeSound c d) where
  abbrev back : AreAlikeSound d c
  back = alike_back c d t

  closed_to : (parts : Parts) → AreClosed c parts → AreClosed d parts
  closed_to parts x = record {
    initial = λ a k. x.initial a (subst (λ z. Contains z a) (sym t.alike.init) k);
    added = λ n a is k p adds. (let (b, there, e) = action_at c d t n a is in x.added n b there k p (adds_to (v c d t) (w c d t) b.eff a.eff (ap (λ z. z.3) e) p adds));
    action = λ n a is m. (let (b, there, e) = action_at c d t n a is in x.action n b there (may d c back parts a.pre b.pre (sym (ap (λ z. z.2) e)) m));
    method = λ n s is m. (let (r, there, e) = method_at c d t n s is in x.method n r there (live_method d c back parts s r (sym e) m));
    task = λ n s is k. (let (r, there, e) = method_at c d t n s is in subst (Contains parts.tasks) (ap (λ z. z.1) e) (x.task n r there k));
  }

module _ (c d : Hddl) (t : AreAlikeSound c d) where
  live_to : (parts : Parts) → AreLive c parts → AreLive d parts
  live_to parts x = record { closed = closed_to c d t parts x.closed; least = λ others k. x.least others (closed_to d c (alike_back c d t) others k) }

  -- what is reached from the one is reached from the other
  reached_to : (live : Parts) (head : Head) → IsReached d live head → IsReached c live head
  reached_to live head (below_top {child} k) = let (x, there, e) = child_in c d t c.top d.top t.alike.top child k in subst (IsReached c live) e (below_top there)
  reached_to live head (below {child} {n} {s} is k r m) =
      let (q, there, e) = method_at c d t n s is in
      let (x, among, f) = child_in c d t q s e child m in
      subst (IsReached c live) f (below there k (subst (λ z. IsReached c live (Task z)) (sym (ap (λ z. z.1) e)) (reached_to live (Task s.task) r)) among)

  kept_method : (live : Parts) (n : ℕ) → IsKeptMethod d live n → IsKeptMethod c live n
  kept_method live n (k, (s, is, r)) =
      let (q, there, e) = method_at c d t n s is in
      (k, (q, there, subst (λ z. IsReached c live (Task z)) (sym (ap (λ z. z.1) e)) (reached_to live (Task s.task) r)))

module _ (c d : Hddl) (t : AreAlikeSound c d) where
  abbrev u : AreAlikeSound d c
  u = alike_back c d t

  kept_to : (live : Parts) (kept : Kept) → AreKept c live kept → AreKept d live kept
  kept_to live kept x = record {
    tasks = λ k. (λ e. reached_to d c u live (Task k) ((x.tasks k).0 e), λ e. (x.tasks k).1 (reached_to c d t live (Task k) e));
    actions = λ k. (λ e. reached_to d c u live (Action k) ((x.actions k).0 e), λ e. (x.actions k).1 (reached_to c d t live (Action k) e));
    methods = λ k. (λ e. kept_method d c u live k ((x.methods k).0 e), λ e. (x.methods k).1 (kept_method c d t live k e));
    tasks_in_order = x.tasks_in_order;
    actions_in_order = x.actions_in_order;
    methods_in_order = x.methods_in_order;
  }

module _ (c d : Hddl) (t : AreAlikeSound c d) where
  pub live_same : (live : Parts) → AreLive c live ↔ AreLive d live
  live_same live = (live_to c d t live, live_to d c (alike_back c d t) live)

  pub solved_same : (live : Parts) → MayBeSolved c live ↔ MayBeSolved d live
  solved_same live = (solved_to c d t live, solved_to d c (alike_back c d t) live)

  pub kept_same : (live : Parts) (kept : Kept) → AreKept c live kept ↔ AreKept d live kept
  kept_same live kept = (kept_to c d t live kept, kept_to d c (alike_back c d t) live kept)
