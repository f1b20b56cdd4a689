-- Of two compiled values of the same texts the same is reached.
use Rattle.std.proofs.Common.{ℕ, ◌≡◌, List, Option, Some, slice_get, sym, subst, Contains}
use Rattle.plan_model.specs.declared.terms.GroundAtom.{GroundAtom}
use Rattle.plan_model.specs.declared.values.Compiled.{Compiled}
use Rattle.plan_model.specs.plan_meaning.Network.{action, GroundMethod}
use Rattle.decode_answers.proofs.AlikeValues.{StandTogether, at_some, SamePlan, SameAction, AreTwins, twins_back, plan_place, action_place}
use Rattle.decode_answers.proofs.AlikeReaders.{head_same, ground_to}
use Rattle.reached_parts.specs.Reached.{IsReachedBy, AreClosed, AreReached, IsSize}
use Rattle.ground_answers.proofs.MaySame.{plan_may, action_may, action_may_add}
use Rattle.ground_answers.proofs.SameNetwork.{reached_to}

stand_both : {X Y : Type 0} (R : X → Y → Type 0) (o : Option X) (u : Option Y) → StandTogether R o u → (x : X) (y : Y) → o ≡ Some x → u ≡ Some y → R x y
stand_both R o u r x y e f = let z = subst (λ k. StandTogether R k u) e r in subst (λ k. StandTogether R (Some x) k) f z

module _ (c d : Compiled) (t : AreTwins c d) where
  abbrev back : AreTwins d c
  back = twins_back c d t

  pub closed_to : (methods : List GroundMethod) (atoms : List GroundAtom) → AreClosed c methods atoms → AreClosed d methods atoms
  closed_to methods atoms k = record {
    ground = λ g m. ground_to c d t g (k.ground g m);
    initial = λ a m. k.initial a (subst (λ z. Contains z a) (sym t.same.alike.init) m);
    method = λ g is r may. (
        let was = ground_to d c back g is in
        let plans = stand_both (SamePlan d c) (slice_get d.methods g.number) (slice_get c.methods g.number) (plan_place d c back g.number) is.plan was.plan is.is was.is in
        let head = reached_to d c back methods _ (subst (IsReachedBy d methods) (head_same d c back g) r) in
        k.method g was head (plan_may d c back (Contains atoms) is.plan was.plan plans g.values may));
    added = λ n args s e r may a adds. (
        let (u, there, schemas) = at_some (SameAction d c) (slice_get d.hddl.actions n) (slice_get c.hddl.actions n) (action_place d c back n) s e in
        k.added n args u there (reached_to d c back methods (action n args) r) (action_may d c back (Contains atoms) s u schemas args may) a
        (action_may_add d c back (Contains atoms) s u schemas args a adds));
  }

module _ (c d : Compiled) (t : AreTwins c d) where
  pub all_reached_to : (methods : List GroundMethod) (atoms : List GroundAtom) → AreReached c methods atoms → AreReached d methods atoms
  all_reached_to methods atoms r = record {
    closed = closed_to c d t methods atoms r.closed;
    least = λ others facts k. r.least others facts (closed_to d c (twins_back c d t) others facts k);
  }

  pub size_to : (n : ℕ) → IsSize c n → IsSize d n
  size_to n s = record {
    methods = s.methods;
    atoms = s.atoms;
    reached = all_reached_to s.methods s.atoms s.reached;
    different = s.different;
    works = s.works;
    works_different = s.works_different;
    works_are = λ w. (
      λ h. (let r = (s.works_are w).0 h in (reached_to c d t s.methods w r.0, r.1)),
      λ h. (s.works_are w).1 (reached_to d c (twins_back c d t) s.methods w h.0, h.1),
    );
    is = s.is;
  }
