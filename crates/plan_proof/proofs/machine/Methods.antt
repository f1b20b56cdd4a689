-- The printed action of a method is a step of the machine.
use Rattle.std.proofs.Common.{ℕ, ◌≡◌, ◌↔◌, ◌⊎◌, ◌-◌, ◌<◌, inl, inr, List, [], ◌∷◌, ◌++◌, length, slice_get, Option, Some, None, refl, ap, sym, subst, ◌∙◌, Contains, append-nil, arith}
use Rattle.std.proofs.lemmas.Option.{slice_get_within}
use Rattle.plan_model.specs.declared.options.Style.{Style}
use Rattle.plan_model.specs.declared.terms.GroundAtom.{GroundAtom}
use Rattle.plan_model.specs.declared.effects.Effect.{Effect}
use Rattle.plan_model.specs.declared.effects.Effect.TheVariants as E
use Rattle.plan_model.specs.declared.networks.Child.{Child}
use Rattle.plan_model.specs.declared.schemas.ActionSchema.{ActionSchema}
use Rattle.plan_model.specs.declared.schemas.MethodPlan.{MethodPlan}
use Rattle.plan_model.specs.declared.values.Compiled.{Compiled}
use Rattle.plan_model.specs.declared.values.Pddl.{Pddl}
use Rattle.plan_model.specs.task_networks.Net.{Net, count}
use Rattle.plan_model.specs.task_networks.Spelling.{apply, others}
use Rattle.slot_machine.specs.Machine as Machine
use Rattle.slot_machine.specs.Machine.{MayApply}
use Rattle.slot_machine.specs.OtherMachine.{AreSame}
use Rattle.plan_texts.specs.Types.{EachIs}
use Rattle.plan_model.specs.plan_meaning.Truth.{State, AreTyped, OneTrue, IsTrueIn, Adds, Deletes, after}
use Rattle.plan_model.specs.plan_meaning.Network.{Work, GroundMethod, IsGroundMethod, network, InTypeOf, IsDeclared, child_of}
use Rattle.plan_model.specs.plan_meaning.Solution.{AllowsMethod}
use Rattle.slot_encoding.specs.EncodedActions.{spare, depth, held_task, freeing, splitting, method_eff, encoded_method}
use Rattle.plan_model.proofs.plan_meaning.EffectEquations.{adds-And, adds-Delete, deletes-And, deletes-Delete}
use Rattle.slot_encoding.proofs.Pieces.{IsSlot, IsMethodAct}
use Rattle.plan_proof.proofs.machine.Reading.{held, Reads, Keeps, Applies}
use Rattle.slot_encoding.proofs.places.Sums.{one-append}
use Rattle.plan_proof.proofs.machine.Facts.{PiecesMean}
use Rattle.plan_proof.proofs.machine.Freed.{Changed, reads_alike}
use Rattle.plan_proof.proofs.machine.Freeing.{InT, unblocked_iff, freeing_reads, freeing_keeps}
use Rattle.plan_proof.proofs.machine.Split as Split
use Rattle.slot_encoding.proofs.places.Splitting.{frees, kids, links, copies_of, splitting_parts}
use Rattle.plan_proof.proofs.machine.MethodConditions.{objects, depth_long, method_true}
use Rattle.plan_proof.proofs.machine.MethodEffects.{e_count, e_head, head_ground, frees_add, frees_delete, kids_add, atoms_delete, links_add, links_delete, copies_add, copies_delete}
use Rattle.plan_proof.proofs.machine.MethodChildren.{others_long, count_is, known_head, known_children}
use Rattle.plan_proof.proofs.machine.Running.{IsTaken}
use Rattle.plan_model.proofs.task_networks.Lists.{Contains-here, Contains-later, head_or_tail, not-in_empty}

pub each_contains : {A : Type 0} (P : A → Type 0) (xs : List A) → EachIs P xs ↔ ((x : A) → Contains xs x → P x)
each_contains P [] = (λ e x k. absurd (not-in_empty x k), λ f. tt)
each_contains P (y ∷ xs) =
    let r = each_contains P xs in (
      λ e x k. elim (head_or_tail y xs x k) [ inl f ↦ subst P f e.0 | inr d ↦ r.0 e.1 x d ],
      λ f. (f y (Contains-here y xs), r.1 (λ x k. f x (Contains-later y xs x k))),
    )

module _ (c : Compiled) (b : ℕ) (style : Style) (p : Pddl) (means : PiecesMean c b style p) (S : State) (t : Machine.SlotState (network c)) (T : State) (r : Reads c b style p S t T)
    (h : ℕ) (new : List ℕ) (g : GroundMethod) where
  abbrev N : Net
  N = network c

  module _ (plan : MethodPlan) (is : slice_get c.methods g.number ≡ Some plan) (long : length new ≡ spare c p.names b style g.number plan) (typed : AreTyped (InTypeOf c) plan.schema.params g.values) where
    abbrev xs : List ℕ
    xs = objects c b style p h new g plan long typed

    -- what the two kinds of methods leave
    module _ (declared : (child : Child) → Contains plan.schema.children child → IsDeclared c (child_of g child)) (slot : IsSlot c b style p h) (holds : t.holds h (N.head g)) (alone : t.free h → ⊥) (free : (x : ℕ) → Contains new x → t.free x) where
      abbrev Left : Effect → Type 0
      Left e = Reads c b style p (after (InT c b style p) S e xs) (Machine.after_act N t (apply h new g)) T × Keeps c S (after (InT c b style p) S e xs)

      abbrev freeing' : List Effect
      freeing' = freeing c p.names b style (held_task c p.names b style g.number plan) (depth c p.names b style g.number plan)

      no_children : count N g ≡ 0 → Left (E.And freeing')
      no_children z = subst (λ l. Left (E.And l)) (append-nil freeing') (subst (λ n. Left (E.And (freeing c p.names b style (held_task c p.names b style g.number plan) n ++ []))) (depth_long c b style p h new g plan long typed)
          (reads_alike c b style p left left _ (Machine.after_act N t (apply h new g)) (Changed T (λ a. ⊥) (λ a. ⊥)) T (λ a. (λ q. q, λ q. q)) same (λ a. (λ q. elim q [ inl y ↦ y.0 | inr y ↦ absurd y ], λ q. inl (q, λ y. y))) reads, keeps))
        where
          left : State
          left = after (InT c b style p) S (E.And (freeing c p.names b style (held_task c p.names b style g.number plan) (length xs) ++ [])) xs

          state : Machine.SlotState N
          state = record {
            holds = λ x v. t.holds x v × ((x ≡ h) × (v ≡ N.head g) → ⊥);
            free = λ x. t.free x ⊎ (x ≡ h);
            before = λ x y. t.before x y × (x ≡ h → ⊥);
          }

          reads : Reads c b style p left state (Changed T (λ a. ⊥) (λ a. ⊥))
          reads = freeing_reads c b style p S h _ (means.order S xs) t T means.differ r (N.head g) (known_head c means.fits g plan is) slot (held_task c p.names b style g.number plan) (head_ground c b style p h new g plan long typed means is) []
              (λ a. ⊥) (λ a. ⊥) (λ a k. absurd k) (λ a k. absurd k) (λ a. (λ k. k, λ k. k)) (λ a. (λ k. k, λ k. k))

          keeps : Keeps c S left
          keeps = freeing_keeps c b style p S h _ (means.order S xs) t T means.differ r (N.head g) (known_head c means.fits g plan is) slot (held_task c p.names b style g.number plan) (head_ground c b style p h new g plan long typed means is) []
              (λ a. ⊥) (λ a. ⊥) (λ a k. absurd k) (λ a k. absurd k) (λ a. (λ k. k, λ k. k)) (λ a. (λ k. k, λ k. k))

          no_work : (i : ℕ) (w : Work) → slice_get (N.works g) i ≡ Some w → ⊥
          no_work i w e = let l = slice_get_within (N.works g) i w e in omega (arith, z)

          no_slot : (i x : ℕ) → Machine.IsSlotOf N h new g i x → ⊥
          no_slot i x s = absurd (without (N.heir g) refl s)
            where
              few : length new ≡ 0
              few = long ∙ (let e = e_count c b style p h new g plan long typed means is in let q : length plan.schema.children - 1 ≡ 0 = omega (arith, z) in q)

              empty : (l : List ℕ) → length l ≡ 0 → slice_get l i ≡ Some x → ⊥
              empty [] e f = cc
              empty (y ∷ l) e f = omega arith

              without : (o : Option ℕ) → N.heir g ≡ o → slice_get (Machine.with_heir o h new) i ≡ Some x → ⊥
              without None e f = empty new few f
              without (Some k) e f = let l = means.lawful.heir_is_child g k e in omega (arith, z)

          same : AreSame N state (Machine.after_act N t (apply h new g))
          same = record {
            holds = λ x v. (λ k. inl k, λ k. elim k [ inl y ↦ y | inr y ↦ absurd (no_work y.0 v y.2) ]);
            free = λ x. (λ k. elim k [ inl y ↦ inl (y, λ i s. no_slot i x s) | inr y ↦ inr (z, y) ], λ k. elim k [ inl y ↦ inl y.0 | inr y ↦ inr y.1 ]);
            before = λ x y. (λ k. inl (k.0, λ q. k.1 q.1), λ k. elim k [ inl q ↦ (q.0, λ e. q.1 (z, e)) | inr (inl q) ↦ absurd (no_slot q.0 x q.3) | inr (inr q) ↦ absurd (no_slot q.0 x q.2) ]);
          }

      some_children : (hd : ℕ) → N.heir g ≡ Some hd → 0 < count N g → Left (E.And (splitting c p.names b style g.number plan))
      some_children hd heir some = (
        reads_alike c b style p (Changed S Goes Comes) (after (InT c b style p) S (E.And (splitting c p.names b style g.number plan)) xs) (Machine.after_act N t (apply h new g)) (Machine.after_act N t (apply h new g)) T T
            same (record { holds = λ x v. (λ k. k, λ k. k); free = λ x. (λ k. k, λ k. k); before = λ x y. (λ k. k, λ k. k) }) (λ a. (λ k. k, λ k. k))
            (Split.split_reads c b style p means.differ S t T r h new g holds alone hd heir some (known_children c means.fits g plan is typed declared) free),
        λ a l. (let k = Split.split_keeps c b style p means.differ S t T r h new g holds alone hd heir some (known_children c means.fits g plan is typed declared) free a l in let s = same a in (λ z. k.0 (s.1 z), λ z. s.0 (k.1 z))),
      )
        where
          Goes : GroundAtom → Type 0
          Goes = Split.Goes c b style p means.differ S t T r h new g

          Comes : GroundAtom → Type 0
          Comes = Split.Comes c b style p means.differ S t T r h new g

          A : GroundAtom → Effect → List ℕ → Type 0
          A a e v = Adds (InT c b style p) S e v a

          D : GroundAtom → Effect → List ℕ → Type 0
          D a e v = Deletes (InT c b style p) S e v a

          e1 : List Effect
          e1 = frees c p.names b style g.number plan

          e2 : List Effect
          e2 = kids c p.names b style g.number plan

          e3 : List Effect
          e3 = links c p.names b style g.number plan

          e4 : List Effect
          e4 = copies_of c p.names b style g.number plan plan.copiers

          parts : List Effect
          parts = E.Delete (held_task c p.names b style g.number plan) ∷ e1 ++ (e2 ++ (e3 ++ e4))

          four : (k : Effect → List ℕ → Type 0) → OneTrue k (e1 ++ (e2 ++ (e3 ++ e4))) xs ↔ (OneTrue k e1 xs ⊎ (OneTrue k e2 xs ⊎ (OneTrue k e3 xs ⊎ OneTrue k e4 xs)))
          four k =
              let o1 = one-append k e1 (e2 ++ (e3 ++ e4)) xs in
              let o2 = one-append k e2 (e3 ++ e4) xs in
              let o3 = one-append k e3 e4 xs in (
                λ x. elim (o1.0 x) [ inl y ↦ inl y | inr y ↦ elim (o2.0 y) [ inl q ↦ inr (inl q) | inr q ↦ inr (inr (o3.0 q)) ] ],
                λ x. elim x [ inl y ↦ o1.1 (inl y) | inr y ↦ o1.1 (inr (elim y [ inl q ↦ o2.1 (inl q) | inr q ↦ o2.1 (inr (o3.1 q)) ])) ],
              )

          adds : (a : GroundAtom) → A a (E.And parts) xs ↔ Comes a
          adds a = (λ k. to (subst (λ q. q xs a) e k), λ k. subst (λ q. q xs a) (sym e) (from k))
            where
              e : Adds (InT c b style p) S (E.And parts) ≡ (λ v a. OneTrue (A a) parts v)
              e = adds-And (InT c b style p) S parts

              to : OneTrue (A a) parts xs → Comes a
              to (inl x) = absurd (subst (λ q. q xs a) (adds-Delete (InT c b style p) S (held_task c p.names b style g.number plan)) x)
              to (inr x) = elim ((four (A a)).0 x) [
                | inl y ↦ absurd (frees_add c b style p h new g plan long typed means is hd heir S a y)
                | inr (inl y) ↦ inl ((kids_add c b style p h new g plan long typed means is hd heir S a).0 y)
                | inr (inr (inl y)) ↦ inr (inl ((links_add c b style p h new g plan long typed means is hd heir S a).0 y))
                | inr (inr (inr y)) ↦ inr (inr ((copies_add c b style p h new g plan long typed means is hd heir S a).0 y))
              ]

              from : Comes a → OneTrue (A a) parts xs
              from (inl x) = inr ((four (A a)).1 (inr (inl ((kids_add c b style p h new g plan long typed means is hd heir S a).1 x))))
              from (inr (inl x)) = inr ((four (A a)).1 (inr (inr (inl ((links_add c b style p h new g plan long typed means is hd heir S a).1 x)))))
              from (inr (inr x)) = inr ((four (A a)).1 (inr (inr (inr ((copies_add c b style p h new g plan long typed means is hd heir S a).1 x)))))

          deletes : (a : GroundAtom) → D a (E.And parts) xs ↔ Goes a
          deletes a = (λ k. to (subst (λ q. q xs a) e k), λ k. subst (λ q. q xs a) (sym e) (from k))
            where
              e : Deletes (InT c b style p) S (E.And parts) ≡ (λ v a. OneTrue (D a) parts v)
              e = deletes-And (InT c b style p) S parts

              to : OneTrue (D a) parts xs → Goes a
              to (inl x) = inl (subst (λ q. q xs a) (deletes-Delete (InT c b style p) S (held_task c p.names b style g.number plan)) x ∙ head_ground c b style p h new g plan long typed means is)
              to (inr x) = elim ((four (D a)).0 x) [
                | inl y ↦ inr ((frees_delete c b style p h new g plan long typed means is hd heir S a).0 y)
                | inr (inl y) ↦ absurd (atoms_delete c b style p h new g plan long typed means is hd heir S a _ plan.schema.children y)
                | inr (inr (inl y)) ↦ absurd (links_delete c b style p h new g plan long typed means is hd heir S a y)
                | inr (inr (inr y)) ↦ absurd (copies_delete c b style p h new g plan long typed means is hd heir S a plan.copiers y)
              ]

              from : Goes a → OneTrue (D a) parts xs
              from (inl x) = inl (subst (λ q. q xs a) (sym (deletes-Delete (InT c b style p) S (held_task c p.names b style g.number plan))) (x ∙ sym (head_ground c b style p h new g plan long typed means is)))
              from (inr x) = inr ((four (D a)).1 (inl ((frees_delete c b style p h new g plan long typed means is hd heir S a).1 x)))

          same : (a : GroundAtom) → Changed S Goes Comes a ↔ after (InT c b style p) S (E.And (splitting c p.names b style g.number plan)) xs a
          same a = subst (λ l. Changed S Goes Comes a ↔ after (InT c b style p) S (E.And l) xs a) (sym (splitting_parts c p.names b style g.number plan)) (
            λ k. elim k [ inl y ↦ inl (y.0, λ q. y.1 ((deletes a).0 q)) | inr y ↦ inr ((adds a).1 y) ],
            λ k. elim k [ inl y ↦ inl (y.0, λ q. y.1 ((deletes a).1 q)) | inr y ↦ inr ((adds a).0 y) ],
          )

      pub method_reads : Left (encoded_method c p.names b style g.number plan).eff
      method_reads = go plan.schema.children refl
        where
          go : (cs : List Child) → plan.schema.children ≡ cs → Left (E.And (method_eff c p.names b style g.number plan cs))
          go [] e = no_children (e_count c b style p h new g plan long typed means is ∙ ap length e)
          go (child ∷ cs) e =
              let some : 0 < count N g = (let q = e_count c b style p h new g plan long typed means is ∙ ap length e in omega arith) in
              let q = means.lawful.has_heir g some in
              some_children q.0 q.1 some

  module _ (apart : (x : ℕ) (w : Work) → t.holds x w → t.free x → ⊥) where
    pub method_to : (a : ActionSchema) (os : List ℕ) → IsMethodAct c b style p h new g a os → IsTrueIn (InT c b style p) S a.pre os → IsTaken c b style p means S t T r (apply h new g) a os
    method_to a os k tr =
        let x = subst (λ z. IsTrueIn (InT c b style p) S a.pre z) k.objects tr in
        let y = subst (λ (z : ActionSchema). IsTrueIn (InT c b style p) S z.pre xs') k.action x in
        subst (λ z. IsTaken c b style p means S t T r (apply h new g) a z) (sym k.objects) (subst (λ z. IsTaken c b style p means S t T r (apply h new g) z xs') (sym k.action) (taken y))
      where
        xs' : List ℕ
        xs' = objects c b style p h new g k.plan k.count k.typed

        slots : (x : ℕ) → Contains new x → IsSlot c b style p x
        slots = (each_contains (IsSlot c b style p) new).0 k.new_slots

        taken : IsTrueIn (InT c b style p) S (encoded_method c p.names b style g.number k.plan).pre xs' → IsTaken c b style p means S t T r (apply h new g) (encoded_method c p.names b style g.number k.plan) xs'
        taken y =
            let (q, waits, asks) = (method_true c b style p h new g k.plan k.count k.typed means S t T r k.is slots).0 y in
            let at_head = subst (λ w. S (held c b style p h w)) (sym (e_head c b style p h new g k.plan k.count k.typed means k.is)) q in
            let holds = (r.holds h (N.head g)).1 (known_head c means.fits g k.plan k.is, k.slot, at_head) in
            let declared = (means.guards_declare g k.plan k.is k.typed).0 asks.guards in
            let free : (x : ℕ) → Contains new x → t.free x = λ x d. (r.free x).1 (slots x d, asks.free x d) in
            record {
              may = record {
                holds = holds;
                ground = record { plan = k.plan; is = k.is; typed = k.typed; met = record { constraints = asks.constraints; declared = declared } };
                unblocked = (unblocked_iff c b style p S t T h r k.slot).1 waits;
                enough = k.count ∙ (let e = others_long N means.lawful g in let f = count_is c means.fits g k.plan k.is in let z : length k.plan.schema.children - 1 ≡ length (others N g) = omega arith in z);
                free = free;
                apart = asks.different;
              };
              allows = subst (λ o. AllowsMethod c T o g.values) (sym k.is) asks.tested;
              reads = (method_reads k.plan k.is k.count k.typed declared k.slot holds (λ f. apart h (N.head g) holds f) free).0;
              kept = (method_reads k.plan k.is k.count k.typed declared k.slot holds (λ f. apart h (N.head g) holds f) free).1;
            }

    pub method_from : MayApply N t h new g → AllowsMethod c T (slice_get c.methods g.number) g.values → (a : ActionSchema) × (os : List ℕ) × Applies c b style p S (apply h new g) a os
    method_from may al = (
      encoded_method c p.names b style g.number ground.plan,
      xs',
      (record { plan = ground.plan; is = ground.is; action = refl; slot = slot; new_slots = (each_contains (IsSlot c b style p) new).1 slots; count = long; typed = ground.typed; objects = refl }, applies),
    )
      where
        ground : IsGroundMethod c g
        ground = may.ground

        slot : IsSlot c b style p h
        slot = ((r.holds h (N.head g)).0 may.holds).1

        long : length new ≡ spare c p.names b style g.number ground.plan
        long = may.enough ∙ others_long N means.lawful g ∙ ap (λ n. n - 1) (count_is c means.fits g ground.plan ground.is)

        xs' : List ℕ
        xs' = objects c b style p h new g ground.plan long ground.typed

        slots : (x : ℕ) → Contains new x → IsSlot c b style p x
        slots x d = ((r.free x).0 (may.free x d)).0

        applies : IsTrueIn (InT c b style p) S (encoded_method c p.names b style g.number ground.plan).pre xs'
        applies = (method_true c b style p h new g ground.plan long ground.typed means S t T r ground.is slots).1 (
          subst (λ w. S (held c b style p h w)) (e_head c b style p h new g ground.plan long ground.typed means ground.is) ((r.holds h (N.head g)).0 may.holds).2,
          (unblocked_iff c b style p S t T h r slot).0 may.unblocked,
          record {
            free = λ x d. ((r.free x).0 (may.free x d)).1;
            different = may.apart;
            constraints = ground.met.constraints;
            guards = (means.guards_declare g ground.plan ground.is ground.typed).1 ground.met.declared;
            tested = subst (λ o. AllowsMethod c T o g.values) ground.is al;
          },
        )
