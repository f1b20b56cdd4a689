-- What a rule picks are the slots that follow it.
use Rattle.std.proofs.Common.{ℕ, ◌≡◌, ◌≢◌, ◌⊎◌, ◌↔◌, inl, inr, List, [], ◌∷◌, ◌++◌, map, Some, refl, ap, sym, subst, ◌∙◌, Contains, append_assoc}
use Rattle.std.proofs.lemmas.List.Elements.{Contains-push, Contains-append_left}
use Rattle.plan_model.specs.task_networks.Net.{Net}
use Rattle.plan_model.specs.task_networks.Lawful.{IsLawful}
use Rattle.plan_model.specs.task_networks.Tree.{Tree, Label, used, Address, label_at, IsAddress}
use Rattle.plan_model.specs.task_networks.Schedule.{IsBegun}
use Rattle.plan_model.specs.task_networks.Pending.{IsPending}
use Rattle.plan_model.specs.task_networks.Spelling.{Act, run, apply, label_of, others, Spells, IsAct}
use Rattle.plan_model.proofs.task_networks.Lists.{by_push, cut_push}
use Rattle.slot_machine.specs.OtherMachine.{TakesAll}
use Rattle.slot_machine.proofs.FrontSteps.{address_back, used_back, used_grows}
use Rattle.slot_machine.proofs.Growth.{IsGrowth}
use Rattle.slot_machine.proofs.LabelTrees.{work_at}
use Rattle.slot_machine.proofs.Matching.{Matches}
use Rattle.slot_machine.proofs.SpellingRuns.{LastStep, last_step, runs_from_spells}
use Rattle.slot_machine.proofs.SpellingSteps.{no_acts, pending_grows, open_pending, pending_open}
use Rattle.schedules.specs.ruled.Narrowed.{after}
use Rattle.schedules.specs.ruled.SlotRule.{SeesFree, PicksBy, Follows, IsFreeAfter}
use Rattle.schedules.proofs.ruled.TakesPicked.{takes_push, none_taken}

-- while p isn't taken, the same nodes are pending before and after the tree has grown at p
pub pending_iff_grown : (N : Net) (tree tree' : Tree N) (p : Address) (w : N.Work) (l : Label N) → IsGrowth N tree tree' p w l
    → (taken : List Address) → (Contains taken p → ⊥) → (q : Address) → IsPending N tree taken q ↔ IsPending N tree' taken q
pending_iff_grown N tree tree' p w l g taken n q = (
  pending_grows N tree tree' p w l g taken q,
  λ d. back d (address_back N tree tree' p w l g q d.address),
)
  where
    back : IsPending N tree' taken q → IsAddress N tree q ⊎ ((i : ℕ) × (q ≡ i ∷ p)) → IsPending N tree taken q
    back d (inl a) = record { address = a; begun = d.begun; left = d.left }
    back d (inr (i, e)) = absurd (n (subst (IsBegun taken) e d.begun))

module _ (N : Net) (law : IsLawful N) (Rule : (ℕ → Type 0) → ℕ → N.Method → List ℕ → Type 0) (sees : SeesFree N Rule) (b : ℕ)
    (top : N.Work) where
  abbrev Pick : List (Act N) → Act N → Type 0
  Pick = PicksBy N Rule b top

  abbrev F : List Address → Type 0
  F order = (acts : List (Act N)) (tree : Tree N) (slot : Address → ℕ) → Spells N b top acts tree order slot → TakesAll N (PicksBy N Rule b top) acts ↔ Follows N Rule b tree order slot

  none : F []
  none acts tree slot s = (
    λ t taken rest p m e. absurd (empty taken rest p e),
    λ f. subst (TakesAll N (PicksBy N Rule b top)) (sym (no_acts N tree slot acts s.spelled)) (none_taken N (PicksBy N Rule b top)),
  )
    where
      empty : (taken rest : List Address) (p : Address) → [] ≡ taken ++ p ∷ rest → ⊥
      empty [] rest p e = cc
      empty (q ∷ taken) rest p e = cc

  more : (order : List Address) (p : Address) → F order → F (order ++ p ∷ [])
  more order p ih acts' tree' slot s = go (last_step N b top acts' tree' order p slot s)
    where
      go : LastStep N b top acts' tree' order p slot
          → TakesAll N (PicksBy N Rule b top) acts' ↔ Follows N Rule b tree' (order ++ p ∷ []) slot
      go d = (to, from)
        where
          old : TakesAll N Pick d.acts ↔ Follows N Rule b d.tree order slot
          old = ih d.acts d.tree slot d.before

          -- the free slots before the last step, in both trees
          same_free : (taken : List Address) → (Contains taken p → ⊥) → (x : ℕ)
              → IsFreeAfter N b d.tree slot taken x ↔ IsFreeAfter N b tree' slot taken x
          same_free taken n x = (
            λ h. (h.0, h.1, λ q k e. h.2 q ((pending_iff_grown N d.tree tree' p (work_at N (label_of N d.act)) (label_of N d.act) d.growth taken n q).1 k) e),
            λ h. (h.0, h.1, λ q k e. h.2 q ((pending_iff_grown N d.tree tree' p (work_at N (label_of N d.act)) (label_of N d.act) d.growth taken n q).0 k) e),
          )

          m : Matches N b (after N b top d.acts) d.tree slot
          m = (runs_from_spells N law b top order d.acts d.tree slot d.before).1

          machine_free : (x : ℕ) → (after N b top d.acts).free x ↔ IsFreeAfter N b tree' slot order x
          machine_free x =
              let k = same_free order d.due.fresh x in (
                λ f. (let h = (m.free x).0 f in k.0 (h.0, h.1, λ q pd e. h.2 q (pending_open N d.tree order q d.before.front.schedule pd) e)),
                λ f. (let h = k.1 f in (m.free x).1 (h.0, h.1, λ q o e. h.2 q (open_pending N d.tree order q d.before.front.schedule o) e)),
              )

          -- the last act is picked exactly where its slots follow
          last_to : (a : Act N) → a ≡ d.act → (n : N.Method) → label_at N tree' p ≡ Some (used n) → Pick d.acts a → IsAct N tree' slot p a
              → Rule (IsFreeAfter N b tree' slot order) (slot p) n (map (λ i. slot (i ∷ p)) (others N n))
          last_to (run h w) e n l q i = let x = i.0 in absurd cc
          last_to (apply h new k) e n l q i =
              let x = i.0 in
              let y : k ≡ n = cc in
              let z = sees (after N b top d.acts).free (IsFreeAfter N b tree' slot order) h k new machine_free q in
              subst (λ v. Rule (IsFreeAfter N b tree' slot order) (slot p) v (map (λ i. slot (i ∷ p)) (others N v))) y
              (subst (Rule (IsFreeAfter N b tree' slot order) (slot p) k) i.2 (subst (λ v. Rule (IsFreeAfter N b tree' slot order) v k new) i.1 z))

          last_from : (a : Act N) → a ≡ d.act
              → ((n : N.Method) → label_at N tree' p ≡ Some (used n) → Rule (IsFreeAfter N b tree' slot order) (slot p) n (map (λ i. slot (i ∷ p)) (others N n))) → IsAct N tree' slot p a → Pick d.acts a
          last_from (run h w) e f i = tt
          last_from (apply h new k) e f i =
              let z = f k i.0 in
              sees (IsFreeAfter N b tree' slot order) (after N b top d.acts).free h k new (λ x. ((machine_free x).1, (machine_free x).0))
              (subst (λ v. Rule (IsFreeAfter N b tree' slot order) v k new) (sym i.1) (subst (Rule (IsFreeAfter N b tree' slot order) (slot p) k) (sym i.2) z))

          not_in : (taken rest : List Address) (q : Address) → order ≡ taken ++ q ∷ rest → Contains taken p → ⊥
          not_in taken rest q e c = d.due.fresh (subst (λ z. Contains z p) (sym e) (Contains-append_left taken (q ∷ rest) p c))

          not_p : (taken rest : List Address) (q : Address) → order ≡ taken ++ q ∷ rest → q ≢ p
          not_p taken rest q e f = d.due.fresh (subst (Contains order) f (subst (λ z. Contains z q) (append_assoc taken (q ∷ []) rest ∙ sym e) (Contains-append_left (taken ++ q ∷ []) rest q (Contains-push taken q))))

          to : TakesAll N Pick acts' → Follows N Rule b tree' (order ++ p ∷ []) slot
          to t taken rest q n e l = cut (cut_push order p taken q rest e)
            where
              t' : TakesAll N Pick d.acts × Pick d.acts d.act
              t' = (takes_push N Pick d.acts d.act).0 (subst (TakesAll N Pick) d.is t)

              cut : ((order ≡ taken) × (p ≡ q)) ⊎ ((rest' : List Address) × (order ≡ taken ++ q ∷ rest'))
                  → Rule (IsFreeAfter N b tree' slot taken) (slot q) n (map (λ i. slot (i ∷ q)) (others N n))
              cut (inl (x, y)) =
                  let z = last_to d.act refl n (subst (λ v. label_at N tree' v ≡ Some (used n)) (sym y) l) t'.1 d.is_act in
                  subst (λ v. Rule (IsFreeAfter N b tree' slot v) (slot q) n (map (λ i. slot (i ∷ q)) (others N n))) x
                  (subst (λ v. Rule (IsFreeAfter N b tree' slot order) (slot v) n (map (λ i. slot (i ∷ v)) (others N n))) y z)
              cut (inr (r, x)) =
                  let z = old.0 t'.0 taken r q n x (used_back N d.tree tree' p (work_at N (label_of N d.act)) (label_of N d.act) d.growth q n (not_p taken r q x) l) in
                  sees (IsFreeAfter N b d.tree slot taken) (IsFreeAfter N b tree' slot taken) (slot q) n (map (λ i. slot (i ∷ q)) (others N n)) (same_free taken (not_in taken r q x)) z

          from : Follows N Rule b tree' (order ++ p ∷ []) slot → TakesAll N Pick acts'
          from f = subst (TakesAll N Pick) (sym d.is) ((takes_push N Pick d.acts d.act).1 (old.1 before, last_from d.act refl (λ n l. f order [] p n refl l) d.is_act))
            where
              before : Follows N Rule b d.tree order slot
              before taken rest q n e l =
                  let g = used_grows N d.tree tree' p (work_at N (label_of N d.act)) (label_of N d.act) d.growth q n l in
                  let z = f taken (rest ++ p ∷ []) q n (ap (λ v. v ++ p ∷ []) e ∙ append_assoc taken (q ∷ rest) (p ∷ [])) g.1 in
                  sees (IsFreeAfter N b tree' slot taken) (IsFreeAfter N b d.tree slot taken) (slot q) n (map (λ i. slot (i ∷ q)) (others N n)) (λ x. let k = same_free taken (not_in taken rest q e) x in (k.1, k.0)) z

  pub picked_iff_follows : (acts : List (Act N)) (tree : Tree N) (order : List Address) (slot : Address → ℕ)
      → Spells N b top acts tree order slot → TakesAll N (PicksBy N Rule b top) acts ↔ Follows N Rule b tree order slot
  picked_iff_follows acts tree order slot s = by_push F none more order acts tree slot s
