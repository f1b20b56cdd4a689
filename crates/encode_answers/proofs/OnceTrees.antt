-- Two trees of one plan: their labels are the same but for values, and the same nodes may stand in the same gaps with the same values.
use Rattle.std.proofs.Common.{ℕ, ◌≡◌, inl, inr, ◌∙◌, false, List, [], ◌∷◌, map, slice_get, Option, Some, None, option_map, Contains, refl, ap, sym, subst}
use Rattle.plan_model.specs.declared.options.Checks.{Checks}
use Rattle.plan_model.specs.declared.values.Hddl.{Hddl}
use Rattle.plan_model.specs.declared.values.Compiled.{Compiled}
use Rattle.plan_model.specs.task_networks.Net.{Net}
use Rattle.plan_model.specs.task_networks.Tree.{Tree, open_leaf, done, split, Label, waits, ran, used, Address, label_at, work_of, IsAddress}
use Rattle.plan_model.specs.task_networks.Executable.{AreLabels}
use Rattle.plan_model.specs.plan_meaning.Network.{Work, action, check, task, GroundMethod, network, IsGroundMethod}
use Rattle.plan_model.specs.plan_meaning.Solution.{top_work, Allows}
use Rattle.plan_model.proofs.task_networks.Lists.{Contains-here, Contains-later}
use Rattle.plan_model.proofs.task_networks.Parents.{parent_label}
use Rattle.tree_core.proofs.Labels.{labels_tell_tree}
use Rattle.hplan_text.specs.declared.values.HPlan.{HPlan}
use Rattle.schedules.specs.latest.PlanLines.{renamed_step}
use Rattle.schedules.specs.latest.Relabelled.{new_label}
use Rattle.schedules.specs.latest.Shown.{PlanWords, AreTelling, SaysTheSame}
use Rattle.schedules.specs.latest.ShownLaws.{AreToldAlike}
use Rattle.schedules.proofs.latest.GrownTrees.{simple_at}
use Rattle.schedules.proofs.latest.LinesOfTrees.{step_of}
use Rattle.schedules.proofs.latest.SameTrees.{same_step_nodes}
use Rattle.schedules.proofs.latest.ShownTrees.{from_step_nodes}
use Rattle.plan_encoder.specs.Calls.{is_check, lines_of, words}
use Rattle.plan_encoder.specs.ChosenValues.{with_values, rechecked, CanHave, method_with, work_with, chosen, is_checked_by, ParentCanHave, state_in, LabelMayStand, MayStand}
use Rattle.plan_encoder.specs.Laws.{IsOf, IsTreeOfPlan, actions}
use Rattle.plan_encoder.proofs.ChosenTrees.{label_chosen}
use Rattle.plan_encoder.proofs.SameRecords.{alike, same_work, same_number, can_have}
use Rattle.plan_encoder.proofs.Standing.{check_is_first, check_below}
use Rattle.plan_encoder.proofs.Telling.{words_tell}

-- nodes have one list of labels
pub labels_once : (N : Net) (tree : Tree N) (ps : List Address) (ls ms : List (Label N)) → AreLabels N tree ps ls → AreLabels N tree ps ms
    → ls ≡ ms
labels_once N tree [] [] [] a b = refl
labels_once N tree [] [] (m ∷ ms) a b = absurd b
labels_once N tree [] (l ∷ ls) ms a b = absurd a
labels_once N tree (p ∷ ps) [] ms a b = absurd a
labels_once N tree (p ∷ ps) (l ∷ ls) [] a b = absurd b
labels_once N tree (p ∷ ps) (l ∷ ls) (m ∷ ms) a b =
    let x = a.0 in
    let y = b.0 in
    let f : l ≡ m = cc in
    let g = labels_once N tree ps ls ms a.1 b.1 in
    λ i. f i ∷ g i

-- values of a check that are given to it anew
rechecked_again : (v u : List ℕ) (w : Work) → rechecked v (rechecked u w) ≡ rechecked v w
rechecked_again v u (action a args) = refl
rechecked_again v u (check m old) = refl
rechecked_again v u (task t args) = refl

all_rechecked_again : (v u : List ℕ) (ws : List Work) → map (rechecked v) (map (rechecked u) ws) ≡ map (rechecked v) ws
all_rechecked_again v u [] = refl
all_rechecked_again v u (w ∷ ws) = let f = rechecked_again v u w in let g = all_rechecked_again v u ws in λ i. f i ∷ g i

module _ (h : Hddl) (mode : Checks) (c : Compiled) (of : IsOf h mode c) where
  abbrev N : Net
  N = network c

  abbrev W : PlanWords N
  W = words c

  abbrev top : Work
  top = top_work c

  told : AreTelling N W top
  told = words_tell c h mode of.sound of.compiled

  -- methods of one number with the same values
  pub same_method : (g k : GroundMethod) (v : List ℕ) → k.number ≡ g.number → with_values g v ≡ with_values k v
  same_method g k v e = λ i. record { number = (sym e) i; values = v }

  module _ (plan : HPlan) (tree other : Tree N) (node another : ℕ → Address)
      (t : IsTreeOfPlan c plan tree node) (o : IsTreeOfPlan c plan other another) where
    pub are_alike : AreToldAlike N W top (lines_of plan) tree other node another
    are_alike = alike c h mode of.sound of.compiled (lines_of plan) tree other node another t o

    pub same_actions : actions c plan node ≡ actions c plan another
    same_actions = same_step_nodes N W top told (lines_of plan) tree other node another t o

    -- the root has a method
    no_leaf_root : (w : Work) → label_at N tree [] ≡ Some (ran w) → ⊥
    no_leaf_root w e = subst N.IsSimple (root_is tree w e ∙ t.root) (simple_at N tree t.grown [] w e)
      where
        root_is : (u : Tree N) (w : Work) → label_at N u [] ≡ Some (ran w) → w ≡ work_of N u
        root_is (open_leaf v) w e = absurd cc
        root_is (done v) w e = cc
        root_is (split m ts) w e = absurd cc

    other_label : (p : Address) (k : Label N) → label_at N tree p ≡ Some k
        → (l : Label N) × (label_at N other p ≡ Some l) × SaysTheSame N W k l
    other_label p k e = let (l, f, s) = are_alike.shape.to p k e in (l, f, are_alike.said p k l e f)

    ran_only : (w : Work) (l : Label N) → SaysTheSame N W (ran w) l → (v : Work) × (l ≡ ran v)
    ran_only w (waits v) s = absurd s
    ran_only w (ran v) s = (v, refl)
    ran_only w (used g) s = absurd s

    used_only : (g : GroundMethod) (l : Label N) → SaysTheSame N W (used g) l → (k : GroundMethod) × (l ≡ used k)
    used_only g (waits v) s = absurd s
    used_only g (ran v) s = absurd s
    used_only g (used k) s = (k, refl)

    -- a method has another of its number, an action itself, and a check one of its method
    pub used_there : (q : Address) (g : GroundMethod) → label_at N tree q ≡ Some (used g)
        → (k : GroundMethod) × (label_at N other q ≡ Some (used k)) × (k.number ≡ g.number)
    used_there q g e =
        let (l, f, s) = other_label q (used g) e in
        let (k, r) = used_only g l s in
        let there : label_at N other q ≡ Some (used k) = f ∙ ap Some r in
        (k, there, same_number c h mode of.sound of.compiled (lines_of plan) tree other node another t o q g k e there)

    action_stays : (p : Address) (w : Work) → label_at N tree p ≡ Some (ran w) → is_check w ≡ false → label_at N other p ≡ Some (ran w)
    action_stays [] w e n = absurd (no_leaf_root w e)
    action_stays (j ∷ q) w e n =
        let (l, f, s) = other_label (j ∷ q) (ran w) e in
        let (v, g) = ran_only w l s in
        let there : label_at N other (j ∷ q) ≡ Some (ran v) = f ∙ ap Some g in
        let same : w ≡ v = same_work c h mode of.sound of.compiled (lines_of plan) tree other node another t o j q (ran w) (ran v) e there n in
        there ∙ ap (λ z. Some (ran z)) (sym same)

    check_there : (p : Address) (m : ℕ) (old : List ℕ) → label_at N tree p ≡ Some (ran (check m old))
        → (new : List ℕ) × (label_at N other p ≡ Some (ran (check m new)))
    check_there p m old e =
        let x = check_is_first c h mode of.sound of.compiled tree t.grown t.no_leaves t.root p m old e in
        let (k, above, number) = used_there x.parent x.method x.above in
        let low : label_at N other (0 ∷ x.parent) ≡ Some (ran (check k.number k.values)) = check_below c h mode of.sound of.compiled other o.grown o.no_leaves o.root x.parent k above (ap (λ z. is_checked_by c (slice_get c.methods z)) number ∙ x.checked) in
        let own : label_at N tree (0 ∷ x.parent) ≡ Some (ran (check x.method.number x.method.values)) = check_below c h mode of.sound of.compiled tree t.grown t.no_leaves t.root x.parent x.method x.above x.checked in
        let m_is : k.number ≡ m = number ∙ sym (number_of (sym e ∙ ap (label_at N tree) x.here ∙ own)) in
        (k.values, ap (label_at N other) x.here ∙ low ∙ ap (λ z. Some (ran (check z k.values))) m_is)
      where
        number_of : {m n : ℕ} {v w : List ℕ} → (let x : Option (Label N) = Some (ran (check m v)) in x) ≡ Some (ran (check n w)) → m ≡ n
        number_of e = cc

    none_there : (p : Address) → label_at N tree p ≡ None → label_at N other p ≡ None
    none_there p e = go (label_at N other p) refl
      where
        go : (x : Option (Label N)) → label_at N other p ≡ x → label_at N other p ≡ None
        go None f = f
        go (Some l) f = absurd (let (k, g, s) = are_alike.shape.back p l f in let r : None ≡ Some k = sym e ∙ g in cc)

    -- what a method can have its counterpart can have too
    have_there : (q : Address) (g k : GroundMethod) → label_at N tree q ≡ Some (used g) → label_at N other q ≡ Some (used k)
        → k.number ≡ g.number → (v : List ℕ) → CanHave c g v → CanHave c k v
    have_there q g k e f number v x =
        let its = can_have c h mode of.sound of.compiled (lines_of plan) tree other node another t o q g k e f in
        let own : with_values g k.values ≡ k = same_method g k k.values number in
        let new : with_values g v ≡ with_values k v = same_method g k v number in
        let heads : N.head k ≡ N.head g = sym (ap N.head own) ∙ its.head in
        let kids : N.works k ≡ map (rechecked k.values) (N.works g) = sym (ap N.works own) ∙ its.children in
        record {
          ground = subst (IsGroundMethod c) new x.ground;
          head = ap N.head (sym new) ∙ x.head ∙ sym heads;
          children = ap N.works (sym new) ∙ x.children ∙ sym (ap (map (rechecked v)) kids ∙ all_rechecked_again v k.values (N.works g));
        }

    parent_there : (p : Address) (v : List ℕ) → ParentCanHave c tree p v → ParentCanHave c other p v
    parent_there [] v x = tt
    parent_there (i ∷ q) v (g, e, x) = let (k, f, number) = used_there q g e in (k, f, have_there q g k e f number v x)

    -- a node may stand with the same values in the same gaps
    pub stands_there : (labels : List (Label N)) (p : Address) → IsAddress N tree p → (v : List ℕ) (i : ℕ) → MayStand c tree labels p v i
        → MayStand c other labels p v i
    stands_there labels p (k, e) v i x = go k e (subst (λ z. LabelMayStand c tree labels p z v i) e x)
      where
        here : (l : Label N) → label_at N other p ≡ Some l → LabelMayStand c other labels p (Some l) v i → MayStand c other labels p v i
        here l f m = subst (λ z. LabelMayStand c other labels p z v i) (sym f) m

        go : (k : Label N) → label_at N tree p ≡ Some k → LabelMayStand c tree labels p (Some k) v i → MayStand c other labels p v i
        go (waits w) e x = absurd (t.no_leaves p (w, e))
        go (ran (task u args)) e x = absurd (simple_at N tree t.grown p (task u args) e)
        go (ran (action a args)) e x = here (ran (action a args)) (action_stays p (action a args) e refl) x
        go (ran (check m old)) e x = let (new, f) = check_there p m old e in here (ran (check m new)) f (parent_there p v x.0, x.1)
        go (used g) e x = let (k, f, number) = used_there p g e in here (used k) f (elim x [
          | inl b ↦ inl (ap (λ z. is_checked_by c (slice_get c.methods z)) number ∙ b)
          | inr y ↦ inr (have_there p g k e f number v y.0, subst (λ z. Allows c (state_in c tree labels i) (used z)) (same_method g k v number) y.1)
        ])

    -- the actions have the same labels
    action_of : (p : Address) (l : Label N) → label_at N tree p ≡ Some l → Contains (actions c plan node) p
        → (w : Work) × (l ≡ ran w) × (is_check w ≡ false)
    action_of p l e d =
        let (k, f, g) = from_step_nodes N W tree (lines_of plan) node t.of_plan p d in
        let (v, x, y, z, u) = step_of N W (label_at N tree (node k.id)) (node k.id) (renamed_step node k) (t.of_plan.steps k f) in
        let r = ap (label_at N tree) g in
        (v, (let same : l ≡ ran v = cc in same), y)

    labels_there : (ps : List Address) (ls : List (Label N)) → ((p : Address) → Contains ps p → Contains (actions c plan node) p)
        → AreLabels N tree ps ls → AreLabels N other ps ls
    labels_there [] [] f a = tt
    labels_there [] (l ∷ ls) f a = a
    labels_there (p ∷ ps) [] f a = a
    labels_there (p ∷ ps) (l ∷ ls) f a = (
      (let (w, e, n) = action_of p l a.0 (f p (Contains-here p ps)) in action_stays p w (a.0 ∙ ap Some e) n ∙ ap Some (sym e)),
      labels_there ps ls (λ q d. f q (Contains-later p ps q d)) a.1,
    )

    pub same_labels : (labels others : List (Label N)) → AreLabels N tree (actions c plan node) labels
        → AreLabels N other (actions c plan another) others → labels ≡ others
    same_labels labels others a b = labels_once N other (actions c plan another) labels others
        (subst (λ z. AreLabels N other z labels) same_actions (labels_there (actions c plan node) labels (λ p d. d) a)) b

    -- with the same values at each method the trees are one
    pub same_chosen : (values others : Address → List ℕ)
        → ((q : Address) (g : GroundMethod) → label_at N tree q ≡ Some (used g) → values q ≡ others q)
        → chosen c tree values ≡ chosen c other others
    same_chosen values others same = labels_tell_tree N (chosen c tree values) (chosen c other others)
        (λ p. label_chosen c tree values p ∙ go p (label_at N tree p) refl ∙ sym (label_chosen c other others p))
      where
        go : (p : Address) (x : Option (Label N)) → label_at N tree p ≡ x
            → option_map (new_label N (work_with values) (method_with values) p) x
            ≡ option_map (new_label N (work_with others) (method_with others) p) (label_at N other p)
        go p None e = ap (option_map (new_label N (work_with others) (method_with others) p)) (sym (none_there p e))
        go p (Some (waits w)) e = absurd (t.no_leaves p (w, e))
        go p (Some (ran (task u args))) e = absurd (simple_at N tree t.grown p (task u args) e)
        go [] (Some (ran (action a args))) e = absurd (no_leaf_root (action a args) e)
        go [] (Some (ran (check m u))) e = absurd (no_leaf_root (check m u) e)
        go (i ∷ q) (Some (ran (action a args))) e =
            ap (option_map (new_label N (work_with others) (method_with others) (i ∷ q))) (sym (action_stays (i ∷ q) (action a args) e refl))
        go (i ∷ q) (Some (ran (check m u))) e =
            let (v, f) = check_there (i ∷ q) m u e in
            let (g, up) = parent_label N tree i q (ran (check m u), e) in
            ap (λ z. Some (ran (check m z))) (same q g up) ∙ ap (option_map (new_label N (work_with others) (method_with others) (i ∷ q))) (sym f)
        go p (Some (used g)) e =
            let (k, f, number) = used_there p g e in
            let method : with_values g (values p) ≡ with_values k (others p) = ap (with_values g) (same p g e) ∙ same_method g k (others p) number in
            ap (λ z. Some (used z)) method ∙ ap (option_map (new_label N (work_with others) (method_with others) p)) (sym f)
