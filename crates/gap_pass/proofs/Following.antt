-- The loop of the pass: it begins, follows each step, and ends.
use Rattle.std.proofs.Common.{ℕ, ◌≡◌, ◌+◌, ◌≤◌, ◌↔◌, List, [], ◌∷◌, length, Bool, true, false, Option, Some, None, slice_get, refl, ap, subst, ◌∙◌, arith}
use Rattle.plan_model.specs.declared.values.Compiled.{Compiled}
use Rattle.plan_model.specs.task_networks.Tree.{Tree, Address}
use Rattle.plan_model.specs.task_networks.Preorder.{preorder}
use Rattle.plan_model.specs.plan_meaning.Network.{network}
use Rattle.plan_model.proofs.task_networks.Different.{no_more}
use Rattle.plan_texts.specs.SoundlyCompiled.{IsSoundlyCompiled}
use Rattle.tree_core.specs.Tables.{Row}
use Rattle.tree_core.specs.Labels.{labels}
use Rattle.tree_core.specs.Runs.{AreAt}
use Rattle.tree_core.proofs.Gets.{at_place}
use Rattle.tree_core.proofs.Siblings.{place_of_node}
use Rattle.kept_front.specs.declared.later.Later.{Later}
use Rattle.kept_front.specs.Later.{AreAllLater}
use Rattle.gap_pass.specs.Children.{AreAllChildren}
use Rattle.gap_pass.specs.Tours.{OfTree, IsTour}
use Rattle.gap_pass.specs.Passes.{AreOwn, own_at, IsNew, IsGapBy, IsTaken}
use Rattle.gap_pass.specs.LatestGaps.{IsSetting, AreLatest, HasNone}
use Rattle.gap_pass.specs.declared.pass.Pass.{Pass}
use Rattle.gap_pass.specs.declared.tour.Step.{Step}
use Rattle.gap_pass.specs.declared.tour.Step.TheVariants.{Enter, Leave}
use Rattle.gap_pass.proofs.Grown.{many_nodes}
use Rattle.gap_pass.proofs.Kept.{IsKept, starts, goes_in, goes_out, none_fits, all_latest}

-- the same may be said of what may stand where
same_gap : (children : List (List ℕ)) (pass : Pass) (At Other : ℕ → Type 0) (own : Option ℕ) (k : ℕ) (found : Option ℕ)
    → ((i : ℕ) → At i ↔ Other i)
    → IsGapBy children pass At own k found → IsGapBy children pass Other own k found
same_gap children pass At Other None k None f (b, l, n) = (b, l, λ i m a. n i m ((f i).1 a))
same_gap children pass At Other None k (Some x) f (b, l, g) = (
  b,
  l,
  record {
    within = g.within;
    holds = (f x).0 g.holds;
    greatest = λ i m a. g.greatest i m ((f i).1 a);
  },
)
same_gap children pass At Other (Some j) k None f n = λ l a. n l ((f j).1 a)
same_gap children pass At Other (Some j) k (Some x) f (e, l, a) = (e, l, (f j).0 a)

-- equal lists may be taken
pub same_taken : (children : List (List ℕ)) (own : List (Option ℕ)) (kids : List (List ℕ)) (owns : List (Option ℕ)) → kids ≡ children
    → owns ≡ own
    → (later : List Later) (rows : List (Row labels)) (may : ℕ → ℕ → Type 0) (old new : Pass) (step : Step) (found : Bool)
    → IsTaken later rows kids owns may old new step found → IsTaken later rows children own may old new step found
same_taken children own kids owns e f later rows may old new step found is =
    subst (λ z. IsTaken later rows children z may old new step found) f (subst (λ z. IsTaken later rows z owns may old new step found) e is)

same_length : (ns ps : List Address) (ks : List ℕ) → AreAt ns ks ps → length ks ≡ length ps
same_length ns [] [] a = refl
same_length ns (p ∷ ps) [] a = absurd a
same_length ns [] (k ∷ ks) a = absurd a
same_length ns (p ∷ ps) (k ∷ ks) a = let e = same_length ns ps ks a.1 in omega arith

module _ (c : Compiled) (rows : List (Row labels)) (actions : List ℕ) (later : List Later) (children : List (List ℕ))
    (own : List (Option ℕ)) (may : ℕ → ℕ → Type 0) (steps : List Step) where
  -- of each tree and plan
  abbrev pub KeepsAll : ℕ → Pass → Type 0
  KeepsAll t pass = (tree : Tree (network c)) (plan : List Address) → IsSetting c rows actions tree plan
      → IsKept c rows actions later children own may tree plan steps t pass

  module _ (soundly : IsSoundlyCompiled c) (are_later : AreAllLater c later) (are_children : AreAllChildren rows children)
      (are_own : AreOwn (length rows) actions own)
      (tours : OfTree c rows (λ tree. IsTour (network c) tree steps)) where
    pub begins : (most : ℕ) (pass : Pass) → (length actions ≤ length rows → most ≡ length actions) → IsNew (length rows) most pass
        → KeepsAll 0 pass
    begins most pass e new tree plan s =
        let l = same_length (preorder (network c) tree) plan actions s.places in
        let few = no_more plan (preorder (network c) tree) s.is_plan.different
        (λ p d. (let (w, f) = s.is_plan.leaves p d in let (k, a) = place_of_node (network c) tree p (_, f) in at_place
        (preorder (network c) tree) k p a)) in
        let m = many_nodes c rows tree s.rows_are in
        starts c rows actions later children own may tree plan steps soundly are_later are_children are_own s
        (tours tree s.grown s.rows_are) pass
        (new.most_is ∙ e (omega arith) ∙ l) new.caps new.gaps

    pub goes_on : (now : ℕ → ℕ → Type 0) → ((k i : ℕ) → now k i ↔ may k i) → (t : ℕ) (step : Step) (old new : Pass) (found : Bool)
        → slice_get steps t ≡ Some step → found ≡ true
        → IsTaken later rows children own now old new step found → KeepsAll t old → KeepsAll (t + 1) new
    goes_on now same t (Enter k) old new found e told (f, is) kept tree plan s =
        goes_in c rows actions later children own may tree plan steps soundly are_later are_children are_own s
        (tours tree s.grown s.rows_are) t k old new e is (kept tree plan s)
    goes_on now same t (Leave k) old new found e told (None, is, f) kept tree plan s = absurd cc
    goes_on now same t (Leave k) old new found e told (Some x, is, (f, left)) kept tree plan s =
        goes_out c rows actions later children own may tree plan steps soundly are_later are_children are_own s
        (tours tree s.grown s.rows_are) t k x old new e
        (same_gap children old (now k) (may k) (own_at own k) k (Some x) (same k) is) left (kept tree plan s)

    pub stops : (now : ℕ → ℕ → Type 0) → ((k i : ℕ) → now k i ↔ may k i) → (t : ℕ) (step : Step) (old new : Pass) (found : Bool)
        → slice_get steps t ≡ Some step → found ≡ false
        → IsTaken later rows children own now old new step found → KeepsAll t old → HasNone c rows actions may
    stops now same t (Enter k) old new found e told (f, is) kept tree plan s = absurd cc
    stops now same t (Leave k) old new found e told (Some x, is, (f, left)) kept tree plan s = absurd cc
    stops now same t (Leave k) old new found e told (None, is, f) kept tree plan s =
        none_fits c rows actions later children own may tree plan steps soundly are_later are_children are_own s
        (tours tree s.grown s.rows_are) t k old e
        (same_gap children old (now k) (may k) (own_at own k) k None (same k) is) (kept tree plan s)

    pub ends : (t : ℕ) (pass : Pass) (gaps : List ℕ) → length steps ≤ t → gaps ≡ pass.gaps.items → KeepsAll t pass
        → AreLatest c rows actions may gaps
    ends t pass gaps l e kept tree plan s =
        let (gap, at, latest) = all_latest c rows actions later children own may tree plan steps soundly are_later are_children are_own s
        (tours tree s.grown s.rows_are) t pass l (kept tree plan s) in
        (gap, λ k p a. ap (λ z. slice_get z k) e ∙ at k p a, latest)
