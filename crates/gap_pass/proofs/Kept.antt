-- The pass keeps what it knows with each step, to the end.
use Rattle.std.proofs.Common.{ℕ, ◌≡◌, ◌+◌, ◌<◌, ◌≤◌, ◌≢◌, ◌⊎◌, inl, inr, List, [], ◌∷◌, length, length-set, take, set, get_or, Option, Some, None, slice_get, ap, sym, subst, ◌∙◌, Contains, get_or-set_same, get_or-set_other, arith}
use Rattle.std.proofs.lemmas.Bool.{cases_eq}
use Rattle.std.proofs.lemmas.List.{take_all}
use Rattle.std.proofs.lemmas.List.Elements.{Contains-append_right}
use Rattle.std.proofs.lemmas.Option.{slice_get-get_or}
use Rattle.plan_model.specs.declared.values.Compiled.{Compiled}
use Rattle.plan_model.specs.task_networks.Net.{Net}
use Rattle.plan_model.specs.task_networks.Tree.{Tree, Address}
use Rattle.plan_model.specs.task_networks.Preorder.{preorder}
use Rattle.plan_model.specs.plan_meaning.Network.{network}
use Rattle.plan_model.proofs.task_networks.Lists.{Contains-here, not-in_empty}
use Rattle.plan_texts.specs.SoundlyCompiled.{IsSoundlyCompiled}
use Rattle.tree_core.specs.Tables.{Row}
use Rattle.tree_core.specs.Labels.{labels}
use Rattle.tree_core.proofs.Gets.{one_place, place_of}
use Rattle.tree_core.proofs.Siblings.{place_of_node}
use Rattle.tree_core.proofs.TableRows.{tables_tell_trees}
use Rattle.schedules.specs.latest.Gaps.{IsGapFunction, IsLatest}
use Rattle.schedules.specs.latest.OnePass.{IsCap, IsGreatestAt}
use Rattle.schedules.proofs.latest.Theorem.{one_pass}
use Rattle.kept_front.specs.declared.later.Later.{Later}
use Rattle.kept_front.specs.Later.{AreAllLater}
use Rattle.gap_pass.specs.Children.{AreAllChildren}
use Rattle.gap_pass.specs.Tours.{IsAt, IsLeft, IsTour}
use Rattle.gap_pass.specs.Passes.{AreOwn, own_at, IsGapAt, IsEntered, IsLeftAt}
use Rattle.gap_pass.specs.LatestGaps.{IsSetting, MayStand}
use Rattle.gap_pass.specs.declared.pass.Pass.{Pass}
use Rattle.gap_pass.specs.declared.tour.Step.{Step}
use Rattle.gap_pass.specs.declared.tour.Step.TheVariants.{Enter, Leave}
use Rattle.gap_pass.proofs.Grown.{within_rows}
use Rattle.gap_pass.proofs.Sound.{order_decided}
use Rattle.gap_pass.proofs.TourLaws.{taken_at, one_more, one_more_cases, taken_later}
use Rattle.gap_pass.proofs.Places.{gap_of, gap_at}
use Rattle.gap_pass.proofs.Passing.{Agrees, Holds, cap_is, number_is, is_gap, no_gap}

module _ (c : Compiled) (rows : List (Row labels)) (actions : List ℕ) (later : List Later) (children : List (List ℕ))
    (own : List (Option ℕ)) (may : ℕ → ℕ → Type 0)
    (tree : Tree (network c)) (plan : List Address) (steps : List Step) where
  abbrev N : Net
  N = network c

  abbrev Allowed : Address → ℕ → Type 0
  Allowed = MayStand c rows actions may tree

  abbrev AgreesHere : ℕ → List ℕ → (Address → ℕ) → Type 0
  AgreesHere = Agrees c rows actions later children own may tree plan steps

  abbrev HoldsHere : ℕ → List ℕ → (Address → ℕ) → Type 0
  HoldsHere = Holds c rows actions later children own may tree plan steps

  -- after so many steps, for whatever gaps the other nodes will have
  pub record IsKept (t : ℕ) (pass : Pass) : Type 0 where
    pub most : pass.most ≡ length plan
    pub caps : length pass.caps.items ≡ length rows
    pub gaps : length pass.gaps.items ≡ length rows
    pub holds : (gap : Address → ℕ) → AgreesHere t pass.gaps.items gap → HoldsHere t pass.caps.items gap

  module _ (soundly : IsSoundlyCompiled c) (are_later : AreAllLater c later) (are_children : AreAllChildren rows children)
      (are_own : AreOwn (length rows) actions own)
      (s : IsSetting c rows actions tree plan) (tour : IsTour N tree steps) where
    -- the pass follows a step in
    pub goes_in : (t k : ℕ) (old new : Pass) → slice_get steps t ≡ Some (Enter k) → IsEntered later rows children old new k → IsKept t old
        → IsKept (t + 1) new
    goes_in t k old new taken is kept = record {
      most = is.most ∙ kept.most;
      caps = ap length is.caps ∙ length-set old.caps.items k is.cap ∙ kept.caps;
      gaps = ap length is.gaps ∙ kept.gaps;
      holds = λ gap agrees. holds gap (agreed gap agrees) (kept.holds gap (agreed gap agrees));
    }
      where
        at_k : (p : Address) × IsAt N tree k p
        at_k = (tour.each t (Enter k) taken).node

        was_left : (j : ℕ) → IsLeft N tree (take (t + 1) steps) j → IsLeft N tree (take t steps) j
        was_left j d = elim (one_more_cases steps t (Enter k) (Leave j) taken d) [ inl b ↦ b | inr e ↦ absurd cc ]

        agreed : (gap : Address → ℕ) → AgreesHere (t + 1) new.gaps.items gap → AgreesHere t old.gaps.items gap
        agreed gap agrees j q a l = ap (λ gs. get_or gs j 0) (sym is.gaps)
            ∙ agrees j q a (taken_later steps t (t + 1) (Leave j) (omega arith) l)

        holds : (gap : Address → ℕ) → AgreesHere t old.gaps.items gap → HoldsHere t old.caps.items gap
            → HoldsHere (t + 1) new.caps.items gap
        holds gap agrees h = record {
          caps_are = λ j q a d. subst (λ cs. IsCap N tree plan gap q (get_or cs j 0)) (sym is.caps) (elim (cases_eq j k) [
            | inl e ↦ (
                let b = subst (λ z. IsAt N tree z q) e a in
                let l : k < length old.caps.items = (let m = kept.caps in let n = within_rows c rows tree s.rows_are k q b in
                omega arith) in
                subst (λ z. IsCap N tree plan gap q (get_or (set old.caps.items k is.cap) z 0)) (sym e)
                (subst (IsCap N tree plan gap q) (sym (get_or-set_same old.caps.items k is.cap 0 l))
                (cap_is c rows actions later children own may tree plan steps soundly are_later are_children are_own s tour t k q
                b gap old agrees h is.cap taken kept.most is.is_cap)))
            | inr n ↦ subst (IsCap N tree plan gap q) (sym (get_or-set_other old.caps.items k j is.cap 0 n))
                (h.caps_are j q a (elim (one_more_cases steps t (Enter k) (Enter j) taken d)
                [ inl b ↦ b | inr e ↦ absurd (n (let f : j ≡ k = cc in f)) ]))
          ]);
          greatest = λ j q a d. h.greatest j q a (was_left j d);
          above = λ g r j q a d. h.above g r j q a (was_left j d);
        }

    -- and a step out, where there is a gap
    pub goes_out : (t k x : ℕ) (old new : Pass) → slice_get steps t ≡ Some (Leave k) → IsGapAt children old (may k) (own_at own k) k
        (Some x) → IsLeftAt old new k x
        → IsKept t old → IsKept (t + 1) new
    goes_out t k x old new taken is_gap_at is kept = record {
      most = is.most ∙ kept.most;
      caps = ap length is.caps ∙ kept.caps;
      gaps = ap length is.gaps ∙ length-set old.gaps.items k x ∙ kept.gaps;
      holds = λ gap agrees. holds gap agrees (agreed gap agrees) (kept.holds gap (agreed gap agrees));
    }
      where
        fresh : IsLeft N tree (take t steps) k → ⊥
        fresh d = (
            let (n, e) = place_of (take t steps) (Leave k) d in
            let (l, f) = taken_at steps t n (Leave k) e in
            let same = one_place steps tour.once n t (Leave k) f taken in
            omega arith)

        agreed : (gap : Address → ℕ) → AgreesHere (t + 1) new.gaps.items gap → AgreesHere t old.gaps.items gap
        agreed gap agrees j q a l =
            let n : j ≢ k = λ e. fresh (subst (IsLeft N tree (take t steps)) e l) in
            sym (get_or-set_other old.gaps.items k j x 0 n) ∙ ap (λ gs. get_or gs j 0) (sym is.gaps)
            ∙ agrees j q a (taken_later steps t (t + 1) (Leave j) (omega arith) l)

        here : (gap : Address → ℕ) → AgreesHere (t + 1) new.gaps.items gap → (q : Address) → IsAt N tree k q → gap q ≡ x
        here gap agrees q a =
            let l : k < length old.gaps.items = (let m = kept.gaps in let n = within_rows c rows tree s.rows_are k q a in omega arith) in
            let left = subst (λ zs. Contains zs (Leave k)) (sym (one_more steps t (Leave k) taken))
            (Contains-append_right (take t steps) (Leave k ∷ []) (Leave k) (Contains-here (Leave k) [])) in
            sym (agrees k q a left) ∙ ap (λ gs. get_or gs k 0) is.gaps ∙ get_or-set_same old.gaps.items k x 0 l

        holds : (gap : Address → ℕ) → AgreesHere (t + 1) new.gaps.items gap → AgreesHere t old.gaps.items gap
            → HoldsHere t old.caps.items gap
            → HoldsHere (t + 1) new.caps.items gap
        holds gap now agrees h = record {
          caps_are = λ j q a d. subst (λ cs. IsCap N tree plan gap q (get_or cs j 0)) (sym is.caps)
              (h.caps_are j q a (elim (one_more_cases steps t (Leave k) (Enter j) taken d) [ inl b ↦ b | inr e ↦ absurd cc ]));
          greatest = λ j q a d. greatest_at j q a (one_more_cases steps t (Leave k) (Leave j) taken d);
          above = λ g r j q a d. elim (one_more_cases steps t (Leave k) (Leave j) taken d) [
            | inl b ↦ h.above g r j q a b
            | inr e ↦ (
                let same : k ≡ j = cc in
                let b = subst (λ z. IsAt N tree z q) (sym same) a in
                (greatest_at j q a (inr e)).greatest (g q) (number_is c rows actions later children own may tree plan steps soundly
                are_later are_children are_own s tour t k q b gap old agrees h taken g r))
          ];
        }
          where
            greatest_at : (j : ℕ) (q : Address) → IsAt N tree j q → IsLeft N tree (take t steps) j ⊎ (Leave k ≡ Leave j)
                → IsGreatestAt N tree plan Allowed gap q
            greatest_at j q a (inl b) = h.greatest j q a b
            greatest_at j q a (inr e) =
                let same : k ≡ j = cc in
                let b = subst (λ z. IsAt N tree z q) (sym same) a in
                is_gap c rows actions later children own may tree plan steps soundly are_later are_children are_own s tour t k q b gap old
                agrees h taken x (here gap now q b) is_gap_at

    -- where there is none, there is no gap function
    pub none_fits : (t k : ℕ) (old : Pass) → slice_get steps t ≡ Some (Leave k) → IsGapAt children old (may k) (own_at own k) k None
        → IsKept t old
        → (g : Address → ℕ) → IsGapFunction N tree plan Allowed g → ⊥
    none_fits t k old taken none kept g r =
        let (p, at_k) = (tour.each t (Leave k) taken).node in
        let gap = gap_of (preorder N tree) old.gaps.items in
        let agrees : AgreesHere t old.gaps.items gap = λ j q a l. gap_at (preorder N tree) (tables_tell_trees N tree).once
        old.gaps.items j q a in
        let h = kept.holds gap agrees in
        no_gap c rows actions later children own may tree plan steps soundly are_later are_children are_own s tour t k p at_k gap old
        agrees h taken none (g p) (number_is c rows actions later children own may tree plan steps soundly are_later are_children
        are_own s tour t k p at_k gap old agrees h taken g r)

    -- at the end all gaps are those of the latest gap function
    pub all_latest : (t : ℕ) (pass : Pass) → length steps ≤ t → IsKept t pass
        → (gap : Address → ℕ) × ((k : ℕ) (p : Address) → IsAt N tree k p → slice_get pass.gaps.items k ≡ Some (gap p))
        × IsLatest N tree plan Allowed gap
    all_latest t pass l kept =
        let gap = gap_of (preorder N tree) pass.gaps.items in
        let agrees : (k : ℕ) (p : Address) → IsAt N tree k p → get_or pass.gaps.items k 0 ≡ gap p = λ k p a. gap_at (preorder N tree)
        (tables_tell_trees N tree).once pass.gaps.items k p a in
        let h = kept.holds gap (λ k p a d. agrees k p a) in (
          gap,
          λ k p a. slice_get-get_or pass.gaps.items k 0 (let m = kept.gaps in let n = within_rows c rows tree s.rows_are k p a in omega
              arith) ∙ ap Some (agrees k p a),
          one_pass N Allowed (order_decided c soundly) tree plan gap s.is_plan (λ p a. (
              let (k, at_k) = place_of_node N tree p a in
              h.greatest k p at_k (subst (λ zs. Contains zs (Leave k)) (sym (take_all t steps l)) (tour.whole k p at_k)))),
        )

    -- at the start
    pub starts : (pass : Pass) → pass.most ≡ length plan → length pass.caps.items ≡ length rows → length pass.gaps.items ≡ length rows
        → IsKept 0 pass
    starts pass most caps gaps = record {
      most = most;
      caps = caps;
      gaps = gaps;
      holds = λ gap agrees. record {
        caps_are = λ k p a d. absurd (not-in_empty (Enter k) d);
        greatest = λ k p a d. absurd (not-in_empty (Leave k) d);
        above = λ g r k p a d. absurd (not-in_empty (Leave k) d);
      };
    }
