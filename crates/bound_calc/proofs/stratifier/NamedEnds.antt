-- The tasks that edges go from and to.
use Rattle.std.proofs.Common.{ℕ, ◌≡◌, ◌+◌, ◌<◌, inl, inr, List, [], ◌∷◌, ◌++◌, length, map, get_or, Some, slice_get, refl, sym, subst, ap, ◌∙◌, arith}
use Rattle.std.proofs.lemmas.List.{length_push}
use Rattle.std.proofs.lemmas.Option.{same_Some, slice_get_within, slice_get-get_or, get_or_from_slice_get}
use Rattle.std.proofs.lemmas.List.Elements.{Contains-get_or}
use Rattle.plan_model.specs.declared.networks.Head.{Head}
use Rattle.plan_model.specs.declared.networks.Head.TheVariants.{Task, Action, Check}
use Rattle.plan_model.specs.declared.networks.Child.{Child}
use Rattle.plan_model.specs.declared.schemas.MethodPlan.{MethodPlan}
use Rattle.plan_model.specs.declared.values.Compiled.{Compiled}
use Rattle.plan_model.specs.plan_meaning.Network.{top_task}
use Rattle.plan_model.specs.plan_meaning.Schemas.{task, schema_of}
use Rattle.plan_model.specs.plan_meaning.Strata.{IsEdge, AreEdges, source, target, target_by}
use Rattle.plan_model.proofs.plan_meaning.BoundParts.{there_at}
use Rattle.plan_model.proofs.plan_meaning.MethodParts.{head_schema_by, schemas_by}
use Rattle.bound_calc.specs.declared.stratifier.edge.Edge as Declared
use Rattle.bound_calc.specs.declared.stratifier.named.Ends.{Ends}
use Rattle.bound_calc.specs.stratifier.Conditions.{IsSmallCompiled, IsNumbered}
use Rattle.bound_calc.specs.stratifier.Listed.{edge_of}
use Rattle.bound_calc.specs.stratifier.NamedSearch.{IsEndsOf, HasEnds, AreEnds}
use Rattle.bound_calc.proofs.stratifier.Lasts.{push_get, in_map}
use Rattle.bound_calc.proofs.stratifier.NamedWalk.{at_place, mapped_at, slice_get-mapped}

module _ (c : Compiled) (edges : List Declared.Edge) where
  is_task : (m t : ℕ) (h : Head) → schema_of m h ≡ task t → h ≡ Task t
  is_task m t (Task u) e = let f : u ≡ t = cc in ap Task f
  is_task m t (Action a) e = absurd cc
  is_task m t Check e = absurd cc

  pub has_ends : AreEdges c (map edge_of edges) → (methods : List MethodPlan) → methods ≡ c.methods → (k : ℕ) (d : Declared.Edge) → k < length edges → HasEnds methods (get_or edges k d)
  has_ends are methods same k d l = subst (λ ms. HasEnds ms (get_or edges k d)) (sym same) (own (get_or edges k d) ((are.all (edge_of (get_or edges k d))).0 (in_map edges (get_or edges k d) (Contains-get_or edges k d l))))
    where
      own : (e : Declared.Edge) → IsEdge c (edge_of e) → HasEnds c.methods e
      own e h =
          let (plan, is) = h.ground in
          let (child, at, head) = mapped_at (λ (child : Child). schema_of e.method child.head) plan.schema.children e.child (task h.subtask) (subst (λ o. slice_get (schemas_by e.method o) e.child ≡ Some (task h.subtask)) is h.is) in
          (record { from = plan.schema.task; to = h.subtask }, record { plan = plan; child = child; is = is; at = at; from = refl; to = is_task e.method h.subtask child.head head })

  source_is : (e : Declared.Edge) (n : Ends) → IsEndsOf c.methods e n → source c (edge_of e) ≡ task n.from
  source_is e n h = ap head_schema_by h.is ∙ ap task h.from

  target_is : (e : Declared.Edge) (n : Ends) → IsEndsOf c.methods e n → target c (edge_of e) ≡ task n.to
  target_is e n h =
      ap (λ o. target_by c (slice_get (schemas_by e.method o) e.child)) h.is
      ∙ (ap (target_by c) (slice_get-mapped (λ (child : Child). schema_of e.method child.head) h.plan.schema.children e.child h.child h.at) ∙ ap (schema_of e.method) h.to)

  ends_below : IsSmallCompiled c → (e : Declared.Edge) (n : Ends) → IsEndsOf c.methods e n → (n.from < top_task c + 1) × (n.to < top_task c + 1)
  ends_below small e n h =
      let numbered = subst (IsNumbered (top_task c)) (get_or_from_slice_get c.methods e.method h.plan h.plan h.is) (small.numbered e.method h.plan (slice_get_within c.methods e.method h.plan h.is)) in
      let a = numbered.task in
      let b = numbered.subtasks n.to (h.child, at_place h.plan.schema.children e.child h.child h.at, h.to) in
      let f = h.from in
      (omega arith, omega arith)

  -- the ends of the first k edges
  pub record AreEndsUpTo (k : ℕ) (ends : List Ends) : Type 0 where
    pub room : length ends ≡ k
    pub each : (j : ℕ) (e : Declared.Edge) (n : Ends) → slice_get edges j ≡ Some e → slice_get ends j ≡ Some n → IsEndsOf c.methods e n

  pub ends_more : (k : ℕ) (ends new : List Ends) (e : Declared.Edge) (n : Ends) (methods : List MethodPlan) → methods ≡ c.methods → slice_get edges k ≡ Some e → IsEndsOf methods e n → AreEndsUpTo k ends → new ≡ ends ++ n ∷ [] → AreEndsUpTo (k + 1) new
  ends_more k ends new e n methods same is made h f = record {
    room = ap length f ∙ (length_push ends n ∙ ap (λ z. z + 1) h.room);
    each = λ j d m p q. elim (push_get ends n m j (ap (λ s. slice_get s j) (sym f) ∙ q)) [
      | inl g ↦ h.each j d m p g
      | inr g ↦ subst (IsEndsOf c.methods d) (sym g.1) (subst (λ z. IsEndsOf c.methods z n) (same_Some e d (sym is ∙ (ap (slice_get edges) (sym (g.0 ∙ h.room)) ∙ p))) (subst (λ ms. IsEndsOf ms e n) same made))
    ];
  }

  pub ends_all : IsSmallCompiled c → (k : ℕ) (ends : List Ends) → k ≡ length edges → AreEndsUpTo k ends → AreEnds c edges ends
  ends_all small k ends all h = record {
    room = h.room ∙ all;
    from = λ j e n f g. source_is e n (h.each j e n f g);
    to = λ j e n f g. target_is e n (h.each j e n f g);
    below = λ j d l. (let (e, f) = there_at edges j (let r = h.room in omega arith) in ends_below small e (get_or ends j d) (h.each j e (get_or ends j d) f (slice_get-get_or ends j d l)));
  }
