-- What is reached as a problem without parameters: its strata and its bound may be computed, and tell those of what is reached.
use Rattle.std.proofs.Common.{ℕ, ◌≡◌, ◌+◌, ◌<◌, ◌≤◌, List, [], ◌∷◌, map, length, get_or, Some, slice_get, ap, sym, subst, arith}
use Rattle.std.proofs.lemmas.Slice.Zip.{AllZip-long}
use Rattle.std.proofs.lemmas.Option.{slice_get-get_or, slice_get_within, get_or_from_slice_get}
use Rattle.htn_base.specs.Packed.{Row}
use Rattle.plan_model.specs.declared.networks.Pair.{Pair}
use Rattle.plan_model.specs.declared.schemas.MethodPlan.{MethodPlan}
use Rattle.plan_model.specs.declared.values.Compiled.{Compiled}
use Rattle.plan_model.specs.Pairs.{Pairs}
use Rattle.plan_model.specs.net_order.Meaning.{AreBelow}
use Rattle.plan_model.specs.task_networks.Order.{IsAcyclic, IsLine}
use Rattle.plan_model.specs.plan_meaning.Network.{child_of, top_task}
use Rattle.plan_model.proofs.plan_meaning.BoundParts.{there_at}
use Rattle.plan_texts.specs.SoundlyCompiled.{IsSoundlyCompiled}
use Rattle.bound_calc.specs.declared.stratifier.edge.Edge as Declared
use Rattle.bound_calc.specs.stratifier.Listed as Listed
use Rattle.bound_calc.specs.stratifier.NamedCycle.{IsNamed}
use Rattle.bound_calc.specs.stratifier.Conditions.{IsNumbered, IsSmallMethod, IsSmallCompiled, IsOrdered, HaveNoCycle}
use Rattle.bound_calc.specs.Lines.{HasLine, HaveLines}
use Rattle.bound_calc.proofs.Ready as Ready
use Rattle.ground_bound.specs.GroundBound.{IsGroundBound, IsGroundCycle}
use Rattle.reached_parts.specs.HowMany.{most_reached}
use Rattle.ground_bound.specs.NoGroundBound.{edge_of, IsTheCycle, HasNoGroundBound, of_search}
use Rattle.reached_parts.specs.ReachedOf.{IsGivenUp}
use Rattle.reached_parts.specs.declared.reach_error.ReachError.{ReachError}
use Rattle.reached_parts.specs.declared.reach_error.ReachError.TheVariants as search
use Rattle.reached_parts.specs.Search.{method_of}
use Rattle.ground_bound.specs.Grounded.{ground_edge, StandsFor, StandsForChild, IsGroundedMethod, IsGroundedRow}
use Rattle.ground_bound.specs.Bounding.{AreNamed, IsProblemOf, HasBound, HasNone}
use Rattle.ground_bound.specs.MethodRows.{row}
use Rattle.ground_bound.specs.declared.in_order.MethodRow.{MethodRow}
use Rattle.ground_bound.specs.declared.ground_error.GroundEdge.{GroundEdge}
use Rattle.ground_bound.specs.declared.ground_error.GroundError.{GroundError}
use Rattle.ground_bound.specs.declared.ground_error.GroundError.TheVariants.{TooMany, Cycle, Past128, Memory}
use Rattle.ground_bound.proofs.GroundedNetwork.{grounded_bound, grounded_cycle}
use Rattle.ground_bound.proofs.Places.{zip_at}
use Rattle.ground_bound.proofs.ReachedRows.{rows_few}
use Rattle.reached_parts.proofs.Searching.{place}

-- what is true of each method, at its place
each_of : {A : Type 0} (P : A → Type 0) (xs : List A) (k : ℕ) (x : A) → ((k : ℕ) (d : A) → k < length xs → P (get_or xs k d)) → slice_get xs k ≡ Some x → P x
each_of P xs k x all e = subst P (get_or_from_slice_get xs k x x e) (all k x (slice_get_within xs k x e))

module _ (c : Compiled) (soundly : IsSoundlyCompiled c) (p : Compiled) (methods : List MethodRow) (made : IsProblemOf c p methods) where
  abbrev rows : List Row
  rows = map row methods

  record At (k : ℕ) (it : MethodPlan) : Type 0 where
    place_row : Row
    plan : MethodPlan
    is : slice_get c.methods place_row.head ≡ Some plan
    grounded : IsGroundedMethod made.tasks (method_of place_row) plan it

  at : (k : ℕ) (d : MethodPlan) → k < length p.methods → At k (get_or p.methods k d)
  at k d l =
      let e = slice_get-get_or p.methods k d l in
      let (r, f) = there_at rows k (let q = AllZip-long (IsGroundedRow c made.tasks) rows p.methods made.grounded.plans in omega arith) in
      let (plan, h, g) = zip_at (IsGroundedRow c made.tasks) rows p.methods made.grounded.plans k r (get_or p.methods k d) f e in
      record { place_row = r; plan = plan; is = h; grounded = g }

  -- a method has as many children, the pairs and the line of its plan
  same_shape : (Q : ℕ → List Pair → List ℕ → Type 0) (k : ℕ) (it : MethodPlan) (x : At k it) → Q (length x.plan.schema.children) x.plan.schema.pairs x.plan.line
      → Q (length it.schema.children) it.schema.pairs it.line
  same_shape Q k it x q =
      let n = AllZip-long (StandsForChild made.tasks (method_of x.place_row)) x.plan.schema.children it.schema.children x.grounded.children in
      subst (λ m. Q m it.schema.pairs it.line) (sym n)
      (subst (λ ps. Q (length x.plan.schema.children) ps it.line) (sym x.grounded.pairs)
      (subst (λ l. Q (length x.plan.schema.children) x.plan.schema.pairs l) (sym x.grounded.line) q))

  small_plan : (k : ℕ) (it : MethodPlan) (x : At k it) → IsSmallMethod x.plan
  small_plan k it x = each_of IsSmallMethod c.methods x.place_row.head x.plan (Ready.small c soundly).networks x.is

  ordered_plan : (k : ℕ) (it : MethodPlan) (x : At k it) → IsOrdered x.plan
  ordered_plan k it x = each_of IsOrdered c.methods x.place_row.head x.plan (Ready.ordered c soundly) x.is

  line_of_plan : (k : ℕ) (it : MethodPlan) (x : At k it) → HasLine x.plan
  line_of_plan k it x = each_of HasLine c.methods x.place_row.head x.plan (Ready.lines c soundly) x.is

  numbered : (k : ℕ) (it : MethodPlan) → At k it → IsNumbered (top_task p) it
  numbered k it x = record {
    task = let l = x.grounded.task.0 in let t = made.grounded.count in omega arith;
    subtasks = λ t s.
        let (kid, d, h) = s in
        let (i, e) = place it.schema.children kid d in
        let n = AllZip-long (StandsForChild made.tasks (method_of x.place_row)) x.plan.schema.children it.schema.children x.grounded.children in
        let (child, f) = there_at x.plan.schema.children i (let l = slice_get_within it.schema.children i kid e in omega arith) in
        let stands = zip_at (StandsForChild made.tasks (method_of x.place_row)) x.plan.schema.children it.schema.children x.grounded.children i child kid f e in
        let l = (subst (λ head. StandsFor made.tasks head (child_of (method_of x.place_row) child)) h stands).0 in
        let t = made.grounded.count in
        omega arith;
  }

  pub small : IsSmallCompiled p
  small = record {
    tasks = let f = few in let t = made.grounded.count in omega arith;
    methods =
        let f = few in
        let q = AllZip-long (IsGroundedRow c made.tasks) rows p.methods made.grounded.plans in
        let o = made.order.count in
        omega arith;
    numbered = λ k d l. numbered k (get_or p.methods k d) (at k d l);
    networks = λ k d l.
        let x = at k d l in
        let s = small_plan k (get_or p.methods k d) x in
        let n = AllZip-long (StandsForChild made.tasks (method_of x.place_row)) x.plan.schema.children (get_or p.methods k d).schema.children x.grounded.children in
        let e = ap length x.grounded.pairs in
        record { children = let a = s.children in omega arith; pairs = let a = s.pairs in omega arith };
  }
    where
      few : length made.tasks + length made.rows ≤ most_reached
      few = rows_few c soundly made.tasks made.actions made.rows made.the most_reached made.most

  pub ordered : HaveNoCycle p
  ordered k d l =
      let x = at k d l in
      let o = ordered_plan k (get_or p.methods k d) x in
      record {
        pairs = same_shape (λ m ps line. AreBelow m ps) k (get_or p.methods k d) x o.pairs;
        acyclic = same_shape (λ m ps line. IsAcyclic (Pairs ps)) k (get_or p.methods k d) x o.acyclic;
      }

  pub lines : HaveLines p
  lines k d l = (let x = at k d l in same_shape (λ m ps line. IsLine (Pairs ps) m line) k (get_or p.methods k d) x (line_of_plan k (get_or p.methods k d) x))

  pub bound : (n : ℕ) → HasBound p n → IsGroundBound c n
  bound n h = grounded_bound c soundly made.tasks made.actions made.rows rows p made.the made.first made.order made.grounded n h.0 h.1

  cycle : (edges : List Declared.Edge) (named : List GroundEdge) → IsNamed p (map Listed.edge_of edges) → AreNamed methods edges named → IsTheCycle c named
  cycle [] named is n = absurd is
  cycle (e ∷ edges) [] is n = absurd cc
  cycle (e ∷ edges) (g ∷ named) is n =
      let first : edge_of g ≡ ground_edge rows (Listed.edge_of e) = cc in
      let rest : map edge_of named ≡ map (ground_edge rows) (map Listed.edge_of edges) = cc in
      let named_cycle = grounded_cycle c soundly made.tasks made.actions made.rows rows p made.the made.first made.order made.grounded (Listed.edge_of e) (map Listed.edge_of edges) is in
      subst (λ z. IsGroundCycle c z (map edge_of named)) (sym first) (subst (IsGroundCycle c (ground_edge rows (Listed.edge_of e))) (sym rest) named_cycle)

  pub refused : (error : GroundError) → HasNone p methods error → HasNoGroundBound c error
  refused TooMany h = absurd h
  refused (Cycle named) (edges, is, n) = (made.most, cycle edges named is n)
  refused Past128 (n, h, l) = (made.most, n, bound n h, l)
  refused Memory h = tt

-- a search that is given up is refused for its cause
pub given_up : (c : Compiled) (error : ReachError) → IsGivenUp c error → HasNoGroundBound c (of_search error)
given_up c search.TooMany h = h
given_up c search.Memory h = tt
