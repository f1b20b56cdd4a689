-- What the lines of a plan say, by their ids and by their places.
use Rattle.std.proofs.Common.{ℕ, ◌≡◌, ◌+◌, inl, inr, List, [], ◌∷◌, map, length, Option, Some, None, slice_get, ap, sym, subst, ◌∙◌, Contains}
use Rattle.std.specs.Option.{option_map}
use Rattle.std.proofs.lemmas.List.{length-map}
use Rattle.plan_texts.specs.Types.{EachIs}
use Rattle.plan_texts.specs.Together.{Together}
use Rattle.plan_texts.specs.SoundlyCompiled.{IsSoundlyCompiled}
use Rattle.plan_texts.proofs.Together.{together-length}
use Rattle.plan_model.specs.declared.values.Compiled.{Compiled}
use Rattle.plan_model.specs.plan_meaning.Network.{Work, action, check, task}
use Rattle.tree_core.proofs.Gets.{get_left, get_right, get_cases, get-map, mapped, place_of, at_place, one_place}
use Rattle.hplan_text.specs.declared.values.HLine.{HLine}
use Rattle.hplan_text.specs.declared.values.HNode.{HNode}
use Rattle.hplan_text.specs.declared.values.HPlan.{HPlan}
use Rattle.hplan_text.specs.Printable.{IsSoundHPlan, line_id, node_id, task_ids}
use Rattle.schedules.specs.latest.PlanLines.{StepLine, SplitLine, PlanLines}
use Rattle.schedules.proofs.latest.Rearranged.{in_map}
use Rattle.plan_encoder.specs.Calls.{Call, Decomposed, call, call_of, step_of, split_of, lines_of, IsKnown}
use Rattle.plan_encoder.specs.Records.{IsLineOf, AreLinesOf}
use Rattle.plan_encoder.proofs.CallsApart.{same_action, same_task}
use Rattle.numbered_lines.specs.declared.lines.Said.{Said}
use Rattle.numbered_lines.specs.declared.lines.Split.{Split}
use Rattle.numbered_lines.specs.declared.lines.Lines.{Lines}
use Rattle.numbered_lines.specs.Numbered.{IsAtPlace, IsSaid, AreSaid, IsSplitOf, AreNumbered}
use Rattle.line_fits.specs.ByNumbers.{step_work, split_work, all_works, IsWorkAt, AreWorksAt}
use Rattle.line_fits.proofs.PairedLists.{from_left, from_right}

module _ (c : Compiled) (sc : IsSoundlyCompiled c) (line : HLine) where
  -- an action or a task that the line says is the one that is found
  pub one_action : (found : Option Said) → AreSaid c action line found → (a : ℕ) (v : List ℕ) → IsSaid c line (action a v)
      → step_work found ≡ Some (action a v)
  one_action None none a v is = absurd (none a v is)
  one_action (Some s) here a v is = ap Some
      (same_action c sc.problem sc.checks sc.sound sc.compiled s.number a s.objects v here.known (here.says ∙ sym is.says))

  pub one_task : (s : Said) → IsSaid c line (task s.number s.objects) → (t : ℕ) (v : List ℕ) → IsSaid c line (task t v)
      → task s.number s.objects ≡ task t v
  one_task s here t v is =
      same_task c sc.problem sc.checks sc.sound sc.compiled s.number t s.objects v here.known (here.says ∙ sym is.says)

module _ (c : Compiled) (sc : IsSoundlyCompiled c) (plan : HPlan) (s : IsSoundHPlan plan) (lines : Lines)
    (num : AreNumbered c plan lines) where
  abbrev P : PlanLines ℕ Call Decomposed
  P = lines_of plan

  abbrev steps : List (Option Work)
  steps = map step_work lines.steps

  abbrev splits : List (Option Work)
  splits = map split_work lines.splits

  abbrev step_ids : List ℕ
  step_ids = map line_id plan.primitives

  abbrev split_ids : List ℕ
  split_ids = map node_id plan.nodes

  -- the works of a primitive line and of a decomposed one, by its place
  step_at : (k : ℕ) (line : HLine) → slice_get plan.primitives k ≡ Some line
      → (found : Option Said) × (slice_get (all_works lines) k ≡ Some (step_work found)) × AreSaid c action line found
  step_at k line e =
      let (found, at, said) = from_left (AreSaid c action) plan.primitives lines.steps num.steps_are k line e in
      (found, get_left steps splits k (step_work found) (get-map step_work lines.steps k found at), said)

  as_many : length plan.primitives ≡ length steps
  as_many = together-length (AreSaid c action) plan.primitives lines.steps num.steps_are ∙ sym (length-map lines.steps step_work)

  split_at : (k : ℕ) (node : HNode) → slice_get plan.nodes k ≡ Some node
      → (split : Split) × (slice_get (all_works lines) (length plan.primitives + k) ≡ Some (split_work split))
      × IsSplitOf c (task_ids plan) node split
  split_at k node e =
      let (split, at, is) = from_left (IsSplitOf c (task_ids plan)) plan.nodes lines.splits num.splits_are k node e in (
        split,
        ap (λ n. slice_get (all_works lines) (n + k)) as_many ∙ get_right steps splits k ∙ get-map split_work lines.splits k split at,
        is,
      )

  -- the ids by the places
  step_id : (k : ℕ) (line : HLine) → slice_get plan.primitives k ≡ Some line → slice_get (task_ids plan) k ≡ Some line.id
  step_id k line e = get_left step_ids split_ids k line.id (get-map line_id plan.primitives k line e)

  split_id : (k : ℕ) (node : HNode) → slice_get plan.nodes k ≡ Some node
      → slice_get (task_ids plan) (length plan.primitives + k) ≡ Some node.line.id
  split_id k node e =
      ap (λ n. slice_get (task_ids plan) (n + k)) (sym (length-map plan.primitives line_id))
      ∙ get_right step_ids split_ids k ∙ get-map node_id plan.nodes k node e

  module _ (place i : ℕ) (at : IsAtPlace (task_ids plan) place i) where
    of_step : (line : HLine) → Contains plan.primitives line → line.id ≡ i → (found : Option Said) → AreSaid c action line found
        → (w : Work) → step_work found ≡ Some w → IsLineOf c P i w
    of_step line on id None said w e = absurd cc
    of_step line on id (Some x) said w e =
        let w_is : action x.number x.objects ≡ w = cc in
        let says = said.says in
        let w_call = call c (action x.number x.objects) in
        let l : step_of line ≡ record { id = i; step = w_call } = λ n. record { id = id n; step = sym says n } in
        subst (IsLineOf c P i) w_is (subst (Contains P.steps) l (in_map step_of plan.primitives line on))

    of_split : (node : HNode) → Contains plan.nodes node → node.line.id ≡ i → (split : Split) → AreSaid c task node.line split.task
        → (w : Work) → split_work split ≡ Some w → IsLineOf c P i w
    of_split node on id split said w e = go split.task said e
      where
        go : (found : Option Said) → AreSaid c task node.line found → split_work (record split { task = found }) ≡ Some w → IsLineOf c P i w
        go None said e = absurd cc
        go (Some x) said e =
            let w_is : task x.number x.objects ≡ w = cc in
            subst (IsLineOf c P i) w_is (split_of node, in_map split_of plan.nodes node on, id, sym said.says)

    -- a work that stands at the place is that of the line with the id
    pub work_line : (w : Work) → IsWorkAt lines place w → IsLineOf c P i w
    work_line w e = elim (get_cases steps splits place (Some w) e) [
      | inl l ↦ (
          let (found, there, is) = mapped step_work lines.steps place (Some w) l.1 in
          let (line, here, said) = from_right (AreSaid c action) plan.primitives lines.steps num.steps_are place found there in
          let id : line.id ≡ i = (let f : Some line.id ≡ Some i = sym (step_id place line here) ∙ at in cc) in
          of_step line (at_place plan.primitives place line here) id found said w is)
      | inr (j, p, l) ↦ (
          let (split, there, is) = mapped split_work lines.splits j (Some w) l in
          let (node, here, sp) = from_right (IsSplitOf c (task_ids plan)) plan.nodes lines.splits num.splits_are j split there in
          let same : length plan.primitives + j ≡ place = ap (λ n. n + j) as_many ∙ sym p in
          let its = ap (slice_get (task_ids plan)) same ∙ at in
          let id : node.line.id ≡ i = (let f : Some node.line.id ≡ Some i = sym (split_id j node here) ∙ its in cc) in
          of_split node (at_place plan.nodes j node here) id split sp.task_is w is)
    ]

    -- and the work that the line with the id says stands there
    pub line_work : (w : Work) → IsKnown c w → IsLineOf c P i w → IsWorkAt lines place w
    line_work (check m v) known l = absurd l
    line_work (action a v) known l =
        let (k, on) = place_of P.steps (record { id = i; step = call c (action a v) }) l in
        let (line, here, same) = mapped step_of plan.primitives k (record { id = i; step = call c (action a v) }) on in
        let id : line.id ≡ i = ap (λ (z : StepLine ℕ Call). z.id) same in
        let says : call_of line ≡ call c (action a v) = ap (λ (z : StepLine ℕ Call). z.step) same in
        let (found, there, said) = step_at k line here in
        let p : place ≡ k = one_place (task_ids plan) s.own place k i at (step_id k line here ∙ ap Some id) in
        let own : IsSaid c line (action a v) = record { known = known; says = sym says } in
        ap (slice_get (all_works lines)) p ∙ there ∙ ap Some (one_action c sc line found said a v own)
    line_work (task t v) known (l, m, id, says) =
        let (k, on) = place_of P.splits l m in
        let (node, here, same) = mapped split_of plan.nodes k l on in
        let own : node.line.id ≡ i = ap (λ (z : SplitLine ℕ Decomposed). z.id) same ∙ id in
        let said : call_of node.line ≡ call c (task t v) = ap (λ (z : SplitLine ℕ Decomposed). z.split.task) same ∙ says in
        let (split, there, is) = split_at k node here in
        let its = split_id k node here ∙ ap Some own in
        let p : place ≡ length plan.primitives + k = one_place (task_ids plan) s.own place (length plan.primitives + k) i at its in
        ap (slice_get (all_works lines)) p ∙ there
        ∙ ap Some (go node.line split.task is.task_is (record { known = known; says = sym said }))
      where
        go : (line : HLine) (found : Option Said) → AreSaid c task line found → IsSaid c line (task t v)
            → option_map (λ (s : Said). task s.number s.objects) found ≡ Some (task t v)
        go line None none is = absurd (none t v is)
        go line (Some x) here is = ap Some (one_task c sc line x here t v is)

  -- the same of many
  pub works_lines : (places ids : List ℕ) (works : List Work) → Together (IsAtPlace (task_ids plan)) places ids
      → AreWorksAt lines places works → AreLinesOf c P ids works
  works_lines [] [] [] t a = tt
  works_lines [] [] (w ∷ ws) t a = absurd a
  works_lines [] (i ∷ is) ws t a = absurd t
  works_lines (p ∷ ps) [] ws t a = absurd t
  works_lines (p ∷ ps) (i ∷ is) [] t a = absurd a
  works_lines (p ∷ ps) (i ∷ is) (w ∷ ws) t a = (work_line p i t.0 w a.0, works_lines ps is ws t.1 a.1)

  pub lines_works : (places ids : List ℕ) (works : List Work) → Together (IsAtPlace (task_ids plan)) places ids → EachIs (IsKnown c) works
      → AreLinesOf c P ids works → AreWorksAt lines places works
  lines_works [] [] [] t k a = tt
  lines_works [] [] (w ∷ ws) t k a = absurd a
  lines_works [] (i ∷ is) ws t k a = absurd t
  lines_works (p ∷ ps) [] ws t k a = absurd t
  lines_works (p ∷ ps) (i ∷ is) [] t k a = absurd a
  lines_works (p ∷ ps) (i ∷ is) (w ∷ ws) t k a = (line_work p i t.0 w k.0 a.0, lines_works ps is ws t.1 k.1 a.1)
