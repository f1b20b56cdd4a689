-- A placed plan has one width, and its steps are the same, whatever number of slots they are spelled with.
use Rattle.std.proofs.Common.{ℕ, ◌≡◌, ◌∙◌, List, map, ap, sym, subst, arith}
use Rattle.plan_model.specs.declared.options.Checks.{Checks}
use Rattle.plan_model.specs.declared.steps.GroundAction.{GroundAction}
use Rattle.plan_model.specs.declared.values.Hddl.{Hddl}
use Rattle.plan_model.specs.declared.values.Compiled.{Compiled}
use Rattle.plan_model.specs.task_networks.Lawful.{IsLawful}
use Rattle.plan_model.specs.task_networks.Net.{Net}
use Rattle.plan_model.specs.task_networks.Tree.{Tree, Address}
use Rattle.plan_model.specs.task_networks.Pending.{IsWidth}
use Rattle.plan_model.specs.task_networks.Spelling.{Act}
use Rattle.plan_model.specs.plan_meaning.Network.{network}
use Rattle.plan_model.specs.plan_meaning.Solution.{top_work}
use Rattle.plan_model.specs.plan_meaning.SpelledPlan.{step_of}
use Rattle.plan_model.proofs.plan_meaning.CompiledNetworks.{prepared}
use Rattle.plan_model.proofs.task_networks.ScheduleLaws.{prepared_is_lawful}
use Rattle.hplan_text.specs.declared.values.HPlan.{HPlan}
use Rattle.schedules.specs.ruled.FirstFreeLaws.{SpellsLowest}
use Rattle.schedules.proofs.ruled.FirstFree.{one_lowest_list}
use Rattle.plan_encoder.specs.Laws.{IsOf}
use Rattle.placements.specs.Placement.{IsPlaced}
use Rattle.step_texts.specs.StepTexts.{HasWidth, IsSpelled}
use Rattle.step_texts.proofs.Texts.{with_width}
use Rattle.encode_answers.specs.EncodeLaws.{EachIsSpelledOnce}
use Rattle.encode_answers.proofs.OncePlaced.{placed_once}

-- an order has one width
width_once : (N : Net) (tree : Tree N) (order : List Address) (w v : ℕ) → IsWidth N w tree order → IsWidth N v tree order → w ≡ v
width_once N tree order w v a b =
    let x = a.within b.taken b.rest b.nodes b.parts b.pending in
    let y = b.within a.taken a.rest a.nodes a.parts a.pending in
    let i = a.many in
    let j = b.many in
    omega arith

module _ (h : Hddl) (mode : Checks) (c : Compiled) (of : IsOf h mode c) (plan : HPlan) where
  abbrev N : Net
  N = network c

  law : IsLawful N
  law = prepared_is_lawful N (prepared h mode c of.ordered of.compiled)

  module _ (tree other : Tree N) (order following : List Address)
      (x : IsPlaced c plan tree order) (y : IsPlaced c plan other following) where
    same_placement : (tree ≡ other) × (order ≡ following)
    same_placement = placed_once h mode c of plan tree other order following x y

    same_width : (w v : ℕ) → IsWidth N w tree order → IsWidth N v other following → w ≡ v
    same_width w v a b =
        let (f, g) = same_placement in
        width_once N tree order w v a (subst (λ z. IsWidth N v tree z) (sym g) (subst (λ z. IsWidth N v z following) (sym f) b))

    -- as many slots as the order is wide are enough for both lists
    same_acts : (w slots more : ℕ) (acts others : List (Act N)) (slot second : Address → ℕ) → IsWidth N w tree order
        → SpellsLowest N slots (top_work c) acts tree order slot → SpellsLowest N more (top_work c) others other following second
        → acts ≡ others
    same_acts w slots more acts others slot second wide a b =
        let (f, g) = same_placement in
        let here = subst (λ z. SpellsLowest N more (top_work c) others tree z second) (sym g)
        (subst (λ z. SpellsLowest N more (top_work c) others z following second) (sym f) b) in
        (one_lowest_list N law w (top_work c) tree order acts others slot second
        (with_width N law slots w (top_work c) acts tree order slot a wide)
        (with_width N law more w (top_work c) others tree order second here wide)).0

  pub one_width : (w v : ℕ) → HasWidth c plan w → HasWidth c plan v → w ≡ v
  one_width w v x y = same_width x.tree y.tree x.order y.order x.placed y.placed w v x.width_is y.width_is

  pub its_width : (slots width : ℕ) (steps : List GroundAction) → IsSpelled c plan slots width steps → HasWidth c plan width
  its_width slots width steps x = record { tree = x.tree; order = x.order; placed = x.placed; width_is = x.width_is }

  pub one_list : (slots more w v : ℕ) (steps others : List GroundAction) → IsSpelled c plan slots w steps → IsSpelled c plan more v others
      → (w ≡ v) × (steps ≡ others)
  one_list slots more w v steps others x y = (
    one_width w v (its_width slots w steps x) (its_width more v others y),
    x.steps_are
        ∙ ap (map (step_of c))
        (same_acts x.tree y.tree x.order y.order x.placed y.placed w slots more x.acts y.acts x.slot y.slot x.width_is x.lowest y.lowest)
        ∙ sym y.steps_are,
  )

pub each_is_spelled_once : EachIsSpelledOnce
each_is_spelled_once h mode c of plan slots more w v steps others x y = one_list h mode c of plan slots more w v steps others x y
