-- A front that can grow by an act may take it, and has then grown by it.
use Rattle.std.proofs.Common.{ℕ, ◌≡◌, ◌+◌, ◌<◌, ◌^◌, List, [], ◌∷◌, ◌++◌, length, map, refl, ap, sym, ◌∙◌, arith}
use Rattle.std.specs.Prelude.{Result, Ok, Err, OnOk}
use Rattle.std.proofs.lemmas.List.{map-append, length-append}
use Rattle.htn_base.specs.Limits.{most_steps}
use Rattle.plan_model.specs.declared.values.Compiled.{Compiled}
use Rattle.plan_model.specs.task_networks.Spelling.{Act}
use Rattle.plan_model.specs.plan_meaning.Network.{network}
use Rattle.problem_index.specs.declared.printed_index.PrintedName.{PrintedName}
use Rattle.problem_index.specs.declared.printed_index.PrintedName.TheVariants.{Action, Check, Method}
use Rattle.tree_core.specs.declared.growth.Growth.{Growth}
use Rattle.tree_core.specs.declared.label.Label.{Label}
use Rattle.tree_core.specs.Labels.{growth_of, growths_of, labelled_node, labelled_growth}
use Rattle.decoding.specs.FailingAct.{slot_in, new_in}
use Rattle.kept_front.specs.declared.front.Front.{Front}
use Rattle.kept_front.specs.Fronts.{growth_in, IsFrontOf, HasGrown, StaysSized, MayTakeAt, MayTakeSome}
use Rattle.kept_front.proofs.SoundPairs.{no_more_than}
use Rattle.kept_front.proofs.Told.{may_take, may_take_some}
use Rattle.step_reader.specs.Readings.{act_of}
use Rattle.tree_decoder.specs.Decoding.{AreLabelled}
use Rattle.tree_decoder.specs.Acts.{IsLabelWith}
use Rattle.tree_decoder.specs.Taking.{CanGrow, CanGrowSome, IsGrownBy}
use Rattle.tree_decoder.proofs.Steps.{label_same}

pub slot_same : (c : Compiled) (name : PrintedName) (slot : ℕ) (new objects : List ℕ) → slot_in (network c) (act_of c name slot new objects) ≡ slot
slot_same c (Action a) slot new objects = refl
slot_same c (Check m) slot new objects = refl
slot_same c (Method m) slot new objects = refl

module _ (c : Compiled) (name : PrintedName) (slot : ℕ) (new objects : List ℕ) (front : Front)
    (is_new : new_in (network c) (act_of c name slot new objects) ≡ new) where
  abbrev a : Act (network c)
  a = act_of c name slot new objects

  -- new slots are different ones of few
  pub few_new : CanGrowSome c a front → length new + 1 < 2 ^ 32
  few_new (b, acts, can) =
      let few = no_more_than (b + 1) (new_in (network c) a) can.may.different
      (λ x k. (let l = (can.may.formed.new x k).1 in omega arith)) in
      let same = ap length is_new in
      let most = can.few in
      omega arith

  module _ (label : Label) (is : IsLabelWith c name objects label) where
    may_at : (b : ℕ) (acts : List (Act (network c))) → CanGrow c a b front acts → MayTakeAt c b front acts a slot new label
    may_at b acts can =
        may_take c b front acts a can.leaf slot new label can.keeps can.sized can.may (slot_same c name slot new objects) is_new
        (sym (is.in_network ∙ label_same c name slot new objects))

    pub may_some : CanGrowSome c a front → MayTakeSome c front slot new label
    may_some (b, acts, can) = may_take_some c b front acts a slot new label (may_at b acts can)

    module _ (grown : Front) (g : HasGrown label front grown) where
      labelled : AreLabelled c front → AreLabelled c grown
      labelled h =
          let (parent, child, e) = g in
          let last : Growth = record { parent = parent; child = child; label = label } in
          let says = is.labelled ∙ ap (labelled_node c) (sym is.in_network) in
          let same : growth_of last ≡ labelled_growth c (growth_in c last) = λ i. record { parent = parent; child = child; label = says i } in
          ap growths_of e ∙ map-append growth_of front.growths (last ∷ []) ∙ (λ i. h i ++ same i ∷ [])
          ∙ sym (ap (map (labelled_growth c)) (map-append (growth_in c) front.growths (last ∷ []))
          ∙ map-append (labelled_growth c) (map (growth_in c) front.growths) (growth_in c last ∷ []))
          ∙ sym (ap (λ gs. map (labelled_growth c) (map (growth_in c) gs)) e)

      pub is_grown : length front.growths < most_steps → StaysSized front grown
          → ((b : ℕ) (acts : List (Act (network c))) (d : Act (network c)) → MayTakeAt c b front acts d slot new label
          → IsFrontOf c b grown (acts ++ d ∷ []))
          → IsGrownBy c a front grown
      is_grown short sized taken = record {
        front = λ b acts can. taken b acts a (may_at b acts can);
        sized = sized;
        short = (let e = ap length g.2 ∙ length-append front.growths _ in omega arith);
        labelled = labelled;
      }

-- three facts of an `Ok` give another
pub on_ok_three : {T E A B C D : Type 0} (r : Result T E) → (A → B → C → D) → OnOk r A → OnOk r B → OnOk r C → OnOk r D
on_ok_three (Ok x) f a b c = f a b c
on_ok_three (Err e) f a b c = tt
