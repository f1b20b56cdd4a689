-- Tasks and actions, which stand at places of their own.
use Rattle.std.proofs.Common.{◌≡◌, ℕ, suc, ◌≤◌, List, [], ◌∷◌, ◌++◌, map, subst, arith}
use Rattle.htn_base.specs.Different.{AreDifferent}
use Rattle.plan_texts.specs.Types.{EachIs}
use Rattle.plan_texts.proofs.Members.{each-lacks}
use Rattle.plan_texts.proofs.Places.{each-join}
use Rattle.plan_texts.proofs.Spelled.{each_is-map}
use Rattle.hddl_reader.specs.declared.sections.RawAction.{RawAction}
use Rattle.hddl_reader.specs.declared.sections.RawHead.{RawHead}
use Rattle.hddl_reader.specs.declared.sections.RawMethod.{RawMethod}
use Rattle.text_values.specs.form_spellings.Rising.{head_offsets, callables}
use Rattle.text_values.proofs.form_spellings.order.Climbs.{Climbs, climbs_fit, climbs_differ, lacks_before, lacks_behind}

abbrev pub head_place : RawHead → ℕ
head_place h = h.name.at

abbrev pub action_head : RawAction → RawHead
action_head a = a.head

abbrev pub action_place : RawAction → ℕ
action_place a = a.head.name.at

abbrev pub method_place : RawMethod → ℕ
method_place m = m.head.name.at

-- no action stands there
abbrev pub Lacks : List RawAction → ℕ → Type 0
Lacks acts n = EachIs (λ (a : RawAction). n ≡ action_place a → ⊥) acts

abbrev pub Apart : List RawHead → List RawAction → Type 0
Apart ts acts = EachIs (λ (h : RawHead). Lacks acts (head_place h)) ts

pub one_task : (ts : List RawHead) (acts : List RawAction) (h : RawHead) (from to : ℕ) → Climbs action_place from acts to → to ≤ head_place h → Apart ts acts → Apart (ts ++ h ∷ []) acts
one_task ts acts h from to c l d = each-join (λ (h : RawHead). Lacks acts (head_place h)) ts (h ∷ []) d (lacks_behind action_place acts from to (head_place h) c l, tt)

pub one_action : (ts : List RawHead) (acts : List RawAction) (a : RawAction) (from to : ℕ) → Climbs head_place from ts to → to ≤ action_place a → Apart ts acts → Apart ts (acts ++ a ∷ [])
one_action [] acts a from to c l d = tt
one_action (h ∷ ts) acts a from to c l d =
    let f = climbs_fit head_place ts (suc (head_place h)) to c.1 in
    (each-join (λ (a : RawAction). head_place h ≡ action_place a → ⊥) acts (a ∷ []) d.0 ((λ e. absurd (omega arith)), tt), one_action ts acts a (suc (head_place h)) to c.1 l d.1)

heads_climb : (acts : List RawAction) (from to : ℕ) → Climbs action_place from acts to → Climbs head_place from (map action_head acts) to
heads_climb [] from to c = c
heads_climb (a ∷ acts) from to c = (c.0, heads_climb acts (suc (action_place a)) to c.1)

pub all_apart : (ts : List RawHead) (acts : List RawAction) (from to before behind : ℕ) → Climbs head_place from ts to → Climbs action_place before acts behind → Apart ts acts → AreDifferent (head_offsets (callables ts acts))
all_apart [] acts from to before behind c b d = climbs_differ head_place (map action_head acts) before behind (heads_climb acts before behind b)
all_apart (h ∷ ts) acts from to before behind c b d = (each-lacks (map head_place (ts ++ map action_head acts)) (head_place h) others, all_apart ts acts (suc (head_place h)) to before behind c.1 b d.1)
  where
    Other : RawHead → Type 0
    Other x = head_place h ≡ head_place x → ⊥

    actions : EachIs Other (map action_head acts)
    actions = subst (λ (z : Type 0). z) (each_is-map action_head Other acts) d.0

    others : EachIs (λ n. head_place h ≡ n → ⊥) (map head_place (ts ++ map action_head acts))
    others = subst (λ (z : Type 0). z) (each_is-map head_place (λ n. head_place h ≡ n → ⊥) (ts ++ map action_head acts)) (each-join Other ts (map action_head acts) (lacks_before head_place ts (suc (head_place h)) to (head_place h) c.1 (omega arith)) actions)
