-- The laws of the machine, from the lemmas.
use Rattle.std.proofs.Common.{ℕ, ◌≡◌, ◌↔◌, List, [], ◌∷◌, map, refl, ap, sym, subst, ◌∙◌, Contains, Some, arith}
use Rattle.std.proofs.lemmas.List.{length-map}
use Rattle.plan_model.specs.task_networks.Net.{Net}
use Rattle.plan_model.specs.task_networks.Lawful.{IsLawful}
use Rattle.plan_model.specs.task_networks.Tree.{Tree, Address, IsOpen, Label}
use Rattle.htn_base.specs.Different.{AreDifferent}
use Rattle.plan_model.specs.task_networks.Pending.{IsWithin, IsPending}
use Rattle.plan_model.specs.task_networks.Executable.{AreLabels}
use Rattle.plan_model.specs.task_networks.Spelling.{run, Act, Spells, apply, numbers, AreActs, label_of}
use Rattle.plan_model.proofs.task_networks.Different.{no_more}
use Rattle.plan_model.proofs.task_networks.Lists.{Contains-later, Contains-here}
use Rattle.plan_model.proofs.task_networks.Nodes.{leaves_of}
use Rattle.plan_model.proofs.task_networks.Numbers.{length-numbers, to_numbers}
use Rattle.slot_machine.specs.Machine.{SlotState, end_of, start, IsUnblocked, May}
use Rattle.slot_machine.specs.Causes.{IsWaiting, IsNextAt, Can}
use Rattle.slot_machine.specs.Laws.{RunsAreSpelledFronts, FrontIsTheOnlyOne, TestsTellCauses, StateTellsFront, FewPendingHaveSpellings, CausesAreSentences, labels, LabelsAreOfActs}
use Rattle.slot_machine.specs.Reached.{Tells}
use Rattle.slot_machine.proofs.Closure.{chain_iff, only_siblings, waiting_iff}
use Rattle.slot_machine.proofs.Matching.{Matches}
use Rattle.slot_machine.proofs.OtherChildren.{map_cases}
use Rattle.slot_machine.proofs.RunSpellings.{runs_iff_spells}
use Rattle.slot_machine.proofs.SpellingExists.{spelling_exists}
use Rattle.slot_machine.proofs.SpellingRuns.{runs_from_spells}
use Rattle.slot_machine.proofs.SpellingSteps.{act_label}
use Rattle.slot_machine.proofs.Unique.{one_front}

module _ (N : Net) (law : IsLawful N) where
  pub runs_are_spelled_fronts : RunsAreSpelledFronts N
  runs_are_spelled_fronts b top acts h = runs_iff_spells N law b top h acts

  pub front_is_the_only_one : FrontIsTheOnlyOne N
  front_is_the_only_one b top acts t o f t' o' f' s s' = one_front N law b top acts t o f t' o' f' s s'

  module _ (b : ℕ) (top : N.Work) (acts : List (Act N)) (tree : Tree N) (order : List Address) (slot : Address → ℕ) (s : Spells N b top acts tree order slot) where
    abbrev last : SlotState N
    last = end_of N (start N b top) acts

    pub matches_spelling : Matches N b last tree slot
    matches_spelling = (runs_from_spells N law b top order acts tree slot s).1

    pub tells_front : Tells N tree slot b last
    tells_front = record {
      holds = m.holds;
      free = m.free;
      untouched = λ x y h. (let (u, v, ou, ov, eu, ev, bl) = m.sound x y h in (λ f. ((m.free x).0 f).2 u ou eu, λ f. ((m.free y).0 f).2 v ov ev));
      order = λ u v ou ov. (let c = chain_iff N law b last tree slot m all.0 all.1 u v ou ov in let o = only_siblings N tree order u v s.front.schedule ou ov in (λ h. o.1 (c.0 h), λ h. c.1 (o.0 h)));
    }
      where
        m : Matches N b last tree slot
        m = matches_spelling

        all : (leaves : List Address) × ((p : Address) → IsOpen N tree p → Contains leaves p)
        all = leaves_of N tree

    waits_iff : (p : Address) → IsOpen N tree p → IsUnblocked N last (slot p) ↔ (IsWaiting N tree p → ⊥)
    waits_iff p o = let w = waiting_iff N b last tree order slot p matches_spelling s.front.schedule o in (λ un h. w.0 un h.0 h.1 h.2, λ n. w.1 (λ u ou h. n (u, ou, h)))

    next_iff : (h : ℕ) (w : N.Work) → (last.holds h w × IsUnblocked N last h) ↔ IsNextAt N tree slot h w
    next_iff h w = (to, from)
      where
        to : last.holds h w × IsUnblocked N last h → IsNextAt N tree slot h w
        to (a, un) = let (p, e, f) = (matches_spelling.holds h w).0 a in record { holds = (p, e, f); unblocked = (waits_iff p (w, e)).0 (λ x bf. un x (subst (last.before x) f bf)) }

        from : IsNextAt N tree slot h w → last.holds h w × IsUnblocked N last h
        from n = ((matches_spelling.holds h w).1 n.holds, λ x bf. (waits_iff n.holds.0 (w, n.holds.1)).1 n.unblocked x (subst (last.before x) (sym n.holds.2) bf))

    may_iff : (a : Act N) → May N last a ↔ Can N tree slot b a
    may_iff (run h w) = (
      λ a. record { next = (next_iff h w).0 (a.holds, a.unblocked); simple = a.simple },
      λ c. (let n = (next_iff h w).1 c.next in record { holds = n.0; simple = c.simple; unblocked = n.1 }),
    )
    may_iff (apply h new m) = (
      λ a. record { next = (next_iff h (N.head m)).0 (a.holds, a.unblocked); enough = a.enough; left = λ x k. (matches_spelling.free x).0 (a.free x k); different = a.apart; ground = a.ground },
      λ c. (let n = (next_iff h (N.head m)).1 c.next in record { holds = n.0; ground = c.ground; unblocked = n.1; enough = c.enough; free = λ x k. (matches_spelling.free x).1 (c.left x k); apart = c.different }),
    )

    pub tests_tell_causes : TestsTellCauses N b last tree slot
    tests_tell_causes = record { holds = matches_spelling.holds; unblocked = waits_iff; left = matches_spelling.free; may = may_iff }

    -- pending nodes have different slots, of b
    pub within_slots : IsWithin N b tree order
    within_slots taken rest nodes e p =
        let k = length-map nodes slot in
        let l = no_more (map slot nodes) (numbers 1 b) (different_slots nodes p.different p.pending) (λ x c. in_range x (map_cases slot nodes x c)) in
        let j = length-numbers 1 b in
        omega arith
      where
        in_range : (x : ℕ) → (q : Address) × Contains nodes q × (slot q ≡ x) → Contains (numbers 1 b) x
        in_range x (q, c, f) = let r = s.range q (p.pending q c).address in let l = r.1 in subst (Contains (numbers 1 b)) f (to_numbers 1 b (slot q) r.0 (omega arith))

        different_slots : (qs : List Address) → AreDifferent qs → ((q : Address) → Contains qs q → IsPending N tree taken q) → AreDifferent (map slot qs)
        different_slots [] d h = tt
        different_slots (q ∷ qs) d h = (
          λ c. (let (v, k, f) = map_cases slot qs (slot q) c in d.0 (subst (Contains qs) (s.apart taken rest e v q (h v (Contains-later q qs v k)) (h q (Contains-here q qs)) f) k)),
          different_slots qs d.1 (λ v k. h v (Contains-later q qs v k)),
        )

  pub state_tells_front : StateTellsFront N
  state_tells_front b top acts tree order slot s = tells_front b top acts tree order slot s

  pub few_pending_have_spellings : FewPendingHaveSpellings N
  few_pending_have_spellings b top tree order f = (λ w. spelling_exists N law b top order tree f.grown f.root f.schedule w, λ x. within_slots b top x.0 tree order x.1 x.2)

  pub causes_are_sentences : CausesAreSentences N
  causes_are_sentences b top acts tree order slot s = tests_tell_causes b top acts tree order slot s

module _ (N : Net) where
  -- the labels of nodes in order are those of their acts
  labels_iff : (tree : Tree N) (slot : Address → ℕ) (order : List Address) (acts : List (Act N)) (labels : List (Label N)) → AreActs N tree slot order acts → AreLabels N tree order labels ↔ (labels ≡ map (label_of N) acts)
  labels_iff tree slot [] [] [] h = (λ x. refl, λ x. tt)
  labels_iff tree slot [] [] (l ∷ ls) h = (λ x. absurd x, λ e. absurd cc)
  labels_iff tree slot [] (a ∷ acts) ls h = absurd h
  labels_iff tree slot (p ∷ ps) [] ls h = absurd h
  labels_iff tree slot (p ∷ ps) (a ∷ acts) [] h = (λ x. absurd x, λ e. absurd cc)
  labels_iff tree slot (p ∷ ps) (a ∷ acts) (l ∷ ls) h =
      let k = (act_label N tree slot p a h.0).0 in
      let r = labels_iff tree slot ps acts ls h.1 in
      (λ x. (let y = x.0 in let z = r.0 x.1 in cc), λ e. (k ∙ ap Some (let y : label_of N a ≡ l = cc in y), r.1 cc))

  pub labels_are_of_acts : LabelsAreOfActs N
  labels_are_of_acts b top acts tree order slot labels s = labels_iff tree slot order acts labels s.spelled
