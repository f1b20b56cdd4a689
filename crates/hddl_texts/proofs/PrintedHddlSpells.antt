-- The printed texts of a sound problem spell it with the printed ids.
use Rattle.std.proofs.Common.{ℕ, List, subst}
use Rattle.plan_texts.specs.SpellsHddl.{SpellsHddl}
use Rattle.plan_texts.specs.SoundProblem.{IsSoundProblem}
use Rattle.plan_model.specs.declared.values.Hddl.{Hddl}
use Rattle.hddl_texts.specs.PrintedHddl.{hddl_domain_text, hddl_problem_text}
use Rattle.hddl_texts.specs.Ids.{with_ids, IsOfTwoTexts}
use Rattle.hddl_texts.proofs.NumberedSpells.{numbered_spells}
use Rattle.hddl_texts.proofs.PrintedIds.{numbered}
use Rattle.hddl_texts.proofs.SameTexts.{same-domain_text, same-problem_text}
use Rattle.hddl_texts.proofs.WithIds.{value-sound, apart-kept}

pub printed_hddl_spells : (h : Hddl) → IsSoundProblem h → IsOfTwoTexts h → SpellsHddl (hddl_domain_text h) (hddl_problem_text h) (with_ids h)
printed_hddl_spells h sound apart =
    let s = numbered_spells (with_ids h) (value-sound h sound.value) (apart-kept h sound.value apart) sound.no_condition (numbered h sound) in
    subst (λ (p : List ℕ). SpellsHddl (hddl_domain_text h) p (with_ids h)) (same-problem_text h sound.value)
    (subst (λ (d : List ℕ). SpellsHddl d (hddl_problem_text (with_ids h)) (with_ids h)) (same-domain_text h sound.value) s)
