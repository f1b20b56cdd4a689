-- The first six steps of Transport, with two trucks and three packages, are executable in every problem that is printed for it with 15 slots.
use Rattle.std.proofs.Common.{◌≡◌, true, List, [], ◌∷◌, refl, subst, ℕ}
use Rattle.plan_model.specs.declared.terms.Atom.{Atom}
use Rattle.plan_model.specs.declared.formulas.Formula.TheVariants.{Holds, And}
use Rattle.plan_model.specs.declared.effects.Effect.TheVariants as E
use Rattle.plan_model.specs.declared.options.Checks.TheVariants.{Leaf}
use Rattle.text_forms.specs.Words.{Word}
use Rattle.plan_texts.specs.Declared.{Declared}
use Rattle.plan_texts.specs.SpellsHddl.{hddl_words}
use Rattle.plan_texts.specs.Printable.{IsSound, IsSoundEffect}
use Rattle.plan_texts.specs.SoundValue.{arities}
use Rattle.plan_model.specs.plan_meaning.ClassicalPlan.{IsExecutable}
use Rattle.plan_model.specs.plan_meaning.SpelledPlan.{IsSpelling}
use Rattle.plan_model.proofs.plan_meaning.examples.RowChecks.{spelling_by}
use Rattle.plan_model.proofs.plan_meaning.examples.TransportValue.{transport, road, at, is_in}
use Rattle.plan_model.proofs.plan_meaning.examples.TransportCompiled.{transport_is_compiled}
use Rattle.plan_model.proofs.plan_meaning.examples.TransportRow.{tree, order, slot, acts, steps, in_words, front, executable}
use Rattle.plan_proof.proofs.examples.SoundChecks.{HasSoundFormulas, is_atom, sound_by, ordered_by, sound-Holds, sound-And, sound-Add, sound-Delete, sound-Both}
use Rattle.plan_proof.proofs.examples.RowPlans.{OfEachPrinted, IsLawfulRow, front_executable, sound_always}

abbrev words : Declared
words = hddl_words transport.hddl

abbrev counts : List ℕ
counts = arities transport.hddl

-- the conditions and effects of its actions are of these two forms
module _ (scope : List Word) (a b : Atom) (sound_a : is_atom words counts scope a.predicate a.args ≡ true) (sound_b : is_atom words counts scope b.predicate b.args ≡ true) where
  both_hold : IsSound words counts (And (Holds a ∷ Holds b ∷ [])) scope
  both_hold = sound-And words counts scope (Holds a ∷ Holds b ∷ []) (sound-Holds words counts scope a sound_a, (sound-Holds words counts scope b sound_b, tt))

  moved : IsSoundEffect words counts (E.And (E.Delete a ∷ E.Add b ∷ [])) scope
  moved = sound-Both words counts scope (E.Delete a ∷ E.Add b ∷ []) (sound-Delete words counts scope a sound_a, (sound-Add words counts scope b sound_b, tt))

formulas : HasSoundFormulas transport.hddl
formulas = record {
  pre = (both_hold _ (at 0 1) (road 1 2) refl refl, (both_hold _ (at 0 1) (at 2 1) refl refl, (both_hold _ (at 0 1) (is_in 2 0) refl refl, tt)));
  eff = (moved _ (at 0 1) (at 0 2) refl refl, (moved _ (at 2 1) (is_in 2 0) refl refl, (moved _ (is_in 2 0) (at 2 1) refl refl, tt)));
  top = sound_always transport.hddl [];
  methods = (sound_always transport.hddl _, (sound_always transport.hddl _, (sound-Holds words counts _ (at 0 1) refl, tt)));
  goal = sound_always transport.hddl [];
}

pub transport_row : IsLawfulRow Leaf transport
transport_row = record { sound = sound_by transport.hddl refl formulas; compiled = transport_is_compiled; ordered = ordered_by transport.hddl refl }

spelled : IsSpelling transport 15 steps tree order slot
spelled = subst (λ z. IsSpelling transport 15 z tree order slot) in_words (spelling_by transport 15 acts tree order slot front refl refl ((refl, refl, refl), ((refl, refl, refl), ((refl, refl, refl), ((refl, refl), ((refl, refl), ((refl, refl, refl), tt)))))))

pub transport_executable : OfEachPrinted transport 15 (λ p. IsExecutable p steps)
transport_executable = front_executable Leaf transport 15 transport_row steps tree order slot spelled executable
