-- The words of a plan that a text spells are folded names.
use Rattle.std.proofs.Common.{◌≡◌, ℕ, suc, true, List, [], ◌∷◌, ◌++◌, map, Contains, refl, subst, arith}
use Rattle.std.proofs.lemmas.List.Elements.{All-contains}
use Rattle.text_forms.specs.Lists.{Parts, name, group, nothing, part, written, written_all}
use Rattle.text_forms.specs.LongestRuns.{IsMade, IsMadeBy}
use Rattle.text_forms.specs.Printing.{are_folded}
use Rattle.text_forms.specs.StepWords.{is_step_name}
use Rattle.text_forms.specs.Tokens.{Kind, start, stop, word, Token, tokens, lexeme, lexeme_by, letters_of, Symbol, left, right, said, symbol, symbols}
use Rattle.text_forms.specs.Words.{Word}
use Rattle.text_forms.proofs.EachToken.{each_made}
use Rattle.plan_model.specs.declared.steps.GroundAction.{GroundAction}
use Rattle.plan_texts.specs.PlanText.{AreArgs, IsStep, AreSteps, SpellsPlan, IsStepWord, ArePrintableSteps}
use Rattle.plan_texts.specs.Types.{EachIs}
use Rattle.text_forms.proofs.Letters.{run_folds}

-- words in lower case
abbrev AreLower : List Symbol → Type 0
AreLower [] = Unit {0}
AreLower (left ∷ ss) = AreLower ss
AreLower (right ∷ ss) = AreLower ss
AreLower (said w ∷ ss) = (are_folded w ≡ true) × AreLower ss

module _ (text : List ℕ) where
  lower-token : (t : Token) (ss : List Symbol) → IsMade text t → AreLower ss → AreLower (symbol (lexeme text t) ∷ ss)
  lower-token t ss made l = go t.kind made
    where
      go : (k : Kind) → IsMadeBy text t.first t.behind k → AreLower (symbol (lexeme_by k t.first (letters_of text t)) ∷ ss)
      go start m = l
      go stop m = l
      go word m = (run_folds text t.first t.behind m, l)

  lower-tokens : (ts : List Token) → ((t : Token) → Contains ts t → IsMade text t) → AreLower (map symbol (map (lexeme text) ts))
  lower-tokens [] made = tt
  lower-tokens (t ∷ ts) made =
      lower-token t (map symbol (map (lexeme text) ts)) (made t (0, omega arith, refl)) (lower-tokens ts (λ u c. (let l = c.1 in made u (suc c.0, omega arith, c.2))))

  lower : AreLower (symbols text)
  lower = lower-tokens (tokens text) (λ t c. All-contains (IsMade text) (tokens text) t (each_made text) c)

lower-first : (ss us : List Symbol) → AreLower (ss ++ us) → AreLower ss
lower-first [] us l = tt
lower-first (left ∷ ss) us l = lower-first ss us l
lower-first (right ∷ ss) us l = lower-first ss us l
lower-first (said w ∷ ss) us l = (l.0, lower-first ss us l.1)

lower-then : (ss us : List Symbol) → AreLower (ss ++ us) → AreLower us
lower-then [] us l = l
lower-then (left ∷ ss) us l = lower-then ss us l
lower-then (right ∷ ss) us l = lower-then ss us l
lower-then (said w ∷ ss) us l = lower-then ss us l.1

step-word : (w : Word) → are_folded w ≡ true → is_step_name w ≡ true → IsStepWord w
step-word [] f n = absurd (cc)
step-word (b ∷ w) f n = (f, n)

printable-args : (ws : List Word) (ps : Parts) → AreArgs ws ps → AreLower (written_all ps) → EachIs IsStepWord ws
printable-args [] nothing a l = tt
printable-args (w ∷ ws) nothing a l = absurd a
printable-args [] (part p ps) a l = absurd a
printable-args (w ∷ ws) (part (group qs) ps) a l = absurd (let e = a.0 in cc)
printable-args (w ∷ ws) (part (name u) ps) a l =
    let e : u ≡ w = (let e = a.0 in cc) in
    (step-word w (subst (λ u. are_folded u ≡ true) e l.0) a.1, printable-args ws ps a.2 l.1)

inside : {ps qs : Parts} → group ps ≡ group qs → ps ≡ qs
inside e = cc

printable-step : (s : GroundAction) (qs : Parts) → IsStep s (group qs) → AreLower (written (group qs)) → IsStepWord s.name × EachIs IsStepWord s.args
printable-step s qs i l =
    let m = subst (λ (qs : Parts). AreLower (written (group qs))) (inside i.1) l in
    (step-word s.name m.0 i.2, printable-args s.args i.0 i.3 (lower-first (written_all i.0) (right ∷ []) m.1))

printable-steps : (ss : List GroundAction) (ps : Parts) → AreSteps ss ps → AreLower (written_all ps) → ArePrintableSteps ss
printable-steps [] nothing a l = tt
printable-steps (s ∷ ss) nothing a l = absurd a
printable-steps [] (part (name w) nothing) a l = absurd a
printable-steps (s ∷ ss) (part (name w) nothing) a l = absurd a
printable-steps [] (part (name w) (part (name u) ps)) a l = absurd a
printable-steps (s ∷ ss) (part (name w) (part (name u) ps)) a l = absurd a
printable-steps [] (part (name w) (part (group qs) ps)) a l = absurd a.1
printable-steps (s ∷ ss) (part (name w) (part (group qs) ps)) a l = (printable-step s qs a.1.0 (lower-first (written (group qs)) (written_all ps) l.1), printable-steps ss ps a.1.1 (lower-then (written (group qs)) (written_all ps) l.1))
printable-steps [] (part (group qs) ps) a l = absurd a
printable-steps (s ∷ ss) (part (group qs) ps) a l = (printable-step s qs a.0 (lower-first (written (group qs)) (written_all ps) l), printable-steps ss ps a.1 (lower-then (written (group qs)) (written_all ps) l))

pub printable : (text : List ℕ) (steps : List GroundAction) → SpellsPlan text steps → ArePrintableSteps steps
printable text steps s = printable-steps steps s.parts s.spelled (subst AreLower s.is (lower text))
