-- What comes next decides which steps are said.
use Rattle.std.proofs.Common.{◌≡◌, ◌∙◌, Bool, true, false, Option, Some, None, List, [], ◌∷◌, ◌++◌, refl, sym, ap, ap₂, subst, append_assoc}
use Rattle.text_forms.specs.Lists.{Parts, name, group, nothing, part, written_all}
use Rattle.text_forms.specs.StepWords.{is_step_name, is_mark}
use Rattle.text_forms.specs.Tokens.{Symbol, left, right, said}
use Rattle.text_forms.specs.Words.{Word}
use Rattle.plan_model.specs.declared.steps.GroundAction.{GroundAction}
use Rattle.plan_texts.specs.PlanText.{AreArgs, IsStep, AreSteps}
use Rattle.plan_text.specs.Coming.{step_of, if_name, names_in, Coming, ends, comes, departs, if_named, if_mark, coming, SaySteps, words_in, steps_in}

-- names and the end of their list
args-names : (ws : List Word) (ps : Parts) (ss : List Symbol) → AreArgs ws ps → names_in (written_all ps ++ right ∷ ss) ≡ Some (ws, ss)
args-names [] nothing ss a = refl
args-names (w ∷ ws) nothing ss a = absurd a
args-names [] (part p ps) ss a = absurd a
args-names (w ∷ ws) (part (group qs) ps) ss a = absurd (let e = a.0 in cc)
args-names (w ∷ ws) (part (name u) ps) ss a =
    let same : u ≡ w = (let e = a.0 in cc) in
    ap₂ (λ t o. if_name t u o) (ap is_step_name same ∙ a.1) (args-names ws ps ss a.2) ∙ ap (λ x. Some (x ∷ ws, ss)) same

name-is : (t : Bool) (w : Word) (o : Option (List Word × List Symbol)) (ws : List Word) (rest : List Symbol) → if_name t w o ≡ Some (ws, rest)
    → (more : List Word) × (t ≡ true) × (o ≡ Some (more, rest)) × (ws ≡ w ∷ more)
name-is true w (Some x) ws rest e =
    let q : ◌≡◌ {A = List Word × List Symbol} (w ∷ x.0, x.1) (ws, rest) = cc in
    (x.0, refl, ap (λ p. Some (x.0, p.1)) q, sym (ap (λ p. p.0) q))
name-is true w None ws rest e = absurd (cc)
name-is false w o ws rest e = absurd (cc)

names-args : (ss : List Symbol) (ws : List Word) (rest : List Symbol) → names_in ss ≡ Some (ws, rest) → (ps : Parts) × AreArgs ws ps × (ss ≡ written_all ps ++ right ∷ rest)
names-args [] ws rest e = absurd (cc)
names-args (left ∷ ss) ws rest e = absurd (cc)
names-args (right ∷ ss) ws rest e =
    let q : ◌≡◌ {A = List Word × List Symbol} ([], ss) (ws, rest) = cc in
    (nothing, subst (λ ws. AreArgs ws nothing) (ap (λ p. p.0) q) tt, ap (λ p. right ∷ p.1) q)
names-args (said w ∷ ss) ws rest e =
    let n = name-is (is_step_name w) w (names_in ss) ws rest e in
    let r = names-args ss n.0 rest n.2 in
    (part (name w) r.0, subst (λ ws. AreArgs ws (part (name w) r.0)) (sym n.3) (refl, n.1, r.1), ap (λ s. said w ∷ s) r.2)

-- a list and what is behind it
behind-list : (qs ps : Parts) → written_all (part (group qs) ps) ≡ left ∷ written_all qs ++ right ∷ written_all ps
behind-list qs ps = ap (λ t. left ∷ t) (append_assoc (written_all qs) (right ∷ []) (written_all ps))

inside : {ps qs : Parts} → group ps ≡ group qs → ps ≡ qs
inside e = cc

list-comes : (s : GroundAction) (qs : Parts) (ss : List Symbol) → IsStep s (group qs) → if_named (names_in (written_all qs ++ right ∷ ss)) ≡ comes s ss
list-comes s qs ss i = ap if_named (args-names (s.name ∷ s.args) qs ss (subst (AreArgs (s.name ∷ s.args)) (sym (inside i.1)) (refl, i.2, i.3)))

named-is : (o : Option (List Word × List Symbol)) (s : GroundAction) (rest : List Symbol) → if_named o ≡ comes s rest
    → (w : Word) × (ws : List Word) × (o ≡ Some ((w ∷ ws), rest)) × (step_of (w ∷ ws) ≡ s)
named-is None s rest e = absurd (cc)
named-is (Some ([], ss)) s rest e = absurd (cc)
named-is (Some ((w ∷ ws), ss)) s rest e =
    let a : step_of (w ∷ ws) ≡ s = cc in
    let b : ss ≡ rest = cc in
    (w, ws, ap (λ r. Some ((w ∷ ws), r)) b, a)

args-step : (w : Word) (ws : List Word) (qs : Parts) → AreArgs (w ∷ ws) qs → IsStep (step_of (w ∷ ws)) (group qs)
args-step w ws nothing a = absurd a
args-step w ws (part p qs) a = (qs, ap (λ p. group (part p qs)) a.0, a.1, a.2)

comes-list : (ts rest : List Symbol) (s : GroundAction) → if_named (names_in ts) ≡ comes s rest → (qs : Parts) × IsStep s (group qs) × (ts ≡ written_all qs ++ right ∷ rest)
comes-list ts rest s e =
    let n = named-is (names_in ts) s rest e in
    let r = names-args ts (n.0 ∷ n.1) rest n.2 in
    (r.0, subst (λ s. IsStep s (group r.0)) n.3 (args-step n.0 n.1 r.0 r.1), r.2)

-- a list, and steps that are said behind it
record IsSaid (ts : List Symbol) (s : GroundAction) (steps : List GroundAction) : Type 0 where
  list : Parts
  behind : Parts
  says : left ∷ ts ≡ written_all (part (group list) behind)
  step : IsStep s (group list)
  steps_are : AreSteps steps behind

list-said : (ts rest : List Symbol) (s : GroundAction) (steps : List GroundAction) → if_named (names_in ts) ≡ comes s rest → SaySteps rest steps → IsSaid ts s steps
list-said ts rest s steps e r =
    let q = comes-list ts rest s e in
    record {
      list = q.0;
      behind = r.0;
      says = ap (λ t. left ∷ t) (q.2 ∙ ap (λ t. written_all q.0 ++ right ∷ t) r.1) ∙ sym (behind-list q.0 r.0);
      step = q.1;
      steps_are = r.2;
    }

mark-is : (t : Bool) (c : Coming) (s : GroundAction) (rest : List Symbol) → if_mark t c ≡ comes s rest → (t ≡ true) × (c ≡ comes s rest)
mark-is true c s rest e = (refl, e)
mark-is false c s rest e = absurd (cc)

-- with the step that comes next, and steps that are said behind it
pub goes-on : (ss rest : List Symbol) (s : GroundAction) (steps : List GroundAction) → coming ss ≡ comes s rest → SaySteps rest steps → SaySteps ss (s ∷ steps)
goes-on [] rest s steps e r = absurd (cc)
goes-on (left ∷ ss) rest s steps e r =
    let l = list-said ss rest s steps e r in
    (part (group l.list) l.behind, l.says, (l.step, l.steps_are))
goes-on (right ∷ ss) rest s steps e r = absurd (cc)
goes-on (said m ∷ []) rest s steps e r = absurd (cc)
goes-on (said m ∷ left ∷ ss) rest s steps e r =
    let t = mark-is (is_mark m) (if_named (names_in ss)) s rest e in
    let l = list-said ss rest s steps t.1 r in
    (part (name m) (part (group l.list) l.behind), ap (λ t. said m ∷ t) l.says, (t.0, (l.step, l.steps_are)))
goes-on (said m ∷ right ∷ ss) rest s steps e r = absurd (cc)
goes-on (said m ∷ said w ∷ ss) rest s steps e r = absurd (cc)

pub at-end : (ss : List Symbol) → coming ss ≡ ends → SaySteps ss []
at-end [] e = (nothing, refl, tt)
at-end (left ∷ ss) e = absurd (named (names_in ss) e)
  where
    named : (o : Option (List Word × List Symbol)) → if_named o ≡ ends → ⊥
    named None e = cc
    named (Some ([], ss)) e = cc
    named (Some ((w ∷ ws), ss)) e = cc
at-end (right ∷ ss) e = absurd (cc)
at-end (said m ∷ []) e = absurd (cc)
at-end (said m ∷ left ∷ ss) e = absurd (marked (is_mark m) (names_in ss) e)
  where
    marked : (t : Bool) (o : Option (List Word × List Symbol)) → if_mark t (if_named o) ≡ ends → ⊥
    marked true None e = cc
    marked true (Some ([], ss)) e = cc
    marked true (Some ((w ∷ ws), ss)) e = cc
    marked false o e = cc
at-end (said m ∷ right ∷ ss) e = absurd (cc)
at-end (said m ∷ said w ∷ ss) e = absurd (cc)

-- the steps are those of what comes
abbrev pub AreComing : Coming → List GroundAction → Type 0
AreComing ends steps = steps ≡ []
AreComing (comes s rest) steps = (more : List GroundAction) × (steps ≡ s ∷ more) × SaySteps rest more
AreComing departs steps = ⊥

list-is : (s : GroundAction) (qs ps : Parts) → IsStep s (group qs) → if_named (names_in ((written_all qs ++ right ∷ []) ++ written_all ps)) ≡ comes s (written_all ps)
list-is s qs ps i = ap (λ t. if_named (names_in t)) (append_assoc (written_all qs) (right ∷ []) (written_all ps)) ∙ list-comes s qs (written_all ps) i

are-coming : (ps : Parts) (steps : List GroundAction) → AreSteps steps ps → AreComing (coming (written_all ps)) steps
are-coming nothing [] a = refl
are-coming nothing (s ∷ steps) a = absurd a
are-coming (part (name w) nothing) [] a = absurd a
are-coming (part (name w) nothing) (s ∷ steps) a = absurd a
are-coming (part (name w) (part (name u) ps)) [] a = absurd a
are-coming (part (name w) (part (name u) ps)) (s ∷ steps) a = absurd a
are-coming (part (name w) (part (group qs) ps)) [] a = absurd a.1
are-coming (part (name w) (part (group qs) ps)) (s ∷ steps) a = subst (λ c. AreComing c (s ∷ steps)) (sym (ap₂ if_mark a.0 (list-is s qs ps a.1.0))) (steps, refl, (ps, refl, a.1.1))
are-coming (part (group qs) ps) [] a = absurd a
are-coming (part (group qs) ps) (s ∷ steps) a = subst (λ c. AreComing c (s ∷ steps)) (sym (list-is s qs ps a.0)) (steps, refl, (ps, refl, a.1))

pub said-coming : (ss : List Symbol) (steps : List GroundAction) → SaySteps ss steps → AreComing (coming ss) steps
said-coming ss steps r = subst (λ ss. AreComing (coming ss) steps) (sym r.1) (are-coming r.0 steps r.2)

-- the steps that are said
args-words : (ws : List Word) (ps : Parts) (ss : List Symbol) → AreArgs ws ps → (words_in (written_all ps ++ right ∷ ss) ≡ ws) × (steps_in (written_all ps ++ right ∷ ss) ≡ steps_in ss)
args-words [] nothing ss a = (refl, refl)
args-words (w ∷ ws) nothing ss a = absurd a
args-words [] (part p ps) ss a = absurd a
args-words (w ∷ ws) (part (group qs) ps) ss a = absurd (let e = a.0 in cc)
args-words (w ∷ ws) (part (name u) ps) ss a =
    let same : u ≡ w = (let e = a.0 in cc) in
    let r = args-words ws ps ss a.2 in
    (ap₂ (λ x xs. x ∷ xs) same r.0, r.1)

list-in : (s : GroundAction) (qs ps : Parts) (steps : List GroundAction) → IsStep s (group qs) → steps_in (written_all ps) ≡ steps → steps_in (written_all (part (group qs) ps)) ≡ s ∷ steps
list-in s qs ps steps i e =
    let r = args-words (s.name ∷ s.args) qs (written_all ps) (subst (AreArgs (s.name ∷ s.args)) (sym (inside i.1)) (refl, i.2, i.3)) in
    ap steps_in (behind-list qs ps) ∙ ap₂ (λ x xs. step_of x ∷ xs) r.0 (r.1 ∙ e)

steps-in : (ps : Parts) (steps : List GroundAction) → AreSteps steps ps → steps_in (written_all ps) ≡ steps
steps-in nothing [] a = refl
steps-in nothing (s ∷ steps) a = absurd a
steps-in (part (name w) nothing) [] a = absurd a
steps-in (part (name w) nothing) (s ∷ steps) a = absurd a
steps-in (part (name w) (part (name u) ps)) [] a = absurd a
steps-in (part (name w) (part (name u) ps)) (s ∷ steps) a = absurd a
steps-in (part (name w) (part (group qs) ps)) [] a = absurd a.1
steps-in (part (name w) (part (group qs) ps)) (s ∷ steps) a = list-in s qs ps steps a.1.0 (steps-in ps steps a.1.1)
steps-in (part (group qs) ps) [] a = absurd a
steps-in (part (group qs) ps) (s ∷ steps) a = list-in s qs ps steps a.0 (steps-in ps steps a.1)

pub are-said : (ss : List Symbol) (steps : List GroundAction) → SaySteps ss steps → steps_in ss ≡ steps
are-said ss steps r = ap steps_in r.1 ∙ steps-in r.0 steps r.2
