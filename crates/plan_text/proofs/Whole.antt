-- The tokens of a text are a whole plan exactly where they spell one.
use Rattle.std.proofs.Common.{◌≡◌, ℕ, zero, suc, ◌<◌, ◌≤◌, length, map, List, [], ◌∷◌, ◌++◌, refl, sym, ◌∙◌, ap, subst, append_assoc, arith}
use Rattle.text_forms.specs.Lists.{Parts, name, group, nothing, part, written_all}
use Rattle.text_forms.specs.Placed.{Placed, cut, close, word, list, level, parts_at, parts_of}
use Rattle.text_forms.specs.StepWords.{is_step_name}
use Rattle.text_forms.specs.Tokens.{Lexeme, opens, closes, spells, lexemes, Symbol, left, right, said, symbol, symbols}
use Rattle.text_forms.specs.Words.{Word}
use Rattle.text_forms.specs.form_grammar.Codes.{complete}
use Rattle.text_forms.specs.form_grammar.Plans.{StepDue, step, args, step_rows, steps_form}
use Rattle.text_forms.specs.form_grammar.Rows.{form}
use Rattle.plan_model.specs.declared.steps.GroundAction.{GroundAction}
use Rattle.plan_texts.specs.PlanText.{AreArgs, IsStep, AreSteps, SpellsPlan}
use Rattle.plan_text.proofs.Forms.{head-name, head-whole, arg-name, arg-whole, mark-form, mark-whole, first-whole, then-whole, behind-whole}

-- what a whole form spells
args-are : (p : Placed) → form step_rows args p ≡ complete → (ws : List Word) × AreArgs ws (parts_of p)
args-are cut e = absurd (cc)
args-are (close at) e = ([], tt)
args-are (list at p q) e = absurd (cc)
args-are (word at w p) e = let h = arg-whole at w p e in let r = args-are p h.1 in (w ∷ r.0, (refl, h.0, r.1))

step-is : (p : Placed) → form step_rows step p ≡ complete → (s : GroundAction) × IsStep s (group (parts_of p))
step-is cut e = absurd (cc)
step-is (close at) e = absurd (cc)
step-is (list at p q) e = absurd (cc)
step-is (word at w p) e = let h = head-whole at w p e in let r = args-are p h.1 in (record { name = w; args = r.0 }, (parts_of p, refl, h.0, r.1))

pub steps-are : (p : Placed) → steps_form p ≡ complete → (ss : List GroundAction) × AreSteps ss (parts_of p)
steps-are cut e = ([], tt)
steps-are (close at) e = absurd (cc)
steps-are (list at q r) e = let s = step-is q (first-whole (form step_rows step q) (steps_form r) e) in let ss = steps-are r (then-whole (form step_rows step q) (steps_form r) e) in (s.0 ∷ ss.0, (s.1, ss.1))
steps-are (word at w cut) e = absurd (let h = (mark-whole at w cut e).1 in cc)
steps-are (word at w (close b)) e = absurd (let h = (mark-whole at w (close b) e).1 in cc)
steps-are (word at w (word b u p)) e = absurd (let h = (mark-whole at w (word b u p) e).1 in cc)
steps-are (word at w (list b q r)) e =
    let m = mark-whole at w (list b q r) e in
    let s = step-is q (first-whole (form step_rows step q) (steps_form r) m.1) in
    let ss = steps-are r (then-whole (form step_rows step q) (steps_form r) m.1) in
    (s.0 ∷ ss.0, (m.0, (s.1, ss.1)))

-- what stands behind the parenthesis that closes these tokens' list
record IsClosed (ts : List Lexeme) : Type 0 where
  rest : List Lexeme
  shorter : length rest < length ts
  says : map symbol ts ≡ written_all (parts_of (level 0 ts)) ++ right ∷ map symbol rest
  around : level 1 ts ≡ level 0 rest

behind-name : (at : ℕ) (w : Word) (ts : List Lexeme) → IsClosed ts → IsClosed (spells at w ∷ ts)
behind-name at w ts c = let s = c.shorter in record { rest = c.rest; shorter = omega arith; says = ap (λ t. said w ∷ t) c.says; around = c.around }

args-said : (ts : List Lexeme) → form step_rows args (level 0 ts) ≡ complete → IsClosed ts
args-said [] e = absurd (cc)
args-said (closes at ∷ ts) e = record { rest = ts; shorter = omega arith; says = refl; around = refl }
args-said (opens at ∷ ts) e = absurd (cc)
args-said (spells at w ∷ ts) e = behind-name at w ts (args-said ts (arg-whole at w (level 0 ts) e).1)

step-said : (ts : List Lexeme) → form step_rows step (level 0 ts) ≡ complete → IsClosed ts
step-said [] e = absurd (cc)
step-said (closes at ∷ ts) e = absurd (cc)
step-said (opens at ∷ ts) e = absurd (cc)
step-said (spells at w ∷ ts) e = behind-name at w ts (args-said ts (head-whole at w (level 0 ts) e).1)

abbrev AreSaid : List Lexeme → Type 0
AreSaid ts = map symbol ts ≡ written_all (parts_of (level 0 ts))

list-said : (at : ℕ) (ts : List Lexeme) (c : IsClosed ts) → AreSaid c.rest → AreSaid (opens at ∷ ts)
list-said at ts c h =
    let inside : Parts = parts_of (level 0 ts) in
    let behind : Parts = parts_of (level 1 ts) in
    let same : map symbol c.rest ≡ written_all behind = h ∙ ap (λ p. written_all (parts_of p)) (sym c.around) in
    ap (λ t. left ∷ t) (c.says ∙ ap (λ t. written_all inside ++ right ∷ t) same ∙ sym (append_assoc (written_all inside) (right ∷ []) (written_all behind)))

-- the tokens of a whole plan say its parts
said-within : (n : ℕ) (ts : List Lexeme) → length ts ≤ n → steps_form (level 0 ts) ≡ complete → AreSaid ts
said-within n [] l e = refl
said-within n (closes at ∷ ts) l e = absurd (cc)
said-within zero (opens at ∷ ts) l e = absurd (omega arith)
said-within (suc n) (opens at ∷ ts) l e =
    let c = step-said ts (first-whole (form step_rows step (level 0 ts)) (steps_form (level 1 ts)) e) in
    let s = c.shorter in
    list-said at ts c (said-within n c.rest (omega arith) (ap steps_form (sym c.around) ∙ then-whole (form step_rows step (level 0 ts)) (steps_form (level 1 ts)) e))
said-within n (spells at w ∷ []) l e = absurd (let h = (mark-whole at w cut e).1 in cc)
said-within n (spells at w ∷ closes b ∷ ts) l e = absurd (let h = (mark-whole at w (close b) e).1 in cc)
said-within n (spells at w ∷ spells b u ∷ ts) l e = absurd (let h = (mark-whole at w (word b u (level 0 ts)) e).1 in cc)
said-within zero (spells at w ∷ opens b ∷ ts) l e = absurd (omega arith)
said-within (suc n) (spells at w ∷ opens b ∷ ts) l e =
    let m = (mark-whole at w (list b (level 0 ts) (level 1 ts)) e).1 in
    let c = step-said ts (first-whole (form step_rows step (level 0 ts)) (steps_form (level 1 ts)) m) in
    let s = c.shorter in
    ap (λ t. said w ∷ t) (list-said b ts c (said-within n c.rest (omega arith) (ap steps_form (sym c.around) ∙ then-whole (form step_rows step (level 0 ts)) (steps_form (level 1 ts)) m)))

pub whole-said : (text : List ℕ) → steps_form (parts_at text 0) ≡ complete → symbols text ≡ written_all (parts_of (parts_at text 0))
whole-said text e = said-within (length (lexemes text)) (lexemes text) (omega arith) e

-- the first of tokens that say something
said-left : (ts : List Lexeme) (ss : List Symbol) → map symbol ts ≡ left ∷ ss → (at : ℕ) × (rest : List Lexeme) × (ts ≡ opens at ∷ rest) × (map symbol rest ≡ ss)
said-left [] ss e = absurd (cc)
said-left (opens at ∷ ts) ss e = (at, ts, refl, cc)
said-left (closes at ∷ ts) ss e = absurd (cc)
said-left (spells at w ∷ ts) ss e = absurd (cc)

said-right : (ts : List Lexeme) (ss : List Symbol) → map symbol ts ≡ right ∷ ss → (at : ℕ) × (rest : List Lexeme) × (ts ≡ closes at ∷ rest) × (map symbol rest ≡ ss)
said-right [] ss e = absurd (cc)
said-right (opens at ∷ ts) ss e = absurd (cc)
said-right (closes at ∷ ts) ss e = (at, ts, refl, cc)
said-right (spells at w ∷ ts) ss e = absurd (cc)

said-word : (ts : List Lexeme) (w : Word) (ss : List Symbol) → map symbol ts ≡ said w ∷ ss → (at : ℕ) × (rest : List Lexeme) × (ts ≡ spells at w ∷ rest) × (map symbol rest ≡ ss)
said-word [] w ss e = absurd (cc)
said-word (opens at ∷ ts) w ss e = absurd (cc)
said-word (closes at ∷ ts) w ss e = absurd (cc)
said-word (spells at u ∷ ts) w ss e = let same : u ≡ w = cc in (at, ts, ap (λ u. spells at u ∷ ts) same, cc)

-- tokens that are whole where something is due, and behind them others
record IsWholeTo (due : StepDue) (ts : List Lexeme) (ss : List Symbol) : Type 0 where
  rest : List Lexeme
  says : map symbol rest ≡ ss
  around : level 1 ts ≡ level 0 rest
  whole : form step_rows due (level 0 ts) ≡ complete

args-whole : (ws : List Word) (ps : Parts) (ts : List Lexeme) (ss : List Symbol) → AreArgs ws ps → map symbol ts ≡ written_all ps ++ right ∷ ss → IsWholeTo args ts ss
args-whole [] nothing ts ss a e =
    let c = said-right ts ss e in
    subst (λ ts. IsWholeTo args ts ss) (sym c.2) (record { rest = c.1; says = c.3; around = refl; whole = refl })
args-whole (w ∷ ws) nothing ts ss a e = absurd a
args-whole [] (part p ps) ts ss a e = absurd a
args-whole (w ∷ ws) (part (group qs) ps) ts ss a e = absurd (let e = a.0 in cc)
args-whole (w ∷ ws) (part (name u) ps) ts ss a e =
    let c = said-word ts u (written_all ps ++ right ∷ ss) e in
    let r = args-whole ws ps c.1 ss a.2 c.3 in
    let same : u ≡ w = (let e = a.0 in cc) in
    subst (λ ts. IsWholeTo args ts ss) (sym c.2) (record { rest = r.rest; says = r.says; around = r.around; whole = arg-name c.0 u (level 0 c.1) (ap is_step_name same ∙ a.1) ∙ r.whole })

inside : {ps qs : Parts} → group ps ≡ group qs → ps ≡ qs
inside e = cc

step-whole : (s : GroundAction) (qs : Parts) (ts : List Lexeme) (ss : List Symbol) → IsStep s (group qs) → map symbol ts ≡ written_all qs ++ right ∷ ss → IsWholeTo step ts ss
step-whole s qs ts ss i e =
    let c = said-word ts s.name (written_all i.0 ++ right ∷ ss) (e ∙ ap (λ qs. written_all qs ++ right ∷ ss) (inside i.1)) in
    let r = args-whole s.args i.0 c.1 ss i.3 c.3 in
    subst (λ ts. IsWholeTo step ts ss) (sym c.2) (record { rest = r.rest; says = r.says; around = r.around; whole = head-name c.0 s.name (level 0 c.1) i.2 ∙ r.whole })

-- a list that says a step, and steps behind it
list-whole : (s : GroundAction) (qs ps : Parts) (at : ℕ) (ts : List Lexeme) → IsStep s (group qs) → map symbol ts ≡ (written_all qs ++ right ∷ []) ++ written_all ps
    → ((rest : List Lexeme) → map symbol rest ≡ written_all ps → steps_form (level 0 rest) ≡ complete) → steps_form (level 0 (opens at ∷ ts)) ≡ complete
list-whole s qs ps at ts i e more =
    let r = step-whole s qs ts (written_all ps) i (e ∙ append_assoc (written_all qs) (right ∷ []) (written_all ps)) in
    behind-whole (form step_rows step (level 0 ts)) (steps_form (level 1 ts)) r.whole ∙ ap steps_form r.around ∙ more r.rest r.says

abbrev IsWholeAt : List Lexeme → Type 0
IsWholeAt ts = steps_form (level 0 ts) ≡ complete

none-whole : (ts : List Lexeme) → map symbol ts ≡ [] → IsWholeAt ts
none-whole [] e = refl
none-whole (t ∷ ts) e = absurd (cc)

steps-whole : (ss : List GroundAction) (ps : Parts) (ts : List Lexeme) → AreSteps ss ps → map symbol ts ≡ written_all ps → IsWholeAt ts
steps-whole [] nothing ts a e = none-whole ts e
steps-whole (s ∷ ss) nothing ts a e = absurd a
steps-whole [] (part (name w) nothing) ts a e = absurd a
steps-whole (s ∷ ss) (part (name w) nothing) ts a e = absurd a
steps-whole [] (part (name w) (part (name u) ps)) ts a e = absurd a
steps-whole (s ∷ ss) (part (name w) (part (name u) ps)) ts a e = absurd a
steps-whole [] (part (name w) (part (group qs) ps)) ts a e = absurd a.1
steps-whole (s ∷ ss) (part (name w) (part (group qs) ps)) ts a e =
    let c = said-word ts w ((left ∷ written_all qs ++ right ∷ []) ++ written_all ps) e in
    let d = said-left c.1 ((written_all qs ++ right ∷ []) ++ written_all ps) c.3 in
    subst IsWholeAt (sym (c.2 ∙ ap (λ ts. spells c.0 w ∷ ts) d.2))
    (mark-form c.0 w (level 0 (opens d.0 ∷ d.1)) a.0 ∙ list-whole s qs ps d.0 d.1 a.1.0 d.3 (λ rest h. steps-whole ss ps rest a.1.1 h))
steps-whole [] (part (group qs) ps) ts a e = absurd a
steps-whole (s ∷ ss) (part (group qs) ps) ts a e =
    let d = said-left ts ((written_all qs ++ right ∷ []) ++ written_all ps) e in
    subst IsWholeAt (sym d.2) (list-whole s qs ps d.0 d.1 a.0 d.3 (λ rest h. steps-whole ss ps rest a.1 h))

pub spelled-whole : (text : List ℕ) (steps : List GroundAction) → SpellsPlan text steps → steps_form (parts_at text 0) ≡ complete
spelled-whole text steps s = steps-whole steps s.parts (lexemes text) s.spelled s.is
