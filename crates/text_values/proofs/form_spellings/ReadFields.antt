-- Fields that are filled one by one: what holds of each in the end.
use Rattle.std.proofs.Common.{◌≡◌, ◌∙◌, Bool, true, false, if◌then◌else◌, Ok, Err, Result, Option, Some, None, List, [], ◌∷◌, ◌++◌, refl, sym, ap, subst, append_assoc}
use Rattle.std.proofs.lemmas.List.{append-nil}
use Rattle.std.specs.Option.{is_some}
use Rattle.std.specs.Str.{bytes_eq}
use Rattle.text_forms.specs.Words.{Word}
use Rattle.text_forms.specs.form_grammar.Words.{Table, entry}
use Rattle.plan_texts.specs.Types.{EachIs}
use Rattle.plan_texts.proofs.Basics.{bytes_eq-true}
use Rattle.gd_reader.specs.declared.stop.Stop.{Stop}
use Rattle.gd_reader.specs.declared.stop.Stop.TheVariants.{Departs}
use Rattle.gd_reader.specs.Answers.{◌>>=◌}
use Rattle.gd_reader.specs.Terms.{Names}
use Rattle.hddl_reader.specs.Parts.{keyword_by}
use Rattle.text_values.proofs.form_spellings.KeptWords.{Reads}
use Rattle.text_values.proofs.form_spellings.WordTests.{false_true}

-- A field that was empty ends as one of which Ends holds; a field that was filled stays.
abbrev pub FieldIs : {X : Type 0} → (Option X → Type 0) → Option X → Option X → Type 0
FieldIs Ends None after = Ends after
FieldIs Ends (Some x) after = after ≡ Some x

-- where a step fills the field, it was empty and gets what the step reads; else it stays
abbrev pub StepIs : {X : Type 0} → (X → Type 0) → Bool → Option X → Option X → Type 0
StepIs {X} Own true before after = (is_some before ≡ false) × ((x : X) × (after ≡ Some x) × Own x)
StepIs Own false before after = after ≡ before

pub field_ends : {X : Type 0} (Ends : Option X → Type 0) → Ends None → (o : Option X) → FieldIs Ends o o
field_ends Ends e None = e
field_ends Ends e (Some x) = refl

pub field_step : {X : Type 0} (Before After : Option X → Type 0) (Own : X → Type 0) (b : Bool) → (b ≡ true → (x : X) → Own x → Before (Some x)) → (b ≡ false → (o : Option X) → After o → Before o) → (o r after : Option X)
    → StepIs Own b o r → FieldIs After r after → FieldIs Before o after
field_step {X} Before After Own true put pass None r after s f = subst Before (sym (subst (λ r. FieldIs After r after) s.1.1 f)) (put refl s.1.0 s.1.2)
field_step Before After Own true put pass (Some x) r after s f = false_true (sym s.0)
field_step Before After Own false put pass None r after s f = pass refl after (subst (λ r. FieldIs After r after) s f)
field_step Before After Own false put pass (Some x) r after s f = subst (λ r. FieldIs After r after) s f

-- A list that grows at its end: what is added to it.
abbrev pub GrowsBy : {X : Type 0} → (List X → Type 0) → List X → List X → Type 0
GrowsBy {X} Added before after = (more : List X) × (after ≡ before ++ more) × Added more

abbrev pub AddsOne : {X : Type 0} → (X → Type 0) → Bool → List X → List X → Type 0
AddsOne {X} Own true before after = (x : X) × (after ≡ before ++ x ∷ []) × Own x
AddsOne Own false before after = after ≡ before

pub grows_none : {X : Type 0} (Added : List X → Type 0) → Added [] → (xs : List X) → GrowsBy Added xs xs
grows_none Added e xs = ([], sym (append-nil xs), e)

pub grows_step : {X : Type 0} (Before After : List X → Type 0) (Own : X → Type 0) (b : Bool) → (b ≡ true → (x : X) (xs : List X) → Own x → After xs → Before (x ∷ xs)) → (b ≡ false → (xs : List X) → After xs → Before xs) → (o r after : List X)
    → AddsOne Own b o r → GrowsBy After r after → GrowsBy Before o after
grows_step Before After Own true put pass o r after s g = (s.0 ∷ g.0, g.1 ∙ ap (λ r. r ++ g.0) s.1 ∙ append_assoc o (s.0 ∷ []) g.0, put refl s.0 g.0 s.2 g.2)
grows_step Before After Own false put pass o r after s g = (g.0, g.1 ∙ ap (λ r. r ++ g.0) s, pass refl g.0 g.2)

-- what each keyword of a table has
pub table_has : {X : Type 0} (Q : Word → X → Type 0) (ts : Table X) (w : Word) (x : X) → EachIs (λ (t : Word × X). Q t.0 t.1) ts → entry ts w ≡ Some x → Q w x
table_has Q [] w x e i = absurd (cc)
table_has {X} Q (t ∷ ts) w x e i = by (bytes_eq w t.0) refl i (table_has Q ts w x e.1)
  where
    by : (b : Bool) → bytes_eq w t.0 ≡ b → (if b then Some t.1 else entry ts w) ≡ Some x → (entry ts w ≡ Some x → Q w x) → Q w x
    by true f i more = subst (Q w) (ap (λ (o : Option X). elim o [ None ↦ t.1 | Some y ↦ y ]) i) (subst (λ u. Q u t.1) (sym (bytes_eq-true w t.0 f)) e.0)
    by false f i more = more i

-- a keyword that may come
pub keyed : {X Y : Type 0} (P : Y → Names → Type 0) (names : Names) (o : Option X) (has : X → Bool) (at : _) (w : Word) (f : X → Result (Y × Names) Stop)
    → ((x : X) → o ≡ Some x → has x ≡ false → Reads names (f x) P) → Reads names (keyword_by o has at w >>= f) P
keyed P names None has at w f h = tt
keyed {X} {Y} P names (Some x) has at w f h = go (has x) refl
  where
    go : (b : Bool) → has x ≡ b → Reads {X = Y} names ((if b then Err (Departs 7 at) else Ok x) >>= f) P
    go true e = tt
    go false e = h x refl e
