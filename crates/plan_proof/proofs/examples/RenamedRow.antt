-- The smallest problem under another table of names, with a word that names nothing: the same but for names, so what is printed for the one is
-- printed for the other. With another word it is not the same.
use Rattle.std.proofs.Common.{ℕ, ◌≡◌, false, List, [], ◌∷◌, None, Some, length, codes, refl, ap, sym, ◌∙◌}
use Rattle.text_forms.specs.Words.{word_at}
use Rattle.plan_texts.specs.Declared.{Declared}
use Rattle.plan_texts.specs.SpellsHddl.{hddl_words}
use Rattle.plan_texts.specs.Said.{said, all, none, done, both, no_more}
use Rattle.plan_texts.proofs.Basics.{apart}
use Rattle.plan_texts.proofs.Readings.{said_roll}
use Rattle.plan_texts.proofs.Effects.{done_roll}
use Rattle.plan_texts.proofs.examples.SmallestRow.{smallest as printed}
use Rattle.plan_model.specs.declared.formulas.Formula.TheOpen.{Formula-F}
use Rattle.plan_model.specs.declared.formulas.Formula.TheVariants.{rolls-And}
use Rattle.plan_model.specs.declared.effects.Effect.TheOpen.{Effect-F}
use Rattle.plan_model.specs.declared.effects.Effect.TheVariants as E
use Rattle.plan_model.specs.declared.networks.Head.TheVariants.{Task, Action}
use Rattle.plan_model.specs.declared.options.Checks.{Checks}
use Rattle.plan_model.specs.declared.options.Style.TheVariants.{Adl}
use Rattle.plan_model.specs.declared.schemas.MethodSchema.{MethodSchema}
use Rattle.plan_model.specs.declared.values.Hddl.{Hddl}
use Rattle.plan_model.specs.declared.values.Compiled.{Compiled}
use Rattle.plan_model.specs.plan_meaning.Compilation.{IsCompiled}
use Rattle.plan_model.proofs.plan_meaning.examples.PlanKinds.{plain, none_rise}
use Rattle.plan_model.proofs.plan_meaning.examples.RowValues.{child, always, nothing, problem, method_schema, method_plan, task_schema, action_schema}
use Rattle.plan_model.proofs.plan_meaning.examples.SmallestRow.{smallest_hddl, smallest}
use Rattle.slot_encoding.specs.Printed.{IsPrinted}
use Rattle.plan_proof.proofs.examples.SmallestFaithful.{smallest_is_printed}
use Rattle.plan_proof.specs.Same.{AreSameButNames}
use Rattle.plan_proof.proofs.values.SameSound.{action-words-same}
use Rattle.plan_proof.proofs.values.Headlines.{printed_by}

abbrev top : MethodSchema
top = method_schema 4 1 always (child (Task 0) ∷ []) []

abbrev method : MethodSchema
method = method_schema 7 0 always (child (Action 0) ∷ []) []

abbrev names : List (List ℕ)
names = codes "object" ∷ codes "d" ∷ codes "p" ∷ codes "unused" ∷ codes "htn_start" ∷ codes "t" ∷ codes "a" ∷ codes "m" ∷ []

abbrev pub renamed_hddl : Hddl
renamed_hddl = problem names [] (task_schema 5 ∷ []) (action_schema 6 always nothing ∷ []) (method ∷ []) top

abbrev pub renamed : Compiled
renamed = record { hddl = renamed_hddl; methods = method_plan top false (0 ∷ []) (Some 0) [] ∷ method_plan method false (0 ∷ []) (Some 0) [] ∷ [] }

always_said : (v : Declared) → said v always ≡ all none
always_said v = ap (said v) (sym (rolls-And [])) ∙ said_roll v (Formula-F.And [])

nothing_done : (v : Declared) → done v nothing ≡ both no_more
nothing_done v = ap (done v) (sym (E.rolls-And [])) ∙ done_roll v (Effect-F.And [])

pub renamed_same : AreSameButNames renamed_hddl smallest_hddl
renamed_same =
    let f : said (hddl_words renamed_hddl) always ≡ said (hddl_words smallest_hddl) always = always_said (hddl_words renamed_hddl) ∙ sym (always_said (hddl_words smallest_hddl)) in
    let g : done (hddl_words renamed_hddl) nothing ≡ done (hddl_words smallest_hddl) nothing = nothing_done (hddl_words renamed_hddl) ∙ sym (nothing_done (hddl_words smallest_hddl)) in
    record {
      alike = record {
        domains = refl;
        problems = refl;
        declared = record {
          types = λ w. (λ h. h, λ h. h);
          pairs = λ w u. (λ h. h, λ h. h);
          objects = refl;
          predicates = refl;
          actions = λ i. (codes "a", [], f i, g i) ∷ [];
        };
        tasks = refl;
        methods = λ i. (codes "m", 0, [], f i, ([], (None, Action 0, []) ∷ [], [], [])) ∷ [];
        top = λ i. (codes "htn_start", 1, [], f i, ([], (None, Task 0, []) ∷ [], [], []));
        init = refl;
        goal = f;
      };
      types = refl;
      parents = refl;
      unions = refl;
    }

compiled : (mode : Checks) → IsCompiled renamed_hddl mode renamed
compiled mode = record {
  hddl = refl;
  methods = (
    plain renamed_hddl mode _ _ refl refl refl (record { schema = refl; up = tt; line = refl; heir = refl; copiers = refl; rising = none_rise; guards = ([], refl, refl) }),
    (plain renamed_hddl mode _ _ refl refl refl (record { schema = refl; up = tt; line = refl; heir = refl; copiers = refl; rising = none_rise; guards = ([], refl, refl) }), tt),
  );
}

pub renamed_is_printed : (mode : Checks) → IsPrinted renamed_hddl mode renamed 1 Adl printed
renamed_is_printed mode = printed_by smallest_hddl renamed_hddl mode smallest renamed 1 Adl printed renamed_same tt (smallest_is_printed mode) (compiled mode)

-- though the two values are not equal
renamed_differs : renamed_hddl ≡ smallest_hddl → ⊥
renamed_differs e = let f = ap (λ (h : Hddl). length h.names) e in cc

-- b in the place of a
abbrev other_word : Hddl
other_word = record smallest_hddl { names = codes "object" ∷ codes "d" ∷ codes "p" ∷ codes "htn_start" ∷ codes "t" ∷ codes "b" ∷ codes "m" ∷ [] }

other_word_differs : AreSameButNames other_word smallest_hddl → ⊥
other_word_differs same = apart (codes "b") (codes "a") refl (ap (λ ws. word_at ws 0) (action-words-same other_word smallest_hddl same))
