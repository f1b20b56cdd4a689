-- The sections of a domain or a problem: one grammar with those that spell something.
use Rattle.std.proofs.Common.{◌≡◌, ℕ, Bool, true, false, not, cond, if◌then◌else◌, ◌||◌, Option, Some, None, List, [], ◌∷◌, ◌++◌, map, codes, refl, sym, ap, subst, ◌∙◌}
use Rattle.std.proofs.lemmas.Bool.{and_from, and_parts}
use Rattle.std.specs.Option.{option_map}
use Rattle.std.specs.Str.{bytes_eq}
use Rattle.text_forms.specs.Lists.{Parts, name, group, nothing, part}
use Rattle.text_forms.specs.Placed.{Placed, cut, close, word, list, parts_of, IsWhole}
use Rattle.text_forms.specs.Words.{Word, is_among}
use Rattle.text_forms.specs.form_grammar.Codes.{Whole}
use Rattle.text_forms.specs.form_grammar.Rows.{if_allowed, form, closed}
use Rattle.text_forms.specs.form_grammar.Sections.{Language, hddl, pddl, Definition, domain, problem, SectionDue, section_rows, sections, section as section_due, section_table, has_sections, seen_behind}
use Rattle.text_forms.specs.form_grammar.Words.{Table, entry, counts_as, unknown, is_keyword, by_keyword}
use Rattle.text_forms.proofs.form_grammar.Meaning.{whole_then, then_whole}
use Rattle.hddl_reader.proofs.TermsSaid.{at_next}
use Rattle.plan_texts.specs.Sections.{without, are_sections, section, domain_once, domain_many, problem_once}
use Rattle.plan_texts.specs.SpellsHddl.{hddl_many, hddl_problem_once}
use Rattle.plan_texts.specs.Types.{EachIs}
use Rattle.plan_texts.proofs.Basics.{bytes_eq-true}
use Rattle.text_values.proofs.form_spellings.SectionTables.{Differ, without_each, without_differ, without_gone, without_other, without_same, among_each, AllSections}
use Rattle.text_values.proofs.form_spellings.Topics.{Topic, requires, type_list, object_list, predicate_list, any, a_task, a_method, an_action, of_domain, init, goal, top, due_of, Says, topic_to, topic_from}
use Rattle.text_values.proofs.form_spellings.WordTests.{false_true}

abbrev Topics : Type 0
Topics = List (Word × Topic)

abbrev pub plain_topics : Definition → Topics
plain_topics domain =
    (codes ":requirements", requires) ∷ (codes ":types", type_list) ∷ (codes ":constants", object_list) ∷ (codes ":predicates", predicate_list) ∷ (codes ":functions", any) ∷
    (codes ":action", an_action) ∷ []
plain_topics problem =
    (codes ":domain", of_domain) ∷ (codes ":requirements", requires) ∷ (codes ":objects", object_list) ∷ (codes ":init", init) ∷ (codes ":goal", goal) ∷ (codes ":metric", any) ∷ []

abbrev pub more_topics : Language → Definition → Topics
more_topics hddl domain = (codes ":task", a_task) ∷ (codes ":method", a_method) ∷ []
more_topics hddl problem = (codes ":htn", top) ∷ []
more_topics pddl d = []

abbrev pub topics : Language → Definition → Topics
topics l d = plain_topics d ++ more_topics l d

abbrev pub once_of : Language → Definition → List Word
once_of l domain = domain_once
once_of hddl problem = hddl_problem_once
once_of pddl problem = problem_once

abbrev pub many_of : Language → Definition → List Word
many_of hddl domain = hddl_many
many_of pddl domain = domain_many
many_of l problem = []

abbrev repeats : List Word
repeats = codes ":task" ∷ codes ":method" ∷ codes ":action" ∷ []

abbrev pub lookup : Topics → Word → Option Topic
lookup [] w = None
lookup (t ∷ ts) w = if bytes_eq w t.0 then Some t.1 else lookup ts w

abbrev pub says_by : Option Topic → Parts → Type 0
says_by None qs = ⊥
says_by (Some x) qs = Says x qs

-- what a section of this keyword has
abbrev pub SaysAt : Language → Definition → Word → Parts → Type 0
SaysAt l d k qs = says_by (lookup (topics l d) k) qs

abbrev due_table : Topics → Table SectionDue
due_table ts = map (λ (t : Word × Topic). (t.0, due_of t.1)) ts

entry_of : (ts : Topics) (w : Word) → entry (due_table ts) w ≡ option_map due_of (lookup ts w)
entry_of [] w = refl
entry_of (t ∷ ts) w = by (bytes_eq w t.0) (entry_of ts w)
  where
    by : (b : Bool) → entry (due_table ts) w ≡ option_map due_of (lookup ts w) → (if b then Some (due_of t.1) else entry (due_table ts) w) ≡ option_map due_of (if b then Some t.1 else lookup ts w)
    by true more = refl
    by false more = more

flat : (l : Language) (d : Definition) → section_table l d ≡ due_table (topics l d)
flat hddl domain = refl
flat hddl problem = refl
flat pddl domain = refl
flat pddl problem = refl

looked : (l : Language) (d : Definition) (w : Word) → entry (section_table l d) w ≡ option_map due_of (lookup (topics l d) w)
looked l d w = ap (λ (t : Table SectionDue). entry t w) (flat l d) ∙ entry_of (topics l d) w

-- a word of the table has what each of its words has
in_table : (Q : Word → Type 0) (ts : Topics) (w : Word) (x : Topic) → EachIs (λ (t : Word × Topic). Q t.0) ts → lookup ts w ≡ Some x → Q w
in_table Q [] w x e i = absurd (cc)
in_table Q (t ∷ ts) w x e i = by (bytes_eq w t.0) refl i (in_table Q ts w x e.1)
  where
    by : (b : Bool) → bytes_eq w t.0 ≡ b → (if b then Some t.1 else lookup ts w) ≡ Some x → (lookup ts w ≡ Some x → Q w) → Q w
    by true f i more = subst Q (sym (bytes_eq-true w t.0 f)) e.0
    by false f i more = more i

counts_same : (l : Language) (d : Definition) → EachIs (λ (t : Word × Topic). counts_as t.0 ≡ t.0) (topics l d)
counts_same hddl domain = (refl, (refl, (refl, (refl, (refl, (refl, (refl, (refl, tt))))))))
counts_same hddl problem = (refl, (refl, (refl, (refl, (refl, (refl, (refl, tt)))))))
counts_same pddl domain = (refl, (refl, (refl, (refl, (refl, (refl, tt))))))
counts_same pddl problem = (refl, (refl, (refl, (refl, (refl, (refl, tt))))))

many_repeat : (l : Language) (d : Definition) → EachIs (λ k. is_among k repeats ≡ true) (many_of l d)
many_repeat hddl domain = (refl, (refl, (refl, tt)))
many_repeat pddl domain = (refl, tt)
many_repeat hddl problem = tt
many_repeat pddl problem = tt

module _ (l : Language) (d : Definition) where
  abbrev May : List Word → Word → Bool
  May once w = is_among w once || is_among w (many_of l d)

  -- what is left to come, where these are seen
  pub record Left (seen : List Word) (once : List Word) : Type 0 where
    pub looks : (w : Word) (x : Topic) → lookup (topics l d) w ≡ Some x → not (is_among w seen) ≡ May once w
    pub known : (w : Word) → May once w ≡ true → (x : Topic) × (lookup (topics l d) w ≡ Some x)
    pub differ : Differ once
    pub new : EachIs (λ k. is_among k repeats ≡ false) once

  left_behind : (seen once : List Word) (k : Word) → Left seen once → Left (seen_behind seen (Some k)) (without k once)
  left_behind seen once k left = by (is_among k repeats) refl
    where
      not_once : is_among k repeats ≡ true → (b : Bool) → is_among k once ≡ b → is_among k once ≡ false
      not_once r false e = e
      not_once r true e = false_true (sym (among_each (λ k. is_among k repeats ≡ false) k once left.new e) ∙ r)

      not_many : is_among k repeats ≡ false → (b : Bool) → is_among k (many_of l d) ≡ b → is_among k (many_of l d) ≡ false
      not_many r false e = e
      not_many r true e = false_true (sym r ∙ among_each (λ k. is_among k repeats ≡ true) k (many_of l d) (many_repeat l d) e)

      look : is_among k repeats ≡ false → (u : Word) (x : Topic) → lookup (topics l d) u ≡ Some x → (t : Bool) → bytes_eq u k ≡ t → not (t || is_among u seen) ≡ May (without k once) u
      look r u x e true f =
          sym (subst (λ u. May (without k once) u ≡ false) (sym (bytes_eq-true u k f)) (ap (λ b. b || is_among k (many_of l d)) (without_gone k once left.differ) ∙ not_many r (is_among k (many_of l d)) refl))
      look r u x e false f = left.looks u x e ∙ ap (λ b. b || is_among u (many_of l d)) (sym (without_other k u once f))

      stay : (u : Word) (t : Bool) → bytes_eq u k ≡ t → is_among k repeats ≡ false → May (without k once) u ≡ true → May once u ≡ true
      stay u true f r e = false_true (sym (ap (λ b. b || is_among k (many_of l d)) (without_gone k once left.differ) ∙ not_many r (is_among k (many_of l d)) refl) ∙ subst (λ u. May (without k once) u ≡ true) (bytes_eq-true u k f) e)
      stay u false f r e = ap (λ b. b || is_among u (many_of l d)) (sym (without_other k u once f)) ∙ e

      by : (r : Bool) → is_among k repeats ≡ r → Left (if r then seen else k ∷ seen) (without k once)
      by true r = subst (Left seen) (sym (without_same k once (not_once r (is_among k once) refl))) left
      by false r = record {
        looks = λ u x e. look r u x e (bytes_eq u k) refl;
        known = λ u e. left.known u (stay u (bytes_eq u k) refl r e);
        differ = without_differ k once left.differ;
        new = without_each (λ k. is_among k repeats ≡ false) k once left.new;
      }

  key_to : (seen : List Word) (k : Word) (at : ℕ) (R : Placed) → Whole (at_next section_rows (by_keyword (section_table l d) seen (λ x. x) k) at R)
      → (x : Topic) × (lookup (topics l d) k ≡ Some x) × (not (is_among k seen) ≡ true) × Whole (form section_rows (due_of x) R)
  key_to seen k at R h = by (lookup (topics l d) k) refl (subst (λ (o : Option SectionDue). Whole (at_next section_rows (elim o [ None ↦ unknown (is_keyword k) | Some x ↦ if_allowed (not (is_among (counts_as k) seen)) 7 x ]) at R)) (looked l d k) h)
    where
      none : (b : Bool) → Whole (at_next section_rows (unknown {X = SectionDue} b) at R) → ⊥
      none true h = h
      none false h = h

      allowed : (b : Bool) (x : SectionDue) → Whole (at_next section_rows (if_allowed b 7 x) at R) → (b ≡ true) × Whole (form section_rows x R)
      allowed true x h = (refl, h)
      allowed false x h = absurd h

      by : (o : Option Topic) → lookup (topics l d) k ≡ o → Whole (at_next section_rows (elim (option_map due_of o) [ None ↦ unknown (is_keyword k) | Some x ↦ if_allowed (not (is_among (counts_as k) seen)) 7 x ]) at R)
          → (x : Topic) × (lookup (topics l d) k ≡ Some x) × (not (is_among k seen) ≡ true) × Whole (form section_rows (due_of x) R)
      by None e h = absurd (none (is_keyword k) h)
      by (Some x) e h =
          let a = allowed (not (is_among (counts_as k) seen)) (due_of x) h in
          (x, e, ap (λ u. not (is_among u seen)) (sym (in_table (λ k. counts_as k ≡ k) (topics l d) k x (counts_same l d) e)) ∙ a.0, a.1)

  key_from : (seen : List Word) (k : Word) (at : ℕ) (R : Placed) (x : Topic) → lookup (topics l d) k ≡ Some x → not (is_among k seen) ≡ true → Whole (form section_rows (due_of x) R)
      → Whole (at_next section_rows (by_keyword (section_table l d) seen (λ x. x) k) at R)
  key_from seen k at R x e n h =
      subst (λ (o : Option SectionDue). Whole (at_next section_rows (elim o [ None ↦ unknown (is_keyword k) | Some x ↦ if_allowed (not (is_among (counts_as k) seen)) 7 x ]) at R))
      (sym (looked l d k ∙ ap (option_map due_of) e)) (allow (not (is_among (counts_as k) seen)) (ap (λ u. not (is_among u seen)) (in_table (λ k. counts_as k ≡ k) (topics l d) k x (counts_same l d) e) ∙ n))
    where
      allow : (b : Bool) → b ≡ true → Whole (at_next section_rows (if_allowed b 7 (due_of x)) at R)
      allow true e = h
      allow false e = false_true e

abbrev pub there : Option Parts → Bool
there None = false
there (Some ps) = true

-- a problem's network is seen or stands
abbrev pub ends_with : Language → Definition → List Word → Parts → Bool
ends_with l domain seen ps = true
ends_with hddl problem seen ps = is_among (codes ":htn") seen || there (section (codes ":htn") ps)
ends_with pddl problem seen ps = true

at_end : (l : Language) (d : Definition) (seen : List Word) → ends_with l d seen nothing ≡ has_sections l d seen
at_end l domain seen = refl
at_end pddl problem seen = refl
at_end hddl problem seen = by (is_among (codes ":htn") seen)
  where
    by : (b : Bool) → b || false ≡ b
    by true = refl
    by false = refl

ends_behind : (l : Language) (d : Definition) (seen : List Word) (k : Word) (qs ps : Parts) → ends_with l d seen (part (group (part (name k) qs)) ps) ≡ ends_with l d (seen_behind seen (Some k)) ps
ends_behind l domain seen k qs ps = refl
ends_behind pddl problem seen k qs ps = refl
ends_behind hddl problem seen k qs ps = by (bytes_eq (codes ":htn") k) refl (is_among k repeats) refl
  where
    no_repeat : is_among (codes ":htn") repeats ≡ false
    no_repeat = refl

    true_right : (a : Bool) → a || true ≡ true
    true_right true = refl
    true_right false = refl

    by : (b : Bool) → bytes_eq (codes ":htn") k ≡ b → (r : Bool) → is_among k repeats ≡ r
        → is_among (codes ":htn") seen || there (cond b (Some qs) (section (codes ":htn") ps)) ≡ is_among (codes ":htn") (if r then seen else k ∷ seen) || there (section (codes ":htn") ps)
    by true e true r = false_true (sym (subst (λ k. is_among k repeats ≡ false) (bytes_eq-true (codes ":htn") k e) no_repeat) ∙ r)
    by true e false r = true_right (is_among (codes ":htn") seen) ∙ sym (ap (λ b. (b || is_among (codes ":htn") seen) || there (section (codes ":htn") ps)) e)
    by false e true r = refl
    by false e false r = sym (ap (λ b. (b || is_among (codes ":htn") seen) || there (section (codes ":htn") ps)) e)

closed_if : (b : Bool) (at : ℕ) → Whole (closed (if_allowed b 8 tt) at) → b ≡ true
closed_if true at h = refl
closed_if false at h = absurd h

if_closed : (b : Bool) (at : ℕ) → b ≡ true → Whole (closed (if_allowed b 8 tt) at)
if_closed true at e = tt
if_closed false at e = false_true e

module _ (l : Language) (d : Definition) where
  abbrev pub Listed : List Word → List Word → Parts → Type 0
  Listed seen once ps = (are_sections once (many_of l d) ps ≡ true) × AllSections (SaysAt l d) ps × (ends_with l d seen ps ≡ true)

  pub sections_to : (q : Placed) (seen once : List Word) → Left l d seen once → Whole (form section_rows (sections l d seen) q) → Listed seen once (parts_of q)
  sections_to cut seen once left h = absurd h
  sections_to (close at) seen once left h = (refl, tt, at_end l d seen ∙ closed_if (has_sections l d seen) at h)
  sections_to (word at w r) seen once left h = absurd h
  sections_to (list at cut T) seen once left h = absurd (whole_then (form section_rows (section_due l d seen) cut) (form section_rows (sections l d seen) T) h).0
  sections_to (list at (close b) T) seen once left h = absurd (whole_then (form section_rows (section_due l d seen) (close b)) (form section_rows (sections l d seen) T) h).0
  sections_to (list at (list b S U) T) seen once left h = absurd (whole_then (form section_rows (section_due l d seen) (list b S U)) (form section_rows (sections l d seen) T) h).0
  sections_to (list at (word b k R) T) seen once left h =
      let c = whole_then (form section_rows (section_due l d seen) (word b k R)) (form section_rows (sections l d (seen_behind seen (Some k))) T) h in
      let x = key_to l d seen k b R c.0 in
      let m = sections_to T (seen_behind seen (Some k)) (without k once) (left_behind l d seen once k left) c.1 in (
        and_from (is_among k once || is_among k (many_of l d)) (are_sections (without k once) (many_of l d) (parts_of T)) (sym (left.looks k x.0 x.1) ∙ x.2) m.0,
        (subst (λ o. says_by o (parts_of R)) (sym x.1) (topic_to x.0 R x.3), m.1),
        ends_behind l d seen k (parts_of R) (parts_of T) ∙ m.2,
      )

  pub sections_from : (q : Placed) (seen once : List Word) → Left l d seen once → IsWhole q → Listed seen once (parts_of q) → Whole (form section_rows (sections l d seen) q)
  sections_from cut seen once left w i = w
  sections_from (close at) seen once left w i = if_closed (has_sections l d seen) at (sym (at_end l d seen) ∙ i.2)
  sections_from (word at u r) seen once left w i = absurd i.1
  sections_from (list at cut T) seen once left w i = absurd w.0
  sections_from (list at (close b) T) seen once left w i = absurd i.1
  sections_from (list at (list b S U) T) seen once left w i = absurd i.1
  sections_from (list at (word b k R) T) seen once left w i =
      let a = and_parts (is_among k once || is_among k (many_of l d)) (are_sections (without k once) (many_of l d) (parts_of T)) i.0 in
      let x = left.known k a.0 in
      let m = sections_from T (seen_behind seen (Some k)) (without k once) (left_behind l d seen once k left) w.1 (a.1, i.1.1, sym (ends_behind l d seen k (parts_of R) (parts_of T)) ∙ i.2) in
      then_whole (form section_rows (section_due l d seen) (word b k R)) (form section_rows (sections l d (seen_behind seen (Some k))) T)
      (key_from l d seen k b R x.0 x.1 (left.looks k x.0 x.1 ∙ a.0) (topic_from x.0 R w.0 (subst (λ o. says_by o (parts_of R)) x.1 i.1.0))) m

-- in front of all sections
known_from : (ts : Topics) (once many : List Word) → EachIs (λ k. (x : Topic) × (lookup ts k ≡ Some x)) once → EachIs (λ k. (x : Topic) × (lookup ts k ≡ Some x)) many → (w : Word) → is_among w once || is_among w many ≡ true → (x : Topic) × (lookup ts w ≡ Some x)
known_from ts once many a b w e = by (is_among w once) refl e
  where
    by : (c : Bool) → is_among w once ≡ c → c || is_among w many ≡ true → (x : Topic) × (lookup ts w ≡ Some x)
    by true f e = among_each (λ k. (x : Topic) × (lookup ts k ≡ Some x)) w once a f
    by false f e = among_each (λ k. (x : Topic) × (lookup ts k ≡ Some x)) w many b e

pub all_left : (l : Language) (d : Definition) → Left l d [] (once_of l d)
all_left l d = record {
  looks = λ w x e. sym (in_table (λ w. is_among w (once_of l d) || is_among w (many_of l d) ≡ true) (topics l d) w x (may l d) e);
  known = known_from (topics l d) (once_of l d) (many_of l d) (once_known l d) (many_known l d);
  differ = differ l d;
  new = new l d;
}
  where
    may : (l : Language) (d : Definition) → EachIs (λ (t : Word × Topic). is_among t.0 (once_of l d) || is_among t.0 (many_of l d) ≡ true) (topics l d)
    may hddl domain = (refl, (refl, (refl, (refl, (refl, (refl, (refl, (refl, tt))))))))
    may hddl problem = (refl, (refl, (refl, (refl, (refl, (refl, (refl, tt)))))))
    may pddl domain = (refl, (refl, (refl, (refl, (refl, (refl, tt))))))
    may pddl problem = (refl, (refl, (refl, (refl, (refl, (refl, tt))))))

    once_known : (l : Language) (d : Definition) → EachIs (λ k. (x : Topic) × (lookup (topics l d) k ≡ Some x)) (once_of l d)
    once_known hddl domain = ((_, refl), ((_, refl), ((_, refl), ((_, refl), ((_, refl), tt)))))
    once_known pddl domain = ((_, refl), ((_, refl), ((_, refl), ((_, refl), ((_, refl), tt)))))
    once_known hddl problem = ((_, refl), ((_, refl), ((_, refl), ((_, refl), ((_, refl), ((_, refl), ((_, refl), tt)))))))
    once_known pddl problem = ((_, refl), ((_, refl), ((_, refl), ((_, refl), ((_, refl), ((_, refl), tt))))))

    many_known : (l : Language) (d : Definition) → EachIs (λ k. (x : Topic) × (lookup (topics l d) k ≡ Some x)) (many_of l d)
    many_known hddl domain = ((_, refl), ((_, refl), ((_, refl), tt)))
    many_known pddl domain = ((_, refl), tt)
    many_known hddl problem = tt
    many_known pddl problem = tt

    new : (l : Language) (d : Definition) → EachIs (λ k. is_among k repeats ≡ false) (once_of l d)
    new l domain = (refl, (refl, (refl, (refl, (refl, tt)))))
    new hddl problem = (refl, (refl, (refl, (refl, (refl, (refl, (refl, tt)))))))
    new pddl problem = (refl, (refl, (refl, (refl, (refl, (refl, tt))))))

    differ : (l : Language) (d : Definition) → Differ (once_of l d)
    differ l domain = ((refl, (refl, (refl, (refl, tt)))), ((refl, (refl, (refl, tt))), ((refl, (refl, tt)), ((refl, tt), (tt, tt)))))
    differ hddl problem =
        ((refl, (refl, (refl, (refl, (refl, (refl, tt)))))), ((refl, (refl, (refl, (refl, (refl, tt))))), ((refl, (refl, (refl, (refl, tt)))), ((refl, (refl, (refl, tt))), ((refl, (refl, tt)), ((refl, tt), (tt, tt)))))))
    differ pddl problem = ((refl, (refl, (refl, (refl, (refl, tt))))), ((refl, (refl, (refl, (refl, tt)))), ((refl, (refl, (refl, tt))), ((refl, (refl, tt)), ((refl, tt), (tt, tt))))))
