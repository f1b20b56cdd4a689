-- All values of two source texts are the same but for names, so that what is printed for one is printed for each.
use Rattle.std.proofs.Common.{ℕ, ◌≡◌, ◌<◌, List, [], ◌∷◌, map, length, ap, sym, subst, ◌∙◌}
use Rattle.text_forms.specs.Words.{Word, word_at}
use Rattle.plan_texts.specs.Declared.{named}
use Rattle.htn_base.specs.Different.{AreDifferent}
use Rattle.plan_texts.specs.Types.{EachIs}
use Rattle.plan_texts.specs.SpellsHddl.{hddl_types, hddl_words}
use Rattle.plan_texts.specs.Printable.{IsPlain}
use Rattle.plan_texts.specs.SoundValue.{IsSoundHddl}
use Rattle.plan_texts.specs.FirstSeen.{IsHddlOf}
use Rattle.plan_texts.specs.PrintedTexts.{domain_text, problem_text}
use Rattle.plan_texts.specs.Alike.{child_said, method_said}
use Rattle.plan_texts.proofs.Members.{length-map, each-has, contains-has}
use Rattle.plan_texts.proofs.Places.{each-at}
use Rattle.plan_texts.proofs.SoundProblems.{each-of}
use Rattle.plan_texts.proofs.OneOrder.{one-order}
use Rattle.plan_texts.proofs.UniqueHddl.{hddl_alike}
use Rattle.plan_model.specs.declared.options.Checks.{Checks}
use Rattle.plan_model.specs.declared.options.Style.{Style}
use Rattle.plan_model.specs.declared.schemas.MethodSchema.{MethodSchema}
use Rattle.plan_model.specs.declared.values.Compiled.{Compiled}
use Rattle.plan_model.specs.declared.values.Hddl.{Hddl}
use Rattle.plan_model.specs.declared.values.Pddl.{Pddl}
use Rattle.plan_model.specs.task_networks.Order.{ArePairsOf, IsAcyclic}
use Rattle.plan_model.specs.plan_meaning.Compilation.{AreMethodPlans, IsCompiled}
use Rattle.plan_model.specs.Pairs.{Pairs}
use Rattle.plan_model.specs.plan_meaning.Laws.{AreOrdered}
use Rattle.plan_model.specs.plan_meaning.SpelledPlan.{IsSpelling}
use Rattle.plan_proof.specs.Headline.{Headline, HeadlineAtBound}
use Rattle.slot_encoding.specs.EncodedValue.{IsEncoded}
use Rattle.slot_encoding.specs.Printed.{IsPrinted}
use Rattle.plan_proof.proofs.machine.Bounds.{loses_nothing}
use Rattle.plan_proof.proofs.machine.PrintedMeans.{printed_faithful, faithful_texts}
use Rattle.plan_proof.specs.Same.{AreSameButNames}
use Rattle.plan_texts.specs.Together.{Together}
use Rattle.plan_texts.proofs.Together.{maps-length, together-of_maps, together-each}
use Rattle.plan_proof.proofs.values.TypeNumbers.{AreApart, word-within, word-once, unions-apart, plain-some}
use Rattle.plan_proof.proofs.values.SameSound.{sound_too}
use Rattle.plan_proof.proofs.values.SamePlans.{plans-both}
use Rattle.plan_proof.proofs.values.SameActions.{Alike}
use Rattle.plan_proof.proofs.values.SameValue.{encoded_too}

-- numbers of words that differ, by the words
module _ (types : List Word) (plain : EachIs IsPlain types) (differ : AreDifferent types) where
  numbers-same : (ss ts : List ℕ) → map (word_at types) ss ≡ map (word_at types) ts → EachIs (λ t. t < length types) ts → ss ≡ ts
  numbers-same [] [] e l = cc
  numbers-same [] (t ∷ ts) e l = absurd (cc)
  numbers-same (s ∷ ss) [] e l = absurd (cc)
  numbers-same (s ∷ ss) (t ∷ ts) e l =
      let f : word_at types s ≡ word_at types t = cc in
      let p = each-at IsPlain types t plain l.0 in
      let m : s < length types = word-within types s (λ g. plain-some _ p (sym f ∙ g)) in
      let h = word-once types s t differ m l.0 f in
      let r = numbers-same ss ts (cc) l.1 in
      λ i. h i ∷ r i

  lists-same : (ss ts : List (List ℕ)) → map (map (word_at types)) ss ≡ map (map (word_at types)) ts → EachIs (EachIs (λ t. t < length types)) ts → ss ≡ ts
  lists-same [] [] e l = cc
  lists-same [] (t ∷ ts) e l = absurd (cc)
  lists-same (s ∷ ss) [] e l = absurd (cc)
  lists-same (s ∷ ss) (t ∷ ts) e l = let h = numbers-same s t (cc) l.0 in let r = lists-same ss ts (cc) l.1 in λ i. h i ∷ r i

-- the values of two texts, of which one is sound
module _ (domain problem : List ℕ) (c d : Hddl) (hc : IsHddlOf domain problem c) (hd : IsHddlOf domain problem d) (sound : IsSoundHddl d) where
  pub same_but_names : AreSameButNames c d
  same_but_names =
      let (types, parents, unions) = one-order c d domain problem hc hd in
      let count = sym (length-map (named d.names) d.types.names) in
      record {
        alike = hddl_alike c d domain problem hc.spelled hd.spelled;
        types = types;
        parents = parents;
        unions = lists-same (hddl_types d) sound.words.types sound.words.types_differ c.types.unions d.types.unions (ap (λ z. map (map (word_at z)) c.types.unions) (sym types) ∙ unions) (subst (λ n. EachIs (EachIs (λ t. t < n)) d.types.unions) count sound.unions);
      }

  pub unions_apart : AreApart (hddl_words d).unions
  unions_apart = subst AreApart (sym hd.ordered.unions) (unions-apart [] _).1

-- its networks are ordered where those of the other are
abbrev IsOrdered : MethodSchema → Type 0
IsOrdered s = ArePairsOf (Pairs s.pairs) (length s.children) × IsAcyclic (Pairs s.pairs)

module _ (c d : Hddl) (same : AreSameButNames c d) where
  abbrev IsSame : MethodSchema → MethodSchema → Type 0
  IsSame s t = method_said (hddl_words c) s ≡ method_said (hddl_words d) t

  all_same : Together IsSame (c.top ∷ c.methods) (d.top ∷ d.methods)
  all_same = (same.alike.top, together-of_maps (method_said (hddl_words c)) (method_said (hddl_words d)) c.methods d.methods same.alike.methods)

  pub ordered_too : AreOrdered d → AreOrdered c
  ordered_too o = λ s h. each-has IsOrdered (c.top ∷ c.methods) s (together-each IsSame IsOrdered IsOrdered one (c.top ∷ c.methods) (d.top ∷ d.methods) all_same (each-of IsOrdered (d.top ∷ d.methods) o)) (contains-has (c.top ∷ c.methods) s h)
    where
      one : (s t : MethodSchema) → IsSame s t → IsOrdered t → IsOrdered s
      one s t e k =
          let n = maps-length (child_said (hddl_words c)) (child_said (hddl_words d)) s.children t.children (ap (λ z. z.4.1) e) in
          subst (λ (z : Type 0). z) (sym (λ i. ArePairsOf (Pairs (e i).4.2) (n i) × IsAcyclic (Pairs (e i).4.2))) k

-- what is compiled of the one and of the other is alike, where no two unions have the same words
module _ (h h' : Hddl) (mode : Checks) (c c' : Compiled) (same : AreSameButNames h' h) (apart : AreApart (hddl_words h).unions) (sound : IsSoundHddl h) (compiled : IsCompiled h mode c) (compiled' : IsCompiled h' mode c') where
  pub same_here : AreSameButNames c'.hddl c.hddl
  same_here = subst (λ z. AreSameButNames z c.hddl) (sym compiled'.hddl) (subst (AreSameButNames h') (sym compiled.hddl) same)

  pub apart_here : AreApart (hddl_words c.hddl).unions
  apart_here = subst (λ z. AreApart (hddl_words z).unions) (sym compiled.hddl) apart

  pub sound_here : IsSoundHddl c.hddl
  sound_here = subst IsSoundHddl (sym compiled.hddl) sound

  pub sound_there : IsSoundHddl c'.hddl
  sound_there = sound_too c'.hddl c.hddl same_here sound_here

  pub plans_here : Together (Alike c' c same_here sound_there sound_here apart_here) c'.methods c.methods
  plans_here =
      let ps = subst (λ (z : Hddl). AreMethodPlans z mode (z.top ∷ z.methods) c.methods) (sym compiled.hddl) compiled.methods in
      let ps' = subst (λ (z : Hddl). AreMethodPlans z mode (z.top ∷ z.methods) c'.methods) (sym compiled'.hddl) compiled'.methods in
      plans-both c'.hddl c.hddl same_here sound_there sound_here apart_here mode (c'.hddl.top ∷ c'.hddl.methods) (c.hddl.top ∷ c.hddl.methods) (all_same c'.hddl c.hddl same_here) (sound_there.top, sound_there.methods) (sound_here.top, sound_here.methods) c'.methods c.methods ps' ps

  -- so what is encoded for the one is encoded for the other
  pub encoded_by : (b : ℕ) (style : Style) (p : Pddl) → IsEncoded c b style p → IsEncoded c' b style p
  encoded_by b style p = encoded_too c' c same_here sound_there sound_here apart_here plans_here b style p

-- and so what is printed
module _ (h h' : Hddl) (mode : Checks) (c c' : Compiled) (b : ℕ) (style : Style) (p : Pddl) (same : AreSameButNames h' h) (apart : AreApart (hddl_words h).unions) (printed : IsPrinted h mode c b style p) (compiled' : IsCompiled h' mode c') where
  pub printed_by : IsPrinted h' mode c' b style p
  printed_by = record {
    sound = sound_too h' h same printed.sound;
    compiled = compiled';
    printable = printed.printable;
    encoded = encoded_by h h' mode c c' same apart printed.sound printed.compiled compiled' b style p printed.encoded;
  }

-- for two values of the same texts
module _ (domain problem : List ℕ) (h h' : Hddl) (mode : Checks) (c c' : Compiled) (b : ℕ) (style : Style) (p : Pddl) (spelled : IsHddlOf domain problem h) (spelled' : IsHddlOf domain problem h') (printed : IsPrinted h mode c b style p) (compiled' : IsCompiled h' mode c') where
  pub printed_too : IsPrinted h' mode c' b style p
  printed_too =
      printed_by h h' mode c c' b style p (same_but_names domain problem h' h spelled' spelled printed.sound) (unions_apart domain problem h' h spelled' spelled printed.sound) printed compiled'

  pub ordered_here : AreOrdered h → AreOrdered h'
  ordered_here = ordered_too h' h (same_but_names domain problem h' h spelled' spelled printed.sound)

module _ (domain problem : List ℕ) (h : Hddl) (mode : Checks) (c : Compiled) (b : ℕ) (style : Style) (p : Pddl) (spelled : IsHddlOf domain problem h) (printed : IsPrinted h mode c b style p) (ordered : AreOrdered h) where
  pub headline_of : Headline domain problem mode b (domain_text p) (problem_text p)
  headline_of h' c' spelled' compiled' =
      let q = printed_too domain problem h h' mode c c' b style p spelled spelled' printed compiled' in
      let o = ordered_here domain problem h h' mode c c' b style p spelled spelled' printed compiled' ordered in
      faithful_texts IsSpelling c' b p q.printable (printed_faithful h' mode c' b style p o q)

  pub headline_at_bound_of : HeadlineAtBound domain problem mode b (domain_text p) (problem_text p)
  headline_at_bound_of h' c' n spelled' compiled' tail bound enough =
      loses_nothing h' mode c' compiled' n bound IsSpelling b (domain_text p) (problem_text p) enough (headline_of h' c' spelled' compiled')
