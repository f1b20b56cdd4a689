-- The texts that are printed of what is kept of a problem spell it.
use Rattle.std.proofs.Common.{ℕ, ◌≡◌, ◌<◌, List, [], ◌∷◌, map, length, ap, sym, subst, Contains}
use Rattle.std.proofs.lemmas.Option.{slice_get_within}
use Rattle.text_forms.specs.Words.{Word}
use Rattle.plan_texts.specs.Types.{EachIs}
use Rattle.plan_texts.specs.Alike.{child_said, method_said, AreAlikeHddl}
use Rattle.plan_texts.specs.FirstSeen.{IsHddlOf}
use Rattle.plan_texts.specs.SpellsHddl.{hddl_words}
use Rattle.plan_texts.specs.Printable.{IsSound, IsSoundEffect}
use Rattle.plan_texts.specs.SoundValue.{arities, scope_of, IsSoundChild, IsSoundMethod}
use Rattle.plan_texts.specs.SoundProblem.{IsSoundProblem}
use Rattle.plan_texts.specs.Together.{Together}
use Rattle.plan_texts.proofs.Together.{maps-length, together-of_maps, together-each}
use Rattle.plan_texts.proofs.Members.{each-has, contains-has}
use Rattle.plan_texts.proofs.SoundProblems.{each-of}
use Rattle.plan_texts.proofs.UniqueHddl.{hddl_alike}
use Rattle.plan_model.specs.Pairs.{Pairs}
use Rattle.plan_model.specs.declared.networks.Head.TheVariants.{Action}
use Rattle.plan_model.specs.declared.networks.Child.{Child}
use Rattle.plan_model.specs.declared.schemas.ActionSchema.{ActionSchema}
use Rattle.plan_model.specs.declared.schemas.MethodSchema.{MethodSchema}
use Rattle.plan_model.specs.declared.values.Hddl.{Hddl}
use Rattle.plan_model.specs.task_networks.Order.{ArePairsOf, IsAcyclic}
use Rattle.plan_model.specs.plan_meaning.Laws.{AreOrdered}
use Rattle.live_parts.specs.Live.{Parts}
use Rattle.live_parts.specs.Kept.{Kept, AreKept}
use Rattle.live_parts.specs.Pruned.{only, renamed_child, renamed_method, pruned}
use Rattle.live_parts.proofs.OnlyLists.{only_each}
use Rattle.live_parts.proofs.PrunedNetwork.{reached_in}
use Rattle.live_parts.proofs.PrunedSound.{sound_is_numbered, is_sound, is_ordered}
use Rattle.hddl_texts.specs.Ids.{with_constants, with_ids, IsOfTwoTexts}
use Rattle.hddl_texts.proofs.DomainNames.{of_two_texts}
use Rattle.hddl_texts.proofs.PrintedHddlSpells.{printed_hddl_spells}
use Rattle.hddl_texts.proofs.PrintedIds.{still-ordered}
use Rattle.pruned_answers.specs.PrunedTexts.{AreItsTexts, PrunedTextsSpell}

-- what is kept of what two texts say is of two texts
module _ (h : Hddl) (sound : IsSoundProblem h) (apart : IsOfTwoTexts h) (live : Parts) (kept : Kept) (are : AreKept h live kept) where
  abbrev H : Hddl
  H = pruned kept h

  actions_in : (a : ℕ) → Contains kept.actions a → a < length h.actions
  actions_in a k = reached_in h live (sound_is_numbered h sound) (Action a) ((are.actions a).0 k)

  methods_in : (n : ℕ) → Contains kept.methods n → n < length h.methods
  methods_in n k = let (l, (s, e, r)) = (are.methods n).0 k in slice_get_within h.methods n s e

  -- what a subtask names is kept, and its arguments are those that it had
  children : (scope : List Word) (cs : List Child) → EachIs (IsSoundChild H scope) (map (renamed_child kept) cs) → EachIs (IsSoundChild (with_constants h) scope) cs → EachIs (IsSoundChild (with_constants H) scope) (map (renamed_child kept) cs)
  children scope [] e f = tt
  children scope (c ∷ cs) e f = ((e.0.0, f.0.1), children scope cs e.1 f.1)

  methods : (ss : List MethodSchema) → EachIs (IsSoundMethod H) (map (renamed_method kept) ss) → EachIs (IsSoundMethod (with_constants h)) ss → EachIs (IsSoundMethod (with_constants H)) (map (renamed_method kept) ss)
  methods [] e f = tt
  methods (s ∷ ss) e f = (
    record { params = f.0.params; task_args = f.0.task_args; pre = f.0.pre; children = children (scope_of h s.params) s.children e.0.children f.0.children; constraints = f.0.constraints },
    methods ss e.1 f.1,
  )

  pub still_apart : IsOfTwoTexts H
  still_apart = record {
    objects = apart.objects;
    pre = only_each h.actions (λ (a : ActionSchema). IsSound (hddl_words (with_constants h)) (arities h) a.pre (scope_of h a.params)) kept.actions actions_in apart.pre;
    eff = only_each h.actions (λ (a : ActionSchema). IsSoundEffect (hddl_words (with_constants h)) (arities h) a.eff (scope_of h a.params)) kept.actions actions_in apart.eff;
    methods = methods (only h.methods kept.methods) (is_sound h sound live kept are).value.methods (only_each h.methods (IsSoundMethod (with_constants h)) kept.methods methods_in apart.methods);
    top_named = apart.top_named;
  }

-- alike values have cycles alike
module _ (c d : Hddl) (alike : AreAlikeHddl c d) where
  abbrev IsOrdered : MethodSchema → Type 0
  IsOrdered s = ArePairsOf (Pairs s.pairs) (length s.children) × IsAcyclic (Pairs s.pairs)

  abbrev IsSame : MethodSchema → MethodSchema → Type 0
  IsSame s t = method_said (hddl_words d) s ≡ method_said (hddl_words c) t

  pub ordered_alike : AreOrdered c → AreOrdered d
  ordered_alike o = λ s h. each-has IsOrdered (d.top ∷ d.methods) s (together-each IsSame IsOrdered IsOrdered one (d.top ∷ d.methods) (c.top ∷ c.methods) all_same (each-of IsOrdered (c.top ∷ c.methods) o)) (contains-has (d.top ∷ d.methods) s h)
    where
      all_same : Together IsSame (d.top ∷ d.methods) (c.top ∷ c.methods)
      all_same = (sym alike.top, together-of_maps (method_said (hddl_words d)) (method_said (hddl_words c)) d.methods c.methods (sym alike.methods))

      one : (s t : MethodSchema) → IsSame s t → IsOrdered t → IsOrdered s
      one s t e k =
          let n = maps-length (child_said (hddl_words d)) (child_said (hddl_words c)) s.children t.children (ap (λ z. z.4.1) e) in
          subst (λ (z : Type 0). z) (sym (λ i. ArePairsOf (Pairs (e i).4.2) (n i) × IsAcyclic (Pairs (e i).4.2))) k

module _ (domain problem : List ℕ) (h : Hddl) (spelled : IsHddlOf domain problem h) (sound : IsSoundProblem h) (ordered : AreOrdered h) where
  apart : IsOfTwoTexts h
  apart = of_two_texts domain problem h spelled.spelled sound.value

  pub kept_texts : (live : Parts) (kept : Kept) → AreKept h live kept → AreItsTexts (pruned kept h)
  kept_texts live kept are =
      let s = is_sound h sound live kept are in
      let o = is_ordered h sound live kept are ordered in
      let a = still_apart h sound apart live kept are in
      let p = printed_hddl_spells (pruned kept h) s a in
      record {
        sound = s;
        ordered = o;
        apart = a;
        spelled = p;
        alike = λ read e. hddl_alike (with_ids (pruned kept h)) read _ _ p e;
        read_ordered = λ read e. ordered_alike (with_ids (pruned kept h)) read (hddl_alike (with_ids (pruned kept h)) read _ _ p e) (still-ordered (pruned kept h) o);
      }

  pub pruned_texts_spell : PrunedTextsSpell h
  pruned_texts_spell value is = subst AreItsTexts (sym is.is) (kept_texts is.live is.kept is.kept_is)
