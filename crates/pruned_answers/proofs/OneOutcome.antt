-- Pruning comes to something, and to one thing alone, whichever value of two texts is taken.
use Rattle.std.proofs.Common.{ℕ, ◌≡◌, ◌⊎◌, inl, inr, List, refl, sym, subst}
use Rattle.plan_texts.specs.FirstSeen.{IsHddlOf}
use Rattle.plan_texts.specs.SpellsHddl.{hddl_words}
use Rattle.plan_texts.specs.SoundProblem.{IsSoundProblem}
use Rattle.plan_texts.specs.Alike.{action_said, task_said, method_said}
use Rattle.plan_texts.proofs.Together.{maps-length}
use Rattle.plan_model.specs.declared.networks.Head.{Head}
use Rattle.plan_model.specs.declared.networks.Head.TheVariants.{Task, Action}
use Rattle.plan_model.specs.declared.values.Hddl.{Hddl}
use Rattle.plan_proof.specs.Same.{AreSameButNames}
use Rattle.plan_proof.proofs.values.Headlines.{same_but_names}
use Rattle.plan_proof.proofs.values.Pairing.{increasing-same}
use Rattle.plan_proof.proofs.values.SameTypes.{same_back}
use Rattle.live_parts.specs.Live.{Parts, AreAmong, AreLive, MayBeSolved}
use Rattle.live_parts.specs.Kept.{Kept, IsReached, below_top, below, IsKeptMethod, AreKept}
use Rattle.live_parts.specs.Pruned.{pruned}
use Rattle.live_parts.proofs.LiveExists.{more_live, more_method, solved_is_told, live_exactly}
use Rattle.live_parts.proofs.KeptExists.{kept_exactly}
use Rattle.live_parts.proofs.PrunedSound.{sound_is_numbered}
use Rattle.hddl_prune.specs.Pruning.{IsPruned, CannotBeSolved}
use Rattle.pruned_answers.specs.PruneLaws.{ArePrunedAlike, TellTheSame, HaveOneOutcome, IsPrunedSomehow}
use Rattle.pruned_answers.proofs.SpelledWords.{spelled_words}
use Rattle.pruned_answers.proofs.AlikeLive.{AreAlikeSound, live_same, solved_same, kept_same}
use Rattle.pruned_answers.proofs.PrunedAlike.{pruned_same}
use Rattle.pruned_answers.proofs.SameTexts.{same_domain, same_problem}

-- parts of one problem that are both least
module _ (h : Hddl) (some others : Parts) (are : AreLive h some) (are' : AreLive h others) where
  among : AreAmong some others
  among = are.least others are'.closed

  more_reached : (head : Head) → IsReached h some head → IsReached h others head
  more_reached head (below_top k) = below_top k
  more_reached head (below {child} {n} {s} is k r m) = below is (among.methods n k) (more_reached (Task s.task) r) m

  more_kept : (n : ℕ) → IsKeptMethod h some n → IsKeptMethod h others n
  more_kept n (k, (s, is, r)) = (among.methods n k, (s, is, more_reached (Task s.task) r))

  more_solved : MayBeSolved h some → MayBeSolved h others
  more_solved x = record { top = more_method h some others among h.top x.top; goal = more_live h some others among h.goal x.goal }

-- so what is kept is one list of each kind
one_kept : (h : Hddl) (some others : Parts) → AreLive h some → AreLive h others → (kept kept' : Kept) → AreKept h some kept → AreKept h others kept' → kept ≡ kept'
one_kept h some others are are' kept kept' x y =
    let a = increasing-same kept.tasks kept'.tasks x.tasks_in_order y.tasks_in_order
    (λ t k. (y.tasks t).1 (more_reached h some others are are' (Task t) ((x.tasks t).0 k))) (λ t k. (x.tasks t).1 (more_reached h others some are' are (Task t) ((y.tasks t).0 k))) in
    let b = increasing-same kept.actions kept'.actions x.actions_in_order y.actions_in_order
    (λ t k. (y.actions t).1 (more_reached h some others are are' (Action t) ((x.actions t).0 k))) (λ t k. (x.actions t).1 (more_reached h others some are' are (Action t) ((y.actions t).0 k))) in
    let m = increasing-same kept.methods kept'.methods x.methods_in_order y.methods_in_order
    (λ n k. (y.methods n).1 (more_kept h some others are are' n ((x.methods n).0 k))) (λ n k. (x.methods n).1 (more_kept h others some are' are n ((y.methods n).0 k))) in
    λ i. record { tasks = a i; actions = b i; methods = m i }

module _ (c d : Hddl) (t : AreAlikeSound c d) (same : AreSameButNames c d) where
  pruned_alike : ArePrunedAlike c d
  pruned_alike = record {
    live = live_same c d t;
    solved = solved_same c d t;
    kept = kept_same c d t;
    domain = λ kept. same_domain (pruned kept c) (pruned kept d) (pruned_same kept c d same);
    problem = λ kept. same_problem (pruned kept c) (pruned kept d) (pruned_same kept c d same);
  }

  told : (kept : Kept) → TellTheSame (pruned kept c) (pruned kept d)
  told kept =
      let a = (pruned_same kept c d same).alike in
      record {
        tasks = maps-length (task_said (hddl_words c)) (task_said (hddl_words d)) (pruned kept c).tasks (pruned kept d).tasks a.tasks;
        methods = maps-length (method_said (hddl_words c)) (method_said (hddl_words d)) (pruned kept c).methods (pruned kept d).methods a.methods;
        actions = maps-length (action_said (hddl_words c)) (action_said (hddl_words d)) (pruned kept c).actions (pruned kept d).actions a.actions;
        domain = pruned_alike.domain kept;
        problem = pruned_alike.problem kept;
      }

  tell_the_same : (value other : Hddl) → IsPruned c value → IsPruned d other → TellTheSame value other
  tell_the_same value other x y =
      let e = one_kept c x.live y.live x.live_is ((live_same c d t y.live).1 y.live_is) x.kept y.kept x.kept_is ((kept_same c d t y.live y.kept).1 y.kept_is) in
      subst (λ z. TellTheSame z other) (sym x.is) (subst (TellTheSame (pruned x.kept c)) (sym y.is) (subst (λ z. TellTheSame (pruned x.kept c) (pruned z d)) e (told x.kept)))

  not_both : (value : Hddl) → IsPruned c value → CannotBeSolved d → ⊥
  not_both value x y = y.unsolved ((solved_same c d t y.live).0 (more_solved c x.live y.live x.live_is ((live_same c d t y.live).1 y.live_is) x.solved))

  one_outcome : HaveOneOutcome c d
  one_outcome = record {
    pruned = tell_the_same;
    refused = (
      λ x. record { live = x.live; live_is = (live_same c d t x.live).0 x.live_is; unsolved = λ y. x.unsolved ((solved_same c d t x.live).1 y) },
      λ x. record { live = x.live; live_is = (live_same c d t x.live).1 x.live_is; unsolved = λ y. x.unsolved ((solved_same c d t x.live).0 y) },
    );
    not_both = not_both;
  }

-- of two values of two texts
module _ (domain problem : List ℕ) (c d : Hddl) (spelled : IsHddlOf domain problem c) (other : IsHddlOf domain problem d) (sound : IsSoundProblem c) where
  same : AreSameButNames c d
  same = same_back d c (same_but_names domain problem d c other spelled sound.value)

  sound_words : AreAlikeSound c d
  sound_words = record { alike = same.alike; sound = spelled_words domain problem c spelled.spelled; sound_other = spelled_words domain problem d other.spelled }

  pub values_pruned_alike : ArePrunedAlike c d
  values_pruned_alike = pruned_alike c d sound_words same

  pub values_have_one_outcome : HaveOneOutcome c d
  values_have_one_outcome = one_outcome c d sound_words same

pub pruned_somehow : (h : Hddl) → IsSoundProblem h → IsPrunedSomehow h
pruned_somehow h sound = go (live_exactly h).0.0 (live_exactly h).0.1 (solved_is_told h (live_exactly h).0.0)
  where
    go : (live : Parts) → AreLive h live → MayBeSolved h live ⊎ (MayBeSolved h live → ⊥) → IsPrunedSomehow h
    go live are (inl solved) =
        let (kept, is) = (kept_exactly h live (sound_is_numbered h sound)).0 in
        inl (pruned kept h, record { live = live; live_is = are; solved = solved; kept = kept; kept_is = is; is = refl })
    go live are (inr unsolved) = inr (record { live = live; live_is = are; unsolved = unsolved })
