-- A fault of names of what was read is one of what was read alike.
use Rattle.std.proofs.Common.{ℕ, ◌≡◌, ◌⊎◌, ◌++◌, List, [], ◌∷◌, map, Option, Some, None, codes, refl, sym, ap, ◌∙◌, subst, inl, inr, arith}
use Rattle.htn_base.specs.Limits.{most_subtasks}
use Rattle.text_forms.specs.Words.{Word}
use Rattle.plan_model.specs.task_networks.Order.{Precedes, direct, through}
use Rattle.plan_texts.specs.Together.{Together}
use Rattle.plan_texts.proofs.Together.{together-map, together-maps, together-length}
use Rattle.gd_reader.specs.declared.term.RawTerm.{RawTerm}
use Rattle.gd_reader.specs.declared.term.RawAtom.{RawAtom}
use Rattle.gd_reader.specs.declared.typed_lists.RawParam.{RawParam}
use Rattle.gd_reader.specs.Terms.{Names}
use Rattle.hddl_reader.specs.declared.networks.RawCon.{RawCon}
use Rattle.hddl_reader.specs.declared.networks.RawNet.{RawNet}
use Rattle.hddl_reader.specs.declared.networks.RawPair.{RawPair}
use Rattle.hddl_reader.specs.declared.networks.RawSub.{RawSub}
use Rattle.hddl_reader.specs.declared.sections.Language.{Language}
use Rattle.hddl_reader.specs.declared.sections.RawAction.{RawAction}
use Rattle.hddl_reader.specs.declared.sections.RawDomain.{RawDomain}
use Rattle.hddl_reader.specs.declared.sections.RawHead.{RawHead}
use Rattle.hddl_reader.specs.declared.sections.RawMethod.{RawMethod}
use Rattle.hddl_reader.specs.declared.sections.RawProblem.{RawProblem}
use Rattle.hddl_reader.specs.names.Faults.{DuplicateInDomain, DuplicateInProblem, HasDomainFault, HasProblemFault, OfNetworks, constants, objects}
use Rattle.htn_base.specs.Lists.{One, Has}
use Rattle.hddl_reader.specs.names.Named.{declared, meant, StandsFor, HasWrongArity, UnknownType, UnknownName, UnknownObject, UnknownVariable, WrongArity}
use Rattle.hddl_reader.specs.names.Networks.{id_at, ids, HasId, IsUnknownId, UnknownSubtaskId, IsSubtask, IsPair, IsOrdered, ClosesOrder, CyclicOrder, TooManySubtasks}
use Rattle.hddl_reader.specs.names.Standing.{InDomain, InProblem}
use Rattle.hddl_reader.specs.names.Types.{Leads, mentioned, IsType, IsParent, ClosesCycle, IsOneTooMany, most_types}
use Rattle.hddl_reader.specs.names.Uses.{Scope, Use, declares, applies, refers, Kind, predicate, subtask, task}
use Rattle.hddl_reader.specs.names.Words.{WordAt, term_word, param_word, term_at, param_at, head_at, callables, IsSecond}
use Rattle.text_values.proofs.Alike.{Both, AlikeTerm, AlikeTerms, AlikeAtom, AlikeParam, AlikeParams, AlikeSub, AlikePair, AlikeCon, AlikeNet, AlikeHead, AlikeMethod, AlikeAction, AlikeDomain, AlikeProblem}
use Rattle.text_values.proofs.Lists.{Turned, turned, one_on, each_on, at_on, cut_like, first_on}
use Rattle.text_values.proofs.SectionPairs.{joined_alike}
use Rattle.text_values.proofs.Uses.{Goes, in_domain, in_problem}

-- the other way round
module _ (t u : Names) where
  term_back : (x y : RawTerm) → AlikeTerm t u x y → AlikeTerm u t y x
  term_back x y r = record { word = sym r.word; variable = sym r.variable; at = sym r.at }

  terms_back : (xs ys : List RawTerm) → AlikeTerms t u xs ys → AlikeTerms u t ys xs
  terms_back xs ys e = together-map (Turned (AlikeTerm t u)) (AlikeTerm u t) (λ y x r. term_back x y r) ys xs (turned (AlikeTerm t u) xs ys e)

  param_back : (x y : RawParam) → AlikeParam t u x y → AlikeParam u t y x
  param_back x y r = record { word = sym r.word; at = sym r.at; types = terms_back x.ty y.ty r.types }

  params_back : (xs ys : List RawParam) → AlikeParams t u xs ys → AlikeParams u t ys xs
  params_back xs ys e = together-map (Turned (AlikeParam t u)) (AlikeParam u t) (λ y x r. param_back x y r) ys xs (turned (AlikeParam t u) xs ys e)

  head_back : (h g : RawHead) → AlikeHead t u h g → AlikeHead u t g h
  head_back h g r = record { name = term_back h.name g.name r.name; params = params_back h.params g.params r.params }

  heads_back : (hs gs : List RawHead) → Together (AlikeHead t u) hs gs → Together (AlikeHead u t) gs hs
  heads_back hs gs e = together-map (Turned (AlikeHead t u)) (AlikeHead u t) (λ g h r. head_back h g r) gs hs (turned (AlikeHead t u) hs gs e)

  atom_back : (a b : RawAtom) → AlikeAtom t u a b → AlikeAtom u t b a
  atom_back a b r = record { head = term_back a.head b.head r.head; args = terms_back a.args b.args r.args }

  id_back : (o v : Option RawTerm) → Both (AlikeTerm t u) o v → Both (AlikeTerm u t) v o
  id_back None None r = tt
  id_back None (Some y) r = absurd r
  id_back (Some x) None r = absurd r
  id_back (Some x) (Some y) r = term_back x y r

  sub_back : (s k : RawSub) → AlikeSub t u s k → AlikeSub u t k s
  sub_back s k r = record { id = id_back s.id k.id r.id; atom = atom_back s.atom k.atom r.atom; at = sym r.at }

  subs_back : (ss ks : List RawSub) → Together (AlikeSub t u) ss ks → Together (AlikeSub u t) ks ss
  subs_back ss ks e = together-map (Turned (AlikeSub t u)) (AlikeSub u t) (λ k s r. sub_back s k r) ks ss (turned (AlikeSub t u) ss ks e)

  pair_back : (x y : RawPair) → AlikePair t u x y → AlikePair u t y x
  pair_back x y r = record { first = term_back x.first y.first r.first; then = term_back x.then y.then r.then; at = sym r.at }

  pairs_back : (xs ys : List RawPair) → Together (AlikePair t u) xs ys → Together (AlikePair u t) ys xs
  pairs_back xs ys e = together-map (Turned (AlikePair t u)) (AlikePair u t) (λ y x r. pair_back x y r) ys xs (turned (AlikePair t u) xs ys e)

  con_back : (x y : RawCon) → AlikeCon t u x y → AlikeCon u t y x
  con_back x y r = record { left = term_back x.left y.left r.left; right = term_back x.right y.right r.right }

  net_back : (n m : RawNet) → AlikeNet t u n m → AlikeNet u t m n
  net_back n m r = record {
    subs = subs_back n.subs m.subs r.subs;
    ordered = sym r.ordered;
    pairs = pairs_back n.pairs m.pairs r.pairs;
    constraints = together-map (Turned (AlikeCon t u)) (AlikeCon u t) (λ y x c. con_back x y c) m.constraints n.constraints (turned (AlikeCon t u) n.constraints m.constraints r.constraints);
  }

-- words and places are the same
module _ (t u : Names) where
  term_same : (x y : RawTerm) → AlikeTerm t u x y → term_at t x ≡ term_at u y
  term_same x y r = λ i. record { word = r.word i; at = r.at i }

  param_same : (x y : RawParam) → AlikeParam t u x y → param_at t x ≡ param_at u y
  param_same x y r = λ i. record { word = r.word i; at = r.at i }

  words_same : (xs ys : List RawParam) → AlikeParams t u xs ys → map (param_word t) xs ≡ map (param_word u) ys
  words_same xs ys e = together-maps (param_word t) (param_word u) (AlikeParam t u) (λ x y r. r.word) xs ys e

  params_same : (xs ys : List RawParam) → AlikeParams t u xs ys → map (param_at t) xs ≡ map (param_at u) ys
  params_same xs ys e = together-maps (param_at t) (param_at u) (AlikeParam t u) param_same xs ys e

  heads_same : (hs gs : List RawHead) → Together (AlikeHead t u) hs gs → map (head_at t) hs ≡ map (head_at u) gs
  heads_same hs gs e = together-maps (head_at t) (head_at u) (AlikeHead t u) (λ h g r. term_same h.name g.name r.name) hs gs e

  mentioned_same : (xs ys : List RawParam) → AlikeParams t u xs ys → mentioned t xs ≡ mentioned u ys
  mentioned_same [] [] e = refl
  mentioned_same [] (y ∷ ys) e = absurd e
  mentioned_same (x ∷ xs) [] e = absurd e
  mentioned_same (x ∷ xs) (y ∷ ys) e =
      let p = param_same x y e.0 in
      let ts = together-maps (term_at t) (term_at u) (AlikeTerm t u) term_same x.ty y.ty e.0.types in
      let more = mentioned_same xs ys e.1 in
      λ i. p i ∷ (ts i ++ more i)

  id_same : (o v : Option RawTerm) → Both (AlikeTerm t u) o v → id_at t o ≡ id_at u v
  id_same None None r = refl
  id_same None (Some y) r = absurd r
  id_same (Some x) None r = absurd r
  id_same (Some x) (Some y) r = ap (λ w. w ∷ []) (term_same x y r)

  ids_same : (ss ks : List RawSub) → Together (AlikeSub t u) ss ks → ids t ss ≡ ids u ks
  ids_same [] [] e = refl
  ids_same [] (k ∷ ks) e = absurd e
  ids_same (s ∷ ss) [] e = absurd e
  ids_same (s ∷ ss) (k ∷ ks) e = let i = id_same s.id k.id e.0.id in let more = ids_same ss ks e.1 in λ j. i j ++ more j

-- networks
module _ (t u : Names) where
  has_id : (s k : RawSub) → AlikeSub t u s k → (v w : Word) → v ≡ w → HasId t v s → HasId u w k
  has_id s k r v w e h = subst (λ (z : Type 0). z) (λ i. One (λ (x : WordAt). x.word ≡ e i) (id_same t u s.id k.id r.id i)) h

  one_has_id : (ss ks : List RawSub) → Together (AlikeSub t u) ss ks → (v w : Word) → v ≡ w → One (HasId t v) ss → One (HasId u w) ks
  one_has_id ss ks e v w f h = one_on (AlikeSub t u) (HasId t v) (HasId u w) (λ s k r. has_id s k r v w f) ss ks e h

module _ (t u : Names) (n m : RawNet) (r : AlikeNet t u n m) where
  unknown_id : (at : ℕ) (x y : RawTerm) → AlikeTerm t u x y → IsUnknownId t n at x → IsUnknownId u m at y
  unknown_id at x y s (here, none) = (sym s.at ∙ here, λ h. none (one_has_id u t m.subs n.subs (subs_back t u n.subs m.subs r.subs) (term_word u y) (term_word t x) (sym s.word) h))

  pub unknown_subtask_id : (at : ℕ) → UnknownSubtaskId t n at → UnknownSubtaskId u m at
  unknown_subtask_id at h = one_on (AlikePair t u) _ _ either n.pairs m.pairs r.pairs h
    where
      either : (x y : RawPair) → AlikePair t u x y → IsUnknownId t n at x.first ⊎ IsUnknownId t n at x.then → IsUnknownId u m at y.first ⊎ IsUnknownId u m at y.then
      either x y s (inl h) = inl (unknown_id at x.first y.first s.first h)
      either x y s (inr h) = inr (unknown_id at x.then y.then s.then h)

  is_subtask : (x y : RawTerm) (i : ℕ) → AlikeTerm t u x y → IsSubtask t n x i → IsSubtask u m y i
  is_subtask x y i s h =
      let cut = cut_like (AlikeSub t u) h.front h.sub h.rest m.subs (subst (λ l. Together (AlikeSub t u) l m.subs) h.parts r.subs) in
      record {
        front = cut.front_too;
        sub = cut.item;
        rest = cut.rest_too;
        parts = cut.parts;
        number = sym (together-length (AlikeSub t u) h.front cut.front_too cut.fronts) ∙ h.number;
        has_id = has_id t u h.sub cut.item cut.items (term_word t x) (term_word u y) s.word h.has_id;
        none_before = λ k. h.none_before (one_has_id u t cut.front_too h.front (subs_back t u h.front cut.front_too cut.fronts) (term_word u y) (term_word t x) (sym s.word) k);
      }

  is_pair : (x y : RawPair) (i j : ℕ) → AlikePair t u x y → IsPair t n x i j → IsPair u m y i j
  is_pair x y i j s h = (is_subtask x.first y.first i s.first h.0, is_subtask x.then y.then j s.then h.1)

  is_ordered : (xs ys : List RawPair) → Together (AlikePair t u) xs ys → (i j : ℕ) → IsOrdered t n xs i j → IsOrdered u m ys i j
  is_ordered xs ys e i j (inl (o, next, within)) = inl (sym r.ordered ∙ o, next, (let l = together-length (AlikeSub t u) n.subs m.subs r.subs in omega (arith, within, l)))
  is_ordered xs ys e i j (inr h) = inr (one_on (AlikePair t u) (λ x. IsPair t n x i j) (λ y. IsPair u m y i j) (λ x y s. is_pair x y i j s) xs ys e h)

  precedes : (xs ys : List RawPair) → Together (AlikePair t u) xs ys → (i j : ℕ) → Precedes (IsOrdered t n xs) i j → Precedes (IsOrdered u m ys) i j
  precedes xs ys e i j (direct h) = direct (is_ordered xs ys e i j h)
  precedes xs ys e i j (through {j = k} p h) = through (precedes xs ys e i k p) (is_ordered xs ys e k j h)

  closes_order : (xs ys : List RawPair) (x y : RawPair) → Together (AlikePair t u) xs ys → AlikePair t u x y → ClosesOrder t n xs x → ClosesOrder u m ys y
  closes_order xs ys x y e s (i, j, p, inl same) = (i, j, is_pair x y i j s p, inl same)
  closes_order xs ys x y e s (i, j, p, inr back) = (i, j, is_pair x y i j s p, inr (precedes xs ys e j i back))

  pub too_many_subtasks : (at : ℕ) → TooManySubtasks n at → TooManySubtasks m at
  too_many_subtasks at (s, there, here) = let k = at_on (AlikeSub t u) n.subs m.subs r.subs most_subtasks s there in (k.0, k.1, sym k.2.at ∙ here)

module _ (t u : Names) (n m : RawNet) (r : AlikeNet t u n m) where
  pub cyclic_order : (at : ℕ) → CyclicOrder t n at → CyclicOrder u m at
  cyclic_order at (few, (x, here, first)) =
      let found = first_on (AlikePair t u) (ClosesOrder t n) (ClosesOrder u m) (λ fs gs x y e s. closes_order t u n m r fs gs x y e s)
      (λ fs gs x y e s. closes_order u t m n (net_back t u n m r) gs fs y x (pairs_back t u fs gs e) (pair_back t u x y s)) n.pairs m.pairs r.pairs x first in
      ((let l = together-length (AlikeSub t u) n.subs m.subs r.subs in omega (arith, few, l)), (found.0, sym found.1.at ∙ here, found.2))

-- types
leads_on : (P Q : Word → Word → Type 0) → ((v w : Word) → P v w → Q v w) → (v w : Word) → Leads P v w → Leads Q v w
leads_on P Q f v w (Leads.direct h) = Leads.direct (f v w h)
leads_on P Q f v w (Leads.through {w = x} l h) = Leads.through (leads_on P Q f v x l) (f x w h)

module _ (t u : Names) where
  is_parent : (xs ys : List RawParam) → AlikeParams t u xs ys → (child parent : Word) → IsParent t xs child parent → IsParent u ys child parent
  is_parent xs ys e child parent h =
      one_on (AlikeParam t u) _ _
      (λ x y r is. (sym r.word ∙ is.0, one_on (AlikeTerm t u) (λ k. term_word t k ≡ parent) (λ k. term_word u k ≡ parent) (λ a b s f. sym s.word ∙ f) x.ty y.ty r.types is.1)) xs ys e h

  closes_cycle : (fs gs : List RawParam) (x y : RawParam) → AlikeParams t u fs gs → AlikeParam t u x y → ClosesCycle t fs x → ClosesCycle u gs y
  closes_cycle fs gs x y e r h = one_on (AlikeTerm t u) _ _ either x.ty y.ty r.types h
    where
      either : (a b : RawTerm) → AlikeTerm t u a b → (param_word t x ≡ codes "object") ⊎ ((term_word t a ≡ param_word t x) ⊎ Leads (IsParent t fs) (term_word t a) (param_word t x))
          → (param_word u y ≡ codes "object") ⊎ ((term_word u b ≡ param_word u y) ⊎ Leads (IsParent u gs) (term_word u b) (param_word u y))
      either a b s (inl o) = inl (sym r.word ∙ o)
      either a b s (inr (inl o)) = inr (inl (sym s.word ∙ o ∙ r.word))
      either a b s (inr (inr l)) =
          inr (inr (subst (λ (z : Type 0). z) (λ i. Leads (IsParent u gs) (s.word i) (r.word i)) (leads_on (IsParent t fs) (IsParent u gs) (λ c p k. is_parent fs gs e c p k) (term_word t a) (param_word t x) l)))

-- calls of what is declared, among these and those declarations
pub record AlikeCalls (t u : Names) (d e : RawDomain) : Type 0 where
  pub declared_alike : (kind : Kind) → Together (AlikeHead t u) (declared d kind) (declared e kind)
  pub meant_alike : (kind : Kind) → Together (AlikeHead t u) (meant d kind) (meant e kind)

calls_back : (t u : Names) (d e : RawDomain) → AlikeCalls t u d e → AlikeCalls u t e d
calls_back t u d e r = record {
  declared_alike = λ kind. heads_back t u (declared d kind) (declared e kind) (r.declared_alike kind);
  meant_alike = λ kind. heads_back t u (meant d kind) (meant e kind) (r.meant_alike kind);
}

module _ (t u : Names) (d e : RawDomain) (r : AlikeCalls t u d e) where
  stands_for : (kind : Kind) (a b : RawAtom) → AlikeAtom t u a b → (h g : RawHead) → AlikeHead t u h g → StandsFor t d kind a h → StandsFor u e kind b g
  stands_for kind a b s h g k (word, first) = (
    sym k.name.word ∙ word ∙ s.head.word,
    each_on (AlikeHead t u) _ _
        (λ x y l f w. (let le = f (l.name.word ∙ w ∙ sym s.head.word) in let p = k.name.at in let q = l.name.at in omega (arith, le, p, q))) (declared d kind) (declared e kind) (r.declared_alike kind) first,
  )

  one_stands_for : (kind : Kind) (a b : RawAtom) → AlikeAtom t u a b → One (StandsFor t d kind a) (meant d kind) → One (StandsFor u e kind b) (meant e kind)
  one_stands_for kind a b s h = one_on (AlikeHead t u) (StandsFor t d kind a) (StandsFor u e kind b) (λ h g k is. stands_for kind a b s h g k is) (meant d kind) (meant e kind) (r.meant_alike kind) h

  has_wrong_arity : (kind : Kind) (a b : RawAtom) → AlikeAtom t u a b → HasWrongArity t d kind a → HasWrongArity u e kind b
  has_wrong_arity kind a b s h =
      one_on (AlikeHead t u) _ _
      (λ h g k is. (stands_for kind a b s h g k is.0, λ same. is.1 (together-length (AlikeParam t u) h.params g.params k.params ∙ same ∙ sym (together-length (AlikeTerm t u) a.args b.args s.args))))
      (meant d kind) (meant e kind) (r.meant_alike kind) h

-- faults of names that stand in a text and go over to those of the other
module _ (t u : Names) (d e : RawDomain) (types : AlikeParams t u d.types e.types) (calls : AlikeCalls t u d e) (Stands Also : Scope → Use → Type 0) (goes : (here : Scope) (v : Use) → Stands here v → Goes t u (Also here) v)
    (own other : List Word) (same : own ≡ other) where
  is_type : (w : Word) → IsType u e w → IsType t d w
  is_type w h = subst (λ ms. (w ≡ codes "object") ⊎ One (λ (m : WordAt). m.word ≡ w) ms) (sym (mentioned_same t u d.types e.types types)) h

  module _ (at : ℕ) where
    unknown_type : UnknownType t d Stands own at → UnknownType u e Also other at
    unknown_type (here, x, stands, bad) = go (goes here (declares x) stands)
      where
        bad_too : (y : RawParam) → AlikeParam t u x y → One (λ (k : RawTerm). (k.at ≡ at) × (IsType u e (term_word u k) → ⊥)) y.ty
        bad_too y r = one_on (AlikeTerm t u) (λ k. (k.at ≡ at) × (IsType t d (term_word t k) → ⊥)) (λ k. (k.at ≡ at) × (IsType u e (term_word u k) → ⊥))
            (λ a b s is. (sym s.at ∙ is.0, λ h. is.1 (subst (IsType t d) (sym s.word) (is_type (term_word u b) h)))) x.ty y.ty r.types bad

        go : Goes t u (Also here) (declares x) → UnknownType u e Also other at
        go (declares y, s, r) = (here, y, s, bad_too y r)
        go (applies k b, s, r) = absurd r
        go (refers b, s, r) = absurd r

    -- a name that is applied
    applied_too : (kind : Kind) (a : RawAtom) (here : Scope) → Stands here (applies kind a) → (b : RawAtom) × Also here (applies kind b) × AlikeAtom t u a b
    applied_too kind a here stands = go (goes here (applies kind a) stands)
      where
        go : Goes t u (Also here) (applies kind a) → (b : RawAtom) × Also here (applies kind b) × AlikeAtom t u a b
        go (declares y, s, r) = absurd r
        go (applies k b, s, r) = (b, subst (λ z. Also here (applies z b)) (sym r.0) s, r.1)
        go (refers b, s, r) = absurd r

    -- a term
    referred_too : (x : RawTerm) (here : Scope) → Stands here (refers x) → (y : RawTerm) × Also here (refers y) × AlikeTerm t u x y
    referred_too x here stands = go (goes here (refers x) stands)
      where
        go : Goes t u (Also here) (refers x) → (y : RawTerm) × Also here (refers y) × AlikeTerm t u x y
        go (declares y, s, r) = absurd r
        go (applies k b, s, r) = absurd r
        go (refers y, s, r) = (y, s, r)

    unknown_name : (kind : Kind) → UnknownName t d Stands own kind at → UnknownName u e Also other kind at
    unknown_name kind (here, a, is, stands, unknown) =
        let (b, s, r) = applied_too kind a here stands in
        (here, b, sym r.head.at ∙ is, s, λ found. unknown (one_stands_for u t e d (calls_back t u d e calls) kind b a (atom_back t u a b r) found))

    unknown_object : UnknownObject t d Stands own at → UnknownObject u e Also other at
    unknown_object (here, x, is, plain, stands, none) =
        let (y, s, r) = referred_too x here stands in
        (here, y, sym r.at ∙ is, sym r.variable ∙ plain, s, λ has. none (subst (λ (z : Type 0). z) (λ i. Has (sym same i) (sym r.word i)) has))

    unknown_variable : UnknownVariable t d Stands own at → UnknownVariable u e Also other at
    unknown_variable (here, x, is, plain, stands, none) =
        let (y, s, r) = referred_too x here stands in
        (here, y, sym r.at ∙ is, sym r.variable ∙ plain, s, λ has. none (subst (Has here) (sym r.word) has))

    wrong_arity : WrongArity t d Stands own at → WrongArity u e Also other at
    wrong_arity (kind, here, a, is, stands, bad) =
        let (b, s, r) = applied_too kind a here stands in
        (kind, here, b, sym r.head.at ∙ is, s, has_wrong_arity t u d e calls kind a b r bad)

    unknown_task : UnknownName t d Stands own subtask at ⊎ UnknownName t d Stands own task at → UnknownName u e Also other subtask at ⊎ UnknownName u e Also other task at
    unknown_task (inl h) = inl (unknown_name subtask h)
    unknown_task (inr h) = inr (unknown_name task h)

module _ (t u : Names) (d e : RawDomain) (r : AlikeDomain t u d e) where
  action_heads : (xs ys : List RawAction) → Together (AlikeAction t u) xs ys → Together (AlikeHead t u) (map (λ (a : RawAction). a.head) xs) (map (λ (a : RawAction). a.head) ys)
  action_heads [] [] k = tt
  action_heads [] (b ∷ ys) k = absurd k
  action_heads (a ∷ xs) [] k = absurd k
  action_heads (a ∷ xs) (b ∷ ys) k = (k.0.head, action_heads xs ys k.1)

  callables_alike : Together (AlikeHead t u) (callables d) (callables e)
  callables_alike = joined_alike (AlikeHead t u) d.tasks e.tasks _ _ r.tasks (action_heads d.actions e.actions r.actions)

  calls_alike : AlikeCalls t u d e
  calls_alike = record { declared_alike = by_declared; meant_alike = by_meant }
    where
      by_declared : (kind : Kind) → Together (AlikeHead t u) (declared d kind) (declared e kind)
      by_declared predicate = r.predicates
      by_declared subtask = callables_alike
      by_declared task = callables_alike

      by_meant : (kind : Kind) → Together (AlikeHead t u) (meant d kind) (meant e kind)
      by_meant predicate = r.predicates
      by_meant subtask = callables_alike
      by_meant task = r.tasks

  constants_same : constants t d ≡ constants u e
  constants_same = words_same t u d.constants e.constants r.constants

  of_networks : (P Q : _ → Type 0) → ((m n : RawMethod) → AlikeMethod t u m n → P m.net → Q n.net) → OfNetworks P d → OfNetworks Q e
  of_networks P Q f h = one_on (AlikeMethod t u) (λ m. P m.net) (λ m. Q m.net) f d.methods e.methods r.methods h

  second : (xs ys : List WordAt) (at : ℕ) → xs ≡ ys → IsSecond [] xs at → IsSecond [] ys at
  second xs ys at same h = subst (λ l. IsSecond [] l at) same h

  duplicate : (at : ℕ) → DuplicateInDomain t d at → DuplicateInDomain u e at
  duplicate at (DuplicateInDomain.task_or_action h) = DuplicateInDomain.task_or_action (second _ _ at (heads_same t u (callables d) (callables e) callables_alike) h)
  duplicate at (DuplicateInDomain.method h) = DuplicateInDomain.method (second _ _ at (together-maps _ _ (AlikeMethod t u) (λ m n k. term_same t u m.head.name n.head.name k.head.name) d.methods e.methods r.methods) h)
  duplicate at (DuplicateInDomain.predicate h) = DuplicateInDomain.predicate (second _ _ at (heads_same t u d.predicates e.predicates r.predicates) h)
  duplicate at (DuplicateInDomain.constant h) = DuplicateInDomain.constant (second _ _ at (params_same t u d.constants e.constants r.constants) h)
  duplicate at (DuplicateInDomain.subtask_id h) =
      DuplicateInDomain.subtask_id (of_networks (λ n. IsSecond [] (ids t n.subs) at) (λ n. IsSecond [] (ids u n.subs) at) (λ m n k h. second _ _ at (ids_same t u m.net.subs n.net.subs k.net.subs) h) h)

  abbrev goes_in : (here : Scope) (v : Use) → InDomain t d here v → Goes t u (InDomain u e here) v
  goes_in here v h = in_domain t u here v d e r h

  pub domain_fault : (l : Language) (at code : ℕ) → HasDomainFault l t d at code → HasDomainFault l u e at code
  domain_fault l at code (HasDomainFault.duplicate_name h) = HasDomainFault.duplicate_name (duplicate at h)
  domain_fault l at code (HasDomainFault.unknown_type h) = HasDomainFault.unknown_type (unknown_type t u d e r.types calls_alike (InDomain t d) (InDomain u e) goes_in (constants t d) (constants u e) constants_same at h)
  domain_fault l at code (HasDomainFault.type_cycle (x, here, first)) =
      let found = first_on (AlikeParam t u) (ClosesCycle t) (ClosesCycle u) (λ fs gs x y k s. closes_cycle t u fs gs x y k s) (λ fs gs x y k s. closes_cycle u t gs fs y x (params_back t u fs gs k) (param_back t u x y s)) d.types e.types r.types x first in
      HasDomainFault.type_cycle (found.0, sym found.1.at ∙ here, found.2)
  domain_fault l at code (HasDomainFault.unknown_predicate h) = HasDomainFault.unknown_predicate (unknown_name t u d e r.types calls_alike (InDomain t d) (InDomain u e) goes_in (constants t d) (constants u e) constants_same at predicate h)
  domain_fault l at code (HasDomainFault.unknown_task h) = HasDomainFault.unknown_task (unknown_task t u d e r.types calls_alike (InDomain t d) (InDomain u e) goes_in (constants t d) (constants u e) constants_same at h)
  domain_fault l at code (HasDomainFault.unknown_object h) = HasDomainFault.unknown_object (unknown_object t u d e r.types calls_alike (InDomain t d) (InDomain u e) goes_in (constants t d) (constants u e) constants_same at h)
  domain_fault l at code (HasDomainFault.unknown_variable h) = HasDomainFault.unknown_variable (unknown_variable t u d e r.types calls_alike (InDomain t d) (InDomain u e) goes_in (constants t d) (constants u e) constants_same at h)
  domain_fault l at code (HasDomainFault.wrong_arity h) = HasDomainFault.wrong_arity (wrong_arity t u d e r.types calls_alike (InDomain t d) (InDomain u e) goes_in (constants t d) (constants u e) constants_same at h)
  domain_fault l at code (HasDomainFault.unknown_subtask_id h) = HasDomainFault.unknown_subtask_id (of_networks _ _ (λ m n k h. unknown_subtask_id t u m.net n.net k.net at h) h)
  domain_fault l at code (HasDomainFault.cyclic_order h) = HasDomainFault.cyclic_order (of_networks _ _ (λ m n k h. cyclic_order t u m.net n.net k.net at h) h)
  domain_fault l at code (HasDomainFault.too_many_subtasks h) = HasDomainFault.too_many_subtasks (of_networks _ _ (λ m n k h. too_many_subtasks t u m.net n.net k.net at h) h)
  domain_fault l at code (HasDomainFault.too_many_types h) = HasDomainFault.too_many_types (subst (λ ms. IsOneTooMany (most_types l) ms at) (mentioned_same t u d.types e.types r.types) h)

  module _ (p q : RawProblem) (k : AlikeProblem t u p q) where
    objects_same : objects t d p ≡ objects u e q
    objects_same = let xs = words_same t u p.objects q.objects k.objects in λ i. constants_same i ++ xs i

    duplicate_too : (at : ℕ) → DuplicateInProblem t d p at → DuplicateInProblem u e q at
    duplicate_too at (DuplicateInProblem.object h) =
        DuplicateInProblem.object (subst (λ (z : Type 0). z) (let xs = params_same t u p.objects q.objects k.objects in λ i. IsSecond (constants_same i) (xs i) at) h)
    duplicate_too at (DuplicateInProblem.subtask_id h) = DuplicateInProblem.subtask_id (second _ _ at (ids_same t u p.net.subs q.net.subs k.net.subs) h)

    abbrev goes_in_problem : (here : Scope) (v : Use) → InProblem t p here v → Goes t u (InProblem u q here) v
    goes_in_problem here v h = in_problem t u here v p q k h

    pub problem_fault : (at code : ℕ) → HasProblemFault t d p at code → HasProblemFault u e q at code
    problem_fault at code (HasProblemFault.duplicate_name h) = HasProblemFault.duplicate_name (duplicate_too at h)
    problem_fault at code (HasProblemFault.unknown_type h) = HasProblemFault.unknown_type (unknown_type t u d e r.types calls_alike (InProblem t p) (InProblem u q) goes_in_problem (objects t d p) (objects u e q) objects_same at h)
    problem_fault at code (HasProblemFault.unknown_predicate h) = HasProblemFault.unknown_predicate (unknown_name t u d e r.types calls_alike (InProblem t p) (InProblem u q) goes_in_problem (objects t d p) (objects u e q) objects_same at predicate h)
    problem_fault at code (HasProblemFault.unknown_task h) = HasProblemFault.unknown_task (unknown_task t u d e r.types calls_alike (InProblem t p) (InProblem u q) goes_in_problem (objects t d p) (objects u e q) objects_same at h)
    problem_fault at code (HasProblemFault.unknown_object h) = HasProblemFault.unknown_object (unknown_object t u d e r.types calls_alike (InProblem t p) (InProblem u q) goes_in_problem (objects t d p) (objects u e q) objects_same at h)
    problem_fault at code (HasProblemFault.unknown_variable h) = HasProblemFault.unknown_variable (unknown_variable t u d e r.types calls_alike (InProblem t p) (InProblem u q) goes_in_problem (objects t d p) (objects u e q) objects_same at h)
    problem_fault at code (HasProblemFault.wrong_arity h) = HasProblemFault.wrong_arity (wrong_arity t u d e r.types calls_alike (InProblem t p) (InProblem u q) goes_in_problem (objects t d p) (objects u e q) objects_same at h)
    problem_fault at code (HasProblemFault.unknown_subtask_id h) = HasProblemFault.unknown_subtask_id (unknown_subtask_id t u p.net q.net k.net at h)
    problem_fault at code (HasProblemFault.cyclic_order h) = HasProblemFault.cyclic_order (cyclic_order t u p.net q.net k.net at h)
    problem_fault at code (HasProblemFault.too_many_subtasks h) = HasProblemFault.too_many_subtasks (too_many_subtasks t u p.net q.net k.net at h)
