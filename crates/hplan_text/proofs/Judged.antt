-- The faults of a text are those that were found of its lines, its ids and what the root reaches; and where there is none, the plan is spelled.
use Rattle.std.proofs.Common.{ℕ, ◌≡◌, ◌∙◌, inl, inr, ◌||◌, ◌==◌, Bool, true, false, not, Option, Some, None, Result, Ok, Err, IfOk, IfErr, List, [], ◌∷◌, ◌++◌, map, drop, length, refl, sym, ap, ap₂, subst}
use Rattle.std.specs.List.{filter_map, cons_option}
use Rattle.std.proofs.lemmas.Bool.{eq-eqb}
use Rattle.plan_texts.specs.Types.{Has, EachIs}
use Rattle.plan_texts.proofs.Members.{has-to_map, has-of_map}
use Rattle.text_forms.specs.Faults.{Fault, fault}
use Rattle.text_forms.specs.declared.sexpr_text.read_error.ReadError.{ReadError}
use Rattle.text_forms.specs.declared.sexpr_text.read_error.ReadError.TheVariants as errors
use Rattle.hplan_text.specs.declared.draft.Draft.{Draft}
use Rattle.hplan_text.specs.declared.least.Found.{Found}
use Rattle.hplan_text.specs.declared.mention.Mention.{Mention}
use Rattle.hplan_text.specs.declared.values.HNode.{HNode}
use Rattle.hplan_text.specs.declared.values.HPlan.{HPlan}
use Rattle.hplan_text.specs.Lines.{Line, Marked, marked}
use Rattle.hplan_text.specs.Rows.{Row, bad, top, primitive, decomposed, row, node, top_ids, is_bad}
use Rattle.hplan_text.specs.SpellsHPlan.{rows, own_ids, tops, plan_of, SpellsHPlan}
use Rattle.hplan_text.specs.HPlanFaults.{bad_place, top_place, bad_places, top_places, no_root, line_faults, is_among, put_if, repeats_behind, repeats, others, faults_at, id_faults, id_faults_of, Reaches, IsUnreached, IsTreeFault, faults_of_lines, faults_of_ids, IsLeastFault}
use Rattle.hplan_text.specs.Reading.{IsHPlanRead, RefusesHPlan}
use Rattle.hplan_text.specs.LeastOf.{as_fault, IsLeastOf}
use Rattle.hplan_text.specs.Marks.{HaveIds, among, chosen, has}
use Rattle.hplan_text.specs.Walks.{AreOwned, AreOnce, HasReached}
use Rattle.hplan_text.specs.Drafts.{IsDraft, Judges, JudgesIds, IsFirstUnreached, RefusedBy, between}
use Rattle.hplan_text.proofs.Numbered.{among-mapped}
use Rattle.hplan_text.proofs.PhaseFaults.{least-line, least-id, least-tree, faultless}

module _ {X : Type 0} where
  none-left : (xs ys : List X) → xs ++ ys ≡ [] → xs ≡ []
  none-left [] ys e = refl
  none-left (x ∷ xs) ys e = absurd cc

  none-right : (xs ys : List X) → xs ++ ys ≡ [] → ys ≡ []
  none-right [] ys e = e
  none-right (x ∷ xs) ys e = absurd cc

  none-mapped : {Y : Type 0} (f : Y → X) (ys : List Y) → map f ys ≡ [] → ys ≡ []
  none-mapped f [] e = refl
  none-mapped f (y ∷ ys) e = absurd cc

-- ids that aren't among some

others-are : (ns : List ℕ) (ms : List Mention) (m : Mention) → Has (others ns ms) m → Has ms m × (is_among m.id ns ≡ false)
others-are ns [] m h = absurd h
others-are ns (k ∷ ms) m h = go (is_among k.id ns) refl h (others-are ns ms m)
  where
    later : Has ms m × (is_among m.id ns ≡ false) → Has (k ∷ ms) m × (is_among m.id ns ≡ false)
    later h = (inr h.0, h.1)

    go : (b : Bool) → is_among k.id ns ≡ b → Has (put_if (not b) k (others ns ms)) m → (Has (others ns ms) m → Has ms m × (is_among m.id ns ≡ false)) → Has (k ∷ ms) m × (is_among m.id ns ≡ false)
    go true e h f = later (f h)
    go false e (inl q) f = (inl q, ap (λ (z : Mention). is_among z.id ns) (sym q) ∙ e)
    go false e (inr h) f = later (f h)

are-others : (ns : List ℕ) (ms : List Mention) (m : Mention) → Has ms m → is_among m.id ns ≡ false → Has (others ns ms) m
are-others ns [] m h e = absurd h
are-others ns (k ∷ ms) m h e = go (is_among k.id ns) refl h (λ i. are-others ns ms m i e)
  where
    go : (b : Bool) → is_among k.id ns ≡ b → Has (k ∷ ms) m → (Has ms m → Has (others ns ms) m) → Has (put_if (not b) k (others ns ms)) m
    go true f (inl q) r = absurd (let g = ap (λ (z : Mention). is_among z.id ns) q in cc)
    go true f (inr h) r = r h
    go false f (inl q) r = inl q
    go false f (inr h) r = inr (r h)

-- what isn't reached, where the reached ids are marked
module _ (rs : List Row) (ids : List ℕ) (marks : List Bool) (own : (m : Mention) → Has (own_ids rs) m → is_among m.id ids ≡ true) (reached : HasReached (plan_of rs) (among ids) (has ids marks)) where
  unseen : (m : Mention) → Has (own_ids rs) m → (Reaches (plan_of rs) m.id → ⊥) → has ids marks m.id ≡ false
  unseen m h none = go (has ids marks m.id) refl
    where
      go : (b : Bool) → has ids marks m.id ≡ b → b ≡ false
      go true e = absurd (none ((reached m.id (own m h)).0 e))
      go false e = refl

  unreached-found : (g : Fault) → IsUnreached rs g → Has (faults_at 36 (others (chosen ids marks) (own_ids rs))) g
  unreached-found g (m, h, none, e) =
      let i = are-others (chosen ids marks) (own_ids rs) m h (unseen m h none) in
      subst (λ z. Has (faults_at 36 (others (chosen ids marks) (own_ids rs))) z) (sym e) (has-to_map (λ (m : Mention). fault 36 m.at) (others (chosen ids marks) (own_ids rs)) m i)

  found-unreached : (g : Fault) → Has (faults_at 36 (others (chosen ids marks) (own_ids rs))) g → IsUnreached rs g
  found-unreached g h =
      let x = has-of_map (λ (m : Mention). fault 36 m.at) (others (chosen ids marks) (own_ids rs)) g h in
      let o = others-are (chosen ids marks) (own_ids rs) x.0 x.1 in
      (x.0, o.0, (λ r. (let a = (reached x.0.id (own x.0 o.0)).1 r in let c = o.1 in absurd cc)), sym x.2)

  first-unreached : (found : Option Found) → IsLeastOf found (faults_at 36 (others (chosen ids marks) (own_ids rs))) → IsFirstUnreached rs found
  first-unreached None h = λ g u. subst (λ z. Has z g) h (unreached-found g u)
  first-unreached (Some f) h = (found-unreached (as_fault f) h.0, λ g u. h.1 g (unreached-found g u))

-- where no id repeats, no two nodes have one id

kept-none : (b : Bool) (m : Mention) (ms : List Mention) → put_if b m ms ≡ [] → (b ≡ false) × (ms ≡ [])
kept-none true m ms e = absurd cc
kept-none false m ms e = (refl, e)

not-seen : (seen : List ℕ) (ms : List Mention) (m : Mention) → repeats_behind seen ms ≡ [] → Has ms m → is_among m.id seen ≡ false
not-seen seen [] m e h = absurd h
not-seen seen (k ∷ ms) m e (inl q) = ap (λ (z : Mention). is_among z.id seen) (sym q) ∙ (kept-none (is_among k.id seen) k (repeats_behind (k.id ∷ seen) ms) e).0
not-seen seen (k ∷ ms) m e (inr h) = last (k.id == m.id) (not-seen (k.id ∷ seen) ms m (kept-none (is_among k.id seen) k (repeats_behind (k.id ∷ seen) ms) e).1 h)
  where
    last : (b : Bool) → (b || is_among m.id seen) ≡ false → is_among m.id seen ≡ false
    last true e = absurd cc
    last false e = e

owned : (rs : List Row) (x : HNode) → Has (filter_map node rs) x → (m : Mention) × Has (own_ids rs) m × (m.id ≡ x.line.id)
owned [] x h = absurd h
owned (bad ∷ rs) x h = owned rs x h
owned (top ids ∷ rs) x h = owned rs x h
owned (primitive m name args ∷ rs) x h = let o = owned rs x h in (o.0, inr o.1, o.2)
owned (decomposed m name args method ids ∷ rs) x (inl q) = (m, inl refl, ap (λ (z : HNode). z.line.id) q)
owned (decomposed m name args method ids ∷ rs) x (inr h) = let o = owned rs x h in (o.0, inr o.1, o.2)

not-later : (m : Mention) (seen : List ℕ) (rs : List Row) (y : HNode) → repeats_behind (m.id ∷ seen) (own_ids rs) ≡ [] → Has (filter_map node rs) y → m.id ≡ y.line.id → ⊥
not-later m seen rs y e h q =
    let o = owned rs y h in
    let a = not-seen (m.id ∷ seen) (own_ids rs) o.0 e o.1 in
    let b : (m.id == o.0.id) ≡ true = eq-eqb m.id o.0.id (q ∙ sym o.2) in
    front (m.id == o.0.id) (is_among o.0.id seen) b a
  where
    front : (t c : Bool) → t ≡ true → (t || c) ≡ false → ⊥
    front t c e f = let g = ap (λ z. z || c) (sym e) in cc

once : (seen : List ℕ) (rs : List Row) → repeats_behind seen (own_ids rs) ≡ [] → AreOnce (filter_map node rs)
once seen [] e x y h i q = absurd h
once seen (bad ∷ rs) e x y h i q = once seen rs e x y h i q
once seen (top ids ∷ rs) e x y h i q = once seen rs e x y h i q
once seen (primitive m name args ∷ rs) e x y h i q = once (m.id ∷ seen) rs (kept-none (is_among m.id seen) m (repeats_behind (m.id ∷ seen) (own_ids rs)) e).1 x y h i q
once seen (decomposed m name args method ids ∷ rs) e x y (inl a) (inl b) q = sym a ∙ b
once seen (decomposed m name args method ids ∷ rs) e x y (inl a) (inr i) q =
    absurd (not-later m seen rs y (kept-none (is_among m.id seen) m (repeats_behind (m.id ∷ seen) (own_ids rs)) e).1 i (ap (λ (z : HNode). z.line.id) a ∙ q))
once seen (decomposed m name args method ids ∷ rs) e x y (inr h) (inl b) q =
    absurd (not-later m seen rs x (kept-none (is_among m.id seen) m (repeats_behind (m.id ∷ seen) (own_ids rs)) e).1 h (ap (λ (z : HNode). z.line.id) b ∙ sym q))
once seen (decomposed m name args method ids ∷ rs) e x y (inr h) (inr i) q = once (m.id ∷ seen) rs (kept-none (is_among m.id seen) m (repeats_behind (m.id ∷ seen) (own_ids rs)) e).1 x y h i q

pub nodes-once : (rs : List Row) → id_faults rs ≡ [] → AreOnce (plan_of rs).nodes
nodes-once rs e = once [] rs (none-mapped (λ (m : Mention). fault 32 m.at) (repeats (own_ids rs)) (none-left (faults_at 32 (repeats (own_ids rs))) _ e))

-- lines without faults

formed : (ls : List Line) → bad_places ls ≡ [] → EachIs (λ r. is_bad r ≡ false) (map row ls)
formed [] e = tt
formed (l ∷ ls) e = go (row l) refl e (formed ls)
  where
    here : (r : Row) → row l ≡ r → is_bad r ≡ false → is_bad (row l) ≡ false
    here r q f = ap is_bad q ∙ f

    go : (r : Row) → row l ≡ r → cons_option (bad_place l r) (bad_places ls) ≡ [] → (bad_places ls ≡ [] → EachIs (λ r. is_bad r ≡ false) (map row ls)) → EachIs (λ r. is_bad r ≡ false) (row l ∷ map row ls)
    go bad q e f = absurd cc
    go (top ids) q e f = (here (top ids) q refl, f e)
    go (primitive m name args) q e f = (here (primitive m name args) q refl, f e)
    go (decomposed m name args method ids) q e f = (here (decomposed m name args method ids) q refl, f e)

no-tops : (ls : List Line) → top_places ls ≡ [] → tops (map row ls) ≡ []
no-tops [] e = refl
no-tops (l ∷ ls) e = go (row l) e (no-tops ls)
  where
    go : (r : Row) → cons_option (top_place l r) (top_places ls) ≡ [] → (top_places ls ≡ [] → tops (map row ls) ≡ []) → cons_option (top_ids r) (tops (map row ls)) ≡ []
    go bad e f = f e
    go (top ids) e f = absurd cc
    go (primitive m name args) e f = f e
    go (decomposed m name args method ids) e f = f e

one-top : (ls : List Line) → drop 1 (top_places ls) ≡ [] → (top_places ls ≡ [] → ⊥) → (root : List Mention) × (tops (map row ls) ≡ root ∷ [])
one-top [] d n = absurd (n refl)
one-top (l ∷ ls) d n = go (row l) d n (one-top ls)
  where
    go : (r : Row) → drop 1 (cons_option (top_place l r) (top_places ls)) ≡ [] → (cons_option (top_place l r) (top_places ls) ≡ [] → ⊥)
        → (drop 1 (top_places ls) ≡ [] → (top_places ls ≡ [] → ⊥) → (root : List Mention) × (tops (map row ls) ≡ root ∷ [])) → (root : List Mention) × (cons_option (top_ids r) (tops (map row ls)) ≡ root ∷ [])
    go bad d n f = f d n
    go (top ids) d n f = (ids, ap (λ z. ids ∷ z) (no-tops ls d))
    go (primitive m name args) d n f = f d n
    go (decomposed m name args method ids) d n f = f d n

pub spelled : (text : List ℕ) (m : Marked) → marked text ≡ Some m → line_faults m ≡ [] → SpellsHPlan text (plan_of (rows m))
spelled text m e none =
    let more = map (fault 31) (drop 1 (top_places m.lines)) ++ no_root (top_places m.lines) m.end in
    let bads = none-mapped (fault 31) (bad_places m.lines) (none-left (map (fault 31) (bad_places m.lines)) more none) in
    let rest = none-right (map (fault 31) (bad_places m.lines)) more none in
    let seconds = none-mapped (fault 31) (drop 1 (top_places m.lines)) (none-left (map (fault 31) (drop 1 (top_places m.lines))) (no_root (top_places m.lines) m.end) rest) in
    let rooted = none-right (map (fault 31) (drop 1 (top_places m.lines))) (no_root (top_places m.lines) m.end) rest in
    let one = one-top m.lines seconds (some (top_places m.lines) rooted) in
    record { between = m; is_between = e; formed = formed m.lines bads; root = one.0; one_root = one.1; plan_is = refl }
  where
    some : (ps : List ℕ) → no_root ps m.end ≡ [] → ps ≡ [] → ⊥
    some [] e f = cc
    some (p ∷ ps) e f = cc

-- what was judged of the lines is so of the text
module _ (text : List ℕ) (m : Marked) (e : marked text ≡ Some m) where
  lines-are : line_faults m ≡ faults_of_lines (length text) (marked text)
  lines-are = ap (faults_of_lines (length text)) (sym e)

  ids-are : id_faults (rows m) ≡ faults_of_ids (marked text)
  ids-are = ap faults_of_ids (sym e)

  tree-is : (g : Fault) → IsTreeFault (marked text) g → IsUnreached (rows m) g
  tree-is g t = subst (λ o. IsTreeFault o g) e t

  is-tree : (g : Fault) → IsUnreached (rows m) g → IsTreeFault (marked text) g
  is-tree g t = subst (λ o. IsTreeFault o g) (sym e) t

  pub read-plan : Judges m None → IsHPlanRead text (plan_of (rows m))
  read-plan (a, (b, c)) = record {
    faultless = faultless text (sym lines-are ∙ a) (sym ids-are ∙ b) (λ g t. c g (tree-is g t));
    spelled = spelled text m e a;
  }

  pub refused-plan : (f : Found) → Judges m (Some f) → IsLeastFault text (as_fault f)
  refused-plan f (inl h) = let k = subst (λ z. IsLeastOf (Some f) z) lines-are h in least-line text (as_fault f) k.0 k.1
  refused-plan f (inr (a, inl h)) = let k = subst (λ z. IsLeastOf (Some f) z) ids-are h in least-id text (as_fault f) (sym lines-are ∙ a) k.0 k.1
  refused-plan f (inr (a, inr (b, h))) = least-tree text (as_fault f) (sym lines-are ∙ a) (sym ids-are ∙ b) (is-tree (as_fault f) h.0) (λ g t. h.1 g (tree-is g t))

-- what was found of a draft is so of its lines
module _ (ls : List Line) (d : Draft) (h : IsDraft ls d) (ids : List ℕ) (same : HaveIds ids d.own.items) where
  ids-same : id_faults_of d.own.items d.listed.items ≡ id_faults (map row ls)
  ids-same = ap₂ id_faults_of h.own h.listed

  among-own : (m : Mention) → Has (own_ids (map row ls)) m → is_among m.id ids ≡ true
  among-own m k = same m.id ∙ among-mapped m d.own.items (subst (λ z. Has z m) (sym h.own) k)

  pub owned-in : AreOwned (among ids) d.plan.nodes
  owned-in x k =
      let o = owned (map row ls) x (subst (λ (p : HPlan). Has p.nodes x) h.plan_is k) in
      ap (λ n. is_among n ids) (sym o.2) ∙ among-own o.0 o.1

  pub once-in : id_faults_of d.own.items d.listed.items ≡ [] → AreOnce d.plan.nodes
  once-in e = subst (λ (p : HPlan). AreOnce p.nodes) (sym h.plan_is) (nodes-once (map row ls) (sym ids-same ∙ e))

  pub judged-ids : (f : Found) → IsLeastOf (Some f) (id_faults_of d.own.items d.listed.items) → JudgesIds (map row ls) (Some f)
  judged-ids f k = inl (subst (λ z. IsLeastOf (Some f) z) ids-same k)

  pub judged-tree : (marks : List Bool) (found : Option Found) → id_faults_of d.own.items d.listed.items ≡ [] → HasReached d.plan (among ids) (has ids marks)
      → IsLeastOf found (faults_at 36 (others (chosen ids marks) d.own.items)) → JudgesIds (map row ls) found
  judged-tree marks found e reached least =
      last found (first-unreached (map row ls) ids marks among-own (subst (λ p. HasReached p (among ids) (has ids marks)) h.plan_is reached) found
      (subst (λ z. IsLeastOf found (faults_at 36 (others (chosen ids marks) z))) h.own least))
    where
      last : (found : Option Found) → IsFirstUnreached (map row ls) found → JudgesIds (map row ls) found
      last None u = (sym ids-same ∙ e, u)
      last (Some f) u = inr (sym ids-same ∙ e, u)

-- behind the lines the ids are judged
pub judged-then : (ls : List Line) (end : ℕ) (found : Option Found) → line_faults (between ls end) ≡ [] → JudgesIds (map row ls) found → Judges (between ls end) found
judged-then ls end None a j = (a, j)
judged-then ls end (Some f) a j = inr (a, j)

pub if-ok : {T E : Type 0} {P Q : T → Type 0} (r : Result T E) → ((x : T) → P x → Q x) → IfOk r P → IfOk r Q
if-ok (Ok x) f h = f x h
if-ok (Err e) f h = tt

pub if-err : {T E : Type 0} {P Q : E → Type 0} (r : Result T E) → ((x : E) → P x → Q x) → IfErr r P → IfErr r Q
if-err (Ok x) f h = tt
if-err (Err e) f h = f e h

pub plan-read : (text : List ℕ) (ls : List Line) (end : ℕ) (d : Draft) (plan : HPlan) → marked text ≡ Some (between ls end) → IsDraft ls d → Judges (between ls end) None → plan ≡ d.plan → IsHPlanRead text plan
plan-read text ls end d plan e h j p = subst (IsHPlanRead text) (sym (p ∙ h.plan_is)) (read-plan text (between ls end) e j)

pub plan-refused : (text : List ℕ) (ls : List Line) (end file : ℕ) (error : ReadError) → marked text ≡ Some (between ls end) → RefusedBy file (between ls end) error → RefusesHPlan file text error
plan-refused text ls end file errors.Memory e r = tt
plan-refused text ls end file (errors.Bad f) e r = (r.0, refused-plan text (between ls end) e (record { at = f.at; code = f.code }) r.1)
