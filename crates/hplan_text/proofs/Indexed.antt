-- The places of nodes, at the places of their ids.
use Rattle.std.proofs.Common.{ℕ, zero, suc, ◌≡◌, ◌∙◌, ◌+◌, ◌<◌, ◌≤◌, ◌⊎◌, inl, inr, false, Option, Some, None, List, [], ◌∷◌, ◌++◌, take, length, get_or, slice_get, slice_index, slice_set, replicate, refl, sym, ap, subst, arith}
use Rattle.std.specs.List.Sorted.{IsStrictlyIncreasing}
use Rattle.std.proofs.lemmas.Bool.Decides.{eqb_tells}
use Rattle.std.proofs.lemmas.List.{take_more, take_all, get_or-set_same, get_or-set_other, get_or-replicate, length-set, length-replicate}
use Rattle.plan_texts.specs.Types.{Has}
use Rattle.hplan_text.specs.declared.values.HNode.{HNode}
use Rattle.hplan_text.specs.HPlanFaults.{is_among}
use Rattle.hplan_text.specs.Marks.{among}
use Rattle.hplan_text.specs.Walks.{AreOwned, IsAt, IsIndex, FindsNode}
use Rattle.hplan_text.proofs.Marked.{one-place, among-at}

pub got-has : (xs : List HNode) (j : ℕ) (x : HNode) → slice_get xs j ≡ Some x → Has xs x
got-has [] j x e = absurd cc
got-has (y ∷ ys) zero x e = inl (cc)
got-has (y ∷ ys) (suc j) x e = inr (got-has ys j x e)

got-at : (xs : List HNode) (i : ℕ) (d : HNode) → i < length xs → slice_get xs i ≡ Some (get_or xs i d)
got-at [] i d l = absurd (omega arith)
got-at (y ∷ ys) zero d l = refl
got-at (y ∷ ys) (suc i) d l = got-at ys i d (omega arith)

got-past : (xs : List HNode) → slice_get xs (length xs) ≡ None
got-past [] = refl
got-past (y ∷ ys) = got-past ys

has-either : (xs : List HNode) (y x : HNode) → Has (xs ++ y ∷ []) x → Has xs x ⊎ (y ≡ x)
has-either [] y x (inl e) = inr e
has-either [] y x (inr h) = absurd h
has-either (z ∷ xs) y x (inl e) = inl (inl e)
has-either (z ∷ xs) y x (inr h) = elim (has-either xs y x h) [ inl i ↦ inl (inr i) | inr e ↦ inr e ]

module _ (ids : List ℕ) (nodes : List HNode) where
  -- the nodes in front of a place have theirs there
  pub record IsIndexTo (i : ℕ) (index : List ℕ) : Type 0 where
    pub sized : length index ≡ length ids
    pub found : (p : ℕ) (x : HNode) → p < length ids → slice_get nodes (slice_index index p) ≡ Some x → x.line.id ≡ slice_index ids p
    pub all : (p : ℕ) (x : HNode) → p < length ids → Has (take i nodes) x → x.line.id ≡ slice_index ids p → IsAt nodes x.line.id (slice_index index p)

  pub no-index : IsIndexTo 0 (replicate (length ids) (length nodes))
  no-index = record {
    sized = length-replicate (length ids) (length nodes);
    found = λ p x l e. absurd (let f = ap (slice_get nodes) (get_or-replicate (length ids) p (length nodes) 0 l) in let g = got-past nodes in cc);
    all = λ p x l h e. absurd h;
  }

  pub index-whole : (i : ℕ) (index : List ℕ) → length nodes ≤ i → IsIndexTo i index → IsIndex ids nodes index
  index-whole i index l h = record { sized = h.sized; found = h.found; all = λ p x m k e. h.all p x m (subst (λ z. Has z x) (sym (take_all i nodes l)) k) e }

  module _ (i : ℕ) (d : HNode) (l : i < length nodes) (old : List ℕ) (h : IsIndexTo i old) where
    abbrev y : HNode
    y = get_or nodes i d

    split : (x : HNode) → Has (take (i + 1) nodes) x → Has (take i nodes) x ⊎ (y ≡ x)
    split x k = has-either (take i nodes) y x (subst (λ z. Has z x) (take_more nodes i d l) k)

    -- no id is that of the node
    pub index-same : is_among y.line.id ids ≡ false → IsIndexTo (i + 1) old
    index-same none = record {
      sized = h.sized;
      found = h.found;
      all = λ p x m k e. elim (split x k) [
        | inl j ↦ h.all p x m j e
        | inr q ↦ absurd (let f = among-at ids p m in let g = ap (λ n. is_among n ids) (ap (λ (z : HNode). z.line.id) q ∙ e) in cc)
      ];
    }

    module _ (place : ℕ) (m : place < length ids) (is : slice_index ids place ≡ y.line.id) (rises : IsStrictlyIncreasing ids) (new : List ℕ) (put : new ≡ slice_set old place i) where
      here : slice_index new place ≡ i
      here = ap (λ z. slice_index z place) put ∙ get_or-set_same old place i 0 (let e = h.sized in omega arith)

      other : (p : ℕ) → (p ≡ place → ⊥) → slice_index new p ≡ slice_index old p
      other p n = ap (λ z. slice_index z p) put ∙ get_or-set_other old place p i 0 n

      at-here : (p : ℕ) → p ≡ place → slice_get nodes (slice_index new p) ≡ Some y
      at-here p e = ap (slice_get nodes) (ap (slice_index new) e ∙ here) ∙ got-at nodes i d l

      found-now : (p : ℕ) (x : HNode) → p < length ids → slice_get nodes (slice_index new p) ≡ Some x → x.line.id ≡ slice_index ids p
      found-now p x b e = elim (eqb_tells p place) [
        | inl q ↦ (let f : Some x ≡ Some y = sym e ∙ at-here p q.1 in let g : x ≡ y = cc in ap (λ (z : HNode). z.line.id) g ∙ sym is ∙ ap (slice_index ids) (sym q.1))
        | inr q ↦ h.found p x b (ap (slice_get nodes) (sym (other p q.1)) ∙ e)
      ]

      all-now : (p : ℕ) (x : HNode) → p < length ids → Has (take (i + 1) nodes) x → x.line.id ≡ slice_index ids p → IsAt nodes x.line.id (slice_index new p)
      all-now p x b k e = elim (eqb_tells p place) [
        | inl q ↦ (y, at-here p q.1, sym is ∙ ap (slice_index ids) (sym q.1) ∙ sym e)
        | inr q ↦ elim (split x k) [
          | inl j ↦ subst (IsAt nodes x.line.id) (sym (other p q.1)) (h.all p x b j e)
          | inr f ↦ absurd (q.1 (one-place ids p place rises b m (sym e ∙ ap (λ (z : HNode). z.line.id) (sym f) ∙ sym is)))
        ]
      ]

      pub index-more : IsIndexTo (i + 1) new
      index-more = record { sized = ap length put ∙ length-set old place i ∙ h.sized; found = found-now; all = all-now }

module _ (ids : List ℕ) (nodes : List HNode) (index : List ℕ) (h : IsIndex ids nodes index) (n p : ℕ) (l : p < length ids) (e : slice_index ids p ≡ n) where
  -- the node that is found, or none
  pub finds : (x : HNode) → slice_get nodes (slice_index index p) ≡ Some x → FindsNode nodes n (Some x)
  finds x g = (got-has nodes (slice_index index p) x g, h.found p x l g ∙ e)

  pub finds-none : slice_get nodes (slice_index index p) ≡ None → FindsNode nodes n None
  finds-none g x i q = let a = h.all p x l i (q ∙ sym e) in absurd (let b = a.1 in cc)

-- an id that is none of these has no node
pub finds-unknown : (ids : List ℕ) (nodes : List HNode) (n : ℕ) → AreOwned (among ids) nodes → is_among n ids ≡ false → FindsNode nodes n None
finds-unknown ids nodes n owned none x i q = absurd (let a = owned x i in let b = ap (λ k. is_among k ids) q in cc)

-- the node with an id, or that there is none
pub node-of : (nodes : List HNode) (n : ℕ) → (o : Option HNode) × FindsNode nodes n o
node-of [] n = (None, λ x h q. absurd h)
node-of (y ∷ ys) n = elim (eqb_tells y.line.id n) [ inl h ↦ (Some y, (inl refl, h.1)) | inr h ↦ later h.1 (node-of ys n) ]
  where
    later : (y.line.id ≡ n → ⊥) → (o : Option HNode) × FindsNode ys n o → (o : Option HNode) × FindsNode (y ∷ ys) n o
    later f (None, g) = (None, λ x i q. elim i [ inl e ↦ f (ap (λ (z : HNode). z.line.id) e ∙ q) | inr j ↦ g x j q ])
    later f (Some x, g) = (Some x, (inr g.0, g.1))
