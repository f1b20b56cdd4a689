-- Lists with the same members, and lists to which members are added.
use Rattle.std.proofs.Common.{◌≡◌, ◌↔◌, ◌⊎◌, inl, inr, List, [], ◌∷◌, ◌++◌, false, Option, Some, None, Contains, subst}
use Rattle.std.specs.List.{flat_map}
use Rattle.std.specs.Option.{is_some}
use Rattle.plan_texts.specs.Types.{Has}
use Rattle.plan_texts.proofs.Members.{contains-has, has-contains}

pub has_split : {X : Type 0} (xs ys : List X) (x : X) → Has (xs ++ ys) x → Has xs x ⊎ Has ys x
has_split [] ys x h = inr h
has_split (y ∷ xs) ys x (inl h) = inl (inl h)
has_split (y ∷ xs) ys x (inr h) = elim (has_split xs ys x h) [ inl k ↦ inl (inr k) | inr k ↦ inr k ]

pub has_left : {X : Type 0} (xs ys : List X) (x : X) → Has xs x → Has (xs ++ ys) x
has_left [] ys x h = absurd h
has_left (y ∷ xs) ys x (inl h) = inl h
has_left (y ∷ xs) ys x (inr h) = inr (has_left xs ys x h)

pub has_right : {X : Type 0} (xs ys : List X) (x : X) → Has ys x → Has (xs ++ ys) x
has_right [] ys x h = h
has_right (y ∷ xs) ys x h = inr (has_right xs ys x h)

pub has_join : {X : Type 0} (xs ys : List X) (x : X) → Has xs x ⊎ Has ys x → Has (xs ++ ys) x
has_join xs ys x (inl h) = has_left xs ys x h
has_join xs ys x (inr h) = has_right xs ys x h

-- the same members
abbrev pub Same : {X : Type 0} → List X → List X → Type 0
Same {X} xs ys = (x : X) → Has xs x ↔ Has ys x

-- the new list has the members of the old one and these
abbrev pub Adds : {X : Type 0} → List X → List X → List X → Type 0
Adds {X} old new more = (x : X) → Has new x ↔ (Has old x ⊎ Has more x)

pub same_refl : {X : Type 0} (xs : List X) → Same xs xs
same_refl xs x = (λ h. h, λ h. h)

pub same_by : {X : Type 0} (xs ys : List X) → xs ≡ ys → Same xs ys
same_by xs ys e = subst (Same xs) e (same_refl xs)

pub same_then : {X : Type 0} (xs ys zs : List X) → Same xs ys → Same ys zs → Same xs zs
same_then xs ys zs a b x = (λ h. (b x).0 ((a x).0 h), λ h. (a x).1 ((b x).1 h))

pub same_join : {X : Type 0} (xs xs' ys ys' : List X) → Same xs xs' → Same ys ys' → Same (xs ++ ys) (xs' ++ ys')
same_join xs xs' ys ys' a b x = (
  λ h. has_join xs' ys' x (elim (has_split xs ys x h) [ inl k ↦ inl ((a x).0 k) | inr k ↦ inr ((b x).0 k) ]),
  λ h. has_join xs ys x (elim (has_split xs' ys' x h) [ inl k ↦ inl ((a x).1 k) | inr k ↦ inr ((b x).1 k) ]),
)

-- what stands in front is in the rest already
pub same_twice : {X : Type 0} (xs ys zs : List X) → Same (xs ++ ys) zs → Same (xs ++ (xs ++ ys)) zs
same_twice xs ys zs a x = (
  λ h. (a x).0 (elim (has_split xs (xs ++ ys) x h) [ inl k ↦ has_left xs ys x k | inr k ↦ k ]),
  λ h. has_right xs (xs ++ ys) x ((a x).1 h),
)

pub adds_none : {X : Type 0} (xs : List X) → Adds xs xs []
adds_none xs x = (λ h. inl h, λ h. elim h [ inl k ↦ k | inr k ↦ absurd k ])

-- to the front of longer lists, and to their end
pub adds_front : {X : Type 0} (old new more rest : List X) → Adds old new more → Adds (old ++ rest) (new ++ rest) more
adds_front old new more rest a x = (
  λ h. elim (has_split new rest x h) [ inl k ↦ elim ((a x).0 k) [ inl l ↦ inl (has_left old rest x l) | inr l ↦ inr l ] | inr k ↦ inl (has_right old rest x k) ],
  λ h. elim h [ inl k ↦ elim (has_split old rest x k) [ inl l ↦ has_left new rest x ((a x).1 (inl l)) | inr l ↦ has_right new rest x l ] | inr k ↦ has_left new rest x ((a x).1 (inr k)) ],
)

pub adds_back : {X : Type 0} (front old new more : List X) → Adds old new more → Adds (front ++ old) (front ++ new) more
adds_back front old new more a x = (
  λ h. elim (has_split front new x h) [ inl k ↦ inl (has_left front old x k) | inr k ↦ elim ((a x).0 k) [ inl l ↦ inl (has_right front old x l) | inr l ↦ inr l ] ],
  λ h. elim h [ inl k ↦ elim (has_split front old x k) [ inl l ↦ has_left front new x l | inr l ↦ has_right front new x ((a x).1 (inl l)) ] | inr k ↦ has_right front new x ((a x).1 (inr k)) ],
)

-- one after another
pub adds_then : {X : Type 0} (old middle new more most : List X) → Adds old middle more → Adds middle new most → Adds old new (more ++ most)
adds_then old middle new more most a b x = (
  λ h. elim ((b x).0 h) [ inl k ↦ elim ((a x).0 k) [ inl l ↦ inl l | inr l ↦ inr (has_left more most x l) ] | inr k ↦ inr (has_right more most x k) ],
  λ h. (b x).1 (elim h [ inl k ↦ inl ((a x).1 (inl k)) | inr k ↦ elim (has_split more most x k) [ inl l ↦ inl ((a x).1 (inr l)) | inr l ↦ inr l ] ]),
)

pub adds_same : {X : Type 0} (old new more more' : List X) → Same more more' → Adds old new more → Adds old new more'
adds_same old new more more' s a x = (
  λ h. elim ((a x).0 h) [ inl k ↦ inl k | inr k ↦ inr ((s x).0 k) ],
  λ h. (a x).1 (elim h [ inl k ↦ inl k | inr k ↦ inr ((s x).1 k) ]),
)

-- to nothing
pub adds_all : {X : Type 0} (new more : List X) → Adds [] new more → Same new more
adds_all new more a x = (λ h. elim ((a x).0 h) [ inl k ↦ absurd k | inr k ↦ k ], λ h. (a x).1 (inr h))

pub adds_end : {X : Type 0} (xs ys : List X) → Adds xs (xs ++ ys) ys
adds_end xs ys x = (λ h. has_split xs ys x h, λ h. has_join xs ys x h)

-- what an optional part has
abbrev pub in_option : {X Y : Type 0} → (X → List Y) → Option X → List Y
in_option f None = []
in_option f (Some x) = f x

-- a field that was empty is filled
pub fills : {X Y : Type 0} (f : X → List Y) (o : Option X) (x : X) (more : List Y) → is_some o ≡ false → Same (f x) more → Adds (in_option f o) (in_option f (Some x)) more
fills f None x more e s y = (λ h. inr ((s y).0 h), λ h. elim h [ inl k ↦ absurd k | inr k ↦ (s y).1 k ])
fills f (Some z) x more e s y = absurd (let g = e in cc)

-- a list gets one more at its end
pub grows : {X Y : Type 0} (f : X → List Y) (xs : List X) (x : X) → Adds (flat_map f xs) (flat_map f (xs ++ x ∷ [])) (f x)
grows f [] x y = (λ h. elim (has_split (f x) [] y h) [ inl k ↦ inr k | inr k ↦ absurd k ], λ h. has_left (f x) [] y (elim h [ inl k ↦ absurd k | inr k ↦ k ]))
grows f (z ∷ xs) x y = adds_back (f z) (flat_map f xs) (flat_map f (xs ++ x ∷ [])) (f x) (grows f xs x) y

-- the same, as lists contain
pub contained : {X : Type 0} (xs ys : List X) → Same xs ys → (x : X) → Contains xs x ↔ Contains ys x
contained xs ys s x = (λ c. has-contains ys x ((s x).0 (contains-has xs x c)), λ c. has-contains xs x ((s x).1 (contains-has ys x c)))
