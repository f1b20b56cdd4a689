-- Lists put together of several, one after another.
use Rattle.std.proofs.Common.{◌≡◌, List, [], ◌∷◌, ◌++◌, map, refl, ap, ◌∙◌}
use Rattle.std.proofs.lemmas.List.{map-append}
use Rattle.htn_base.specs.Different.{AreDifferent}
use Rattle.htn_base.proofs.DifferentLemmas.{different-left, different-right}
use Rattle.text_forms.specs.Words.{Word}
use Rattle.plan_texts.specs.Types.{EachIs}
use Rattle.plan_texts.specs.Together.{Together}
use Rattle.plan_texts.proofs.Places.{each-join}
use Rattle.slot_encoding.proofs.words.Lists.{each-left, each-right}
use Rattle.slot_encoding.proofs.encoded_texts.SaidAlike.{together-join}

abbrev pub appended : {X : Type 0} → List X → List (List X) → List X
appended xs [] = xs
appended xs (ys ∷ yss) = appended (xs ++ ys) yss

-- what holds of each item holds of each of each list
pub of-appended : {X : Type 0} (P : X → Type 0) (xs : List X) (yss : List (List X)) → EachIs P (appended xs yss) → EachIs P xs × EachIs (EachIs P) yss
of-appended P xs [] e = (e, tt)
of-appended P xs (ys ∷ yss) e = let r = of-appended P (xs ++ ys) yss e in (each-left P xs ys r.0, (each-right P xs ys r.0, r.1))

pub to-appended : {X : Type 0} (P : X → Type 0) (xs : List X) (yss : List (List X)) → EachIs P xs → EachIs (EachIs P) yss → EachIs P (appended xs yss)
to-appended P xs [] e f = e
to-appended P xs (ys ∷ yss) e f = to-appended P (xs ++ ys) yss (each-join P xs ys e f.0) f.1

pub map-appended : {X Y : Type 0} (f : X → Y) (xs : List X) (yss : List (List X)) → map f (appended xs yss) ≡ appended (map f xs) (map (map f) yss)
map-appended f xs [] = refl
map-appended f xs (ys ∷ yss) = map-appended f (xs ++ ys) yss ∙ ap (λ z. appended z (map (map f) yss)) (map-append f xs ys)

pub different-appended : (xs : List Word) (yss : List (List Word)) → AreDifferent (appended xs yss) → AreDifferent xs × EachIs AreDifferent yss
different-appended xs [] d = (d, tt)
different-appended xs (ys ∷ yss) d = let r = different-appended (xs ++ ys) yss d in (different-left xs ys r.0, (different-right xs ys r.0, r.1))

pub together-appended : {X Y : Type 0} (R : X → Y → Type 0) (xs : List X) (us : List Y) (yss : List (List X)) (vss : List (List Y)) → Together R xs us → Together (Together R) yss vss → Together R (appended xs yss) (appended us vss)
together-appended R xs us [] [] t s = t
together-appended R xs us [] (vs ∷ vss) t s = absurd s
together-appended R xs us (ys ∷ yss) [] t s = absurd s
together-appended R xs us (ys ∷ yss) (vs ∷ vss) t s = together-appended R (xs ++ ys) (us ++ vs) yss vss (together-join R xs ys us vs t s.0) s.1
