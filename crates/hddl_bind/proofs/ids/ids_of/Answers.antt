use Rattle.std.proofs.Common.{ℕ, ◌≡◌, ◌++◌, ◌∷◌, [], List, Option, map, take, ap, sym, ◌∙◌, append-nil}
use Rattle.std.proofs.lemmas.List.{take_all, map-append}
use Rattle.gd_reader.specs.declared.term.RawTerm.{RawTerm}
use Rattle.hddl_reader.specs.declared.networks.RawSub.{RawSub}
use Rattle.name_binding.specs.Places.{first_place}
use Rattle.name_binding.specs.Spots.{noted}
use Rattle.name_binding.specs.declared.faults.Faults.{Faults}
use Rattle.name_binding.specs.declared.faults.Spot.{Spot}
use Rattle.hddl_bind.specs.Seconds.{if_known, seconds}
use Rattle.hddl_bind.specs.Ids.{term_number, term_at, id_at, ids, subtask_of, subtask_at}
use Rattle.hddl_bind.proofs.Called.{id_places, ids_more, id_places_more, noted-seconds, are_ids}
use Rattle.hddl_bind.proofs.ids.ids_of.Goals as goal
use Rattle.hddl_bind.proofs.ids.ids_of.Goals.{in-Some+in_ok-declare+in_ok-number+in_ok-push, in_default}

pub loop-k-preserved : goal.loop-k-preserved
loop-k-preserved c =
    let xs = c.args.subs.now in
    let k = c.loop-k.k in
    let x = c.index-subs-k.result in
    let l = c.loop-k-test.true in
    let least = c.args.faults.now.least in
    let kept = c.loop-k.invariant in
    let here = id_at x.id in
    let same = sym (ap (λ (y : RawSub). id_at y.id) c.index-subs-k.is) in
    let more = ids_more xs k x l ∙ ap (λ ts. ids (take k xs) ++ ts) same in
    let grown = id_places_more xs k x l ∙ ap (λ ts. id_places 0 (take k xs) ++ map (λ (_ : RawTerm). k) ts) same in
    let numbers = λ (new : List ℕ) (put : new ≡ c.loop-k.ids ++ map term_number here).
    put ∙ ap (λ ns. ns ++ map term_number here) kept.numbers
    ∙ sym (map-append term_number (ids (take k xs)) here) ∙ sym (ap (map term_number) more) in
    let places = λ (new : List ℕ) (put : new ≡ c.loop-k.places ++ map (λ (_ : RawTerm). k) here).
    put ∙ ap (λ ns. ns ++ map (λ (_ : RawTerm). k) here) kept.places ∙ sym grown in
    let faults = λ (new : Option Spot) (put : new ≡ noted c.loop-k.faults.least (seconds term_number term_at c.loop-k.ids here)).
    put ∙ ap (λ o. noted o (seconds term_number term_at c.loop-k.ids here)) kept.faults
    ∙ ap (λ ns. noted (noted least (seconds term_number term_at [] (ids (take k xs)))) (seconds term_number term_at ns here)) kept.numbers
    ∙ sym (noted-seconds term_number term_at least [] (ids (take k xs)) here) ∙ ap (λ ts. noted least (seconds term_number term_at [] ts)) (sym more) in
    elim c.match-sub.branch [
      | in-Some+in_ok-declare+in_ok-number+in_ok-push w ↦
          let id = sym w.in-Some.is in
          record {
            numbers = numbers _ (w.ids-is ∙ w.in_ok-declare.ensures.declared ∙ ap (λ o. c.loop-k.ids ++ map term_number (id_at o)) id);
            places = places _ (w.places-is ∙ w.in_ok-push.ensures.pushed ∙ ap (λ n. c.loop-k.places ++ n ∷ []) w.in_ok-number.ensures.same ∙ ap (λ o. c.loop-k.places ++ map (λ (_ : RawTerm). k) (id_at o)) id);
            faults = faults _ (ap (λ (f : Faults). f.least) w.faults-is ∙ w.declare.ensures.faults ∙ ap (noted c.loop-k.faults.least) (sym (append-nil (if_known (first_place w.in-Some.id.name.number c.loop-k.ids) w.in-Some.id.at)) ∙ ap (λ o. seconds term_number term_at c.loop-k.ids (id_at o)) id));
          }
      | in_default w ↦
          let id = sym w.in_default.is in
          record {
            numbers = numbers _ (w.ids-is ∙ sym (append-nil c.loop-k.ids) ∙ ap (λ o. c.loop-k.ids ++ map term_number (id_at o)) id);
            places = places _ (w.places-is ∙ sym (append-nil c.loop-k.places) ∙ ap (λ o. c.loop-k.places ++ map (λ (_ : RawTerm). k) (id_at o)) id);
            faults = faults _ (ap (λ (f : Faults). f.least) w.faults-is ∙ ap (λ o. noted c.loop-k.faults.least (seconds term_number term_at c.loop-k.ids (id_at o))) id);
          }
    ]

pub returns-clause-ids : goal.returns-clause-ids
returns-clause-ids c n =
    let xs = c.args.subs.now in
    let all = take_all c.loop-k.k xs c.loop-k-test.false in
    ap (λ ns. subtask_at ns c.loop-k.places n) c.loop-k.invariant.numbers
    ∙ ap (λ ps. subtask_at (map term_number (ids (take c.loop-k.k xs))) ps n) c.loop-k.invariant.places
    ∙ are_ids (take c.loop-k.k xs) n ∙ ap (subtask_of n) all
