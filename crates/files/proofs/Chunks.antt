-- Events one after the other, from a place on.
use Rattle.std.proofs.Common.{◌≡◌, ℕ, suc, ◌+◌, ◌<◌, ◌≤◌, true, false, List, [], ◌∷◌, ◌++◌, length, get_or, drop, Option, Some, None, Ok, Err, sym, refl, ap, ◌∙◌, append_assoc, append-nil, add-one}
use Rattle.std.proofs.lemmas.List.{drop_more, drop_all}
use Rattle.timeline.specs.declared.events.Event.{Event}
use Rattle.patterns.specs.Limits.{an_event}
use Rattle.files.specs.declared.faults.Part.{Part}
use Rattle.files.specs.declared.faults.Fault.{Fault}
use Rattle.files.specs.Events.{event_in, events_from, too_large, sound_or, sound, front_of, fault_with, fault_from}

-- what is left, from a place on, behind what is read, gives the whole
pub record Read (cs : List (List ℕ)) (i left : ℕ) (done : List Event) : Type 0 where
  pub front : done ++ front_of (events_from i (drop i cs)) ≡ front_of (events_from 0 cs)
  pub fault : fault_from i (events_from i (drop i cs)) left ≡ fault_from 0 (events_from 0 cs) left

-- what an event that can be told of says, and one that can't
sound_ok : (x e : Event) (o : Option Part) → Ok e ≡ sound_or x o → (e ≡ x) × (o ≡ None)
sound_ok x e None h = (cc, refl)
sound_ok x e (Some part) h = cc

sound_err : (x : Event) (f : Fault) (o : Option Part) (more : Option Fault) → Err f ≡ sound_or x o → fault_with x.heard o more ≡ Some f
sound_err x f None more h = cc
sound_err x f (Some part) more h = cc

module _ (cs : List (List ℕ)) (i left : ℕ) (done : List Event) (read : Read cs i left done) where
  module _ (l : i < length cs) where
    next : events_from i (drop i cs) ≡ event_in i (get_or cs i []) ∷ events_from (i + 1) (drop (i + 1) cs)
    unfolding events_from
    next =
        ap (events_from i) (drop_more cs i [] l)
        ∙ ap (λ n. event_in i (get_or cs i []) ∷ events_from n (drop (i + 1) cs)) (sym (add-one i))

    -- an event that can be told of
    pub read_next : (e : Event) → Ok e ≡ sound (event_in i (get_or cs i [])) → an_event (event_in i (get_or cs i [])) ≡ true → Read cs (i + 1) left (done ++ e ∷ [])
    unfolding front_of fault_from
    read_next e s t =
        let x : Event = event_in i (get_or cs i []) in
        let es = events_from (i + 1) (drop (i + 1) cs) in
        let ok : (e ≡ x) × (too_large x ≡ None) = sound_ok x e (too_large x) s in
        record {
          front =
              ap (λ y. (done ++ y ∷ []) ++ front_of es) ok.0 ∙ append_assoc done (x ∷ []) (front_of es)
              ∙ sym (ap (λ fs. done ++ front_of fs) next ∙ rw t refl) ∙ read.front;
          fault =
              ap (λ m. fault_from m es left) (add-one i)
              ∙ sym (ap (λ fs. fault_from i fs left) next ∙ ap (λ o. fault_with i o (fault_from (suc i) es left)) ok.1) ∙ read.fault;
        }

    -- one that can't
    pub read_stop : (f : Fault) → Err f ≡ sound (event_in i (get_or cs i [])) → an_event (event_in i (get_or cs i [])) ≡ false
        → (done ≡ front_of (events_from 0 cs)) × (Some f ≡ fault_from 0 (events_from 0 cs) left)
    unfolding front_of fault_from
    read_stop f s t =
        let x : Event = event_in i (get_or cs i []) in
        let es = events_from (i + 1) (drop (i + 1) cs) in (
          sym (ap (λ fs. done ++ front_of fs) next ∙ rw t (append-nil done)) ∙ read.front,
          sym (ap (λ fs. fault_from i fs left) next ∙ sound_err x f (too_large x) (fault_from (suc i) es left) s) ∙ read.fault,
        )

  -- no more
  pub read_over : length cs ≤ i → (done ≡ front_of (events_from 0 cs)) × (fault_from i [] left ≡ fault_from 0 (events_from 0 cs) left)
  unfolding events_from front_of
  read_over l = (
    sym (ap (λ ds. done ++ front_of (events_from i ds)) (drop_all i cs l) ∙ append-nil done) ∙ read.front,
    sym (ap (λ ds. fault_from i (events_from i ds) left) (drop_all i cs l)) ∙ read.fault,
  )
