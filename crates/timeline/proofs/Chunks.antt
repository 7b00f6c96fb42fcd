-- Events as five numbers of a row: two that have the same five are one, and the chunks of five are the events one after the other.
use Rattle.std.proofs.Common.{◌≡◌, ℕ, zero, suc, ◌+◌, ◌*◌, ◌<◌, List, get_or, take, drop, sym, refl, ap, ◌∙◌, add-zero, arith, rules}
use Rattle.std.proofs.lemmas.List.{drop-drop, places}
use Rattle.std.specs.Simd.{first_chunks}
use Rattle.timeline.specs.Ring.{event_at}

-- five numbers that are the same are one event
pub event_from : (a b : List ℕ) (p q : ℕ) → ((j : ℕ) → j < 5 → get_or a (p + j) 0 ≡ get_or b (q + j) 0) → event_at a p ≡ event_at b q
event_from a b p q same =
    let e0 : get_or a p 0 ≡ get_or b q 0 = ap (λ (t : ℕ). get_or a t 0) (sym (add-zero p)) ∙ same 0 (omega arith) ∙ ap (λ (t : ℕ). get_or b t 0) (add-zero q) in
    let e1 : get_or a (p + 1) 0 ≡ get_or b (q + 1) 0 = same 1 (omega arith) in
    let e2 : get_or a (p + 2) 0 ≡ get_or b (q + 2) 0 = same 2 (omega arith) in
    let e3 : get_or a (p + 3) 0 ≡ get_or b (q + 3) 0 = same 3 (omega arith) in
    let e4 : get_or a (p + 4) 0 ≡ get_or b (q + 4) 0 = same 4 (omega arith) in
    rw (e0, e1, e2, e3, e4) refl

-- a chunk of five numbers, as an event
chunk_at : (k i : ℕ) (xs d : List ℕ) → i < k → get_or (first_chunks 5 k xs) i d ≡ take 5 (drop (i * 5) xs)
chunk_at zero i xs d h = absurd (omega arith)
chunk_at (suc k) zero xs d h = refl
chunk_at (suc k) (suc i) xs d h =
    let e : 5 + i * 5 ≡ suc i * 5 = omega arith in
    chunk_at k i (drop 5 xs) d (omega arith) ∙ ap (take 5) (drop-drop (i * 5) 5 xs ∙ ap (λ (t : ℕ). drop t xs) e)

pub chunk_event : (k i : ℕ) (xs d : List ℕ) → i < k → event_at (get_or (first_chunks 5 k xs) i d) 0 ≡ event_at xs (i * 5)
chunk_event k i xs d h =
    ap (λ (ns : List ℕ). event_at ns 0) (chunk_at k i xs d h)
    ∙ event_from (take 5 (drop (i * 5) xs)) xs 0 (i * 5) (λ j g. search (rules, places))
