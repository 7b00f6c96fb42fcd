-- The memory taken apart and put together: what is written is what is read.
use Rattle.std.proofs.Common.{◌≡◌, ℕ, true, ◌&&◌, eqb, List, [], ◌∷◌, ◌++◌, length, get_or, take, drop, Some, None, sym, refl, ap, ◌∙◌, arith}
use Rattle.std.proofs.lemmas.List.{append-nil, drop-append-le, take-append-le, drop-take, length-take, length-take-le, drop_all, take_all, length-drop, drop_at, take_at, length-append, take-append-drop, append_assoc, drop-drop}
use borrow.Rule.Slice.PartMut.{put_mid}
use Rattle.std.proofs.lemmas.Bool.Decides.{nat_tests}
use Rattle.timeline.specs.Lists.{pick}
use Rattle.timeline.specs.Ring.{ring_long}
use Rattle.rows.specs.Finding.{six}
use Rattle.listener.specs.declared.head.Phase.{Phase}
use Rattle.listener.specs.declared.head.Head.{Head}
use Rattle.listener.specs.Machine.{memory_long, no_places, phase_number, head_words, memory_of, head_of, cells_of, ring_of, a_head, head_at, with_places}

pub six_length : (xs : List ℕ) → length (six xs) ≡ 6
six_length xs = length-take-le 6 (xs ++ no_places) (omega (arith, length-append xs no_places))

abbrev pub places : List ℕ → List ℕ
places xs = get_or xs 0 0 ∷ get_or xs 1 0 ∷ get_or xs 2 0 ∷ get_or xs 3 0 ∷ get_or xs 4 0 ∷ get_or xs 5 0 ∷ []

six_places : (xs ys : List ℕ) → places (six xs ++ ys) ≡ six xs
six_places [] ys = refl
six_places (a ∷ []) ys = refl
six_places (a ∷ b ∷ []) ys = refl
six_places (a ∷ b ∷ c ∷ []) ys = refl
six_places (a ∷ b ∷ c ∷ d ∷ []) ys = refl
six_places (a ∷ b ∷ c ∷ d ∷ e ∷ []) ys = refl
six_places (a ∷ b ∷ c ∷ d ∷ e ∷ f ∷ xs) ys = refl

pub six_whole : (xs : List ℕ) → length xs ≡ 6 → six xs ≡ xs
six_whole xs e = take_at xs no_places 6 e

module _ (ph : Phase) (h : Head) (cells ring : List ℕ) where
  words_length : length (phase_number ph ∷ head_words h) ≡ 14
  words_length = omega (arith, six_length h.at)

  pub ring_back : length cells ≡ 405 → ring_of (memory_of ph h cells ring) ≡ ring
  ring_back e =
      ap (drop 419) (sym (append_assoc (phase_number ph ∷ head_words h) cells ring))
      ∙ drop_at ((phase_number ph ∷ head_words h) ++ cells) ring 419 (length-append (phase_number ph ∷ head_words h) cells ∙ omega (arith, words_length, e))

  pub cells_back : length cells ≡ 405 → cells_of (memory_of ph h cells ring) ≡ cells
  cells_back e = ap (take 405) (drop_at (phase_number ph ∷ head_words h) (cells ++ ring) 14 words_length) ∙ take_at cells ring 405 e

  pub memory_length : length cells ≡ 405 → length ring ≡ ring_long → length (memory_of ph h cells ring) ≡ memory_long
  memory_length e l = length-append (phase_number ph ∷ head_words h) (cells ++ ring) ∙ omega (arith, words_length, length-append cells ring, e, l)

  head_back : length h.at ≡ 6 → head_of (memory_of ph h cells ring) ≡ h
  head_back e = ap (with_places h) (six_places h.at (cells ++ ring) ∙ six_whole h.at e)

  pub head_found : length h.at ≡ 6 → a_head h ≡ true → head_at ph (memory_of ph h cells ring) ≡ Some h
  unfolding head_at
  head_found e ok =
      let m : List ℕ = memory_of ph h cells ring in
      let same : eqb (phase_number ph) (phase_number ph) ≡ true = grind (arith, nat_tests) in
      ap (λ (g : Head). pick (eqb (phase_number ph) (phase_number ph) && a_head g) (Some g) None) (head_back e) ∙ rw (same, ok)

pub cells_length : (m : List ℕ) → length m ≡ memory_long → length (cells_of m) ≡ 405
cells_length m l = length-take-le 405 (drop 14 m) (omega (arith, length-drop 14 m))

pub behind_head : (m : List ℕ) → drop 14 m ≡ cells_of m ++ ring_of m
behind_head m = sym (ap (λ (r : List ℕ). take 405 (drop 14 m) ++ r) (sym (drop-drop 405 14 m)) ∙ take-append-drop 405 (drop 14 m))

-- the ring lent, and given back
pub ring_lent : (m : List ℕ) → length m ≡ memory_long → take ring_long (drop 419 m) ≡ ring_of m
ring_lent m l = take_all ring_long (drop 419 m) (omega (arith, length-drop 419 m))

pub ring_given : (m r : List ℕ) → length m ≡ memory_long → put_mid 419 ring_long m r ≡ take 419 m ++ r
ring_given m r l =
    ap (λ (x : List ℕ). take 419 m ++ (r ++ x)) (drop_all ring_long (drop 419 m) (omega (arith, length-drop 419 m))) ∙ ap (λ (x : List ℕ). take 419 m ++ x) (append-nil r)

pub lent_length : (m : List ℕ) → length m ≡ memory_long → length (take ring_long (drop 419 m)) ≡ ring_long
lent_length m l = ap length (ring_lent m l) ∙ length-drop 419 m ∙ omega arith

-- a memory with another ring
pub cells_stay : (m r : List ℕ) → length m ≡ memory_long → cells_of (take 419 m ++ r) ≡ cells_of m
cells_stay m r l =
    ap (take 405) (drop-append-le 14 (take 419 m) r (omega (arith, length-take-le 419 m (omega arith)))) ∙ take-append-le 405 (drop 14 (take 419 m)) r (omega (arith, length-drop 14 (take 419 m), length-take-le 419 m (omega arith)))
    ∙ ap (take 405) (drop-take 14 405 m) ∙ take_all 405 (take 405 (drop 14 m)) (omega (arith, length-take 405 (drop 14 m)))

pub ring_there : (m r : List ℕ) → length m ≡ memory_long → ring_of (take 419 m ++ r) ≡ r
ring_there m r l = drop_at (take 419 m) r 419 (length-take-le 419 m (omega arith))
