-- Events in two parts of numbers, read by their positions.
use Rattle.std.proofs.Common.{◌≡◌, ℕ, suc, ◌+◌, ◌-◌, ◌/◌, ◌<◌, ◌≤◌, List, [], ◌∷◌, ◌++◌, map, length, get_or, min, max, take, drop, sym, refl, ap, ◌∙◌, ap₂, get_or-take, get_or-drop, arith, length-append}
use Rattle.std.specs.Simd.{first_chunks}
use Rattle.std.proofs.lemmas.List.{get_or-map, get_or_append_left, get_or-append_right, length-map, length-take}
use Rattle.timeline.specs.declared.events.Event.{Event}
use Rattle.timeline.specs.Order.{nothing, nth}
use Rattle.timeline.specs.Ring.{decode}
use Rattle.timeline.proofs.Order.{nth_is}
use Rattle.rows.specs.Parts.{event_of}

-- five numbers at a time
pub decode_is : (xs : List ℕ) → map event_of (first_chunks 5 (length xs / 5) xs) ≡ decode xs
decode_is [] = refl
decode_is (h ∷ []) = refl
decode_is (h ∷ t ∷ []) = refl
decode_is (h ∷ t ∷ k ∷ []) = refl
decode_is (h ∷ t ∷ k ∷ w ∷ []) = refl
decode_is (h ∷ t ∷ k ∷ w ∷ v ∷ xs) =
    let e : length (h ∷ t ∷ k ∷ w ∷ v ∷ xs) / 5 ≡ suc (length xs / 5) = omega arith in
    rw e (ap (λ es. event_of (h ∷ t ∷ k ∷ w ∷ v ∷ []) ∷ es) (decode_is xs))

nth_map : (xs : List (List ℕ)) (p : ℕ) (d : List ℕ) → p < length xs → nth (map event_of xs) p ≡ event_of (get_or xs p d)
nth_map xs p d l = nth_is (map event_of xs) p ∙ get_or-map event_of xs p d nothing l

nth_front : (es fs : List Event) (p : ℕ) → p < length es → nth (es ++ fs) p ≡ nth es p
nth_front es fs p l = nth_is (es ++ fs) p ∙ get_or_append_left es fs nothing p l ∙ sym (nth_is es p)

nth_back : (es fs : List Event) (p : ℕ) → length es ≤ p → nth (es ++ fs) p ≡ nth fs (p - length es)
nth_back es fs p l = nth_is (es ++ fs) p ∙ get_or-append_right es fs (length es) p nothing refl l ∙ sym (nth_is fs (p - length es))

pub length_parts : (front back : List (List ℕ)) → length (map event_of front ++ map event_of back) ≡ length front + length back
length_parts front back = length-append (map event_of front) (map event_of back) ∙ ap₂ (λ a b. a + b) (length-map front event_of) (length-map back event_of)

module _ (front back : List (List ℕ)) (p : ℕ) (d : List ℕ) where
  pub in_front : p < length front → event_of (get_or front p d) ≡ nth (map event_of front ++ map event_of back) p
  in_front l = sym (nth_front (map event_of front) (map event_of back) p (omega (arith, length-map front event_of)) ∙ nth_map front p d l)

  pub in_back : length front ≤ p → p < length front + length back → event_of (get_or back (p - length front) d) ≡ nth (map event_of front ++ map event_of back) p
  in_back l k =
      sym (nth_back (map event_of front) (map event_of back) p (omega (arith, length-map front event_of)) ∙ ap (λ n. nth (map event_of back) (p - n)) (length-map front event_of)
      ∙ nth_map back (p - length front) d (omega arith))

-- from one position on and before an end, in each part
module _ (front back : List (List ℕ)) (from end a b i : ℕ) where
  pub part_front : a ≡ min from (length front) → b ≡ min end (length front) → i < length (take (b - a) (drop a front))
      → event_of (get_or (take (b - a) (drop a front)) i []) ≡ nth (map event_of front ++ map event_of back) (from + i)
  part_front e f l =
      let k : i < b - a = omega (arith, length-take (b - a) (drop a front)) in
      let q : a ≡ from = omega arith in
      ap event_of (get_or-take (b - a) (drop a front) i [] k ∙ get_or-drop a front i [])
      ∙ in_front front back (a + i) [] (omega arith)
      ∙ ap (λ n. nth (map event_of front ++ map event_of back) (n + i)) q

  pub part_back : (m : ℕ) → m ≡ min end (length front) - min from (length front) → a ≡ max from (length front) → b ≡ max end (length front) → from ≤ end → end ≤ length front + length back
      → i < length (take (b - length front - (a - length front)) (drop (a - length front) back))
      → event_of (get_or (take (b - length front - (a - length front)) (drop (a - length front) back)) i []) ≡ nth (map event_of front ++ map event_of back) (from + m + i)
  part_back m g e f order inside l =
      let n = length front in
      let k : i < b - n - (a - n) = omega (arith, length-take (b - n - (a - n)) (drop (a - n) back)) in
      let q : a - n + i ≡ a + i - n = omega arith in
      let p : a + i ≡ from + m + i = omega arith in
      ap event_of (get_or-take (b - n - (a - n)) (drop (a - n) back) i [] k ∙ get_or-drop (a - n) back i [] ∙ ap (λ j. get_or back j []) q)
      ∙ in_back front back (a + i) [] (omega arith) (omega arith)
      ∙ ap (nth (map event_of front ++ map event_of back)) p
