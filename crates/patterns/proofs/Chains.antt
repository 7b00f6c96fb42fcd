-- What chains over the parts of a pattern answer, in the words of patterns.
use Rattle.std.proofs.Common.{◌≡◌, ℕ, zero, suc, ◌+◌, Bool, true, false, cond, ◌||◌, eqb, List, [], ◌∷◌, length, get_or, Some, Option, refl, ap, ◌∙◌, add-one, arith}
use Rattle.std.proofs.lemmas.Bool.{eq-eqb, ne_eqb}
use Rattle.std.proofs.lemmas.Bool.Decides.{nat_tests}
use Rattle.std.specs.Prelude.{slice_get, map}
use Rattle.std.specs.List.{list_all, list_any, find, range_with_len}
use Rattle.std.specs.Option.{option_map, option_to_list}
use Rattle.timeline.specs.declared.events.Event.{Event}
use Rattle.timeline.specs.Lists.{pick, or, every, any, each, run, none_of}
use Rattle.timeline.specs.Order.{nothing, nth}
use Rattle.patterns.specs.Patterns.{Test, compared, field, other_side, holds, fits_step}
use Rattle.patterns.specs.Codes.{field_number, field_numbered, sign_number, sign_numbered, test_of, comparison}
use Rattle.patterns.specs.Kept.{kept_test}
use Rattle.patterns.specs.Asked.{first_of, of_some, of_who}

module _ {A B : Type 0} (f : A → Bool) (g : B → A) (h : B → Bool) (same : (x : B) → h x ≡ f (g x)) where
  pub all_every : (xs : List B) → list_all h xs ≡ every f (each g xs)
  unfolding every each
  all_every [] = refl
  all_every (x ∷ xs) = rw (same x, all_every xs) refl

  pub any_some : (xs : List B) → list_any h xs ≡ any f (each g xs)
  unfolding any each
  any_some [] = refl
  any_some (x ∷ xs) = rw (same x, any_some xs) (either (f (g x)))
    where
      either : (b : Bool) → (b || any f (each g xs)) ≡ or b (any f (each g xs))
      either true = refl
      either false = refl

  pub find_first : (xs : List B) → option_map g (find h xs) ≡ first_of f (each g xs)
  unfolding first_of each
  find_first [] = refl
  find_first (x ∷ xs) = rw (same x) (either (f (g x)) (find h xs) ∙ ap (pick (f (g x)) (Some (g x))) (find_first xs))
    where
      either : (b : Bool) (r : Option B) → option_map g (cond b (Some x) r) ≡ pick b (Some (g x)) (option_map g r)
      either true r = refl
      either false r = refl

-- the nth event of a list
pub nth_or : (es : List Event) (i : ℕ) → nth es i ≡ get_or es i nothing
unfolding nth
nth_or [] i = refl
nth_or (e ∷ es) zero = refl
nth_or (e ∷ es) (suc i) = nth_or es i

-- a test means the same by what its field and its sign stand for
field_same : (e : Event) (n : ℕ) → field e (field_number (field_numbered n)) ≡ field e n
field_same e n = grind (arith, nat_tests)

sign_same : (n a b : ℕ) → compared (sign_number (sign_numbered n)) a b ≡ compared n a b
sign_same n a b = grind (arith, nat_tests)

pub side_same : (es : List Event) (t : Test) → other_side es (test_of (comparison t)).step t.other ≡ other_side es t.step t.other
unfolding other_side
side_same es t = go t.step
  where
    go : (is : List ℕ) → other_side es (option_to_list (slice_get is 0)) t.other ≡ other_side es is t.other
    go [] = refl
    go (i ∷ is) = refl

pub holds_same : (es : List Event) (e : Event) (t : Test) → holds es e (test_of (comparison t)) ≡ holds es e t
holds_same es e t = rw (field_same e t.what, sign_same t.sign, side_same es t) refl

pub who_same : (t : Test) → of_who (test_of (comparison t)) ≡ of_who t
who_same t = rw (field_zero t.what, sign_zero t.sign) refl
  where
    field_zero : (n : ℕ) → eqb (field_number (field_numbered n)) 0 ≡ eqb n 0
    field_zero n = grind (arith, nat_tests)

    sign_zero : (n : ℕ) → eqb (sign_number (sign_numbered n)) 0 ≡ eqb n 0
    sign_zero n = grind (arith, nat_tests)

-- the first test of who, among tests that are read one after the other
pub find_who : (xs : List (List ℕ)) → find (λ t. of_who (test_of t)) (map (λ ws. comparison (kept_test ws 0)) xs) ≡ of_some comparison (first_of of_who (each (λ ws. kept_test ws 0) xs))
unfolding first_of each
find_who [] = refl
find_who (x ∷ xs) = rw (who_same (kept_test x 0), find_who xs) (go (of_who (kept_test x 0)) (first_of of_who (each (λ ws. kept_test ws 0) xs)))
  where
    go : (b : Bool) (r : Option Test) → cond b (Some (comparison (kept_test x 0))) (of_some comparison r) ≡ of_some comparison (pick b (Some (kept_test x 0)) r)
    go true r = refl
    go false r = refl

-- where the kind is the step's own, all that is left to ask is what the tests ask
pub kind_then : (es : List Event) (e : Event) (k : ℕ) (ts : List Test) → e.kind ≡ k → every (holds es e) ts ≡ fits_step es e k ts
kind_then es e k ts h = rw (eq-eqb e.kind k h) refl

pub none_each : {A B : Type 0} (g : B → A) (xs : List B) → eqb (length xs) 0 ≡ none_of (each g xs)
unfolding each none_of
none_each g [] = refl
none_each g (x ∷ xs) = ne_eqb (suc (length xs)) 0 (λ e. absurd (omega arith))

-- over the numbers from 0 on
pub any_run : {A : Type 0} (f : A → Bool) (g : ℕ → A) (i n : ℕ) → list_any (λ j. f (g j)) (range_with_len i n) ≡ any f (each g (run i n))
unfolding any each run
any_run f g i zero = refl
any_run f g i (suc n) = rw (any_run f g (i + 1) n, add-one i) (either (f (g i)))
  where
    either : (b : Bool) → (b || any f (each g (run (suc i) n))) ≡ or b (any f (each g (run (suc i) n)))
    either true = refl
    either false = refl

-- where a first kind is another, it is the rest that counts
pub or_other : (a k : ℕ) (b : Bool) → (a ≡ k → ⊥) → b ≡ or (eqb a k) b
or_other a k b n = rw (ne_eqb a k n) refl
