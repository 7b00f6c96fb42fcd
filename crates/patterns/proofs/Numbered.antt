-- A test that five numbers say: whether a step may have it, and the same numbers back from it.
use Rattle.std.proofs.Common.{◌≡◌, ℕ, zero, suc, ◌<◌, ◌≤◌, true, false, ◌∙◌, ◌&&◌, ltb, [], ◌∷◌, take, refl, arith}
use Rattle.std.proofs.lemmas.Bool.{lt-ltb, and_right}
use Rattle.std.proofs.lemmas.Bool.Decides.{nat_tests}
use Rattle.std.specs.Prelude.{slice_get}
use Rattle.std.specs.Option.{option_to_list}
use Rattle.timeline.specs.Lists.{every, none_of}
use Rattle.patterns.specs.Patterns.{Test}
use Rattle.patterns.specs.Limits.{a_test}
use Rattle.patterns.specs.Reading.{other_may}
use Rattle.patterns.specs.Codes.{field_number, field_numbered, sign_number, sign_numbered, test_of, comparison}

field_back : (n : ℕ) → n < 3 → field_number (field_numbered n) ≡ n
field_back zero l = refl
field_back (suc zero) l = refl
field_back (suc (suc zero)) l = refl
field_back (suc (suc (suc n))) l = absurd (omega arith)

sign_back : (n : ℕ) → n < 3 → sign_number (sign_numbered n) ≡ n
sign_back zero l = refl
sign_back (suc zero) l = refl
sign_back (suc (suc zero)) l = refl
sign_back (suc (suc (suc n))) l = absurd (omega arith)

-- none or one earlier step
pub flagged_back : (b s : ℕ) → option_to_list (slice_get (take b (s ∷ [])) 0) ≡ take b (s ∷ [])
flagged_back zero s = refl
flagged_back (suc zero) s = refl
flagged_back (suc (suc b)) s = refl

pub test_back : (w g b s o : ℕ) → w < 3 → g < 3 → let t : Test = record { what = w; sign = g; step = take b (s ∷ []); other = o } in test_of (comparison t) ≡ t
test_back w g b s o l m = rw (field_back w l, sign_back g m, flagged_back b s) refl

-- whether a step may have it
module _ (n w g b s o : ℕ) where
  abbrev it : Test
  it = record { what = w; sign = g; step = take b (s ∷ []); other = o }

  pub test_may : a_test n it ≡ ((ltb w 3 && ltb g 3) && other_may n (comparison it).step o)
  unfolding every none_of
  test_may = go b
    where
      go : (b : ℕ) → a_test n (record { what = w; sign = g; step = take b (s ∷ []); other = o }) ≡ ((ltb w 3 && ltb g 3) && other_may n (slice_get (take b (s ∷ [])) 0) o)
      go zero = refl
      go (suc zero) = grind (arith, nat_tests)
      go (suc (suc c)) = grind (arith, nat_tests)

  pub no_field : 3 ≤ w → a_test n it ≡ false
  no_field l = grind (arith, nat_tests)

  pub no_sign : 3 ≤ g → a_test n it ≡ false
  no_sign l = grind (arith, nat_tests)

  pub no_other : other_may n (comparison it).step o ≡ false → a_test n it ≡ false
  no_other e = test_may ∙ rw e (and_right (ltb w 3 && ltb g 3) false refl)

  pub all_may : w < 3 → g < 3 → other_may n (comparison it).step o ≡ true → a_test n it ≡ true
  all_may l m e = test_may ∙ rw (lt-ltb _ _ l, lt-ltb _ _ m, e) refl
