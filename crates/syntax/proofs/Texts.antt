-- Parts written in a loop, one after the other.
use Rattle.std.proofs.Common.{◌≡◌, ℕ, zero, suc, ◌+◌, List, [], ◌∷◌, ◌++◌, slice_get, sym, refl, ap, ◌∙◌, append_assoc, add-one, arith}
use Rattle.std.specs.Option.{option_to_list}
use Rattle.timeline.specs.Lists.{each, flat, run}
use Rattle.patterns.specs.declared.fields.Field.{Field}
use Rattle.patterns.specs.declared.fields.Sign.{Sign}
use Rattle.patterns.specs.declared.fields.Field.TheVariants.{Who, Value, Time}
use Rattle.patterns.specs.declared.fields.Sign.TheVariants.{Equal, Below, NotBelow}
use Rattle.patterns.specs.Patterns.{Test, Never, Step}
use Rattle.patterns.specs.Codes.{field_number, field_numbered, sign_number, sign_numbered, test_of, comparison}
use Rattle.syntax.specs.Typed.{joint, typed_other, typed_test, typed_more, typed_tests, typed_never, typed_step, typed_steps}
use Rattle.syntax.proofs.Growing.{flat_push}
use Rattle.syntax.proofs.Letters.{run_push}

-- the parts in front of the i-th
abbrev pub so_far : {A : Type 0} → (ℕ → A → List ℕ) → (ℕ → A) → ℕ → List ℕ
so_far part g i = flat (λ j. part j (g j)) (run 0 i)

pub so_far_none : {A : Type 0} (part : ℕ → A → List ℕ) (g : ℕ → A) → so_far part g 0 ≡ []
unfolding flat run
so_far_none part g = refl

pub so_far_more : {A : Type 0} (part : ℕ → A → List ℕ) (g : ℕ → A) (i : ℕ) → so_far part g (i + 1) ≡ so_far part g i ++ part i (g i)
so_far_more part g i =
    let e : 0 + i ≡ i = omega arith in
    ap (λ n. flat (λ j. part j (g j)) (run 0 n)) (add-one i) ∙ ap (flat (λ j. part j (g j))) (sym (run_push 0 i)) ∙ flat_push (λ j. part j (g j)) (run 0 i) (0 + i)
    ∙ ap (λ j. so_far part g i ++ part j (g j)) e

module _ {A : Type 0} (whole_of : ℕ → List A → List ℕ) (part : ℕ → A → List ℕ) (none : (i : ℕ) → whole_of i [] ≡ [])
    (more : (i : ℕ) (x : A) (xs : List A) → whole_of i (x ∷ xs) ≡ part i x ++ whole_of (suc i) xs) (g : ℕ → A) where
  pub all_parts : (i m : ℕ) → flat (λ j. part j (g j)) (run i m) ≡ whole_of i (each g (run i m))
  unfolding each run flat
  all_parts i zero = sym (none i)
  all_parts i (suc m) = ap (λ xs. part i (g i) ++ xs) (all_parts (suc i) m) ∙ sym (more i (g i) (each g (run (suc i) m)))

-- tests from the i-th on
abbrev tests_left : ℕ → ℕ → List Test → List ℕ
tests_left own zero ts = typed_tests own ts
tests_left own (suc i) ts = typed_more own ts

no_tests_left : (own i : ℕ) → tests_left own i [] ≡ []
unfolding typed_more
no_tests_left own zero = refl
no_tests_left own (suc i) = refl

more_tests_left : (own i : ℕ) (t : Test) (ts : List Test) → tests_left own i (t ∷ ts) ≡ (joint i ++ typed_test own t) ++ tests_left own (suc i) ts
unfolding typed_more
more_tests_left own zero t ts = sym (append_assoc (joint 0) (typed_test own t) (typed_more own ts))
more_tests_left own (suc i) t ts = sym (append_assoc (joint 1) (typed_test own t) (typed_more own ts))

pub all_tests : (own : ℕ) (g : ℕ → Test) (m : ℕ) → so_far (λ j t. joint j ++ typed_test own t) g m ≡ typed_tests own (each g (run 0 m))
all_tests own g m = all_parts (tests_left own) (λ j t. joint j ++ typed_test own t) (no_tests_left own) (more_tests_left own) g 0 m

pub all_nevers : (g : ℕ → Never) (m : ℕ) → so_far (λ j v. typed_never v) g m ≡ flat typed_never (each g (run 0 m))
unfolding flat
all_nevers g m = all_parts (λ j vs. flat typed_never vs) (λ j v. typed_never v) (λ _. refl) (λ i v vs. refl) g 0 m

pub all_steps : (g : ℕ → Step) (m : ℕ) → so_far typed_step g m ≡ typed_steps 0 (each g (run 0 m))
unfolding typed_steps
all_steps g m = all_parts typed_steps typed_step (λ _. refl) (λ i s ss. refl) g 0 m

-- what is typed of a test hangs on no more than the field, the sign and the step that its numbers mean
same_field : (f : Field) → field_numbered (field_number f) ≡ f
same_field Who = refl
same_field Value = refl
same_field Time = refl

same_sign : (s : Sign) → sign_numbered (sign_number s) ≡ s
same_sign Equal = refl
same_sign Below = refl
same_sign NotBelow = refl

same_other : (is : List ℕ) (v : ℕ) → typed_other (option_to_list (slice_get is 0)) v ≡ typed_other is v
same_other [] v = refl
same_other (i ∷ is) v = refl

pub same_typed : (own : ℕ) (t : Test) → typed_test own (test_of (comparison t)) ≡ typed_test own t
same_typed own t = rw (same_field (field_numbered t.what), same_sign (sign_numbered t.sign), same_other t.step t.other)
