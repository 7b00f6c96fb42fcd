-- One of two lists by a test, and tests in a row.
use Rattle.std.proofs.Common.{◌≡◌, ℕ, Bool, true, false, ◌&&◌, eqb, List, [], refl, arith}
use Rattle.std.proofs.lemmas.Bool.Decides.{nat_tests}
use Rattle.timeline.specs.Lists.{pick, or, those}

pub those_pick : {A : Type 0} (f : A → Bool) (b : Bool) (xs : List A) → those f (pick b xs []) ≡ pick b (those f xs) []
unfolding those
those_pick f true xs = refl
those_pick f false xs = refl

pub pick_none : {A : Type 0} (b : Bool) (xs : List A) → xs ≡ [] → pick b xs [] ≡ []
pick_none true xs e = e
pick_none false xs e = refl

pub pick_and : {A : Type 0} (a b : Bool) (xs : List A) → pick (a && b) xs [] ≡ pick a (pick b xs []) []
pick_and true b xs = refl
pick_and false b xs = refl

pub or_right : (a b : Bool) → b ≡ true → or a b ≡ true
or_right true b h = refl
or_right false b h = h

-- two numbers are the same either way round
pub eqb_turned : (a b : ℕ) → eqb a b ≡ eqb b a
eqb_turned a b = grind (arith, nat_tests)
