-- The text of a pattern: steps are named a to f, in their order, and every never x.
-- Assumes nothing: these are definitions.
use Rattle.std.specs.Prelude.{ℕ, zero, suc, ◌+◌, min, List, [], ◌∷◌, ◌++◌, codes, decimal}
use Rattle.timeline.specs.Lists.{flat}
use Rattle.patterns.specs.declared.fields.Sign.{Sign}
use Rattle.patterns.specs.declared.fields.Sign.TheVariants.{Equal, Below, NotBelow}
use Rattle.patterns.specs.Codes.{field_numbered, sign_numbered}
use Rattle.patterns.specs.Patterns.{Test, Never, Step, Pattern}
use Rattle.syntax.specs.declared.words.Word.TheVariants.{Of}
use Rattle.syntax.specs.Words.{spelling}

-- the letter of a step, of which there are 26
abbrev pub step_letter : ℕ → ℕ
step_letter n = 97 + min n 25

abbrev pub never_letter : ℕ
never_letter = 120

abbrev pub typed_field : ℕ → List ℕ
typed_field n = spelling (Of (field_numbered n))

abbrev pub sign_text : Sign → List ℕ
sign_text Equal = codes " = "
sign_text Below = codes " < "
sign_text NotBelow = codes " >= "

-- what a field is compared with
abbrev pub typed_other : List ℕ → ℕ → List ℕ
typed_other [] v = decimal v
typed_other (i ∷ is) f = step_letter i ∷ (codes "." ++ typed_field f)

-- a test of what has a letter
abbrev pub typed_test : ℕ → Test → List ℕ
typed_test own t = own ∷ (codes "." ++ (typed_field t.what ++ (sign_text (sign_numbered t.sign) ++ typed_other t.step t.other)))

-- what stands in front of the i-th test
abbrev pub joint : ℕ → List ℕ
joint zero = codes " where "
joint (suc i) = codes " and "

unfoldable pub typed_more : ℕ → List Test → List ℕ
typed_more own [] = []
typed_more own (t ∷ ts) = joint 1 ++ (typed_test own t ++ typed_more own ts)

abbrev pub typed_tests : ℕ → List Test → List ℕ
typed_tests own [] = []
typed_tests own (t ∷ ts) = joint 0 ++ (typed_test own t ++ typed_more own ts)

-- a kind, a name and tests
abbrev pub typed_item : ℕ → ℕ → List Test → List ℕ
typed_item kind own ts = decimal kind ++ (32 ∷ own ∷ (typed_tests own ts ++ codes "; "))

abbrev pub typed_never : Never → List ℕ
typed_never v = codes "not " ++ typed_item v.kind never_letter v.tests

-- a step under a letter, behind its nevers
abbrev pub typed_step_as : ℕ → Step → List ℕ
typed_step_as letter s = flat typed_never s.never ++ typed_item s.kind letter s.tests

abbrev pub typed_step : ℕ → Step → List ℕ
typed_step n s = typed_step_as (step_letter n) s

-- steps from the n-th on
unfoldable pub typed_steps : ℕ → List Step → List ℕ
typed_steps n [] = []
typed_steps n (s ∷ ss) = typed_step n s ++ typed_steps (suc n) ss

abbrev pub typed : Pattern → List ℕ
typed p = typed_steps 0 p.steps ++ (codes "within " ++ (decimal p.within ++ (codes " late " ++ decimal p.late)))
