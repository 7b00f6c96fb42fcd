-- What a step's tests ask of who, and what its nevers forbid by their kinds, before they are tried: asked_who, asks_same, first_kind,
-- other_kind, free_kind.
-- Assumes nothing: these are definitions.
use Rattle.std.specs.Prelude.{ℕ, Bool, false, ◌&&◌, List, [], ◌∷◌, Some, None, Option, ◌==◌}
use Rattle.timeline.specs.declared.events.Event.{Event}
use Rattle.timeline.specs.Lists.{pick, none_of}
use Rattle.patterns.specs.Patterns.{Test, Never, other_side}

-- the first element that passes a test
unfoldable pub first_of : {A : Type 0} → (A → Bool) → List A → Option A
first_of f [] = None
first_of f (x ∷ xs) = pick (f x) (Some x) (first_of f xs)

-- a function of what there is
abbrev pub of_some : {A B : Type 0} → (A → B) → Option A → Option B
of_some f None = None
of_some f (Some x) = Some (f x)

-- TESTS OF WHO

-- a test says to what who is equal
abbrev pub of_who : Test → Bool
of_who t = t.what == 0 && t.sign == 0

-- what who has to be by the first such test, given the events of the steps before
abbrev pub asked_who : List Event → List Test → Option ℕ
asked_who es ts = of_some (λ t. other_side es t.step t.other) (first_of of_who ts)

unfoldable pub is_step : ℕ → List ℕ → Bool
is_step k [] = false
is_step k (i ∷ is) = i == k

-- a test, if there is one, compares with who of the event of this step
abbrev pub with_who_of : ℕ → Option Test → Bool
with_who_of k None = false
with_who_of k (Some t) = is_step k t.step && t.other == 0

-- the first test that says to what who is equal compares with who of the event of this step
abbrev pub asks_same : ℕ → List Test → Bool
asks_same k ts = with_who_of k (first_of of_who ts)

-- NEVERS

-- the kind of the first, 0 where there is none
unfoldable pub first_kind : List Never → ℕ
first_kind [] = 0
first_kind (v ∷ vs) = v.kind

-- the kind of the second, of the first where it is the only one
unfoldable pub other_kind : List Never → ℕ
other_kind [] = 0
other_kind (v ∷ []) = v.kind
other_kind (v ∷ w ∷ vs) = w.kind

-- the kind of the first that has no tests
abbrev pub free_kind : List Never → Option ℕ
free_kind vs = of_some (λ v. v.kind) (first_of (λ v. none_of v.tests) vs)
