-- A step or a never that is whole goes on to a pattern.
use Rattle.std.proofs.Common.{◌≡◌, ℕ, ◌+◌, ◌<◌, true, ltb, List, [], ◌∷◌, ◌++◌, length, None, codes, refl, ◌∙◌, arith, lit<, length-append}
use Rattle.std.proofs.lemmas.Bool.{lt-ltb}
use Rattle.patterns.specs.Patterns.{Pattern}
use Rattle.syntax.specs.declared.places.Role.{Role}
use Rattle.syntax.specs.declared.places.Role.TheVariants.{Step, Never}
use Rattle.syntax.specs.declared.places.Head.{Head}
use Rattle.syntax.specs.declared.places.Slot.TheVariants.{StepKind, NeverKind, Window, Lateness}
use Rattle.syntax.specs.declared.places.Place.TheVariants.{Item, Number, StepName, NeverName, Named, Tested, LateWord, Whole}
use Rattle.syntax.specs.declared.places.Stand.TheVariants.{At, Digits}
use Rattle.syntax.specs.declared.moves.Act.TheVariants.{EndNever}
use Rattle.syntax.specs.Names.{step_named}
use Rattle.syntax.specs.Rules.{goes, ended_as, ended}
use Rattle.syntax.specs.Reading.{Built, State, means, with_never, with_step, with_act, runs}
use Rattle.syntax.specs.Sound.{FineHead}
use Rattle.syntax.proofs.Letters.{lettered}
use Rattle.syntax.proofs.Passing.{st, Passes, pass_begin, zero_digit}
use Rattle.syntax.proofs.Free.{free}
use Rattle.syntax.proofs.TypedItems.{step_space}
use Rattle.syntax.proofs.TypedWhole.{within_on}

pub record Live (s : State) : Type 0 where
  pub more : List ℕ
  pub pattern : Pattern
  pub ends : (at : ℕ) → runs at s more ≡ means pattern

pub live_by : {s t : State} (xs : List ℕ) → Passes s xs t → Live t → Live s
live_by xs p l = record { more = xs ++ l.more; pattern = l.pattern; ends = λ at. let a = p.on at l.more in a.1 ∙ l.ends a.0 }

-- THE END

module _ (w : Built) where
  pub live_whole : (t l : ℕ) → Live (st (At (Whole t l)) w)
  unfolding runs
  live_whole t l = record { more = []; pattern = record { steps = w.steps; within = t; late = l }; ends = λ at. refl }

  pub live_late_digits : (t l : ℕ) → Live (st (Digits (Lateness t) l) w)
  unfolding runs
  live_late_digits t l = record { more = []; pattern = record { steps = w.steps; within = t; late = l }; ends = λ at. refl }

  pub live_lateness : (t : ℕ) → Live (st (At (Number (Lateness t))) w)
  unfolding runs
  live_lateness t = record { more = codes "0"; pattern = record { steps = w.steps; within = t; late = 0 }; ends = λ at. refl }

  pub live_late_word : (t : ℕ) → Live (st (At (LateWord t)) w)
  unfolding runs
  live_late_word t = record { more = codes "late0"; pattern = record { steps = w.steps; within = t; late = 0 }; ends = λ at. refl }

  pub live_window_digits : (t : ℕ) → Live (st (Digits Window t) w)
  unfolding runs
  live_window_digits t = record { more = codes "late0"; pattern = record { steps = w.steps; within = t; late = 0 }; ends = λ at. refl }

  pub live_window : Live (st (At (Number Window)) w)
  unfolding runs
  live_window = record { more = codes "0late0"; pattern = record { steps = w.steps; within = 0; late = 0 }; ends = λ at. refl }

  pub live_some : 0 < length w.names → length w.nevers ≡ 0 → Live (st (At Item) w)
  live_some l e = live_by (codes "within ") (within_on w l e) live_window

-- STEPS AND NEVERS

pub named_end : (h : Head) (w : Built) → Passes (st (At (Named h)) w) (codes ";") (st (At Item) (with_act w (ended h)))
unfolding runs
named_end h w = record { on = λ at rest. (at + 1, refl) }

pub tested_end : (h : Head) (w : Built) → Passes (st (At (Tested h)) w) (codes ";") (st (At Item) (with_act w (ended h)))
unfolding runs
tested_end h w = record { on = λ at rest. (at + 1, refl) }

-- a step of any name goes on
live_step : (w : Built) (k name : ℕ) → Live (st (At Item) (with_step w k name))
live_step w k name = live_some (with_step w k name) (rw (length-append w.names (name ∷ [])) (omega arith)) refl

module _ (w : Built) (few : length w.names < 6) where
  pub live_step_name : (k : ℕ) → Live (st (At (StepName k)) w)
  live_step_name k =
      let f = free 6 97 w.names few in
      let b = f.letter in
      let h : Head = record { role = Step; kind = k; name = b } in
      let is = lettered b f.low (omega (arith, f.high)) in
      let is-letter = is.letter in
      let new : step_named b w.names ≡ None = f.new in
      live_by (b ∷ []) (pass_begin b (StepName k) w (goes (At (Named h))) is.digit is.white (rw (is-letter, new)))
      (live_by (codes ";") (named_end h w) (live_step w k b))

  pub live_step_digits : (k : ℕ) → Live (st (Digits StepKind k) w)
  live_step_digits k = live_by (32 ∷ []) (step_space k w) (live_step_name k)

  -- a step may always come where there is room
  pub live_new : Live (st (At Item) w)
  live_new =
      let there : ltb (length w.names) 6 ≡ true = lt-ltb _ _ few in
      live_by (codes "0") (zero_digit Item StepKind w (rw there) (lit< tt)) (live_step_digits 0)

pub live_ended : (h : Head) (w : Built) → FineHead h w → Live (st (At Item) (with_act w (ended h)))
live_ended h w f = by h.role
  where
    by : (r : Role) → Live (st (At Item) (with_act w (ended_as r h.kind h.name)))
    by Step = live_step w h.kind h.name
    by Never = live_new (with_never w h.kind) f.steps

pub never_end : (k : ℕ) (w : Built) → Passes (st (At (NeverName k)) w) (codes ";") (st (At Item) (with_act w (EndNever k)))
unfolding runs
never_end k w = record { on = λ at rest. (at + 1, refl) }

pub never_digits_end : (k : ℕ) (w : Built) → Passes (st (Digits NeverKind k) w) (codes ";") (st (At Item) (with_act w (EndNever k)))
unfolding runs
never_digits_end k w = record { on = λ at rest. (at + 1, refl) }
