-- A reader stays sound, byte by byte; and what it has read in the end is a pattern that may be.
use Rattle.std.proofs.Common.{◌≡◌, ℕ, ◌+◌, ◌<◌, ◌≤◌, Bool, true, false, List, length, get_or, drop, Some, None, Ok, Err, Option, refl, ap, ◌∙◌, subst, arith}
use Rattle.std.proofs.lemmas.Option.{none-some}
use Rattle.std.proofs.lemmas.List.{at_drop_more, at_drop_all}
use Rattle.std.specs.Option.{option_map}
use Rattle.timeline.specs.Lists.{pick, every}
use Rattle.patterns.specs.Limits.{some_steps}
use Rattle.syntax.specs.declared.moves.Move.{Move}
use Rattle.syntax.specs.declared.expects.Expected.{Expected}
use Rattle.arrayvec.specs.ArrayVec.{ArrayVec}
use Rattle.patterns.specs.Patterns.{Pattern}
use Rattle.syntax.specs.Words.{digit}
use Rattle.syntax.specs.Rules.{settle, steps_on}
use Rattle.syntax.specs.Reading.{State, Reading, means, refused, moved, settled, ready, next, wanted, whole, ended, runs, begun}
use Rattle.syntax.specs.Expects.{expects}
use Rattle.syntax.specs.declared.readers.Reader.{Reader}
use Rattle.syntax.specs.Rows.{pattern_row}
use Rattle.syntax.specs.Readers.{Stands, Rowed}
use Rattle.syntax.specs.Sound.{Fits, Sound}
use Rattle.syntax.proofs.Room.{drawn_nevers, drawn_tests}
use Rattle.syntax.proofs.Adding.{sound_move}
use Rattle.syntax.proofs.Moving.{settle_fine}
use Rattle.syntax.proofs.Fitting.{fits_step}
use Rattle.syntax.proofs.Passing.{runs_on, runs_stuck}

pub sound_begun : Sound begun
unfolding every some_steps
sound_begun =
    record {
      built = record { names = refl; steps = refl; steps_few = omega arith; nevers = refl; nevers_few = omega arith; tests = refl; tests_few = omega arith };
      stand = (refl, λ _. refl);
    }

pub sound_settled : (s : State) → Sound s → Sound (settled s)
sound_settled s h = sound_move s.built (settle s.stand) h.built (settle_fine s.built s.stand h.stand)

pub sound_ready : (b : ℕ) (s : State) → Sound s → Sound (ready b s)
sound_ready b s h = by (digit b)
  where
    by : (t : Bool) → Sound (pick t s (settled s))
    by true = h
    by false = sound_settled s h

pub sound_next : (b : ℕ) (s t : State) → Sound s → next b s ≡ Some t → Sound t
sound_next b s t h e = by (steps_on s.stand s.built.names (length s.built.nevers) (length s.built.tests) b) (fits_step s.built b s.stand h.built h.stand) e
  where
    by : (o : Option Move) → Fits s.built o → option_map (moved s.built) o ≡ Some t → Sound t
    by None g k = absurd (none-some _ k)
    by (Some m) g k = let same : moved s.built m ≡ t = cc in subst Sound same (sound_move s.built m h.built g)

-- WHAT A READER ANSWERS, where it stands

module _ (r : Reader) (s : State) (h : Stands r s) where
  pub stands_next : (b : ℕ) (o : Option Move) → o ≡ steps_on r.stand r.draft.names.items (length r.draft.nevers.items) (length r.draft.tests.items) b → next b s ≡ option_map (moved s.built) o
  stands_next b o e =
      let stand = h.stand in
      let names = h.draft.names in
      let nevers = drawn_nevers r.draft s.built h.draft in
      let tests = drawn_tests r.draft s.built h.draft in
      let j : steps_on s.stand s.built.names (length s.built.nevers) (length s.built.tests) b ≡ o = cc in
      ap (option_map (moved s.built)) j

  pub stands_wanted : (e : Expected) → e ≡ expects r.stand (length r.draft.names.items) (length r.draft.nevers.items) (length r.draft.tests.items) → e ≡ wanted s
  stands_wanted e k =
      let stand = h.stand in
      let names = h.draft.names in
      let nevers = drawn_nevers r.draft s.built h.draft in
      let tests = drawn_tests r.draft s.built h.draft in
      cc

-- THE BYTES THAT ARE LEFT

module _ (text : List ℕ) (i : ℕ) (s : State) where
  pub left_on : (t : State) → i < length text → next (get_or text i 0) (ready (get_or text i 0) s) ≡ Some t → runs i s (drop i text) ≡ runs (i + 1) t (drop (i + 1) text)
  left_on t l e = at_drop_more (runs i s) text i 0 l ∙ runs_on (get_or text i 0) s t i e (drop (i + 1) text)

  pub left_refused : i < length text → next (get_or text i 0) (ready (get_or text i 0) s) ≡ None → runs i s (drop i text) ≡ refused i (wanted (settled (ready (get_or text i 0) s)))
  left_refused l e = at_drop_more (runs i s) text i 0 l ∙ runs_stuck (get_or text i 0) s i (drop (i + 1) text) e

  pub left_none : length text ≤ i → runs i s (drop i text) ≡ ended i (settled s)
  unfolding runs
  left_none l = at_drop_all (runs i s) text i l

-- THE ANSWER

pub rowed_refused : (r : Reading) (at : ℕ) (e d : Expected) → r ≡ refused at e → d ≡ e → Rowed r (Err (record { at = at; expected = d }))
rowed_refused r at e d h k = rw h (rw k refl)

pub rowed_means : (r : Reading) (p : Pattern) (row : ArrayVec ℕ) → r ≡ means p → row.items ≡ pattern_row p → Rowed r (Ok row)
rowed_means r p row h k = rw h k

pub ended_whole : (at : ℕ) (s : State) (t l : ℕ) → whole s.stand ≡ Some (t, l) → ended at s ≡ means (record { steps = s.built.steps; within = t; late = l })
ended_whole at s t l e = rw e

pub ended_not : (at : ℕ) (s : State) → whole s.stand ≡ None → ended at s ≡ refused at (wanted s)
ended_not at s e = rw e
