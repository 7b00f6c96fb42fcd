-- A text is refused at the first byte with which no pattern can go on.
use Rattle.std.proofs.Common.{◌≡◌, ℕ, suc, ◌+◌, ◌<◌, ◌≤◌, List, [], ◌∷◌, ◌++◌, length, get_or, take, Some, None, Option, sym, refl, ap, ◌∙◌, append_assoc, arith}
use Rattle.std.proofs.lemmas.List.{take_more}
use Rattle.syntax.specs.declared.expects.Expected.{Expected}
use Rattle.syntax.specs.Reading.{State, means, refused, settled, ready, next, wanted, whole, by_some, ended, runs, begun, reads}
use Rattle.syntax.specs.Laws.{RefusedExactly}
use Rattle.syntax.specs.Sound.{Sound}
use Rattle.syntax.proofs.Staying.{sound_begun, sound_ready, sound_next}
use Rattle.syntax.proofs.Passing.{runs_on, runs_stuck}
use Rattle.syntax.proofs.Meaning.{no_pattern}
use Rattle.syntax.proofs.Living.{live}

-- where a reader stops: after so many bytes, in a state that is sound, with which the next byte does not go on
record Stopped (s : State) (text : List ℕ) (from at : ℕ) : Type 0 where
  count : ℕ
  place : at ≡ from + count
  within : count ≤ length text
  state : State
  sound : Sound state
  on : (more : List ℕ) → runs from s (take count text ++ more) ≡ runs at state more
  stuck : count < length text → next (get_or text count 0) (ready (get_or text count 0) state) ≡ None

refused_place : (a b : ℕ) (d e : Expected) → refused a d ≡ refused b e → a ≡ b
refused_place a b d e h = cc

-- it stops where it stands
here : (s : State) (text : List ℕ) (from at : ℕ) → Sound s → from ≡ at → (0 < length text → next (get_or text 0 0) (ready (get_or text 0 0) s) ≡ None) → Stopped s text from at
here s text from at h e stuck =
    record { count = 0; place = omega arith; within = omega arith; state = s; sound = h; on = λ more. ap (λ n. runs n s more) e; stuck = stuck }

-- at the end of the text
end_stopped : (s : State) (from at : ℕ) (e : Expected) → Sound s → ended from (settled s) ≡ refused at e → Stopped s [] from at
end_stopped s from at e h k = by (whole (settled s).stand) k
  where
    by : (o : Option (ℕ × ℕ)) → by_some o (refused from (wanted (settled s))) (λ t. means (record { steps = (settled s).built.steps; within = t.0; late = t.1 })) ≡ refused at e → Stopped s [] from at
    by None g = here s [] from at h (refused_place from at _ e g) (λ l. absurd (omega arith))
    by (Some t) g = no_pattern at e _ (sym g)

stopped : (text : List ℕ) (s : State) (from at : ℕ) (e : Expected) → Sound s → runs from s text ≡ refused at e → Stopped s text from at
unfolding runs
stopped [] s from at e h k = end_stopped s from at e h k
stopped (b ∷ bs) s from at e h k = by (next b (ready b s)) refl k (λ t. stopped bs t (from + 1) at e)
  where
    by : (o : Option State) → next b (ready b s) ≡ o → by_some o (refused from (wanted (settled (ready b s)))) (λ t. runs (from + 1) t bs) ≡ refused at e
        → ((t : State) → Sound t → runs (from + 1) t bs ≡ refused at e → Stopped t bs (from + 1) at) → Stopped s (b ∷ bs) from at
    by None g k rec = here s (b ∷ bs) from at h (refused_place from at _ e k) (λ _. g)
    by (Some t) g k rec =
        let r = rec t (sound_next b (ready b s) t (sound_ready b s h) g) k in
        record {
          count = suc r.count;
          place = omega (arith, r.place);
          within = omega (arith, r.within);
          state = r.state;
          sound = r.sound;
          on = λ more. runs_on b s t from g (take r.count bs ++ more) ∙ r.on more;
          stuck = λ l. r.stuck (omega arith);
        }

pub refused_exactly : RefusedExactly
unfolding RefusedExactly
refused_exactly = λ text at e h.
    let r = stopped text begun 0 at e sound_begun h in
    let same : r.count ≡ at = omega (arith, r.place) in
    let l = live r.state.stand r.state.built r.sound.stand in
    record {
      within = omega (arith, r.within);
      before = (l.more, l.pattern, ap (λ n. reads (take n text ++ l.more)) (sym same) ∙ r.on l.more ∙ l.ends at);
      after =
          λ m more p k.
          let b = get_or text r.count 0 in
          let less : r.count < length text = omega arith in
          let one : take (at + 1) text ++ more ≡ take r.count text ++ (b ∷ more) =
          ap (λ n. take (n + 1) text ++ more) (sym same) ∙ ap (λ xs. xs ++ more) (take_more text r.count 0 less) ∙ append_assoc (take r.count text) (b ∷ []) more in
          no_pattern at _ p (sym (runs_stuck b r.state at more (r.stuck less)) ∙ sym (r.on (b ∷ more)) ∙ ap reads (sym one) ∙ k);
    }
