-- One step as the world outside sees it: what is told by a number, and which calls fit.
use Rattle.std.proofs.Common.{◌≡◌, ℕ, ◌<◌, ◌≤◌, Bool, true, false, ◌&&◌, eqb, leb, List, Result, Err, ◌++◌, length, take, drop, sym, refl, ap, ◌∙◌, subst, arith}
use Rattle.std.proofs.lemmas.List.{length-replicate, drop-append-le, length-take-le, append_assoc, take-append-drop}
use Rattle.std.proofs.lemmas.Bool.Decides.{nat_tests as by_tests}
use Rattle.listener.specs.declared.acts.Told.{Told}
use Rattle.listener.specs.declared.acts.Refusal.{Refusal}
use Rattle.listener.specs.declared.acts.Refusal.TheVariants.{Misfit}
use Rattle.listener.specs.declared.acts.Call.{Call}
use Rattle.listener.specs.declared.acts.Call.TheVariants.{Pattern, Event, End, Next}
use Rattle.listener.specs.Engine.{Act, tells, waits, late, over, refused, Stepped}
use Rattle.listener.specs.Machine.{memory_long, machine, own}
use Rattle.listener.specs.Entry.{call_number, told_of, ActTold, Did, StepSays, step_fits}
use Rattle.listener.proofs.Steps.{own_is}

call_most : (call : Call) → call_number call ≤ 3
call_most Pattern = omega arith
call_most Event = omega arith
call_most End = omega arith
call_most Next = omega arith

start_long : length own.start ≡ memory_long
unfolding own
start_long = length-replicate {A = ℕ} memory_long 0

fits : (a b k r o : ℕ) → Bool
fits a b k r o = eqb a b && (leb k 3 && (leb r 1024 && leb 6 o))

fits_is : (m row out : List ℕ) (k : ℕ) → step_fits m k row out ≡ fits (length m) memory_long k (length row) (length out)
unfolding step_fits fits
fits_is m row out k = ap (λ (x : ℕ). eqb (length m) x && (leb k 3 && (leb (length row) 1024 && leb 6 (length out)))) start_long

all_fit : (a b k r o : ℕ) → a ≡ b → k ≤ 3 → r ≤ 1024 → 6 ≤ o → fits a b k r o ≡ true
unfolding fits
all_fit a b k r o e l₁ l₂ l₃ = grind (arith, by_tests)

one_misfits : (a b k r o : ℕ) → (a ≡ b → k ≤ 3 → r ≤ 1024 → o < 6) → fits a b k r o ≡ false
unfolding fits
one_misfits a b k r o h = grind (arith, by_tests)

untouched : (out first₁ : List ℕ) → first₁ ≡ take 6 out → first₁ ++ drop 6 out ≡ out
untouched out first₁ e = ap (λ (x : List ℕ). x ++ drop 6 out) e ∙ take-append-drop 6 out

-- what was answered with the first six of the lent row is answered with the whole
widened :
    (a : Act) (t : Result Told Refusal) (out first₁ : List ℕ) → 6 ≤ length out → ActTold a t (take 6 out) first₁ → ActTold a t out (first₁ ++ drop 6 out)
unfolding ActTold
widened (tells r) t out first₁ long d =
    let joined : drop (length r) (take 6 out ++ drop 6 out) ≡ drop (length r) (take 6 out) ++ drop 6 out =
    drop-append-le (length r) (take 6 out) (drop 6 out) (omega (arith, d.1, length-take-le 6 out long)) in (
      d.0,
      d.1,
      ap (λ (x : List ℕ). x ++ drop 6 out) d.2 ∙ append_assoc r (drop (length r) (take 6 out)) (drop 6 out)
          ∙ ap (λ (x : List ℕ). r ++ x) (sym joined ∙ ap (drop (length r)) (take-append-drop 6 out)),
    )
widened waits t out first₁ long d = (d.0, untouched out first₁ d.1)
widened late t out first₁ long d = (d.0, untouched out first₁ d.1)
widened over t out first₁ long d = (d.0, untouched out first₁ d.1)
widened (refused k) t out first₁ long d = (d.0, untouched out first₁ d.1)

module _ (m row out : List ℕ) (k : ℕ) where
  pub steps :
      (call : Call) (t : Result Told Refusal) (m₁ first₁ : List ℕ) → call_number call ≡ k → length m ≡ memory_long → length row ≤ 1024 → 6 ≤ length out
      → Did (machine m (told_of (call_number call) row)) t m₁ (take 6 out) first₁ → StepSays m k row out (step_fits m k row out) t m₁ (first₁ ++ drop 6 out)
  unfolding StepSays
  steps call t m₁ first₁ is_call long l r d_call =
      let d : Did (machine m (told_of k row)) t m₁ (take 6 out) first₁ = subst (λ (n : ℕ). Did (machine m (told_of n row)) t m₁ (take 6 out) first₁) is_call d_call in
      let most : k ≤ 3 = subst (λ (n : ℕ). n ≤ 3) is_call (call_most call) in
      let yes : step_fits m k row out ≡ true = fits_is m row out k ∙ all_fit (length m) memory_long k (length row) (length out) long most l r in
      let is = own_is m (told_of k row) long in
      rw yes (
        d.memory ∙ ap (λ (st : Stepped). st.memory) (sym is),
        subst (λ (st : Stepped). ActTold st.act t out (first₁ ++ drop 6 out)) (sym is) (widened (machine m (told_of k row)).act t out first₁ r d.told),
      )

  pub misfits : (length m ≡ memory_long → k ≤ 3 → length row ≤ 1024 → length out < 6) → StepSays m k row out (step_fits m k row out) (Err Misfit) m out
  unfolding StepSays
  misfits h =
      let fails : step_fits m k row out ≡ false = fits_is m row out k ∙ one_misfits (length m) memory_long k (length row) (length out) h in
      rw fails (refl, refl, refl)
