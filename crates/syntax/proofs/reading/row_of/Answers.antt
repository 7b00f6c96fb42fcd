use Rattle.std.proofs.Common.{◌≡◌, ℕ, None, Ok, Err, Result, rules, length, get_or, sym, refl, ap, ◌∙◌, arith}
use Rattle.syntax.specs.Reading.{State, Reading, refused, next, ready, wanted, ended, settled, begun}
use Rattle.std.specs.Result.{MatchResult, IsErrAnd}
use Rattle.arrayvec.specs.ArrayVec.{ArrayVec}
use Rattle.syntax.specs.declared.expects.Expected.{Expected}
use Rattle.syntax.specs.declared.reading.Stop.{Stop}
use Rattle.syntax.specs.declared.readers.Reader.{Reader}
use Rattle.syntax.specs.Readers.{Stepped, Finished, Rowed}
use Rattle.syntax.proofs.Staying.{sound_begun, left_on, left_refused, left_none, rowed_refused, rowed_means}
use Rattle.syntax.proofs.reading.row_of.Goals as goal

pub loop-at-init : goal.loop-at-init
loop-at-init c = (begun, c.new-reader.ensures, sound_begun, refl)

-- a byte with which no pattern goes on, where its refusal gets its place
stopped :
    (b : ℕ) (s : State) (after : Reader) (r : Result (Unit {0}) Expected) (m : Result (Unit {0}) Stop) (n : ℕ) (all : Reading) (Q : Expected → Stop → Type 0) → ((e : Expected) (x : Stop) → Q e x → x ≡ record { at = n; expected = e })
    → MatchResult r (λ x. m ≡ Ok x) (λ e. IsErrAnd m (Q e)) → (next b (ready b s) ≡ None → all ≡ refused n (wanted (settled (ready b s)))) → Stepped b s after r
    → (x : Stop) → m ≡ Err x → (o : Result (ArrayVec ℕ) Stop) → (P : Stop → Type 0) → ((y : Stop) → P y → y ≡ x) → IsErrAnd o P → Rowed all o
stopped b s after (Ok u) m n all Q q h k f x is o P p g = cc
stopped b s after (Err e) (Ok v) n all Q q h k f x is o P p g = absurd h
stopped b s after (Err e) (Err y) n all Q q h k f x is (Ok row) P p g = absurd g
stopped b s after (Err e) (Err y) n all Q q h k f x is (Err z) P p g =
    let one = q e y h in
    let other = p z g in
    let same : z ≡ record { at = n; expected = e } = cc in
    rw same (rowed_refused all n _ e (k f.0) f.1)

pub returns-in_err-map_err : goal.returns-in_err-map_err
returns-in_err-map_err c =
    let text = c.args.text.now in
    let at = c.loop-at.at-counter in
    let inv = c.loop-at.invariant in
    stopped (get_or text at 0) inv.0 c.read.new.self c.read.result c.map_err.result at _ _ (λ e x q. search rules) c.map_err.ensures.cases (λ no. sym inv.3 ∙ left_refused text at inv.0 c.loop-at-test.true no)
    (c.read.ensures inv.0 inv.1 inv.2) c.in_err-map_err.field-0.0 c.in_err-map_err.was c.from_residual.result _ (λ y q. search rules) c.from_residual.ensures.1

-- a byte on, whatever a refusal would be
went :
    (b : ℕ) (s : State) (after : Reader) (r : Result (Unit {0}) Expected) (m : Result (Unit {0}) Stop) (Q : Expected → Stop → Type 0) → MatchResult r (λ x. m ≡ Ok x) (λ e. IsErrAnd m (Q e)) → Stepped b s after r
    → (u : Unit {0}) → m ≡ Ok u → Stepped b s after (Ok u)
went b s after (Ok v) m Q h f u is = f
went b s after (Err e) (Ok v) Q h f u is = absurd h
went b s after (Err e) (Err x) Q h f u is = cc

pub loop-at-preserved : goal.loop-at-preserved
loop-at-preserved c =
    let text = c.args.text.now in
    let at = c.loop-at.at-counter in
    let inv = c.loop-at.invariant in
    let yes = went (get_or text at 0) inv.0 c.read.new.self c.read.result c.map_err.result _ c.map_err.ensures.cases (c.read.ensures inv.0 inv.1 inv.2) c.in_ok-map_err.field-0 c.in_ok-map_err.was in
    (yes.0, yes.2, yes.3, sym (left_on text at inv.0 yes.0 c.loop-at-test.true yes.1) ∙ inv.3)

-- the end of a text, where its refusal gets its place
finished : (r : Result (ArrayVec ℕ) Expected) (m : Result (ArrayVec ℕ) Stop) (s : State) (n : ℕ) (all : Reading) (Q : Expected → Stop → Type 0) → ((e : Expected) (x : Stop) → Q e x → x ≡ record { at = n; expected = e })
    → MatchResult r (λ x. m ≡ Ok x) (λ e. IsErrAnd m (Q e)) → all ≡ ended n (settled s) → Finished s r → Rowed all m
finished (Ok row) m s n all Q q h e f = let yes = f n in rw h (rowed_means all yes.0 row (e ∙ yes.1) yes.2)
finished (Err d) (Ok row) s n all Q q h e f = absurd h
finished (Err d) (Err x) s n all Q q h e f = rw (q d x h) (rowed_refused all n d d (e ∙ f n) refl)

pub returns : goal.returns
returns c =
    let text = c.args.text.now in
    let inv = c.loop-at.invariant in
    let at : c.loop-at.at-counter ≡ length text = omega arith in
    let end = sym inv.3 ∙ left_none text c.loop-at.at-counter inv.0 c.loop-at-test.false ∙ ap (λ n. ended n (settled inv.0)) at in
    finished c.finish.result c.map_err-2.result inv.0 (length text) _ _ (λ e x q. search rules) c.map_err-2.ensures.cases end (c.finish.ensures inv.0 inv.1 inv.2)
