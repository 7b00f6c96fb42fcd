-- The story: from one event to all of them, and to the end.
use Rattle.std.proofs.Common.{◌≡◌, ℕ, zero, suc, ◌+◌, false, ltb, List, [], ◌∷◌, ◌++◌, length, drop, sym, refl, ap, ◌∙◌, subst, add_comm, arith}
use Rattle.std.proofs.lemmas.Bool.Decides.{nat_tests as by_tests}
use Rattle.timeline.specs.declared.events.Event.{Event}
use Rattle.timeline.specs.Lists.{each, those}
use Rattle.timeline.specs.Order.{last_of}
use Rattle.timeline.proofs.Lists.{drop_front}
use Rattle.timeline.proofs.Each.{each_append}
use Rattle.patterns.specs.Patterns.{Pattern}
use Rattle.rows.specs.Rows.{all_rows}
use Rattle.rows.specs.Known.{heard_to, known_rows, too_late, numbers, newly, with_number}
use Rattle.rows.specs.Laws.{KnownStays}
use Rattle.rows.proofs.Known.{known_stays_proof}
use Rattle.rows.proofs.Newly.{all_split}
use Rattle.listener.specs.Engine.{ToldIt, next, Act, tells, waits, late, over, refused, Engine, Ran, one_act, runs}
use Rattle.listener.proofs.Runs.{Telling, tell_all, end_of, Ends, left_over}
use Rattle.listener.proofs.Holding.{Numbered, numbered_more}

-- more acts than it took change nothing
act_stays :
    (e : Engine) (k j : ℕ) → ((m : List ℕ) (acc : List (List ℕ)) → ((runs k e m next acc).end ≡ 1000 → ⊥) → runs (k + j) e m next acc ≡ runs k e m next acc)
    → (m : List ℕ) (acc : List (List ℕ)) (a : Act) → ((one_act (λ m₁ rs₁. runs k e m₁ next rs₁) acc m a).end ≡ 1000 → ⊥)
    → one_act (λ m₁ rs₁. runs (k + j) e m₁ next rs₁) acc m a ≡ one_act (λ m₁ rs₁. runs k e m₁ next rs₁) acc m a
unfolding one_act
act_stays e k j ih m acc (tells r) h = ih m (acc ++ r ∷ []) h
act_stays e k j ih m acc waits h = refl
act_stays e k j ih m acc late h = refl
act_stays e k j ih m acc over h = refl
act_stays e k j ih m acc (refused n) h = refl

run_stays :
    (e : Engine) (j k : ℕ) (m : List ℕ) (ev : ToldIt) (acc : List (List ℕ)) → ((runs k e m ev acc).end ≡ 1000 → ⊥) → runs (k + j) e m ev acc ≡ runs k e m ev acc
unfolding runs
run_stays e j zero m ev acc h = absurd (h refl)
run_stays e j (suc k) m ev acc h =
    let n : suc k + j ≡ suc (k + j) = omega arith in
    ap (λ (x : ℕ). runs x e m ev acc) n ∙ act_stays e k j (λ m₁ acc₁. run_stays e j k m₁ next acc₁) (e.step m ev).memory acc (e.step m ev).act h

-- so all runs that end are one
pub runs_one :
    (e : Engine) (j k : ℕ) (m : List ℕ) (ev : ToldIt) → ((runs j e m ev []).end ≡ 1000 → ⊥) → ((runs k e m ev []).end ≡ 1000 → ⊥) → runs j e m ev [] ≡ runs k e m ev []
runs_one e j k m ev h g =
    sym (run_stays e k j m ev [] h) ∙ ap (λ (x : ℕ). runs x e m ev []) (add_comm j k) ∙ run_stays e j k m ev [] g

end_ends : (a : Act) → Ends a → end_of a ≡ 1000 → ⊥
end_ends (tells r) z q = absurd z
end_ends waits z q = omega arith
end_ends late z q = omega arith
end_ends over z q = omega arith
end_ends (refused k) z q = grind (arith, by_tests)

-- any run that ends tells what one telling has
pub ran_as :
    (e : Engine) (D : List ℕ → Type 0) (a : Act) (rs : List (List ℕ)) (m : List ℕ) (ev : ToldIt) (k : ℕ) → Ends a → Telling e D a (e.step m ev) rs
    → ((runs k e m ev []).end ≡ 1000 → ⊥) → ((runs k e m ev []).end ≡ end_of a) × ((runs k e m ev []).rows_told ≡ rs) × D (runs k e m ev []).memory
ran_as e D a rs m ev k z t h =
    let all = tell_all e D a z rs m ev [] t in
    let same : runs (suc (length rs)) e m ev [] ≡ runs k e m ev [] = runs_one e (suc (length rs)) k m ev (λ q. end_ends a z (sym all.0 ∙ q)) h in
    (sym (ap (λ (r : Ran). r.end) same) ∙ all.0, sym (ap (λ (r : Ran). r.rows_told) same) ∙ all.1, subst (λ (r : Ran). D r.memory) same all.2)

-- what was told, and the rest
told_then : (xs ys all : List (List Event)) → all ≡ xs ++ ys → each numbers xs ++ each numbers (drop (length xs) all) ≡ each numbers all
told_then xs ys all e = rw (e, drop_front xs ys) (sym (each_append numbers xs ys))

-- what was known, and what becomes known
pub known_more : (p : Pattern) (n : ℕ) (es : List Event) (f : Event) → Numbered n es → too_late p es f ≡ false
    → each numbers (known_rows p es) ++ newly p es (es ++ with_number n f ∷ []) ≡ each numbers (known_rows p (es ++ with_number n f ∷ []))
unfolding KnownStays
known_more p n es f num in_time =
    let stays = known_stays_proof p es (with_number n f) (numbered_more n es f num).0 in_time in
    told_then (known_rows p es) stays.0 (known_rows p (es ++ with_number n f ∷ [])) stays.1

-- and what is left at the end
pub known_then_left : (p : Pattern) (es : List Event) → each numbers (known_rows p es) ++ left_over p es ≡ each numbers (all_rows p es)
known_then_left p es = told_then (known_rows p es) (those (λ r. ltb (heard_to p es) (last_of r).time) (all_rows p es)) (all_rows p es) (all_split p es)
