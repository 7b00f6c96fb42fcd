-- From what one step does to what a whole run does, for any engine: Right follows from three facts about one event.
use Rattle.std.proofs.Common.{◌≡◌, ℕ, suc, ◌+◌, ◌<◌, ◌≤◌, Bool, true, false, ltb, ◌⊎◌, List, [], ◌∷◌, ◌++◌, length, drop, sym, refl, ap, ◌∙◌, subst, inl, inr, append_assoc, append-nil, arith}
use Rattle.std.proofs.lemmas.Bool.{and_parts}
use Rattle.timeline.specs.declared.events.Event.{Event}
use Rattle.timeline.specs.Lists.{pick, every, each}
use Rattle.timeline.proofs.Lists.{clash}
use Rattle.patterns.specs.Patterns.{Pattern}
use Rattle.patterns.specs.Limits.{an_event}
use Rattle.rows.specs.Rows.{all_rows}
use Rattle.rows.specs.Known.{known_rows, too_late, held, newly, numbers, with_number}
use Rattle.listener.specs.Engine.{ToldIt, ends, next, Act, tells, waits, late, over, refused, Stepped, Engine, Ran, ran, one_act, runs}
use Rattle.listener.specs.Promise.{Right, said}

-- a step, and those that follow it, tell these rows and end with this act, and D holds of the memory then
abbrev pub Telling : Engine → (List ℕ → Type 0) → Act → Stepped → List (List ℕ) → Type 0
Telling e D a st [] = (st.act ≡ a) × D st.memory
Telling e D a st (r ∷ rs) = (st.act ≡ tells r) × Telling e D a (e.step st.memory next) rs

-- the number that a run ends with by an act
abbrev pub end_of : Act → ℕ
end_of (tells r) = 1000
end_of waits = 0
end_of late = 1
end_of over = 2
end_of (refused k) = pick (ltb k 900) (10 + k) 1001

-- an act that ends a run
abbrev pub Ends : Act → Type 0
Ends (tells r) = ⊥
Ends waits = Unit
Ends late = Unit
Ends over = Unit
Ends (refused k) = Unit

ended : (go : List ℕ → List (List ℕ) → Ran) (rs : List (List ℕ)) (m : List ℕ) (a : Act) → Ends a → one_act go rs m a ≡ ran m rs (end_of a)
unfolding one_act
ended go rs m (tells r) h = absurd h
ended go rs m waits h = refl
ended go rs m late h = refl
ended go rs m over h = refl
ended go rs m (refused k) h = refl

pub tell_all :
    (e : Engine) (D : List ℕ → Type 0) (a : Act) → Ends a → (rs : List (List ℕ)) (m : List ℕ) (ev : ToldIt) (acc : List (List ℕ))
    → Telling e D a (e.step m ev) rs
    → ((runs (suc (length rs)) e m ev acc).end ≡ end_of a) × ((runs (suc (length rs)) e m ev acc).rows_told ≡ acc ++ rs)
    × D (runs (suc (length rs)) e m ev acc).memory
unfolding runs one_act
tell_all e D a z [] m ev acc t =
    let go : List ℕ → List (List ℕ) → Ran = λ m₁ rs₁. runs 0 e m₁ next rs₁ in
    let q : one_act go acc (e.step m ev).memory (e.step m ev).act ≡ ran (e.step m ev).memory acc (end_of a) =
    ap (one_act go acc (e.step m ev).memory) t.0 ∙ ended go acc (e.step m ev).memory a z in
    (ap (λ x. x.end) q, ap (λ x. x.rows_told) q ∙ sym (append-nil acc), subst (λ x. D x.memory) (sym q) t.1)
tell_all e D a z (r ∷ rs) m ev acc t =
    let go : List ℕ → List (List ℕ) → Ran = λ m₁ rs₁. runs (suc (length rs)) e m₁ next rs₁ in
    let q : one_act go acc (e.step m ev).memory (e.step m ev).act ≡ go (e.step m ev).memory (acc ++ r ∷ []) =
    ap (one_act go acc (e.step m ev).memory) t.0 in
    let ih = tell_all e D a z rs (e.step m ev).memory next (acc ++ r ∷ []) t.1 in
    (ap (λ x. x.end) q ∙ ih.0, ap (λ x. x.rows_told) q ∙ ih.1 ∙ append_assoc acc (r ∷ []) rs, subst (λ x. D x.memory) (sym q) ih.2)

-- the rows that are left when nothing more comes
abbrev pub left_over : Pattern → List Event → List (List ℕ)
left_over p es = each numbers (drop (length (known_rows p es)) (all_rows p es))

-- no more than 2^32 events come
abbrev pub most : ℕ
most = 4294967296

-- what one event does, where W ties the memory to how many events came and to those that counted
pub record Good (e : Engine) (p : Pattern) (W : List ℕ → ℕ → List Event → Type 0) : Type 0 where
  pub too :
      (m : List ℕ) (n : ℕ) (es : List Event) (f : Event) → n < most → W m n es → an_event f ≡ true → too_late p es f ≡ true
      → Telling e (λ m₁. W m₁ (suc n) es) late (e.step m (said f)) []
  pub not_too :
      (m : List ℕ) (n : ℕ) (es : List Event) (f : Event) → n < most → W m n es → an_event f ≡ true → too_late p es f ≡ false
      → Telling e (λ m₁. W m₁ (suc n) (es ++ with_number n f ∷ [])) waits (e.step m (said f)) (newly p es (es ++ with_number n f ∷ []))
      ⊎ (Telling e (λ m₁. Unit) (refused 8) (e.step m (said f)) [] × (8192 < held p (es ++ with_number n f ∷ [])))
  pub last : (m : List ℕ) (n : ℕ) (es : List Event) → n ≤ most → W m n es → Telling e (λ m₁. Unit) over (e.step m ends) (left_over p es)

module _ (e : Engine) (p : Pattern) (W : List ℕ → ℕ → List Event → Type 0) (g : Good e p W) where
  pub right : (fs : List Event) (m : List ℕ) (n : ℕ) (es : List Event) → every an_event fs ≡ true → n + length fs ≤ most → W m n es → Right e p m n es fs
  unfolding Right every
  right [] m n es h l w =
      let t = tell_all e (λ m₁. Unit) over tt (left_over p es) m ends [] (g.last m n es (omega arith) w) in
      (suc (length (left_over p es)), t.0, t.1)
  right (f ∷ fs) m n es h l w = go (too_late p es f) refl (λ m₁ es₁ w₁. right fs m₁ (suc n) es₁ ok.1 (omega arith) w₁)
    where
      ok : (an_event f ≡ true) × (every an_event fs ≡ true)
      ok = and_parts (an_event f) (every an_event fs) h

      more : List Event
      more = es ++ with_number n f ∷ []

      Go : Type 0
      Go = (m₁ : List ℕ) (es₁ : List Event) → W m₁ (suc n) es₁ → Right e p m₁ (suc n) es₁ fs

      go : (b : Bool) → too_late p es f ≡ b → Go → Right e p m n es (f ∷ fs)
      go true q rec =
          let t = tell_all e (λ m₁. W m₁ (suc n) es) late tt [] m (said f) [] (g.too m n es f (omega arith) w ok.0 q) in
          (1, (λ _. (t.0, t.1, rec (runs 1 e m (said f) []).memory es t.2), λ x. clash q x))
      go false q rec = two (g.not_too m n es f (omega arith) w ok.0 q)
        where
          two : Telling e (λ m₁. W m₁ (suc n) more) waits (e.step m (said f)) (newly p es more)
              ⊎ (Telling e (λ m₁. Unit) (refused 8) (e.step m (said f)) [] × (8192 < held p more)) → Right e p m n es (f ∷ fs)
          two (inl t₀) =
              let new = newly p es more in
              let t = tell_all e (λ m₁. W m₁ (suc n) more) waits tt new m (said f) [] t₀ in
              (suc (length new), (λ x. clash x q, λ _. inl (t.0, t.1, rec (runs (suc (length new)) e m (said f) []).memory more t.2)))
          two (inr t₀) =
              let t = tell_all e (λ m₁. Unit) (refused 8) tt [] m (said f) [] t₀.0 in
              (1, (λ x. clash x q, λ _. inr (t.0, t.1, t₀.1)))
