-- Rows level by level: what some rows so far go on to by a step, and by all steps.
use Rattle.std.proofs.Common.{◌≡◌, ℕ, ◌+◌, ◌<◌, ◌≤◌, List, [], ◌∷◌, ◌++◌, length, get_or, drop, sym, refl, ap, ◌∙◌, ap₂, append_assoc, append-nil}
use Rattle.std.proofs.lemmas.List.{drop_more, drop_all}
use Rattle.timeline.specs.declared.events.Event.{Event}
use Rattle.timeline.specs.Lists.{each, those, flat}
use Rattle.timeline.proofs.Each.{flat_each}
use Rattle.patterns.specs.Patterns.{Step}
use Rattle.rows.specs.Rows.{goes_on, rows}
use Rattle.rows.specs.Finder.{longer}
use Rattle.rows.proofs.Positions.{flat_append}

-- the lists of each from a place on, put behind others
module _ {A B C : Type 0} (f : B → List C) (g : A → B) (xs : List A) (i : ℕ) (done : List C) where
  pub flat_more : (x : A) → i < length xs → x ≡ get_or xs i x → (done ++ f (g x)) ++ flat f (each g (drop (i + 1) xs)) ≡ done ++ flat f (each g (drop i xs))
  unfolding flat each
  flat_more x l e =
      append_assoc done (f (g x)) (flat f (each g (drop (i + 1) xs)))
      ∙ ap (λ y. done ++ flat f (each g (y ∷ drop (i + 1) xs))) e
      ∙ ap (λ ys. done ++ flat f (each g ys)) (sym (drop_more xs i x l))

  pub flat_over : length xs ≤ i → done ++ flat f (each g (drop i xs)) ≡ done
  unfolding flat each
  flat_over l = ap (λ ys. done ++ flat f (each g ys)) (drop_all i xs l) ∙ append-nil done

module _ (all : List Event) (w : ℕ) where
  -- going on by one step and then by the others is going on by all
  levels : (s : Step) (ss : List Step) (ps : List (List Event)) → flat (rows all w ss) (flat (longer all w s) ps) ≡ flat (rows all w (s ∷ ss)) ps
  unfolding flat rows
  levels s ss [] = refl
  levels s ss (p ∷ ps) =
      flat_append (rows all w ss) (longer all w s p) (flat (longer all w s) ps)
      ∙ ap₂ (λ xs ys. xs ++ ys) (flat_each (rows all w ss) (λ e. p ++ e ∷ []) (those (goes_on all w p s) all)) (levels s ss ps)

  -- of the steps from one on, that one is the next
  pub level_more : (ss : List Step) (i : ℕ) (s : Step) (ps : List (List Event)) → i < length ss → get_or ss i s ≡ s
      → flat (rows all w (drop (i + 1) ss)) (flat (longer all w s) ps) ≡ flat (rows all w (drop i ss)) ps
  level_more ss i s ps l e =
      levels s (drop (i + 1) ss) ps
      ∙ ap (λ ts. flat (rows all w ts) ps) (sym (drop_more ss i s l ∙ ap {B = List Step} (λ t. t ∷ drop (i + 1) ss) e))

  -- no step is left
  no_level : (ps : List (List Event)) → flat (rows all w []) ps ≡ ps
  unfolding flat rows
  no_level [] = refl
  no_level (p ∷ ps) = ap {B = List (List Event)} (λ qs. p ∷ qs) (no_level ps)

  pub level_last : (ss : List Step) (i : ℕ) (ps : List (List Event)) → length ss ≤ i → flat (rows all w (drop i ss)) ps ≡ ps
  level_last ss i ps l = ap (λ ts. flat (rows all w ts) ps) (drop_all i ss l) ∙ no_level ps

  -- the first is no event at all
  pub level_first : (ss : List Step) → flat (rows all w ss) ([] ∷ []) ≡ rows all w ss []
  unfolding flat
  level_first ss = append-nil (rows all w ss [])
