use Rattle.std.proofs.Common.{◌≡◌, ℕ, ◌<◌, List, [], ◌∷◌, length, get_or, vec_items, IfOk, Result, Ok, Err, rules, arith, refl, ap₂}
use Prim.Native.Nat.{suc}
use Rattle.std.specs.Global.{Vec}
use Rattle.std.proofs.iter.runs.Made.{chains}
use Rattle.timeline.specs.declared.events.Event.{Event}
use Rattle.timeline.specs.Lists.{each}
use Rattle.rows.specs.Known.{numbers as numbers_of}
use Rattle.rows.specs.Finder.{lists}
use Rattle.rows.proofs.finder.all_numbers.Goals as goal

-- rows by their numbers, known place by place
placed : (rows : List (Vec Event)) (all : List (Vec ℕ)) → length all ≡ length rows
    → ((i : ℕ) (d : Vec ℕ) (e : Vec Event) → i < length rows → vec_items (get_or all i d) ≡ numbers_of (vec_items (get_or rows i e))) → lists all ≡ each numbers_of (lists rows)
unfolding each
placed [] [] l h = refl
placed [] (x ∷ all) l h = absurd (omega (arith, l))
placed (row ∷ rows) [] l h = absurd (omega (arith, l))
placed (row ∷ rows) (x ∷ all) l h =
    ap₂ (λ ns rest. ns ∷ rest) (h 0 x row (omega arith)) (placed rows all (omega (arith, l)) (λ i d e k. h (suc i) d e (omega (arith, k))))

known : {E : Type 0} (r : Result (Vec (Vec ℕ)) E) (rows : List (Vec Event))
    → IfOk r (λ v. (length (vec_items v) ≡ length rows) × ((i : ℕ) (d : Vec ℕ) (e : Vec Event) → i < length rows → vec_items (get_or (vec_items v) i d) ≡ numbers_of (vec_items (get_or rows i e))))
    → IfOk r (λ v. lists (vec_items v) ≡ each numbers_of (lists rows))
known (Ok v) rows h = placed rows (vec_items v) h.0 h.1
known (Err e) rows h = tt

pub returns : goal.returns
returns c = known c.try_collect.result c.args.rows.now (search (rules, chains))
