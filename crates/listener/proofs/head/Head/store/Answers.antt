use Rattle.std.proofs.Common.{◌≡◌, ℕ, List, ◌++◌, length, drop, sym, ap, ◌∙◌, ap₂, arith}
use Rattle.std.proofs.lemmas.List.{take_at, drop_at, drop-drop, append_assoc, length-append}
use borrow.Rule.Slice.PartMut.{put_mid}
use Rattle.rows.specs.Finding.{six}
use Rattle.listener.specs.Machine.{cells_of, ring_of}
use Rattle.listener.proofs.Words.{behind_head}
use Rattle.listener.proofs.head.Head.store.Goals as goal

-- eight words written in front, and six behind them
written : (m w at : List ℕ) → length w ≡ 8 → put_mid 8 6 (w ++ drop 8 m) at ≡ (w ++ at) ++ (cells_of m ++ ring_of m)
written m w at l =
    ap₂ (λ (x y : List ℕ). x ++ (at ++ drop 6 y)) (take_at w (drop 8 m) 8 l) (drop_at w (drop 8 m) 8 l)
    ∙ ap (λ (x : List ℕ). w ++ (at ++ x)) (drop-drop 6 8 m ∙ behind_head m)
    ∙ sym (append_assoc w at (cells_of m ++ ring_of m))

pub returns : goal.returns
returns c =
    let m = c.args.memory.now in
    let at : List ℕ = six c.args.self.at in
    let words = c.words.result in
    let long : length words ≡ 8 = omega (arith, length-append words at, ap length c.words.ensures) in
    ap₂ (λ (x y : List ℕ). put_mid 8 6 (x ++ drop 8 m) y) c.copy_from_slice.ensures.after (c.copy_from_slice-2.ensures.after ∙ c.places.ensures)
    ∙ written m words at long
    ∙ ap (λ (x : List ℕ). x ++ (cells_of m ++ ring_of m)) c.words.ensures
