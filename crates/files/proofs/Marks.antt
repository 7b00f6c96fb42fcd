-- A complaint, put together from the parts of its text.
use Rattle.std.proofs.Common.{◌≡◌, ℕ, ◌+◌, ◌-◌, ◌≤◌, List, ◌++◌, length, take, drop, ap, ◌∙◌, ap₂, arith, length-drop}
use Rattle.std.proofs.lemmas.List.{length-take-le}
use Rattle.files.specs.declared.lines.Line.{Line}
use Rattle.files.specs.Lines.{line_of, line_rest}
use Rattle.files.specs.Complaints.{headline, marked, complaint_at}

pub complaint_is : (text front back begun rest cause wanted head said : List ℕ) (m n : ℕ) (l : Line) → front ≡ take m text → back ≡ drop m text → m ≤ length text →
    l ≡ line_of front → begun ≡ drop l.start front → n ≡ line_rest back → rest ≡ take n back → head ≡ headline l.number (length begun + 1) cause wanted →
    said ≡ head ++ marked begun rest → said ≡ complaint_at text m cause wanted
complaint_is text front back begun rest cause wanted head said m n l f b h e d r t hd s =
    let K : List ℕ → List ℕ → Line → ℕ → List ℕ =
    λ x y k i. headline k.number i cause wanted ++ marked (drop k.start x) (take (line_rest y) y) in
    let byte : length begun + 1 ≡ m - l.start + 1 =
    omega (arith, ap length d, length-drop l.start front, ap length f, length-take-le m text h) in
    s ∙ ap₂ (λ xs ys. xs ++ marked begun ys) hd (t ∙ ap (λ i. take i back) r)
    ∙ ap₂ (λ i x. headline l.number i cause wanted ++ marked x (take (line_rest back) back)) byte d
    ∙ ap (λ k. K front back k (m - k.start + 1)) (e ∙ ap line_of f)
    ∙ ap₂ (λ x y. K x y (line_of (take m text)) (m - (line_of (take m text)).start + 1)) f b
