use Rattle.std.proofs.Common.{rules, ◌≡◌, ◌<◌, ℕ, suc, true, false, length, get_or, arith, sym, add-one, ◌∙◌}
use Rattle.syntax.specs.Words.{white}
use Rattle.files.proofs.ByByte.{white_behind, white_stop, white_none}
use Rattle.files.proofs.lines.without_white.Goals as goal

pub returns-in-Some-clause-value : goal.returns-in-Some-clause-value
returns-in-Some-clause-value c =
    let bytes = c.args.bytes.now in
    let last = c.in-Some.last in
    let within : last < length bytes = search rules in
    let stops : white (get_or bytes last 0) ≡ false = search rules in
    let behind : (k : ℕ) → last < k → k < length bytes → white (get_or bytes k 0) ≡ true = search rules in
    sym (white_behind bytes (suc last) (length bytes) within behind ∙ white_stop bytes last stops ∙ sym (add-one last))

pub returns-in-None-clause-value : goal.returns-in-None-clause-value
returns-in-None-clause-value c =
    let bytes = c.args.bytes.now in
    let all : (k : ℕ) → k < length bytes → white (get_or bytes k 0) ≡ true = search rules in
    sym (white_behind bytes 0 (length bytes) (omega arith) (λ k a b. all k b) ∙ white_none bytes)
