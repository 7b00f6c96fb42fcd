-- What is said of a typed pattern that is refused: where, why, what could have stood there, the line, and a mark under the byte.
-- Assumes nothing: these are definitions.
use Rattle.std.specs.Prelude.{ℕ, ◌+◌, ◌-◌, Bool, ◌&&◌, List, [], ◌++◌, map, length, take, drop, codes, decimal, ◌==◌, nat_lt, slice_index}
use Rattle.std.proofs.Math.Utf8.{encode}
use Rattle.timeline.specs.Lists.{pick}
use Rattle.syntax.specs.Words.{digit, spelling}
use Rattle.syntax.specs.declared.expects.Expected.{Expected}
use Rattle.syntax.specs.declared.expects.Expected.TheVariants.{KindOrNot, KindNotOrWithin, Kind, Within, Name, NameOrEnd, WhereOrEnd, OwnName, Dot, Field, Sign, OnlyNumber, NumberOrName, AndOrEnd, End, LengthOfTime, Late, Nothing, RestOf}
use Rattle.files.specs.declared.lines.Line.{Line}
use Rattle.files.specs.Lines.{line_of, line_rest, without_white}

-- what is expected, in words, but for what hangs on the text itself
abbrev pub wanted_text : Expected → List ℕ
wanted_text KindOrNot = codes "a kind or `not`"
wanted_text KindNotOrWithin = codes "a kind, `not` or `within`"
wanted_text Kind = codes "a kind, a number below 2^16"
wanted_text Within = codes "`within`"
wanted_text Name = codes "a name, a small letter that no step in front has"
wanted_text NameOrEnd = codes "a name, a small letter that no step in front has, or `;`"
wanted_text WhereOrEnd = codes "`where` or `;`"
wanted_text (OwnName c) = codes "the name of what is tested, "
wanted_text Dot = codes "`.`"
wanted_text Field = codes "`who`, `value` or `time`"
wanted_text Sign = codes "`=`, `<` or `>=`"
wanted_text OnlyNumber = codes "a number below 2^62"
wanted_text NumberOrName = codes "a number below 2^62, or the name of a step in front"
wanted_text AndOrEnd = codes "`and` or `;`"
wanted_text End = codes "`;`"
wanted_text LengthOfTime = codes "a time, a number below 2^40"
wanted_text Late = codes "`late`"
wanted_text Nothing = codes "nothing more"
wanted_text (RestOf w n) = codes "the rest of "

abbrev pub quoted : List ℕ → List ℕ
quoted text = codes "`" ++ (text ++ codes "`")

-- and that: the letter, or the word that is broken off
abbrev pub wanted_detail : Expected → List ℕ
wanted_detail KindOrNot = []
wanted_detail KindNotOrWithin = []
wanted_detail Kind = []
wanted_detail Within = []
wanted_detail Name = []
wanted_detail NameOrEnd = []
wanted_detail WhereOrEnd = []
wanted_detail (OwnName c) = quoted (encode c)
wanted_detail Dot = []
wanted_detail Field = []
wanted_detail Sign = []
wanted_detail OnlyNumber = []
wanted_detail NumberOrName = []
wanted_detail AndOrEnd = []
wanted_detail End = []
wanted_detail LengthOfTime = []
wanted_detail Late = []
wanted_detail Nothing = []
wanted_detail (RestOf w n) = quoted (spelling w)

abbrev pub expected_text : Expected → List ℕ
expected_text e = wanted_text e ++ wanted_detail e

-- a byte as it is shown: control characters but for tabs as spaces; and what stands under it, left of the mark
abbrev pub shown_byte : ℕ → ℕ
shown_byte b = pick (b == 9) 9 (pick (nat_lt b 32) 32 (pick (b == 127) 32 b))

abbrev pub under_byte : ℕ → ℕ
under_byte b = pick (b == 9) 9 32

-- where the mark stands: under the byte that is refused; where the text only breaks off, behind its last word
abbrev pub mark_of : List ℕ → ℕ → ℕ
mark_of text at = pick (nat_lt at (length text)) at (without_white text (length text))

-- a digit behind a digit is refused only if it makes the number too large
abbrev pub digit_more : List ℕ → ℕ → Bool
digit_more text at = nat_lt 0 at && (digit (slice_index text (at - 1)) && digit (slice_index text at))

abbrev pub cause_of : List ℕ → ℕ → List ℕ
cause_of text at =
    pick (nat_lt at (length text)) (pick (digit_more text at) (codes "the number is too large with this digit; ") (codes "")) (codes "the text breaks off; ")

abbrev pub headline : ℕ → ℕ → List ℕ → List ℕ → List ℕ
headline line byte cause wanted =
    codes "line " ++ (decimal line ++ (codes ", byte " ++ (decimal byte ++ (codes ": " ++ (cause ++ (codes "expected " ++ (wanted ++ codes "\n")))))))

-- the line in which the mark stands, in front of it and behind it, and the mark under it
abbrev pub marked : List ℕ → List ℕ → List ℕ
marked front back = map shown_byte front ++ (map shown_byte back ++ (codes "\n" ++ (map under_byte front ++ codes "^\n")))

-- all of it, for a mark at a place of the text
abbrev pub complaint_at : List ℕ → ℕ → List ℕ → List ℕ → List ℕ
complaint_at text mark cause wanted =
    let line : Line = line_of (take mark text) in
    headline line.number (mark - line.start + 1) cause wanted
    ++ marked (drop line.start (take mark text)) (take (line_rest (drop mark text)) (drop mark text))

abbrev pub complaint : List ℕ → ℕ → Expected → List ℕ
complaint text at e = complaint_at text (mark_of text at) (cause_of text at) (expected_text e)
