use Rattle.std.proofs.Common.{rules}
use Rattle.files.proofs.asking.PatternSource.next.Goals as goal

pub returns-in_ok-next_word-in-text : goal.returns-in_ok-next_word-in-text
returns-in_ok-next_word-in-text c = (c.in_ok-word.word, search rules, search rules)

pub returns-in_ok-next_word-in-text-2 : goal.returns-in_ok-next_word-in-text-2
returns-in_ok-next_word-in-text-2 c = (c.in_ok-word.word, search rules, search rules)
