use Rattle.patterns.proofs.Words.{pattern_cells_long, pattern_cells_small}
use Rattle.patterns.proofs.laws.fits_words.Goals as goal

pub returns : goal.returns
returns c p e = (pattern_cells_long p, pattern_cells_small p e)
