use Rattle.std.proofs.Common.{refl}
use Rattle.timeline.specs.Lists.{every, any, those, each, none_of, flat, run}
use Rattle.timeline.specs.Order.{put, sorted, nth, latest}
use Rattle.patterns.specs.Patterns.{other_side}
use Rattle.patterns.specs.Limits.{some_steps}
use Rattle.patterns.specs.Numbers.{tests_in, nevers_in, nevers_long, steps_in}
use Rattle.rows.specs.Rows.{rows, row_before, put_row, in_order}
use Rattle.rows.specs.Known.{counted_after}
use Rattle.rows.specs.Night.{WorkedNight}
use Rattle.rows.proofs.night.worked_night.Goals as goal

pub returns : goal.returns
unfolding every any those each none_of flat run put sorted nth latest other_side some_steps tests_in nevers_in nevers_long steps_in rows row_before put_row in_order counted_after WorkedNight
returns c = (refl, refl, refl)
