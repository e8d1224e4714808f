-- The end of an inverse hands on what was refused before it: so the check of the input may stand before the formula, as we have it, or before the end too.
use mathlib.Core.Path.{◌≡◌, refl}
use Rattle.std.specs.Prelude.{Ok, Err}
use Rattle.std.specs.Result.{result_and}
use Rattle.projection.specs.Answer.{Answer}
use Rattle.projection.specs.Checks.{Check}
use Rattle.projection.specs.Ends.{finish}

pub finish_guarded : (check : Check) (formula : Answer) → finish (result_and check formula) ≡ result_and check (finish formula)
unfolding finish
finish_guarded (Ok x) formula = refl
finish_guarded (Err r) formula = refl
