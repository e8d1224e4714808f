-- `rem_euclid` by a whole turn (document 01, Fixed functions).
use Rattle.std.specs.Prelude.{cond, Float}
use Rattle.float.specs.Operators.{◌⊕◌, ◌fmod◌, ◌≺◌}
use Rattle.float.specs.Constants.{+0, TURN}

-- x % T, plus T if negative, which -0 is not
unfoldable pub rem_euclid : Float → Float
rem_euclid x = let r = x fmod TURN in cond (r ≺ +0) (r ⊕ TURN) r
