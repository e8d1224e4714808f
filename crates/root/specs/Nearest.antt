-- What it means that a number is nearest to a root, by whole-number squares.
use Rattle.std.specs.Prelude.{ℕ, ◌+◌, ◌*◌, ◌^◌, ◌<◌, ◌≤◌, T, ◌≢◌, ℤ, pos, negsuc, ◌+ℤ◌, ◌<ℤ◌, Float}
use Rattle.std.specs.Float.{binary64}
use Rattle.std.specs.Float.Ieee.{fits}
use Rattle.std.specs.Float.Ieee.Positive.{positive}
use Rattle.std.specs.Float.Ieee.Scale.{finite}
use Rattle.float.specs.Units.{unit_count, in_units}

-- The whole number t is nearest to the root of n: (t - 1/2) ^ 2 < n < (t + 1/2) ^ 2, multiplied out. (t + 1/2) ^ 2 is never whole, so there is no tie.
pub record NearestWhole (n t : ℕ) : Type 0 where
  pub above : t * t < n + t
  pub below : n ≤ t * t + t

-- The root of w is below h / 2.
abbrev pub RootBelowHalf : ℕ → ℤ → Type 0
RootBelowHalf w (pos h) = 4 * w < h * h
RootBelowHalf w (negsuc h) = ⊥

-- h / 2 is below the root of w: a negative number always is.
abbrev pub HalfBelowRoot : ℤ → ℕ → Type 0
HalfBelowRoot (pos h) w = h * h < 4 * w
HalfBelowRoot (negsuc h) w = Unit {0}

-- The root of w is nearer to r than to y: on r's side of the midpoint (r + y) / 2.
pub data Nearer (w : ℕ) (r y : ℤ) : Type 0 where
  to_lower : r <ℤ y → RootBelowHalf w (r +ℤ y) → Nearer w r y
  to_upper : y <ℤ r → HalfBelowRoot (r +ℤ y) w → Nearer w r y

-- r is the f64 nearest to the root of x, for a finite x above 0. In units of 2 ^ -1074 that root is the root of `unit_count x * 2 ^ 1074`. Every
-- other finite f64 is farther away, so there is no tie; IEEE 754-2019, 4.3.1, rounds to an infinity only from 2 ^ 1024 - 2 ^ 970 on, which no root reaches.
pub record Nearest (x r : Float) : Type 0 where
  pub held : T (fits binary64 r)
  pub above_zero : T (positive r)
  pub nearer : (y : Float) → T (fits binary64 y) → T (finite y) → y ≢ r → Nearer (unit_count binary64 x * 2 ^ 1074) (in_units r) (in_units y)

-- The other way round: y is a finite f64, and no finite f64 is nearer to the root of x. `root x` is such a y (`root_none_nearer`), and the only one (`root_only`).
pub record NoneNearer (x y : Float) : Type 0 where
  pub held : T (fits binary64 y)
  pub finite_y : T (finite y)
  pub none : (z : Float) → T (fits binary64 z) → T (finite z) → Nearer (unit_count binary64 x * 2 ^ 1074) (in_units z) (in_units y) → ⊥
