-- The laws by which a counted loop is proved equal to `repeated`: the rounds that are left give what all of them give.
use Prim.Native.Nat.{ℕ, suc, ◌+◌, ◌-◌, ◌<◌, ◌≤◌}
use mathlib.Core.Path.{◌≡◌}
use native.Mathlib.Omega.{arith}
use lib.Ieee.{Float}
use Rattle.guam_projection.specs.GuamProjection.{repeated}
use Rattle.guam_projection.specs.declared.Round.{Round}

module _ (step : Float → Round) (n k : ℕ) (last : Round) where
  -- k rounds of n are done, and no more are left
  pub none_left : n ≤ k → repeated step (n - k) last ≡ last
  unfolding repeated
  none_left h = let e : n - k ≡ 0 = omega arith in rw e

  -- k rounds of n are done, and one more
  pub one_more : k < n → repeated step (n - k) last ≡ repeated step (n - (k + 1)) (step last.phi)
  unfolding repeated
  one_more h = let e : n - k ≡ suc (n - (k + 1)) = omega arith in rw e
