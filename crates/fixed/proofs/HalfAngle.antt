-- The tangent of half an angle of at most 45 degrees is at most half the tangent: the divisor 1 + √(1 + t²) is at least 2.
use mathlib.Core.Path.{◌≡◌, refl}
use mathlib.Core.Bool.{false}
use Prim.Native.Nat.{ℕ, ◌+◌, ◌*◌, ◌^◌, ◌≤◌, ◌<◌}
use native.Mathlib.Nat.{lt_of_lt_of_le, mul-le-mul, mul-le-mul_right}
use native.Mathlib.Omega.{arith}
use lib.Dec.{lit<}
use lib.Ieee.{Float, binary64, fits}
use lib.Ieee.Scale.{overflow}
use lib.Ieee.Positive.{positive_of_value}
use Rattle.float.specs.Operators.{◌⊕◌, ◌⊗◌}
use Rattle.float.specs.Constants.{one, two}
use Rattle.float.specs.Units.{unit_count}
use Rattle.float.proofs.Representable.{Representable}
use Rattle.float.proofs.Units.{units_count}
use Rattle.float.proofs.Finite.{Finite, finite_of}
use Rattle.float.proofs.AtMost.{power_representable}
use Rattle.float.proofs.UpTo.{UpTo, Between, up_to_more, mul_up_to, div_up_to, add_between}
use Rattle.root.specs.Root.{root}
use Rattle.root.proofs.Bounds.{root_finite, root_at_least, root_at_most}
use Rattle.fixed.specs.Arctangent.{half_angle}
use Rattle.fixed.specs.Opened.{opened}

pub one_is : Finite binary64 one false (2 ^ 1074)
unfolding opened fits
one_is = finite_of binary64 one tt tt

two_is : Finite binary64 two false (2 ^ 1075)
unfolding opened fits
two_is = finite_of binary64 two tt tt

pub power : (n : ℕ) → Representable 53 (2 ^ n)
power n = power_representable (lit< tt) n

-- ---- arithmetic, with 1 as u units and 2 as v
module _ (u : ℕ) {v : ℕ} (double : v ≡ u + u) where
  sum_least : (c : ℕ) → u ≤ u + c
  sum_least c = omega arith

  sum_most : {c : ℕ} → c ≤ u → u + c ≤ v
  sum_most h = omega arith

  square_least : {c : ℕ} → u ≤ c → u * u ≤ c * u
  square_least h = mul-le-mul_right u h

  square_most : {c : ℕ} → c ≤ v → c * u ≤ v * v
  square_most h = mul-le-mul h (omega arith)

  divisor_least : {c : ℕ} → u ≤ c → v ≤ u + c
  divisor_least h = omega arith

  divisor_most : {c : ℕ} → c ≤ v → u + c ≤ v + v
  divisor_most h = omega arith

  -- half of n units, by a divisor of 2
  halved : (m : ℕ) → 2 * m * u ≤ m * v
  halved m = rw double (omega arith)

doubled : 2 ^ 1075 ≡ 2 ^ 1074 + 2 ^ 1074
doubled = refl

-- 1 + t² is from 1 to 2
square_sum : {t : Float} → UpTo binary64 (2 ^ 1074) t → Between binary64 (2 ^ 1074) (2 ^ 1075) (one ⊕ t ⊗ t)
square_sum p =
    let q = mul_up_to p p in
    add_between (power 1074) (power 1075) (lit< tt) one_is q.is (sum_least (2 ^ 1074) doubled q.count) (sum_most (2 ^ 1074) doubled q.most)

-- its root too
rooted : (x : Float) → Between binary64 (2 ^ 1074) (2 ^ 1075) x → Between binary64 (2 ^ 1074) (2 ^ 1075) (root x)
rooted x p =
    let held = p.is.held in
    let above = positive_of_value x p.count (2 ^ 1074) p.is.units.value (lt_of_lt_of_le (lit< tt) p.least) in
    let n = units_count p.is.units in
    record {
      count = unit_count binary64 (root x);
      is = root_finite x held above;
      least = root_at_least x held above one_is (rw n (square_least (2 ^ 1074) doubled p.least));
      most = root_at_most x held above two_is (rw n (square_most (2 ^ 1074) doubled p.most));
    }

-- the divisor is at least 2
divisor : {t : Float} → UpTo binary64 (2 ^ 1074) t → Between binary64 (2 ^ 1075) (2 ^ 1076) (one ⊕ root (one ⊕ t ⊗ t))
divisor {t} p =
    let r = rooted (one ⊕ t ⊗ t) (square_sum p) in
    add_between (power 1075) (power 1076) (lit< tt) one_is r.is (divisor_least (2 ^ 1074) doubled r.least) (divisor_most (2 ^ 1074) doubled r.most)

pub half_up_to : (m : ℕ) {t : Float} → Representable 53 m → 2 * m ≤ 2 ^ 1074 → m < overflow binary64 → UpTo binary64 (2 * m) t → UpTo binary64 m (half_angle t)
unfolding half_angle
half_up_to m r h o p =
    let d = divisor (up_to_more h p) in
    div_up_to r o p d.is d.least (lt_of_lt_of_le (lit< tt) d.least) (halved (2 ^ 1074) doubled m)
