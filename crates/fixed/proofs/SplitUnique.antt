-- A float is m×2^k with 1 ≤ m < 2 in one way only.
use mathlib.Core.Path.{◌≡◌, refl, sym, ap, ◌∙◌}
use mathlib.Core.Bool.{false}
use Prim.Native.Nat.{ℕ, zero, suc, ◌+◌, ◌*◌, ◌^◌, ◌≤◌, ◌<◌}
use native.Mathlib.Nat.{le-mul_of_pos_right, mul-pos, mul-one, one-mul, pow-succ', mul-le-mul_left, mul-lt-mul_of_pos_right, eq_of_mul-eq-mul_right}
use native.Mathlib.Omega.{arith}
use lib.IntN.{ℤ, pos, negsuc}
use lib.Dec.{T}
use lib.Pow.{pow-add, pow_pos}
use lib.Ieee.{Float, binary64, up, down, fits}
use lib.Ieee.Fits.{up_pos, down_pos}
use Rattle.float.proofs.Values.{equal_fractions, value_unique}
use Rattle.fixed.specs.Logarithm.{Split}

-- u and v are within a factor of two of each other
same_power : (u v i j : ℕ) → u < 2 * v → v < 2 * u → u * 2 ^ i ≡ v * 2 ^ j → i ≡ j
same_power u v zero zero a b h = refl
same_power u v zero (suc j) a b h =
    let e : u * 1 ≡ v * (2 * 2 ^ j) = rw (pow-succ' 2 j) at h in
    absurd (omega (arith, le-mul_of_pos_right v (pow_pos j)))
same_power u v (suc i) zero a b h =
    let e : u * (2 * 2 ^ i) ≡ v * 1 = rw (pow-succ' 2 i) at h in
    absurd (omega (arith, le-mul_of_pos_right u (pow_pos i)))
same_power u v (suc i) (suc j) a b h =
    let e : u * (2 * 2 ^ i) ≡ v * (2 * 2 ^ j) = rw (pow-succ' 2 i, pow-succ' 2 j) at h in
    ap suc (same_power u v i j a b (omega arith))

same_exponent : (k l : ℤ) (u v : ℕ) → u < 2 * v → v < 2 * u → u * (up k * down l) ≡ v * (up l * down k) → k ≡ l
same_exponent (pos i) (pos j) u v a b h = ap pos (same_power u v i j a b (rw (mul-one (2 ^ i), mul-one (2 ^ j)) at h))
same_exponent (pos i) (negsuc j) u v a b h = absurd (omega (arith, same_power u v (i + suc j) 0 a b (rw (← pow-add 2 i (suc j)) at h)))
same_exponent (negsuc i) (pos j) u v a b h = absurd (omega (arith, same_power u v 0 (j + suc i) a b (rw (← pow-add 2 j (suc i)) at h)))
same_exponent (negsuc i) (negsuc j) u v a b h =
    let e = same_power u v (suc j) (suc i) a b (rw (one-mul (2 ^ suc j), one-mul (2 ^ suc i)) at h) in
    ap negsuc (omega arith)

-- a / c is below 2, and b / d is 1 or more
within_two : (a c b d : ℕ) → d ≤ b → 0 < d → a < 2 * c → a * d < 2 * (b * c)
within_two a c b d h D l =
    let x : a * d < 2 * c * d = mul-lt-mul_of_pos_right l D in
    omega (arith, mul-le-mul_left c h)

regroup : (a u d w : ℕ) → a * u * (d * w) ≡ a * d * (u * w)
regroup a u d w = omega arith

module _ {x m n : Float} {k l : ℤ} (s : Split x m k) (t : Split x n l) where
  crossed : s.a * t.c * (up k * down l) ≡ t.a * s.c * (up l * down k)
  crossed =
      sym (regroup s.a (up k) t.c (down l))
      ∙ equal_fractions x false false (s.a * up k) (s.c * down k) (t.a * up l) (t.c * down l) s.x_is t.x_is
      ∙ regroup t.a (up l) s.c (down k)

  pub same_k : k ≡ l
  same_k =
      same_exponent k l (s.a * t.c) (t.a * s.c)
      (within_two s.a s.c t.a t.c t.one_or_more (omega (arith, t.below_two, t.one_or_more)) s.below_two)
      (within_two t.a t.c s.a s.c s.one_or_more (omega (arith, s.below_two, s.one_or_more)) t.below_two) crossed

  pub same_m : T (fits binary64 m) → T (fits binary64 n) → m ≡ n
  same_m p q =
      value_unique binary64 m n false s.a s.c t.a t.c (omega (arith, s.below_two, s.one_or_more)) (omega (arith, t.below_two, t.one_or_more))
      (eq_of_mul-eq-mul_right (up l * down l) (mul-pos (up_pos l) (down_pos l)) (s.a * t.c) (t.a * s.c) (rw same_k at crossed)) s.m_is t.m_is p q
