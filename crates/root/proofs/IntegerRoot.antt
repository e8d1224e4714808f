-- `integer_root` is the greatest whole number whose square is at most n.
use Rattle.std.proofs.Common.{◌≡◌, ℕ, zero, suc, ◌*◌, ◌/◌, ◌^◌, ◌<◌, ◌≤◌, Bool, true, false, cond, not, T, leb, refl, zero-le, arith, leb→le}
use native.Mathlib.Nat.{pow-succ'}
use lib.Dec.{nleb→lt}
use Rattle.root.specs.Root.{integer_root}

pub record IntegerRoot (n s : ℕ) : Type 0 where
  pub low : s * s ≤ n
  pub high : n < suc s * suc s

-- one more digit to the base 4
step : {n s : ℕ} → IntegerRoot (n / 4) s → (b : Bool) → (T b → suc (2 * s) * suc (2 * s) ≤ n) → (T (not b) → n < suc (2 * s) * suc (2 * s)) → IntegerRoot n (cond b (suc (2 * s)) (2 * s))
step p true y n = let l = p.low in let h = p.high in record { low = y tt; high = omega arith }
step p false y n = let l = p.low in let h = p.high in record { low = omega arith; high = n tt }

pub integer_root_is : (d n : ℕ) → n < 4 ^ d → IntegerRoot n (integer_root d n)
unfolding integer_root
integer_root_is zero n h = let e : 4 ^ 0 ≡ 1 = refl in record { low = zero-le; high = omega arith }
integer_root_is (suc d) n h =
    let s = integer_root d (n / 4) in
    let x = suc (2 * s) * suc (2 * s) in
    step (integer_root_is d (n / 4) (omega (arith, pow-succ' 4 d))) (leb x n) (leb→le x n) (nleb→lt x n)
