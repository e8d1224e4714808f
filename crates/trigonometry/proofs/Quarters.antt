-- The value at k % 4 is sine's sum for an even k and cosine's for an odd one, negated in the second half of the turn. The cosine is the sine a quarter
-- turn further, and half a turn further both are negated.
use mathlib.Core.Path.{◌≡◌, refl, sym}
use mathlib.Core.Bool.{Bool, true, false, cond}
use mathlib.Core.List.{[], ◌∷◌}
use Prim.Native.Nat.{ℕ, zero, suc, ◌+◌, ◌*◌, ◌%◌, ◌<◌}
use native.Mathlib.Omega.{arith}
use lib.Dec.{eqb, ltb}
use lib.ListN.{get_or}
use lib.Ieee.{Float, nan, neg}
use Rattle.float.proofs.SignLaws.{neg_neg}
use Rattle.sums.specs.Counting.{bit}
use Rattle.trigonometry.specs.Trigonometry.{by_quarter, sine_sum, cosine_sum, sine_at, cosine_at}

signed : (n : ℕ) (s c : Float) → n < 4
    → cond (ltb n 2) (cond (eqb (n % 2) 0) s c) (neg (cond (eqb (n % 2) 0) s c)) ≡ get_or (s ∷ c ∷ neg s ∷ neg c ∷ []) n nan
signed zero s c h = refl
signed (suc zero) s c h = refl
signed (suc (suc zero)) s c h = refl
signed (suc (suc (suc zero))) s c h = refl
signed (suc (suc (suc (suc n)))) s c h = absurd (omega arith)

pub by_parity : (k : ℕ) (s c : Float)
    → cond (ltb (k % 4) 2) (cond (eqb (k % 2) 0) s c) (neg (cond (eqb (k % 2) 0) s c)) ≡ by_quarter k s c (neg s) (neg c)
by_parity k s c =
    let e : k % 2 ≡ k % 4 % 2 = omega arith in
    rw e (signed (k % 4) s c (omega arith))

turned : (n : ℕ) (a b c d : Float) → n < 4 → get_or (d ∷ a ∷ b ∷ c ∷ []) ((n + 1) % 4) nan ≡ get_or (a ∷ b ∷ c ∷ d ∷ []) n nan
turned zero a b c d h = refl
turned (suc zero) a b c d h = refl
turned (suc (suc zero)) a b c d h = refl
turned (suc (suc (suc zero))) a b c d h = refl
turned (suc (suc (suc (suc n)))) a b c d h = absurd (omega arith)

pub quarter_more : (k : ℕ) (r : Float) → sine_at (k + 1) r ≡ cosine_at k r
unfolding sine_at cosine_at
quarter_more k r =
    let e : (k + 1) % 4 ≡ (k % 4 + 1) % 4 = omega arith in
    rw e (turned (k % 4) (cosine_sum r) (neg (sine_sum r)) (neg (cosine_sum r)) (sine_sum r) (omega arith))

opposite : (n : ℕ) (s c : Float) → n < 4
    → get_or (s ∷ c ∷ neg s ∷ neg c ∷ []) ((n + 2) % 4) nan ≡ neg (get_or (s ∷ c ∷ neg s ∷ neg c ∷ []) n nan)
opposite zero s c h = refl
opposite (suc zero) s c h = refl
opposite (suc (suc zero)) s c h = sym (neg_neg s)
opposite (suc (suc (suc zero))) s c h = sym (neg_neg c)
opposite (suc (suc (suc (suc n)))) s c h = absurd (omega arith)

-- half a turn more where b holds
pub half_more : (b : Bool) (k : ℕ) (r : Float) → sine_at (k + 2 * bit b) r ≡ cond b (neg (sine_at k r)) (sine_at k r)
unfolding sine_at
half_more false k r = let e : (k + 2 * 0) % 4 ≡ k % 4 = omega arith in rw e
half_more true k r =
    let e : (k + 2 * 1) % 4 ≡ (k % 4 + 2) % 4 = omega arith in
    rw e (opposite (k % 4) (sine_sum r) (cosine_sum r) (omega arith))
