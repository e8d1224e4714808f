-- A finite float of size at most 2 ^ k, and the operations on such: a product's exponents add up, a sum's is one more. So no long formula of small numbers overflows.
use mathlib.Core.Path.{◌≡◌, sym, ap, ◌∙◌}
use mathlib.Core.Bool.{Bool, true, false, not}
use Prim.Native.Nat.{ℕ, suc, ◌+◌, ◌-◌, ◌*◌, ◌^◌, ◌≤◌, ◌<◌, zero-le}
use native.Mathlib.Nat.{le_refl, le_trans, lt_of_lt_of_le, lt_of_le_of_lt, lt_of_not-le, mul-le-mul, one-mul, mul_comm, mul-pos, le-mul_of_pos_right, add-zero, pow-succ'}
use native.Mathlib.Omega.{arith}
use native.Mathlib.Decide.{dec_le}
use lib.Dec.{T}
use lib.Pow.{pow-add, pow_pos, pow_mono, pow-lt}
use lib.Ieee.{Float, Format, prec, emax, low, fits, neg, add, sub, mul, round, unlike}
use lib.Ieee.Scale.{finite, overflow, round_same}
use Rattle.float.specs.Sign.{negative}
use Rattle.float.specs.Units.{unit_count}
use Rattle.float.proofs.Representable.{Representable}
use Rattle.float.proofs.Rounded.{rounded_whole}
use Rattle.float.proofs.Monotone.{rounded_le, whole_le}
use Rattle.float.proofs.Units.{prec_pos, units_finite}
use Rattle.float.proofs.Finite.{Finite, finite_of}
use Rattle.float.proofs.RoundFinite.{round_finite}
use Rattle.float.proofs.Negation.{neg_finite}
use Rattle.float.proofs.Sum.{add_alike, add_unlike_less, add_unlike_ge}
use Rattle.float.proofs.Product.{mul_finite}

pub record AtMost (f : Format) (k : ℕ) (x : Float) : Type 0 where
  pub sign : Bool
  pub count : ℕ
  pub is : Finite f x sign count
  pub most : count ≤ 2 ^ (low f + k)

pub at_most_finite : {f : Format} {k : ℕ} {x : Float} → AtMost f k x → T (finite x)
at_most_finite p = units_finite p.is.units

-- by its own number of units
pub at_most_of : (f : Format) (k : ℕ) (x : Float) → T (fits f x) → T (finite x) → unit_count f x ≤ 2 ^ (low f + k) → AtMost f k x
at_most_of f k x t u h = record { sign = negative x; count = unit_count f x; is = finite_of f x t u; most = h }

pub at_most_more : {f : Format} {i j : ℕ} {x : Float} → i ≤ j → AtMost f i x → AtMost f j x
at_most_more {f} {i} {j} h p = record { sign = p.sign; count = p.count; is = p.is; most = le_trans p.most (pow_mono (omega arith)) }

pub power_representable : {p : ℕ} → 0 < p → (n : ℕ) → Representable p (2 ^ n)
power_representable P n = record { significand = 1; exponent = n; digits = lt_of_lt_of_le (le_refl 2) (pow_mono P); exact = sym (one-mul (2 ^ n)) }

below_overflow : (f : Format) {n k : ℕ} → k ≤ emax f → n ≤ 2 ^ (low f + k) → n < overflow f
below_overflow f h l = lt_of_le_of_lt l (pow-lt (omega arith))

-- one over a whole number
pub inverse_at_most : (f : Format) (s : Bool) (d : ℕ) → 0 < d → AtMost f 0 (round f s 1 d)
inverse_at_most f s d D =
    let u = 2 ^ low f in
    let e : round f s 1 d ≡ round f s u (d * u) = round_same f s 1 d u (d * u) D (mul-pos D (pow_pos (low f))) (rw (one-mul (d * u)) (mul_comm d u)) in
    let r = rounded_le {n = u} (prec_pos f) D (power_representable (prec_pos f) (low f + 0)) (rw add-zero (le-mul_of_pos_right u D)) in
    rw e (record { sign = s; count = _; is = round_finite f s u D (below_overflow f zero-le r); most = r })

pub neg_at_most : {f : Format} {k : ℕ} {x : Float} → AtMost f k x → AtMost f k (neg x)
neg_at_most p = record { sign = not p.sign; count = p.count; is = neg_finite p.is; most = p.most }

pub mul_at_most : {f : Format} {i j : ℕ} {x y : Float} → AtMost f i x → AtMost f j y → i + j ≤ emax f → AtMost f (i + j) (mul f x y)
mul_at_most {f} {i} {j} p q room =
    let n : low f + i + (low f + j) ≡ low f + (i + j) + low f = omega arith in
    let e : 2 ^ (low f + i) * 2 ^ (low f + j) ≡ 2 ^ (low f + (i + j)) * 2 ^ low f = sym (pow-add 2 (low f + i) (low f + j)) ∙ ap (λ (x : ℕ). 2 ^ x) n ∙ pow-add 2 (low f + (i + j)) (low f) in
    let l : p.count * q.count ≤ 2 ^ (low f + (i + j)) * 2 ^ low f = rw e at (mul-le-mul p.most q.most) in
    let r = rounded_le (prec_pos f) (pow_pos (low f)) (power_representable (prec_pos f) (low f + (i + j))) l in
    record { sign = unlike p.sign q.sign; count = _; is = mul_finite p.is q.is (below_overflow f room r); most = r }

module _ (f : Format) (i : ℕ) where
  twice : 2 ^ (low f + suc i) ≡ 2 * 2 ^ (low f + i)
  twice = let e : low f + suc i ≡ suc (low f + i) = omega arith in rw e (pow-succ' 2 (low f + i))

  -- a sum of n units, rounded
  summed : {z : Float} {s : Bool} (n : ℕ) → suc i ≤ emax f → n ≤ 2 * 2 ^ (low f + i)
      → (rounded_whole (prec f) n < overflow f → Finite f z s (rounded_whole (prec f) n)) → AtMost f (suc i) z
  summed {s = s} n room h is =
      let r = whole_le {n = n} (prec_pos f) (power_representable (prec_pos f) (low f + suc i)) (rw twice h) in
      record { sign = s; count = _; is = is (below_overflow f room r); most = r }

  module _ {x y : Float} (room : suc i ≤ emax f) where
    alike : {s : Bool} {a b : ℕ} → Finite f x s a → Finite f y s b → a ≤ 2 ^ (low f + i) → b ≤ 2 ^ (low f + i) → AtMost f (suc i) (add f x y)
    alike {a = a} {b} p q g h = summed (a + b) room (omega arith) (add_alike p q)

    opposite : {s : Bool} {a b : ℕ} → Finite f x s a → Finite f y (not s) b → a ≤ 2 ^ (low f + i) → b ≤ 2 ^ (low f + i) → AtMost f (suc i) (add f x y)
    opposite {a = a} {b} p q g h = elim (dec_le b a) [
      | yes l ↦ summed (a - b) room (omega arith) (λ o. add_unlike_ge p q l)
      | no l ↦ summed (b - a) room (omega arith) (λ o. add_unlike_less p q (lt_of_not-le l))
    ]

    pub add_at_most : AtMost f i x → AtMost f i y → AtMost f (suc i) (add f x y)
    add_at_most p q = go p.sign q.sign p.is q.is p.most q.most
      where
        go : (s t : Bool) {a b : ℕ} → Finite f x s a → Finite f y t b → a ≤ 2 ^ (low f + i) → b ≤ 2 ^ (low f + i) → AtMost f (suc i) (add f x y)
        go true true p q g h = alike p q g h
        go false false p q g h = alike p q g h
        go true false p q g h = opposite p q g h
        go false true p q g h = opposite p q g h

-- a difference is the sum with the opposite
pub sub_at_most : (f : Format) (i : ℕ) {x y : Float} → suc i ≤ emax f → AtMost f i x → AtMost f i y → AtMost f (suc i) (sub f x y)
unfolding sub
sub_at_most f i room p q = add_at_most f i room p (neg_at_most q)
