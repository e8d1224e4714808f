-- A finite float from +0 up to a number of units, and the operations that stay within such bounds.
use mathlib.Core.Bool.{false}
use Prim.Native.Nat.{ℕ, ◌+◌, ◌*◌, ◌^◌, ◌≤◌, ◌<◌}
use native.Mathlib.Nat.{le_refl, le_trans, lt_of_le_of_lt, mul-le-mul, mul-le-mul_left, mul_comm, sub-le}
use lib.Pow.{pow_pos}
use lib.Ieee.{Float, Format, prec, low, add, sub, mul, div}
use lib.Ieee.Scale.{overflow}
use Rattle.float.proofs.Representable.{Representable}
use Rattle.float.proofs.Monotone.{rounded_le, whole_le, whole_ge}
use Rattle.float.proofs.Units.{prec_pos}
use Rattle.float.proofs.Finite.{Finite}
use Rattle.float.proofs.Sum.{add_alike, sub_ge}
use Rattle.float.proofs.Product.{mul_finite, mul_shrink}
use Rattle.float.proofs.Quotient.{div_finite}

pub record UpTo (f : Format) (m : ℕ) (x : Float) : Type 0 where
  pub count : ℕ
  pub is : Finite f x false count
  pub most : count ≤ m

pub up_to_more : {f : Format} {m n : ℕ} {x : Float} → m ≤ n → UpTo f m x → UpTo f n x
up_to_more h p = record { count = p.count; is = p.is; most = le_trans p.most h }

-- a product with a factor of at most 1
pub mul_up_to : {f : Format} {m : ℕ} {x y : Float} → UpTo f m x → UpTo f (2 ^ low f) y → UpTo f m (mul f x y)
mul_up_to {f} p q = record {
  count = _;
  is = mul_shrink p.is q.is q.most;
  most = le_trans (rounded_le (prec_pos f) (pow_pos (low f)) p.is.representable (mul-le-mul_left p.count q.most)) p.most;
}

-- the same, the factor of at most 1 first
pub up_to_mul : {f : Format} {m : ℕ} {x y : Float} → UpTo f (2 ^ low f) x → UpTo f m y → m ≤ 2 ^ low f → UpTo f m (mul f x y)
up_to_mul {f} {m} p q h = record {
  count = _;
  is = mul_shrink p.is q.is (le_trans q.most h);
  most =
      le_trans
      (rounded_le (prec_pos f) (pow_pos (low f)) q.is.representable (rw (mul_comm p.count q.count) (mul-le-mul_left q.count p.most)))
      q.most;
}

-- a smaller one taken off
pub sub_up_to : {f : Format} {m k : ℕ} {x y : Float} → Finite f x false m → UpTo f k y → k ≤ m → UpTo f m (sub f x y)
sub_up_to {f} {m} p q h =
    record { count = _; is = sub_ge p q.is (le_trans q.most h); most = whole_le (prec_pos f) p.representable (sub-le m q.count) }

-- a quotient by a divisor of at least d units
pub div_up_to : {f : Format} {m n d b : ℕ} {x y : Float} → Representable (prec f) m → m < overflow f → UpTo f n x → Finite f y false b
    → d ≤ b → 0 < b → n * 2 ^ low f ≤ m * d → UpTo f m (div f x y)
div_up_to {f} {m} {n} {d} {b} r o p q h B l =
    let e = le_trans (mul-le-mul p.most (le_refl (2 ^ low f))) (le_trans l (mul-le-mul_left m h)) in
    let t = rounded_le (prec_pos f) B r e in
    record { count = _; is = div_finite p.is q B (lt_of_le_of_lt t o); most = t }

-- a product of at most m units
pub mul_by : {f : Format} {m n a : ℕ} {x y : Float} → Representable (prec f) m → m < overflow f → Finite f x false a → UpTo f n y
    → a * n ≤ m * 2 ^ low f → UpTo f m (mul f x y)
mul_by {f} {a = a} r o p q h =
    let t = rounded_le (prec_pos f) (pow_pos (low f)) r (le_trans (mul-le-mul_left a q.most) h) in
    record { count = _; is = mul_finite p q.is (lt_of_le_of_lt t o); most = t }

-- a sum between two numbers of units
pub record Between (f : Format) (l m : ℕ) (x : Float) : Type 0 where
  pub count : ℕ
  pub is : Finite f x false count
  pub least : l ≤ count
  pub most : count ≤ m

pub add_between : {f : Format} {l m a b : ℕ} {x y : Float} → Representable (prec f) l → Representable (prec f) m → m < overflow f
    → Finite f x false a → Finite f y false b → l ≤ a + b → a + b ≤ m → Between f l m (add f x y)
add_between {f} {a = a} {b} r t o p q g h =
    let u = whole_le {n = a + b} (prec_pos f) t h in
    record { count = _; is = add_alike p q (lt_of_le_of_lt u o); least = whole_ge (prec_pos f) r g; most = u }
