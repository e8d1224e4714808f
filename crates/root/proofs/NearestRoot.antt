-- `nearest_root` gives the nearest whole number, if 4 ^ k divides w.
use Rattle.std.proofs.Common.{◌≡◌, ℕ, ◌+◌, ◌*◌, ◌^◌, ◌<◌, ◌≤◌, not, T, zero-lt-suc, lt_of_mul-lt-mul_right, mul_right_comm, le_of_mul-le-mul_right, mul-div_cancel, arith, eqb→eq, leb→le}
use Prim.Native.Nat.{compare, Ordering}
use native.Mathlib.Nat.{eq_of_mul-eq-mul_right, one-le-pow}
use lib.Dec.{is_le, compare_is_eq, nleb→lt}
use lib.Ieee.{nearest}
use Rattle.root.specs.Root.{integer_root, nearest_root}
use Rattle.root.specs.Nearest.{NearestWhole}
use Rattle.root.proofs.IntegerRoot.{IntegerRoot, integer_root_is}
use Rattle.root.proofs.NearWhole.{near_same}

-- by how 4 * n compares with the square of 2 * q + 1, which is odd
by_order : (n q : ℕ) → 0 < n → IntegerRoot n q → (o : Ordering) → (T (is_le o) → n * 4 ≤ (2 * q + 1) * (2 * q + 1)) → (T (not (is_le o)) → (2 * q + 1) * (2 * q + 1) < n * 4)
    → (T (compare_is_eq o) → n * 4 ≡ (2 * q + 1) * (2 * q + 1)) → NearestWhole n (nearest q o)
by_order n q N r Ordering.lt le gt eq = near_same n q N r.low (omega (arith, le tt))
by_order n q N r Ordering.eq le gt eq = absurd (omega (arith, eq tt))
by_order n q N r Ordering.gt le gt eq = omega (arith, gt tt, r.high)

pub nearest_root_near : (n k : ℕ) → 0 < n → n < 4 ^ 53 → NearestWhole n (nearest_root (n * 4 ^ k) k)
unfolding nearest_root
nearest_root_near n k N h =
    let P : 0 < 4 ^ k = one-le-pow k 4 (zero-lt-suc 3) in
    rw (mul-div_cancel n P) (go P (integer_root 53 n) (integer_root_is 53 n h))
  where
    go : 0 < 4 ^ k → (q : ℕ) → IntegerRoot n q → NearestWhole n (nearest q (compare (n * 4 ^ k * 4) ((2 * q + 1) * (2 * q + 1) * 4 ^ k)))
    go P q r =
        let a = n * 4 ^ k * 4 in
        let s = (2 * q + 1) * (2 * q + 1) in
        let e : a ≡ n * 4 * 4 ^ k = mul_right_comm n (4 ^ k) 4 in
        by_order n q N r (compare a (s * 4 ^ k))
        (λ t. le_of_mul-le-mul_right (rw e at (leb→le a (s * 4 ^ k) t)) P)
        (λ t. lt_of_mul-lt-mul_right (4 ^ k) (rw e at (nleb→lt a (s * 4 ^ k) t)))
        (λ t. eq_of_mul-eq-mul_right (4 ^ k) P (n * 4) s (rw e at (eqb→eq a (s * 4 ^ k) t)))
