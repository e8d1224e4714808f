-- Only one whole number is nearest to a root, and it is q if n is q * q and at most q more.
use Rattle.std.proofs.Common.{◌≡◌, ℕ, zero, suc, ◌+◌, ◌*◌, ◌<◌, ◌≤◌, zero-lt-suc, le_antisymm, lt_of_not-le, arith}
use native.Mathlib.Nat.{le_dest}
use native.Mathlib.Decide.{dec_le}
use Rattle.root.specs.Nearest.{NearestWhole}

-- with t + 1 ≤ s: n ≤ t * t + t = (t + 1) * t ≤ s * (s - 1) < n
pub between : {n s t : ℕ} → s * s < n + s → n ≤ t * t + t → s ≤ t
between {n} {s} {t} above below = elim (dec_le s t) [
  | yes h ↦ h
  | no f ↦
      let d = le_dest (lt_of_not-le f) in
      let a : (suc t + d.0) * (suc t + d.0) < n + (suc t + d.0) = rw d.1 above in
      absurd (omega arith)
]

pub near_unique : {n s t : ℕ} → NearestWhole n s → NearestWhole n t → s ≡ t
near_unique p q = le_antisymm (between p.above q.below) (between q.above p.below)

some : {n : ℕ} (q : ℕ) → 0 < n → n ≤ q * q + q → 0 < q
some zero N h = omega arith
some (suc q) N h = zero-lt-suc q

-- q is the whole part of the root
pub near_same : (n q : ℕ) → 0 < n → q * q ≤ n → n ≤ q * q + q → NearestWhole n q
near_same n q N l h = record { above = omega (arith, some q N h); below = h }
