-- A fraction n / d of units rounded to p binary digits, a tie to even: what `round` gives in units of the format's smallest value.
-- It is a number of p digits.
use mathlib.Core.Path.{refl}
use mathlib.Core.Logic.{inl, inr}
use Prim.Native.Nat.{ℕ, ◌+◌, ◌*◌, ◌^◌, ◌<◌}
use native.Mathlib.Nat.{le_refl, lt_of_lt_of_le, eq-or-lt_of_le, one-mul}
use lib.Pow.{pow-add, pow_mono}
use lib.Ieee.Order.{drop, kept}
use Rattle.float.proofs.Representable.{Representable}
use Rattle.float.proofs.Kept.{kept_le}

unfoldable pub rounded : ℕ → ℕ → ℕ → ℕ
rounded p n d = kept p n d * 2 ^ drop p n d

-- a whole number of units: a sum's, a remainder's
abbrev pub rounded_whole : ℕ → ℕ → ℕ
rounded_whole p n = rounded p n 1

pub rounded_representable : {p : ℕ} (n d : ℕ) → 0 < p → Representable p (rounded p n d)
unfolding rounded
rounded_representable {p} n d P = elim (eq-or-lt_of_le (kept_le p n d)) [
  | inl e ↦ record {
    significand = 1;
    exponent = p + drop p n d;
    digits = lt_of_lt_of_le (le_refl 2) (pow_mono P);
    exact = rw (e, one-mul, pow-add);
  }
  | inr l ↦ record { significand = kept p n d; exponent = drop p n d; digits = l; exact = refl }
]
