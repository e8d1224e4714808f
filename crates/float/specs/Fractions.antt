-- Fractions, in which partial sums of series are exact.
use Rattle.std.specs.Prelude.{ℕ, ◌+◌, ◌-◌, ◌*◌, ◌^◌, Float}
use Rattle.float.specs.Constants.{ratio}

pub record Fraction : Type 0 where
  pub num : ℕ
  pub den : ℕ

abbrev pub over : ℕ → ℕ → Fraction
over n d = record { num = n; den = d }

abbrev pub plus : Fraction → Fraction → Fraction
plus p q = over (p.num * q.den + q.num * p.den) (p.den * q.den)

-- p - q, for a q that is at most p
abbrev pub minus : Fraction → Fraction → Fraction
minus p q = over (p.num * q.den - q.num * p.den) (p.den * q.den)

abbrev pub times : ℕ → Fraction → Fraction
times k p = over (k * p.num) p.den

-- 1 / (n xⁿ), a term of the series of arctan(1/x) and of artanh(1/x)
abbrev pub term : ℕ → ℕ → Fraction
term x n = over 1 (n * x ^ n)

abbrev pub nearest_f64 : Fraction → Float
nearest_f64 p = ratio p.num p.den
