-- Rust's operators on f64, under symbols of their own: each rounds once. Comparisons give a Bool, and are false where a NaN stands.
use Rattle.std.specs.Prelude.{Bool, ℕ, Float}
use Rattle.std.specs.Float.{binary64}
use Rattle.std.specs.Float.Ieee.{add, sub, mul, div, rem, lt, le, eq, of_bits}

infix 60 ◌≺◌ ◌≼◌ ◌≈◌
infixl 70 ◌⊕◌ ◌⊖◌
infixl 72 ◌⊗◌ ◌⊘◌ ◌fmod◌
abbrev pub ◌⊕◌ : Float → Float → Float
x ⊕ y = add binary64 x y

abbrev pub ◌⊖◌ : Float → Float → Float
x ⊖ y = sub binary64 x y

abbrev pub ◌⊗◌ : Float → Float → Float
x ⊗ y = mul binary64 x y

abbrev pub ◌⊘◌ : Float → Float → Float
x ⊘ y = div binary64 x y

-- Rust's `%`, which is C's fmod: exact, with the sign of x
abbrev pub ◌fmod◌ : Float → Float → Float
x fmod y = rem binary64 x y

abbrev pub ◌≺◌ : Float → Float → Bool
x ≺ y = lt x y

abbrev pub ◌≼◌ : Float → Float → Bool
x ≼ y = le x y

-- the numbers are equal: +0 and -0 are, a NaN is not
abbrev pub ◌≈◌ : Float → Float → Bool
x ≈ y = eq x y

-- the f64 of a bit pattern
abbrev pub f64 : ℕ → Float
f64 n = of_bits binary64 n
