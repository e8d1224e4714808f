-- What a mark at place 0 says.
use Prim.Native.Nat.{ℕ, ◌<◌}
use mathlib.Core.Path.{◌≡◌, refl, sym, ◌∙◌, subst}
use mathlib.Core.Bool.{Bool, false, not}
use mathlib.Core.List.{List}
use native.Mathlib.Omega.{arith}
use native.Mathlib.Nat.{mod-eq_of_lt}
use borrow.Author.Tests.{lt-ltb, le-ltb, ne_eqb}
use lib.Dec.{T}
use lib.Ieee.{Float, binary64, to_bits, of_bits, is_nan}
use lib.Ieee.Bits.{to_bits-of_bits, nan_bits_is, nan_bits_above}
use Rattle.std.specs.Prelude.{Ok, Err}
use Rattle.float.specs.Operators.{f64}
use Rattle.refusals.specs.Refusals.{number_of, number_of-byte, from_number-number_of}
use Rattle.refusals.specs.declared.Refusal.{Refusal}
use Rattle.kinds.specs.declared.Built.TheVariants.{Lambert, Albers, Equal, Cassini, Polyconic, Guam}
use Rattle.packing.specs.Packing.{at, lambert_of, albers_of, equal_earth_of, cassini_of, polyconic_of, guam_of, refusal_of, marked, built_of}

pub lambert_marked : (l : List Float) → at l 0 ≡ f64 332 → built_of l ≡ Ok (Lambert (lambert_of l))
unfolding built_of marked to_bits of_bits
lambert_marked l h = rw h refl

pub albers_marked : (l : List Float) → at l 0 ≡ f64 321 → built_of l ≡ Ok (Albers (albers_of l))
unfolding built_of marked to_bits of_bits
albers_marked l h = rw h refl

pub equal_earth_marked : (l : List Float) → at l 0 ≡ f64 325 → built_of l ≡ Ok (Equal (equal_earth_of l))
unfolding built_of marked to_bits of_bits
equal_earth_marked l h = rw h refl

pub cassini_marked : (l : List Float) → at l 0 ≡ f64 323 → built_of l ≡ Ok (Cassini (cassini_of l))
unfolding built_of marked to_bits of_bits
cassini_marked l h = rw h refl

pub polyconic_marked : (l : List Float) → at l 0 ≡ f64 336 → built_of l ≡ Ok (Polyconic (polyconic_of l))
unfolding built_of marked to_bits of_bits
polyconic_marked l h = rw h refl

pub guam_marked : (l : List Float) → at l 0 ≡ f64 327 → built_of l ≡ Ok (Guam (guam_of l))
unfolding built_of marked to_bits of_bits
guam_marked l h = rw h refl

pub ruleset marked_kinds = (lambert_marked, albers_marked, equal_earth_marked, cassini_marked, polyconic_marked, guam_marked)

-- a small number is the pattern of its f64
small_pattern : (n : ℕ) → n < 256 → to_bits binary64 (f64 n) ≡ n
small_pattern n h = to_bits-of_bits binary64 n (omega arith) (subst (λ (b : Bool). T (not b)) (sym nan_free) tt)
  where
    nan_free : is_nan (f64 n) ≡ false
    nan_free =
        let e = sym (nan_bits_is binary64 n) ∙ nan_bits_above binary64 n in
        let l : n < 9223372036854775808 = omega arith in
        e ∙ rw (mod-eq_of_lt l) (le-ltb _ n (omega arith))

pub refusal_marked : (l : List Float) (r : Refusal) → at l 0 ≡ f64 (number_of r) → built_of l ≡ Err r
unfolding built_of marked refusal_of
refusal_marked l r h =
    let s : number_of r < 256 = number_of-byte r in
    rw (h, small_pattern (number_of r) s, ne_eqb (number_of r) 332 (λ e. omega arith), ne_eqb (number_of r) 321 (λ e. omega arith), ne_eqb (number_of r) 325 (λ e. omega arith), ne_eqb (number_of r) 323 (λ e. omega arith), ne_eqb (number_of r) 336 (λ e. omega arith), ne_eqb (number_of r) 327 (λ e. omega arith), lt-ltb (number_of r) 256 s, from_number-number_of r) refl
