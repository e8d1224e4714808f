-- The sine and the cosine of every finite number are finite: each step of the reduction and of the sums has a bound, and none comes near the overflow.
use mathlib.Core.Path.{◌≡◌, refl, sym, ◌∙◌}
use mathlib.Core.Bool.{Bool, true, false, cond}
use mathlib.Core.List.{[], ◌∷◌}
use Prim.Native.Nat.{ℕ, zero, suc, ◌+◌, ◌%◌, ◌^◌, ◌≤◌, ◌<◌}
use native.Mathlib.Nat.{le_trans, le_of_lt, mod-lt}
use native.Mathlib.Omega.{arith}
use borrow.Author.Tests.{ltb-false}
use lib.IntN.{pos}
use lib.Dec.{T, lit≤, lit<}
use lib.ListN.{get_or}
use lib.Ieee.{Float, nan, binary64, fits, neg, of_int}
use lib.Ieee.Scale.{finite}
use Rattle.float.specs.Operators.{◌⊗◌, ◌fmod◌, ◌≺◌}
use Rattle.float.specs.Constants.{one, three, FRAC_PI_2, FRAC_PI_4, LO, TURN}
use Rattle.float.specs.Sign.{negative, abs}
use Rattle.float.specs.Units.{unit_count}
use Rattle.float.proofs.Finite.{Finite, finite_of}
use Rattle.float.proofs.AbsoluteValue.{abs_finite}
use Rattle.float.proofs.Remainder.{rem_finite}
use Rattle.float.proofs.Comparison.{lt_units}
use Rattle.float.proofs.AtMost.{AtMost, at_most_finite, at_most_of, at_most_more, neg_at_most, mul_at_most, add_at_most, sub_at_most}
use Rattle.sums.specs.Counting.{bit}
use Rattle.sums.specs.Factorials.{factorial_terms}
use Rattle.sums.proofs.NestedSize.{nested_small}
use Rattle.sums.proofs.FactorialSize.{terms_small}
use Rattle.trigonometry.specs.Trigonometry.{five, seven, within_turn, quarters, rest, sine_sum, cosine_sum, by_quarter, sine_at, cosine_at, quarters_of, rest_of, sine, cosine}
use Rattle.trigonometry.specs.Opened.{opened}
use Rattle.trigonometry.proofs.OwnRemainder.{turn_is}

-- ---- constants, by computation
turn_below_8 : (0 < unit_count binary64 TURN) × (unit_count binary64 TURN ≤ 2 ^ (1074 + 3))
unfolding opened fits
turn_below_8 = (lit< tt, lit≤ tt)

half_pi : AtMost binary64 1 FRAC_PI_2
unfolding opened fits
half_pi = at_most_of binary64 1 FRAC_PI_2 tt tt (lit≤ tt)

low_word : AtMost binary64 0 LO
unfolding opened fits
low_word = at_most_of binary64 0 LO tt tt (lit≤ tt)

one_is : AtMost binary64 0 one
unfolding opened fits
one_is = at_most_of binary64 0 one tt tt (lit≤ tt)

integer : (k : ℕ) → k < 5 → AtMost binary64 2 (of_int binary64 (pos k))
unfolding opened fits
integer zero h = at_most_of binary64 2 _ tt tt (lit≤ tt)
integer (suc zero) h = at_most_of binary64 2 _ tt tt (lit≤ tt)
integer (suc (suc zero)) h = at_most_of binary64 2 _ tt tt (lit≤ tt)
integer (suc (suc (suc zero))) h = at_most_of binary64 2 _ tt tt (lit≤ tt)
integer (suc (suc (suc (suc zero)))) h = at_most_of binary64 2 _ tt tt (lit≤ tt)
integer (suc (suc (suc (suc (suc k))))) h = absurd (omega arith)

-- ---- the reduction
bit_le : (b : Bool) → bit b ≤ 1
bit_le true = lit≤ tt
bit_le false = lit≤ tt

four_bits : (a b c d : Bool) → bit a + bit b + bit c + bit d < 5
four_bits a b c d = omega (arith, bit_le a, bit_le b, bit_le c, bit_le d)

quarters_below : (z : Float) → quarters z < 5
unfolding quarters
quarters_below z = four_bits (FRAC_PI_4 ≺ z) (three ⊗ FRAC_PI_4 ≺ z) (five ⊗ FRAC_PI_4 ≺ z) (seven ⊗ FRAC_PI_4 ≺ z)

turned : (z : Float) {a : ℕ} → Finite binary64 z false a → AtMost binary64 3 (within_turn z)
unfolding within_turn
turned z {a} p = go (TURN ≺ z) refl
  where
    go : (b : Bool) → (TURN ≺ z) ≡ b → AtMost binary64 3 (cond b (z fmod TURN) z)
    go true h = record {
      sign = false;
      count = a % unit_count binary64 TURN;
      is = rem_finite p turn_is turn_below_8.0;
      most = le_trans (le_of_lt (mod-lt a turn_below_8.0)) turn_below_8.1;
    }
    go false h = record {
      sign = false;
      count = a;
      is = p;
      most = le_trans (ltb-false (unit_count binary64 TURN) a (sym (lt_units turn_is.units p.units) ∙ h)) turn_below_8.1;
    }

rest_at_most : (z : Float) (k : ℕ) → AtMost binary64 3 z → k < 5 → AtMost binary64 5 (rest z k)
unfolding rest
rest_at_most z k p h =
    let n = integer k h in
    sub_at_most binary64 4 (lit≤ tt) (sub_at_most binary64 3 (lit≤ tt) p (mul_at_most n half_pi (lit≤ tt))) (at_most_more (lit≤ tt) (mul_at_most n low_word (lit≤ tt)))

-- ---- the sums
module _ (r : Float) (p : AtMost binary64 5 r) where
  square : AtMost binary64 10 (r ⊗ r)
  square = mul_at_most p p (lit≤ tt)

  sine_sum_at_most : AtMost binary64 104 (sine_sum r)
  unfolding sine_sum factorial_terms
  sine_sum_at_most =
      let sum = nested_small square (terms_small 3) (lit≤ tt) in
      add_at_most binary64 103 (lit≤ tt) (at_most_more (lit≤ tt) p) (mul_at_most (mul_at_most p square (lit≤ tt)) sum (lit≤ tt))

  cosine_sum_at_most : AtMost binary64 104 (cosine_sum r)
  unfolding cosine_sum factorial_terms
  cosine_sum_at_most =
      let sum = nested_small square (terms_small 2) (lit≤ tt) in
      at_most_more (lit≤ tt) (add_at_most binary64 98 (lit≤ tt) (at_most_more (lit≤ tt) one_is) (mul_at_most square sum (lit≤ tt)))

-- the one of four that stands at n
pick_at_most : (n : ℕ) {a b c d : Float} → n < 4 → AtMost binary64 104 a → AtMost binary64 104 b → AtMost binary64 104 c → AtMost binary64 104 d
    → AtMost binary64 104 (get_or (a ∷ b ∷ c ∷ d ∷ []) n nan)
pick_at_most zero h p q r s = p
pick_at_most (suc zero) h p q r s = q
pick_at_most (suc (suc zero)) h p q r s = r
pick_at_most (suc (suc (suc zero))) h p q r s = s
pick_at_most (suc (suc (suc (suc n)))) h p q r s = absurd (omega arith)

-- ---- a finite number
of_number : (b : Bool) → T b → {k : ℕ} {y : Float} → AtMost binary64 k y → T (finite (cond b y nan))
of_number true t p = at_most_finite p
of_number false t p = absurd t

signed_at_most : (b : Bool) {k : ℕ} {y : Float} → AtMost binary64 k y → AtMost binary64 k (cond b (neg y) y)
signed_at_most true p = neg_at_most p
signed_at_most false p = p

module _ (x : Float) (held : T (fits binary64 x)) (number : T (finite x)) where
  rest_of_at_most : AtMost binary64 5 (rest_of x)
  unfolding rest_of
  rest_of_at_most =
      let z = within_turn (abs x) in
      rest_at_most z (quarters z) (turned (abs x) (abs_finite (finite_of binary64 x held number))) (quarters_below z)

  by_quarters : {a b c d : Float} → AtMost binary64 104 a → AtMost binary64 104 b → AtMost binary64 104 c → AtMost binary64 104 d
      → AtMost binary64 104 (by_quarter (quarters_of x) a b c d)
  by_quarters p q r s = pick_at_most (quarters_of x % 4) (omega arith) p q r s

  pub sine_finite : T (finite (sine x))
  unfolding sine sine_at
  sine_finite =
      let s = sine_sum_at_most (rest_of x) rest_of_at_most in
      let c = cosine_sum_at_most (rest_of x) rest_of_at_most in
      of_number (finite x) number (signed_at_most (negative x) (by_quarters s c (neg_at_most s) (neg_at_most c)))

  pub cosine_finite : T (finite (cosine x))
  unfolding cosine cosine_at
  cosine_finite =
      let s = sine_sum_at_most (rest_of x) rest_of_at_most in
      let c = cosine_sum_at_most (rest_of x) rest_of_at_most in
      of_number (finite x) number (by_quarters c (neg_at_most s) (neg_at_most c) s)
