-- The coefficients of the sine's and the cosine's sums are at most 1.
use Prim.Native.Nat.{ℕ, zero, suc, ◌+◌, ◌<◌}
use native.Mathlib.Nat.{zero-lt-suc, mul-pos}
use mathlib.Core.Bool.{false}
use lib.Ieee.{binary64}
use Rattle.float.proofs.AtMost.{AtMost, inverse_at_most, neg_at_most}
use Rattle.sums.specs.Factorials.{factorial, inverse_factorial, factorial_terms}
use Rattle.sums.proofs.NestedSize.{Small, none, more}

factorial_pos : (n : ℕ) → 0 < factorial n
unfolding factorial
factorial_pos zero = zero-lt-suc 0
factorial_pos (suc n) = mul-pos (zero-lt-suc n) (factorial_pos n)

term : (n : ℕ) → AtMost binary64 0 (inverse_factorial n)
unfolding inverse_factorial
term n = inverse_at_most binary64 false (factorial n) (factorial_pos n)

pub terms_small : (n : ℕ) → Small (factorial_terms n)
unfolding factorial_terms
terms_small n =
    more (neg_at_most (term n)) (more (term (n + 2)) (more (neg_at_most (term (n + 4))) (more (term (n + 6))
    (more (neg_at_most (term (n + 8))) (more (term (n + 10)) (more (neg_at_most (term (n + 12))) (more (term (n + 14)) none)))))))
