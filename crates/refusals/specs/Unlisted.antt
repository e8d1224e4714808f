-- The numbers of a byte that no refusal has: 32 to 254.
use native.Mathlib.Omega.{arith}
use mathlib.Core.Bool.{and-eq-true_iff}
use Rattle.std.specs.Prelude.{ℕ, Bool, true, ◌&&◌, ◌≡◌, ◌<◌, nat_lt}
use Rattle.std.proofs.lemmas.Bool.{ltb-true}

abbrev pub is_unlisted : ℕ → Bool
is_unlisted n = nat_lt 31 n && nat_lt n 255

pub unlisted-byte : (n : ℕ) → is_unlisted n ≡ true → n < 256
unlisted-byte n h = omega (arith, ltb-true n 255 ((and-eq-true_iff _ _).0 h).1)
