-- A flag as a number, and numbers read one after the other.
use Prim.Native.Nat.{ℕ, zero, suc, ◌+◌, ◌≤◌, ◌<◌}
use mathlib.Core.Path.{◌≡◌, refl, sym, ◌∙◌, ap}
use mathlib.Core.Bool.{Bool, true, false, cond}
use mathlib.Core.List.{List, ◌++◌, append-nil}
use native.Mathlib.Omega.{arith}
use lib.ListN.{length, replicate, take, drop, drop_of_length-le}
use borrow.Rule.Slice.PartMut.{put_mid}
use lib.Seq.{drop-cons}
use lib.Ieee.{Float, nan, eq, of_bits}
use Rattle.float.specs.Constants.{+0, one}
use Rattle.float.specs.Operators.{◌≈◌}
use Rattle.packing.specs.Packing.{from, lambert_of, albers_of, equal_earth_of, cassini_of, polyconic_of, guam_of, marked, built_of, area_from, unpacked}

pub flag_read : (b : Bool) → (cond b one +0 ≈ one) ≡ b
unfolding eq of_bits
flag_read true = refl
flag_read false = refl

rest_read : (l : List Float) (n i : ℕ) → i + n ≡ length l → from l i n ≡ drop i l
unfolding from
rest_read l zero i e = let h : length l ≤ i = omega arith in sym (drop_of_length-le l h)
rest_read l (suc n) i e =
    let h : i < length l = omega arith in
    let k : suc i + n ≡ length l = omega arith in
    rw (rest_read l n (suc i) k) (sym (drop-cons l i nan h))

-- all of them, from the first on
all_read : (l : List Float) (n : ℕ) → length l ≡ n → from l 0 n ≡ l
all_read l n e = rest_read l n 0 (omega arith)

-- the meridian numbers, read at once
pub en_read : (l : List Float) → length l ≡ 36 → take 13 (drop 18 l) ≡ from l 18 13
unfolding from
en_read l h = sym (ap (λ (m : List Float). take 13 (drop 18 m)) (all_read l 36 h))

-- the parts of what is joined, read again
module _ (own en area : List Float) (h : length own ≡ 18) (k : length en ≡ 13) where
  whole : from own 0 18 ++ (from en 0 13 ++ area) ≡ own ++ (en ++ area)
  whole = rw (all_read own 18 h, all_read en 13 k) refl

  pub parts_read : unpacked (own ++ (en ++ area)) ≡ record { built = built_of own; en = en; area = area_from area 0 }
  unfolding from unpacked area_from built_of marked lambert_of albers_of equal_earth_of cassini_of polyconic_of guam_of
  parts_read = ap unpacked (sym whole) ∙ ap (λ n. record { built = built_of own; en = n; area = area_from area 0 }) (all_read en 13 k)

  -- the parts put into zeros: the first two leave room for the third
  pub room_left : 36 ≤ length (put_mid 18 13 (own ++ replicate 18 +0) en)
  unfolding from
  room_left = rw (← all_read own 18 h, ← all_read en 13 k) (omega arith)

  pub parts_put : put_mid 31 5 (put_mid 18 13 (own ++ replicate 18 +0) en) area ≡ own ++ (en ++ area)
  unfolding from
  parts_put = rw (← all_read own 18 h, ← all_read en 13 k, append-nil area) refl
