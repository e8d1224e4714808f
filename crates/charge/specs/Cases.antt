-- What document 02 and its readings say of the travel charge, at the edges: a theorem by computation for each case.
use Rattle.std.specs.Prelude.{◌≡◌, ℕ, ◌+◌, ◌^◌, true, false, List, [], ◌∷◌, ◌++◌, replicate, refl, Float, Result, Ok}
use Rattle.std.specs.Float.{nan, inf}
use Rattle.std.specs.Float.Ieee.{neg}
use Rattle.float.specs.Operators.{◌⊕◌, ◌⊗◌, ◌≺◌, f64}
use Rattle.float.specs.Constants.{+0, ratio}
use Rattle.root.specs.Plane.{distance}
use Rattle.refusals.specs.declared.Refusal.{Refusal}
use Rattle.refusals.specs.Refusals.{number}
use Rattle.charge.specs.declared.Bill.{Bill}
use Rattle.charge.specs.Kilometres.{kilometres}
use Rattle.charge.specs.Charge.{FARTHEST, no_bill, travel_charge, charge_of, shares_of}
use Rattle.charge.specs.Opened.{opened}

abbrev metres : ℕ → Float
metres n = ratio n 1

-- the limit is 1,000,000 m
pub limit : FARTHEST ≡ metres 1000000
unfolding opened
limit = refl

-- ---- kilometres

abbrev started : Float → Float → ℕ
started dx dy = kilometres (distance dx dy)

-- no distance costs nothing, and neither does one whose square vanishes
pub no_way : (started +0 +0 ∷ started (neg +0) +0 ∷ started (ratio 1 (10 ^ 200)) +0 ∷ []) ≡ (0 ∷ 0 ∷ 0 ∷ [])
unfolding opened
no_way = refl

-- the first metre starts a kilometre; 1,000 m are one; the f64 after it is two
pub first_kilometres : (started (metres 1) +0 ∷ started +0 (neg (metres 1000)) ∷ started (f64 0x408f400000000001) +0 ∷ []) ≡ (1 ∷ 1 ∷ 2 ∷ [])
unfolding opened
first_kilometres = refl

-- the f64 before 1,000,000 m, and 1,000,000 m
pub last_kilometres : (started (f64 0x412e847fffffffff) +0 ∷ started (metres 600000) (metres 800000) ∷ []) ≡ (1000 ∷ 1000 ∷ [])
unfolding opened
last_kilometres = refl

-- by the root and not by its square: the sum is above that of 5,000 m, and its root is 5,000 m
pub by_the_root : started (metres 5000) (ratio 6 (10 ^ 5)) ≡ 5
unfolding opened
by_the_root = refl

pub sum_above : (metres 25000000 ≺ (metres 5000 ⊗ metres 5000) ⊕ (ratio 6 (10 ^ 5) ⊗ ratio 6 (10 ^ 5))) ≡ true
unfolding opened
sum_above = refl

-- here the root too is above
pub root_above : started (metres 1000) (ratio 1 (10 ^ 5)) ≡ 2
unfolding opened
root_above = refl

-- ---- whole bills

-- 3 km at 45 coins, for two and for four children
pub for_two : travel_charge (metres 2100) +0 45 2 ≡ Ok (record { charge = 135; shares = 68 ∷ 67 ∷ replicate 58 0 })
unfolding opened
for_two = refl

pub for_four : travel_charge (metres 2100) +0 45 4 ≡ Ok (record { charge = 135; shares = 34 ∷ 34 ∷ 34 ∷ 33 ∷ replicate 56 0 })
unfolding opened
for_four = refl

-- fewer coins than children
pub too_few_coins : travel_charge (metres 1) +0 2 5 ≡ Ok (record { charge = 2; shares = 1 ∷ 1 ∷ replicate 58 0 })
unfolding opened
too_few_coins = refl

-- the highest rate, the most children, the longest distance
pub highest : travel_charge (metres 1000000) +0 1000000 60 ≡ Ok (record { charge = 10 ^ 9; shares = replicate 40 16666667 ++ replicate 20 16666666 })
unfolding opened
highest = refl

pub no_rate : travel_charge (metres 5000) +0 0 3 ≡ Ok (record { charge = 0; shares = replicate 60 0 })
unfolding opened
no_rate = refl

-- ---- 31

abbrev bills : List (Result Bill Refusal)
bills =
    travel_charge (metres 1) +0 1000001 1 ∷ travel_charge (metres 1) +0 (2 ^ 32 + 1) 1
    ∷ travel_charge (metres 1) +0 1 0 ∷ travel_charge (metres 1) +0 1 61 ∷ travel_charge (metres 1) +0 1 (2 ^ 32 + 1)
    ∷ travel_charge (f64 0x412e848000000001) +0 1 1 ∷ travel_charge (metres 800000) (metres 600001) 1 1
    ∷ travel_charge nan +0 1 1 ∷ travel_charge +0 nan 1 1 ∷ travel_charge (inf true) +0 1 1 ∷ travel_charge +0 (inf false) 1 1
    ∷ travel_charge (ratio (10 ^ 200) 1) +0 1 1
    ∷ []

pub refusals : bills ≡ replicate 12 no_bill
unfolding opened
refusals = refl

pub of_a_refusal : (number no_bill ≡ 31) × (charge_of no_bill ≡ 0) × (shares_of no_bill ≡ replicate 60 0)
of_a_refusal = (refl, refl, refl)
