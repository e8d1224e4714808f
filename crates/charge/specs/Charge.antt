-- The travel charge: document 02's Q-7.
use Rattle.std.specs.Prelude.{ℕ, ◌*◌, Bool, cond, not, ◌||◌, List, replicate, ◌==◌, nat_lt, Float, Result, Ok, Err}
use Rattle.std.specs.Float.Ieee.Scale.{finite}
use Rattle.float.specs.Operators.{◌≺◌, f64}
use Rattle.root.specs.Plane.{distance}
use Rattle.refusals.specs.declared.Refusal.{Refusal}
use Rattle.refusals.specs.declared.Refusal.TheVariants.{ChargeInput}
use Rattle.charge.specs.declared.Bill.{Bill}
use Rattle.charge.specs.Kilometres.{kilometres}
use Rattle.charge.specs.Shares.{shares}

-- 1,000,000 m
abbrev pub FARTHEST : Float
FARTHEST = f64 0x412e848000000000

-- a rate above 1,000,000; no children or more than 60; a distance not finite or above 1,000,000 m
unfoldable pub refused : Float → ℕ → ℕ → Bool
refused d rate children = (nat_lt 1000000 rate || (children == 0 || nat_lt 60 children)) || (not (finite d) || (FARTHEST ≺ d))

abbrev pub no_bill : Result Bill Refusal
no_bill = Err ChargeInput

abbrev pub bill : ℕ → ℕ → Bill
bill charge children = record { charge = charge; shares = shares charge children }

-- by the distance, which is a rounded root, and not by its square
abbrev pub charged : Float → ℕ → ℕ → Result Bill Refusal
charged d rate children = cond (refused d rate children) no_bill (Ok (bill (kilometres d * rate) children))

unfoldable pub travel_charge : Float → Float → ℕ → ℕ → Result Bill Refusal
unfolding distance refused kilometres shares
travel_charge dx dy rate children = charged (distance dx dy) rate children

-- ---- what document 02 says of an answer: its number, 0 where there is a bill (refusals/specs/Refusals), its charge and its shares, all of them 0 of a refusal

abbrev pub charge_of : Result Bill Refusal → ℕ
charge_of (Ok b) = b.charge
charge_of (Err r) = 0

abbrev pub shares_of : Result Bill Refusal → List ℕ
shares_of (Ok b) = b.shares
shares_of (Err r) = replicate 60 0
