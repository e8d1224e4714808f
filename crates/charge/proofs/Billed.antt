-- From the test, the kilometres and the shares to the bill.
use Rattle.std.proofs.Common.{◌≡◌, ℕ, ◌*◌, ◌≤◌, Bool, true, false, cond, not, List, Ok, sym, ap, ◌∙◌, mul-le-mul}
use lib.Ieee.{Float}
use Rattle.root.specs.Plane.{distance}
use Rattle.root.proofs.NotNegative.{root_not_negative}
use Rattle.float.specs.Constants.{+0}
use Rattle.float.specs.Operators.{◌⊕◌, ◌⊗◌, ◌≺◌}
use Rattle.charge.specs.Kilometres.{kilometres}
use Rattle.charge.specs.Shares.{shares}
use Rattle.charge.specs.Charge.{refused, no_bill, bill, travel_charge}
use Rattle.charge.proofs.Answerable.{good, answerable}

-- a charge is at most 1,000,000,000
pub charge_low : (k rate : ℕ) → k ≤ 1000 → rate ≤ 1000000 → k * rate ≤ 1000000000
charge_low k rate h l = mul-le-mul h l

pub not_negative : (dx dy : Float) → (distance dx dy ≺ +0) ≡ false
unfolding distance
not_negative dx dy = root_not_negative (dx ⊗ dx ⊕ dy ⊗ dy)

module _ (dx dy : Float) (rate children : ℕ) where
  refuses : {b : Bool} → good (distance dx dy) rate children ≡ b → refused (distance dx dy) rate children ≡ not b
  refuses h = answerable (distance dx dy) rate children (not_negative dx dy) ∙ ap not h

  pub no_charge : good (distance dx dy) rate children ≡ false → no_bill ≡ travel_charge dx dy rate children
  unfolding travel_charge
  no_charge h = sym (ap (λ b. cond b no_bill (Ok (bill (kilometres (distance dx dy) * rate) children))) (refuses h))

  pub a_charge : {k : ℕ} {l : List ℕ} → good (distance dx dy) rate children ≡ true → k ≡ kilometres (distance dx dy) → l ≡ shares (k * rate) children
      → Ok (record { charge = k * rate; shares = l }) ≡ travel_charge dx dy rate children
  unfolding travel_charge
  a_charge h e f = rw (f, e) (sym (ap (λ b. cond b no_bill (Ok (bill (kilometres (distance dx dy) * rate) children))) (refuses h)))
