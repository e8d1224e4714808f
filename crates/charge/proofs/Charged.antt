-- What holds of every bill, whatever is handed in.
use Rattle.std.proofs.Common.{◌≡◌, ℕ, zero, suc, ◌*◌, ◌/◌, ◌^◌, ◌≤◌, Bool, true, false, cond, not, replicate, Ok, sym, refl, ap, ◌∙◌, true≢false, zero-le, mul-le-mul_right, zero-mul, arith, le-leb}
use native.Mathlib.Nat.{div-le_of_le-mul}
use lib.Ieee.{Float, nan, inf, fin, lt, le, eq, of_bits, up, down}
use Rattle.root.specs.Plane.{distance}
use Rattle.float.specs.Units.{unit_count}
use Rattle.float.specs.Constants.{+0}
use Rattle.float.specs.Operators.{◌≺◌, ◌≼◌}
use Rattle.refusals.specs.Refusals.{number}
use Rattle.charge.specs.Least.{Least}
use Rattle.charge.specs.Kilometres.{reaches, kilometres}
use Rattle.charge.specs.Charge.{FARTHEST, refused, no_bill, bill, travel_charge, charge_of, shares_of}
use Rattle.charge.specs.Fair.{Fair}
use Rattle.charge.proofs.CountingUp.{least_passes}
use Rattle.charge.proofs.WholePart.{at_most, below_zero}
use Rattle.charge.proofs.Answerable.{good, Good, good_says, good_from, answerable}
use Rattle.charge.proofs.Billed.{not_negative, a_charge}
use Rattle.charge.proofs.FairShares.{fair, getD_zeros}

-- ---- 1,000 km reach every distance that is charged

reached_by : (x v u : ℕ) → x * 1 ≤ 1000000 * v → x * u / v ≤ 1000 * 1000 * u
reached_by x v u l =
    let most : x ≤ 1000000 * v = omega arith in
    let same : 1000000 * v * u ≡ v * (1000 * 1000 * u) = omega arith in
    div-le_of_le-mul v (rw same at (mul-le-mul_right u most))

pub reached : (d : Float) → (d ≺ +0) ≡ false → (d ≼ FARTHEST) ≡ true → reaches d (1000 * 1000) ≡ true
unfolding reaches unit_count lt le eq of_bits
reached nan h k = absurd (true≢false (sym k))
reached (inf true) h k = absurd (true≢false h)
reached (inf false) h k = absurd (true≢false (sym k))
reached (fin false m e) h k = le-leb _ _ (reached_by (m * up e) (down e) (2 ^ 1074) (at_most (m * up e * 1) (1000000 * down e) k))
reached (fin true zero e) h k = le-leb _ _ (reached_by (0 * up e) (down e) (2 ^ 1074) (rw (zero-mul (up e)) zero-le))
reached (fin true (suc m) e) h k = absurd (below_zero m e h)

-- ---- the shares are fair

none_fair : (children : ℕ) → Fair 0 children (replicate 60 0)
none_fair children = record {
  sixty = refl;
  adds_up = refl;
  alike = λ i j h l. rw (getD_zeros 60 i) zero-le;
  never_rise = λ i j h. rw (getD_zeros 60 j) zero-le;
  past = λ i h. getD_zeros 60 i;
}

module _ (dx dy : Float) (rate children : ℕ) where
  good_of : {b : Bool} → refused (distance dx dy) rate children ≡ b → good (distance dx dy) rate children ≡ not b
  good_of {b} e = back (good (distance dx dy) rate children) b (sym (answerable (distance dx dy) rate children (not_negative dx dy)) ∙ e)
    where
      back : (g b : Bool) → not g ≡ b → g ≡ not b
      back true true h = absurd (true≢false (sym h))
      back true false h = refl
      back false true h = refl
      back false false h = absurd (true≢false h)

  pub bill_fair : Fair (charge_of (travel_charge dx dy rate children)) children (shares_of (travel_charge dx dy rate children))
  unfolding travel_charge
  bill_fair = go (refused (distance dx dy) rate children) refl
    where
      go : (b : Bool) → refused (distance dx dy) rate children ≡ b
          → (let r = cond b no_bill (Ok (bill (kilometres (distance dx dy) * rate) children)) in Fair (charge_of r) children (shares_of r))
      go true e = none_fair children
      go false e = let g = good_says (distance dx dy) rate children (good_of e) in fair (kilometres (distance dx dy) * rate) children g.some g.few

  -- ---- what is answered

  pub answered : number (travel_charge dx dy rate children) ≡ 0 → Good (distance dx dy) rate children
  unfolding travel_charge
  answered = go (refused (distance dx dy) rate children) refl
    where
      go : (b : Bool) → refused (distance dx dy) rate children ≡ b
          → number (cond b no_bill (Ok (bill (kilometres (distance dx dy) * rate) children))) ≡ 0 → Good (distance dx dy) rate children
      go true e h = absurd (omega arith)
      go false e h = good_says (distance dx dy) rate children (good_of e)

  pub charge_is : Good (distance dx dy) rate children → Ok (bill (kilometres (distance dx dy) * rate) children) ≡ travel_charge dx dy rate children
  charge_is g = a_charge dx dy rate children (good_from (distance dx dy) rate children g) refl refl

  -- the least whole number of kilometres that reach the distance, times the rate
  pub bill_charge : number (travel_charge dx dy rate children) ≡ 0
      → Least (λ k. reaches (distance dx dy) (1000 * k)) (kilometres (distance dx dy)) × (charge_of (travel_charge dx dy rate children) ≡ kilometres (distance dx dy) * rate)
  unfolding kilometres
  bill_charge h =
      let g = answered h in
      (least_passes _ 1000 (reached (distance dx dy) (not_negative dx dy) g.near), sym (ap charge_of (charge_is g)))
