-- `root x` is the f64 nearest to the root of x.
use Rattle.std.proofs.Common.{◌≡◌, ℕ, zero, suc, ◌+◌, ◌-◌, ◌*◌, ◌/◌, ◌%◌, ◌^◌, ◌<◌, ◌≤◌, Bool, true, false, cond, T, ltb, ◌≢◌, pos, negsuc, sym, refl, ◌∙◌, inl, inr, lt_of_lt_of_le, lt_of_le_of_lt, mul-le-mul, eq-or-lt_of_le, mul-pos, lt_of_not-le, sub-le, arith, lit<, lt→ltb, pow_pos}
use native.Mathlib.Decide.{dec_le}
use lib.IntN.{sub_ℕ}
use lib.Signed.{lt_z_yes}
use lib.Ieee.{Float, binary64, fits}
use lib.Ieee.Positive.{positive, positive_of_value}
use lib.Ieee.Scale.{finite}
use Rattle.float.specs.Sign.{negative}
use Rattle.float.specs.Units.{unit_count, in_units, signed}
use Rattle.float.proofs.Representable.{Representable, representable_zero}
use Rattle.float.proofs.Units.{HasUnits}
use Rattle.float.proofs.Finite.{finite_of, finite_with}
use Rattle.float.proofs.SignedUnits.{units_signed}
use Rattle.float.proofs.Unique.{finite_unique}
use Rattle.root.specs.Root.{root}
use Rattle.root.specs.Nearest.{HalfBelowRoot, Nearer, to_lower, to_upper, Nearest}
use Rattle.root.proofs.Packed.{packed_units, packed_fits}
use Rattle.root.proofs.RootUnits.{Rooted, rooted_nearest}
use Rattle.root.proofs.Scaled.{Scaled, form}
use Rattle.root.proofs.Midpoint.{below_midpoint, above_midpoint}

-- if r / 2 is below the root, (r - b) / 2 is
minus_below : (r b w : ℕ) → r * r < 4 * w → HalfBelowRoot (sub_ℕ r b) w
minus_below r b w h = go (ltb r b)
  where
    go : (t : Bool) → HalfBelowRoot (cond t (negsuc (b - suc r)) (pos (r - b))) w
    go true = tt
    go false = lt_of_le_of_lt (mul-le-mul (sub-le r b) (sub-le r b)) h

-- r units against any other number of units, of either sign
module _ (w r : ℕ) (R : 0 < r)
    (above : (b : ℕ) → Representable 53 b → r < b → 4 * w < (r + b) * (r + b))
    (below : (b : ℕ) → Representable 53 b → b < r → (r + b) * (r + b) < 4 * w) where
  nearer_any : (s : Bool) (b : ℕ) → Representable 53 b → (s ≡ false → b ≢ r) → Nearer w (pos r) (signed s b)
  nearer_any true zero v n = to_upper (lt_z_yes (lt→ltb 0 r R)) (below 0 representable_zero R)
  nearer_any true (suc b) v n = let h = below 0 representable_zero R in to_upper (lt_z_yes tt) (minus_below r (suc b) w (omega arith))
  nearer_any false b v n = elim (dec_le r b) [
    | no g ↦ let l = lt_of_not-le g in to_upper (lt_z_yes (lt→ltb b r l)) (below b v l)
    | yes g ↦ elim (eq-or-lt_of_le g) [
      | inl e ↦ absurd (n refl (sym e))
      | inr l ↦ to_lower (lt_z_yes (lt→ltb r b l)) (above b v l)
    ]
  ]

-- the root of x, as t * 2 ^ k units
record Result (x : Float) : Type 0 where
  pub m : ℕ
  pub e : ℕ
  pub t : ℕ
  pub scaled : Scaled x m e
  pub rooted : Rooted m e t
  pub held : T (fits binary64 (root x))
  pub has : HasUnits binary64 (root x) false (t * 2 ^ (e / 2 - 26))

result : (x : Float) → T (fits binary64 x) → T (positive x) → Result x
result x f p =
    let v = form x f p in
    let s : Scaled x v.0 v.1 = v.2 in
    let r = rooted_nearest s.low s.high s.least in
    let i = s.root ∙ r.1.root in
    let k : v.1 / 2 - 26 ≤ 2044 = omega (arith, s.most) in
    record {
      m = v.0;
      e = v.1;
      t = r.0;
      scaled = s;
      rooted = r.1;
      held = rw i (packed_fits r.0 (v.1 / 2 - 26) r.1.most k);
      has = rw i (packed_units r.0 (v.1 / 2 - 26) r.1.most k);
    }

pub root_nearest : (x : Float) → T (fits binary64 x) → T (positive x) → Nearest x (root x)
root_nearest x f p = record { held = o.held; above_zero = positive_of_value (root x) r (2 ^ 1074) o.has.value R; nearer = nearer }
  where
    o : Result x
    o = result x f p

    k : ℕ
    k = o.e / 2 - 26

    r : ℕ
    r = o.t * 2 ^ k

    R : 0 < r
    R = mul-pos (lt_of_lt_of_le (lit< tt) o.rooted.least) (pow_pos k)

    w : ℕ
    w = o.m * 2 ^ (o.e % 2) * 2 ^ 52

    same : unit_count binary64 x * 2 ^ 1074 ≡ w * 4 ^ k
    same = o.scaled.size ∙ o.rooted.size

    nearer : (y : Float) → T (fits binary64 y) → T (finite y) → y ≢ root x → Nearer (unit_count binary64 x * 2 ^ 1074) (in_units (root x)) (in_units y)
    nearer y g h n =
        let v = finite_of binary64 y g h in
        rw (same, units_signed o.has, units_signed v.units)
        (nearer_any (w * 4 ^ k) r R
        (λ b q. below_midpoint w o.t b k o.rooted.near o.rooted.least o.rooted.square q)
        (λ b q. above_midpoint w o.t b k o.rooted.near o.rooted.least o.rooted.square q)
        (negative y) (unit_count binary64 y) v.representable
        (λ s e. n (finite_unique (rw (s, e) at v) (finite_with o.held o.has))))
