-- Demand 3's theorem, `finish_on_the_map`: what `finish` answers is a place on the map.
use mathlib.Core.Path.{◌≡◌, refl, sym, ◌∙◌, subst}
use mathlib.Core.Bool.{Bool, true, false, cond, ◌&&◌}
use Prim.Native.Nat.{ℕ, ◌+◌, ◌*◌, ◌^◌, ◌≤◌, ◌<◌}
use native.Mathlib.Nat.{lt_of_le_of_lt}
use native.Mathlib.Omega.{arith}
use lib.IntN.{ℤ, nat_abs, sub_ℕ, ◌+ℤ◌, ◌-ℤ◌, ◌*ℤ◌}
use lib.Dec.{T, ltb, nltb→le, lit≤, lit<}
use lib.Ieee.{Float, binary64, fits, of_bits}
use lib.Ieee.Scale.{finite}
use Rattle.float.specs.Operators.{◌≺◌}
use Rattle.float.specs.Constants.{+0, PI, FRAC_PI_2, TURN}
use Rattle.float.specs.Sign.{negative, abs}
use Rattle.float.specs.Units.{unit_count, in_units}
use Rattle.float.proofs.NoOverflow.{whole_sum_below}
use Rattle.float.proofs.Units.{units_finite, units_count}
use Rattle.float.proofs.SignedUnits.{units_signed, difference_units, abs_units}
use Rattle.float.proofs.Finite.{Finite, finite_of, count_representable}
use Rattle.float.proofs.AbsoluteValue.{abs_finite}
use Rattle.float.proofs.Comparison.{lt_units}
use Rattle.float.proofs.IntegerDifference.{difference_of, difference_sub, difference_add, difference_mul, difference_abs}
use Rattle.trigonometry.specs.Turns.{rem_euclid}
use Rattle.projection.specs.Bound.{LAT_BOUND}
use Rattle.projection.specs.Longitude.{normalize_longitude, eastern}
use Rattle.refusals.specs.declared.Refusal.TheVariants.{InverseResult, InverseBeyond}
use Rattle.projection.specs.Ends.{ensure_finite_lon_lat, finish}
use Rattle.projection.specs.OnTheMap.{WITHIN, FAR, Place, OnTheMap}
use Rattle.projection.specs.Answer.{Answer, pair}
use Rattle.projection.proofs.Pairs.{same_first, same_second}
use Rattle.std.specs.Prelude.{Ok, Err}
use Rattle.refusals.specs.declared.Refusal.{Refusal}
use Rattle.projection.proofs.Normalising.{Circle, turn_pos}
use Rattle.projection.proofs.Normalised.{Run, run, good, good_le, idempotent}
use Rattle.projection.proofs.NormalisingError.{close}

never : {A : Type 0} {r : Refusal} {lon lat : Float} → Err r ≡ pair lon lat → A
never h = let z : ◌≡◌ {A = ℕ} 0 1 = cc in absurd (omega arith)

-- ---- the constants, in units
P : ℕ
P = unit_count binary64 PI

H : ℕ
H = unit_count binary64 FRAC_PI_2

circle : Circle binary64 PI TURN +0 P H
unfolding P H of_bits fits negative unit_count
circle = record {
  pi_is = finite_of binary64 PI tt tt;
  turn_is = finite_of binary64 TURN tt tt;
  nought_is = finite_of binary64 +0 tt tt;
  half = refl;
  half_representable = count_representable binary64 FRAC_PI_2 tt;
  pi_pos = lit< tt;
  room = λ M r l. whole_sum_below 2045 P (lit< tt) r l (lit< tt);
}

-- 1024 and pi, a turn, and pi are small enough for the errors that are asked for
small_sum : (M : ℕ) → M ≤ FAR → M + P < 2 ^ (53 + 1032)
unfolding P unit_count of_bits
small_sum M h = lt_of_le_of_lt (grow M FAR P h) (lit< tt)
  where
    grow : (a b c : ℕ) → a ≤ b → a + c ≤ b + c
    grow a b c h = omega arith

small_turn : 2 * P < 2 ^ (53 + 1024)
unfolding P unit_count of_bits
small_turn = lit< tt

small_pi : P < 2 ^ (53 + 1023)
unfolding P unit_count of_bits
small_pi = lit< tt

near_of : {s : Bool} {M : ℕ} {x r : Float} → Finite binary64 x s M → Run binary64 P s M r → nat_abs (in_units x) ≤ FAR
    → (k : ℤ) × (nat_abs (in_units x +ℤ k *ℤ in_units TURN -ℤ in_units r) ≤ WITHIN)
near_of {s} {M} {x} h w b =
    let M_le : M ≤ FAR = rw (abs_units x, units_count h.units) at b in
    let c = close w WITHIN 1032 1024 1023 (turn_pos circle) (small_sum M M_le) small_turn small_pi (lit≤ tt) in
    let turns = difference_mul (2 * P) (difference_of c.u c.v) in
    rw (units_signed circle.turn_is.units) (
      sub_ℕ c.u c.v,
      difference_abs (difference_sub (difference_add (difference_units h.units) turns) (difference_units w.result.units))
          c.near.over c.near.under,
    )

lat_le : {s : Bool} {a : ℕ} {lat : Float} → Finite binary64 lat s a → LAT_BOUND ≺ abs lat ≡ false
    → unit_count binary64 lat ≤ unit_count binary64 LAT_BOUND
unfolding of_bits fits negative
lat_le {a = a} h e =
    let B = unit_count binary64 LAT_BOUND in
    let not_above : ltb B a ≡ false = sym (lt_units bound.units (abs_finite h).units) ∙ e in
    rw (units_count h.units) (nltb→le B a (rw not_above tt))
  where
    bound : Finite binary64 LAT_BOUND false (unit_count binary64 LAT_BOUND)
    bound = finite_of binary64 LAT_BOUND tt tt

place : {s t : Bool} {M a : ℕ} {raw lat : Float} → Finite binary64 raw s M → Finite binary64 lat t a → LAT_BOUND ≺ abs lat ≡ false
    → Place raw (normalize_longitude raw) lat
unfolding P normalize_longitude eastern rem_euclid
place {raw = raw} {lat} h l e =
    let w = run circle h in
    record {
      raw_finite = units_finite h.units;
      lon_finite = units_finite w.result.units;
      lat_finite = units_finite l.units;
      lon_bound = simp abs_units (rw (units_count w.result.units) (good_le (good circle w)));
      lat_bound = simp abs_units (lat_le l e);
      settled = idempotent circle h;
      near = near_of h w;
    }

-- for any f64 that a formula hands over, NaN and infinities too
on_the_map : (raw lat : Float) → T (fits binary64 raw) → T (fits binary64 lat) → OnTheMap (Ok (raw, lat)) (ensure_finite_lon_lat raw lat)
unfolding ensure_finite_lon_lat
on_the_map raw lat t u = record { answered = go (finite raw) (finite lat) (LAT_BOUND ≺ abs lat) refl refl refl }
  where
    go : (p q b : Bool) → p ≡ finite raw → q ≡ finite lat → b ≡ LAT_BOUND ≺ abs lat → (lon lat' : Float)
        → cond (p && q) (cond b (Err InverseBeyond) (pair (normalize_longitude raw) lat)) (Err InverseResult) ≡ pair lon lat'
        → (r : Float) × (pair raw lat ≡ pair r lat') × Place r lon lat'
    go true true false e f g lon lat' h =
        let same_lon : normalize_longitude raw ≡ lon = same_first h in
        let same_lat : lat ≡ lat' = same_second h in
        let v = place (finite_of binary64 raw t (subst T e tt)) (finite_of binary64 lat u (subst T f tt)) (sym g) in
        (raw, rw same_lat refl, rw (same_lon, same_lat) at v)
    go true true true e f g lon lat' h = never h
    go true false b e f g lon lat' h = never h
    go false q b e f g lon lat' h = never h

-- a refusal is no place
pub refused : (r : Refusal) → OnTheMap (Err r) (Err r)
refused r = record { answered = λ lon lat h. never h }

-- both numbers of a place are f64: `Float` has others too, with more digits or a larger exponent
abbrev pub Held : Answer → Type 0
Held (Ok (raw, lat)) = T (fits binary64 raw) × T (fits binary64 lat)
Held (Err r) = Unit

-- whatever a formula hands over, NaN and infinities too
pub finish_on_the_map : (formula : Answer) → Held formula → OnTheMap formula (finish formula)
unfolding finish
finish_on_the_map (Ok (raw, lat)) h = on_the_map raw lat h.0 h.1
finish_on_the_map (Err r) h = refused r
