-- Number 30, which a second inverse gives before 23, 24 and 26: it passes through what follows the formula, and nothing else gives it.
use Prim.Native.Nat.{ℕ, zero, suc}
use mathlib.Core.Path.{◌≡◌, refl}
use mathlib.Core.Bool.{Bool, true, false, cond, ◌&&◌}
use native.Mathlib.Omega.{arith}
use lib.Ieee.{Float}
use lib.Ieee.Scale.{finite}
use Rattle.float.specs.Operators.{◌⊖◌, ◌≺◌}
use Rattle.float.specs.Sign.{abs}
use Rattle.std.specs.Prelude.{Option, Some, None, Ok, Err}
use Rattle.std.specs.Result.{result_and}
use Rattle.refusals.specs.Refusals.{other_number}
use Rattle.refusals.specs.declared.Refusal.{Refusal}
use Rattle.refusals.specs.declared.Refusal.TheVariants.{InverseInput, InverseResult, InverseBeyond, StepsUsedUp, OffTheMap, OutsideArea}
use Rattle.projection.specs.Answer.{Answer}
use Rattle.projection.specs.Bound.{LAT_BOUND}
use Rattle.projection.specs.Checks.{passed, validate_projected}
use Rattle.projection.specs.Longitude.{normalize_longitude}
use Rattle.projection.specs.Ends.{ensure_finite_lon_lat, finish}
use Rattle.projection.specs.AreaOfUse.{holds, validate_normalised, ensure_inside}
use Rattle.projection.specs.Iteration.{after_step, iterate, compared, converge}
use Rattle.projection.specs.declared.Area.{Area}
use Rattle.projection.specs.declared.Step.TheVariants.{More, Done}

-- 30 if b, else the answer
abbrev pub off_if : Bool → Answer → Answer
off_if b answer = cond b (Err OffTheMap) answer

-- ---- it stands before what follows the formula, and after 20

pub guard_off : (x y : Float) (b : Bool) (a : Answer)
    → result_and (validate_projected x y) (off_if b a) ≡ off_if ((finite x && finite y) && b) (result_and (validate_projected x y) a)
unfolding validate_projected
guard_off x y b a = go (finite x && finite y) b
  where
    go : (f b : Bool) → result_and (cond f passed (Err InverseInput)) (off_if b a) ≡ off_if (f && b) (result_and (cond f passed (Err InverseInput)) a)
    go true b = refl
    go false b = refl

pub finish_off : (b : Bool) (a : Answer) → finish (off_if b a) ≡ off_if b (finish a)
unfolding finish
finish_off true a = refl
finish_off false a = refl

pub inside_off : (area : Option Area) (b : Bool) (a : Answer) → ensure_inside area (off_if b a) ≡ off_if b (ensure_inside area a)
unfolding ensure_inside
inside_off area true a = refl
inside_off area false a = refl

-- ---- nothing else gives it

abbrev pub NeverOff : Answer → Type 0
NeverOff answer = answer ≡ Err OffTheMap → ⊥

pub pair_never_off : (p q : Float) → NeverOff (Ok (p, q))
pair_never_off p q e = let c : ◌≡◌ {A = ℕ} 0 1 = cc in omega arith

pub refused_never_off : (r : Refusal) → (r ≡ OffTheMap → ⊥) → NeverOff (Err r)
refused_never_off r h e = let c : r ≡ OffTheMap = cc in h c

pub cond_never_off : (b : Bool) {x y : Answer} → NeverOff x → NeverOff y → NeverOff (cond b x y)
cond_never_off true h k = h
cond_never_off false h k = k

pub guard_never_off : (x y : Float) (a : Answer) → NeverOff a → NeverOff (result_and (validate_projected x y) a)
unfolding validate_projected
guard_never_off x y a h = go (finite x && finite y)
  where
    go : (f : Bool) → NeverOff (result_and (cond f passed (Err InverseInput)) a)
    go true = h
    go false = refused_never_off InverseInput (other_number _ _ (λ e. omega (arith, e)))

pub finish_never_off : (a : Answer) → NeverOff a → NeverOff (finish a)
unfolding finish ensure_finite_lon_lat
finish_never_off (Ok (lon, lat)) h =
    cond_never_off (finite lon && finite lat)
    (cond_never_off (LAT_BOUND ≺ abs lat) (refused_never_off InverseBeyond (other_number _ _ (λ e. omega (arith, e)))) (pair_never_off (normalize_longitude lon) lat))
    (refused_never_off InverseResult (other_number _ _ (λ e. omega (arith, e))))
finish_never_off (Err r) h = h

inside_area : (area : Area) (lon lat : Float) → NeverOff (result_and (validate_normalised (Some area) lon lat) (Ok (lon, lat)))
unfolding validate_normalised
inside_area area lon lat = go (holds area lon lat)
  where
    go : (b : Bool) → NeverOff (result_and (cond b passed (Err OutsideArea)) (Ok (lon, lat)))
    go true = pair_never_off lon lat
    go false = refused_never_off OutsideArea (other_number _ _ (λ e. omega (arith, e)))

pub inside_never_off : (area : Option Area) (a : Answer) → NeverOff a → NeverOff (ensure_inside area a)
unfolding ensure_inside validate_normalised
inside_never_off None (Ok (lon, lat)) h = h
inside_never_off (Some area) (Ok (lon, lat)) h = inside_area area lon lat
inside_never_off area (Err r) h = h

-- rounds that compare refuse by 22 alone
module _ (rule : Float → Float) (tolerance : Float) where
  after_used_up : (n : ℕ) (r : Refusal) (b : Bool) (v : Float)
      → after_step (λ value. Ok (compared value tolerance (rule value))) n (Ok (cond b (Done v) (More v))) ≡ Err r → r ≡ StepsUsedUp
  unfolding after_step compared
  after_used_up zero r true v e = let c : ◌≡◌ {A = ℕ} 0 1 = cc in absurd (omega arith)
  after_used_up zero r false v e = cc
  after_used_up (suc n) r true v e = let c : ◌≡◌ {A = ℕ} 0 1 = cc in absurd (omega arith)
  after_used_up (suc n) r false v e = after_used_up n r (abs (rule v ⊖ v) ≺ tolerance) (rule v) e

  pub used_up : (initial : Float) (steps : ℕ) (r : Refusal) → converge rule initial steps tolerance ≡ Err r → r ≡ StepsUsedUp
  unfolding converge iterate
  used_up initial steps r e = after_used_up steps r false initial e
