-- What a second inverse gives: 30 for the clicks that document 02 names and for no other, and elsewhere what the first gives; so all that it answers lies on the map.
use Prim.Native.Nat.{ℕ}
use mathlib.Core.Path.{◌≡◌, refl, sym, ap, ◌∙◌}
use mathlib.Core.Bool.{Bool, true, false}
use mathlib.Core.List.{List}
use mathlib.Core.Logic.{◌⊎◌, inl, inr}
use native.Mathlib.Omega.{arith}
use lib.Ieee.{Float}
use Rattle.std.specs.Prelude.{Some, None, Result, Ok, Err}
use Rattle.refusals.specs.declared.Refusal.{Refusal}
use Rattle.refusals.specs.declared.Refusal.TheVariants.{OffTheMap}
use Rattle.projection.specs.Answer.{Answer}
use Rattle.projection.specs.AreaOfUse.{ensure_inside}
use Rattle.projection.specs.Ends.{finish}
use Rattle.projection.specs.declared.Frame.TheVariants as frame
use Rattle.projection.proofs.OffTheMap.{off_if, inside_off, NeverOff, inside_never_off}
use Rattle.lambert_azimuthal_equal_area.specs.Inverse as laea
use Rattle.lambert_azimuthal_equal_area.proofs.OffTheMap as laea_proofs
use Rattle.equal_earth.specs.EqualEarth as eqearth
use Rattle.equal_earth.proofs.OffTheMap as eqearth_proofs
use Rattle.letters.specs.declared.Way.TheVariants.{Inverse}
use Rattle.kinds.specs.Kinds.{and_then, formula_of, inverse_of, inverse_in, inverse, second_of, has_second_inverse, inverse_on_map, answer_in}
use Rattle.kinds.specs.OnTheMap.{PointOnTheMapIn, SecondOnTheMap}
use Rattle.kinds.specs.OffTheMap.{off_map_of, off_map}
use Rattle.kinds.specs.declared.Built.{Built}
use Rattle.kinds.specs.declared.Built.TheVariants.{Lambert, Albers, Equal, Cassini, Polyconic, Guam}
use Rattle.kinds.specs.declared.Projection.{Projection}

one_answer : (a b : Answer) → Some a ≡ Some b → a ≡ b
one_answer a b e = cc

-- ---- demand 3 and the area of use

module _ (p : Projection) (x y : Float) where
  pub gives_on_the_map : (a : Answer) → PointOnTheMapIn frame.Refused Inverse p x y a → SecondOnTheMap p x y (Some a)
  gives_on_the_map a on = record { given = λ b e. rw (← one_answer a b e) on }

  pub missing_on_the_map : SecondOnTheMap p x y None
  missing_on_the_map = record { given = λ b e. let c : ◌≡◌ {A = ℕ} 0 1 = cc in absurd (omega arith) }

-- ---- what the code gives, by whether the kind has a second inverse

module _ (p : Projection) (x y : Float) {b : Bool} (e : b ≡ has_second_inverse p.built) where
  pub gives_second : {a : Answer} → b ≡ true → a ≡ inverse_in frame.Refused p x y → Some a ≡ inverse_on_map p x y
  unfolding inverse_on_map
  gives_second t f = rw (← e, t) (ap Some f)

  pub has_none : b ≡ false → None ≡ inverse_on_map p x y
  unfolding inverse_on_map
  has_none t = rw (← e, t)

-- ---- 30, or what the first gives

by_kind_is : (b : Built) (en : List Float) (x y : Float) → inverse_of frame.Refused b en x y ≡ off_if (off_map_of b x y) (inverse_of frame.Held b en x y)
unfolding inverse_of formula_of laea.inverse eqearth.inverse
by_kind_is (Lambert p) en x y = laea_proofs.inverse_is p x y
by_kind_is (Albers p) en x y = refl
by_kind_is (Equal p) en x y = eqearth_proofs.inverse_is p x y
by_kind_is (Cassini p) en x y = refl
by_kind_is (Polyconic p) en x y = refl
by_kind_is (Guam p) en x y = refl

-- of a kind that has a second inverse, the first never gives 30
by_kind_never_off : (b : Built) (en : List Float) (x y : Float) → second_of b ≡ true → NeverOff (inverse_of frame.Held b en x y)
unfolding inverse_of formula_of second_of finish laea.inverse eqearth.inverse
by_kind_never_off (Lambert p) en x y h = laea_proofs.first_never_off p x y
by_kind_never_off (Albers p) en x y h = let c : ◌≡◌ {A = ℕ} 0 1 = cc in absurd (omega arith)
by_kind_never_off (Equal p) en x y h = eqearth_proofs.first_never_off p x y
by_kind_never_off (Cassini p) en x y h = let c : ◌≡◌ {A = ℕ} 0 1 = cc in absurd (omega arith)
by_kind_never_off (Polyconic p) en x y h = let c : ◌≡◌ {A = ℕ} 0 1 = cc in absurd (omega arith)
by_kind_never_off (Guam p) en x y h = let c : ◌≡◌ {A = ℕ} 0 1 = cc in absurd (omega arith)

module _ (p : Projection) (x y : Float) where
  in_frame_is : inverse_in frame.Refused p x y ≡ off_if (off_map p.built x y) (inverse p x y)
  unfolding inverse_in
  in_frame_is = go p.built
    where
      go : (b : Result Built Refusal)
          → and_then b (λ k. ensure_inside p.area (inverse_of frame.Refused k p.en x y))
          ≡ off_if (off_map b x y) (and_then b (λ k. ensure_inside p.area (inverse_of frame.Held k p.en x y)))
      go (Ok b) = rw (by_kind_is b p.en x y) (inside_off p.area (off_map_of b x y) (inverse_of frame.Held b p.en x y))
      go (Err r) = refl

  pub second_is : has_second_inverse p.built ≡ true → inverse_on_map p x y ≡ Some (off_if (off_map p.built x y) (inverse p x y))
  unfolding inverse_on_map
  second_is h = rw (h, in_frame_is)

  pub second_missing : has_second_inverse p.built ≡ false → inverse_on_map p x y ≡ None
  unfolding inverse_on_map
  second_missing h = rw h

  -- what a column of it holds, place by place
  pub second_in_column : has_second_inverse p.built ≡ true → inverse_on_map p x y ≡ Some (answer_in frame.Refused Inverse p x y)
  unfolding inverse_on_map answer_in
  second_in_column h = rw h

  -- a kind that has none gives nothing
  gives : (a : Answer) → inverse_on_map p x y ≡ Some a → has_second_inverse p.built ≡ true
  gives a e = go (has_second_inverse p.built) refl
    where
      go : (b : Bool) → has_second_inverse p.built ≡ b → has_second_inverse p.built ≡ true
      go true h = h
      go false h = let m : None ≡ Some a = sym (second_missing h) ∙ e in let c : ◌≡◌ {A = ℕ} 0 1 = cc in absurd (omega arith)

  second_answer : (a : Answer) → inverse_on_map p x y ≡ Some a → a ≡ off_if (off_map p.built x y) (inverse p x y)
  second_answer a e = one_answer a _ (sym e ∙ second_is (gives a e))

  -- Where the second answers, or refuses otherwise than by 30, it is the first, bit for bit.
  pub elsewhere : (a : Answer) → inverse_on_map p x y ≡ Some a → NeverOff a → a ≡ inverse p x y
  elsewhere a e never = go (off_map p.built x y) (second_answer a e)
    where
      go : (b : Bool) → a ≡ off_if b (inverse p x y) → a ≡ inverse p x y
      go true h = absurd (never h)
      go false h = h

  -- Where it gives 30, the click is off the map; or it is the number by which the projection itself was refused.
  pub only_there : inverse_on_map p x y ≡ Some (Err OffTheMap) → (off_map p.built x y ≡ true) ⊎ (p.built ≡ Err OffTheMap)
  unfolding inverse_in has_second_inverse
  only_there e = go p.built refl (off_map p.built x y) refl (second_answer (Err OffTheMap) e)
    where
      go : (k : Result Built Refusal) → p.built ≡ k → (b : Bool) → b ≡ off_map p.built x y → Err OffTheMap ≡ off_if b (inverse p x y)
          → (off_map p.built x y ≡ true) ⊎ (p.built ≡ Err OffTheMap)
      go k s true o h = inl (sym o)
      go (Ok b) s false o h =
          let has : second_of b ≡ true = rw s at (gives (Err OffTheMap) e) in
          let never : NeverOff (inverse p x y) = rw s (inside_never_off p.area _ (by_kind_never_off b p.en x y has)) in
          absurd (never (sym h))
      go (Err r) s false o h = let f : ◌≡◌ {A = Answer} (Err OffTheMap) (Err r) = rw s at h in let same : OffTheMap ≡ r = cc in inr (rw (s, same))
