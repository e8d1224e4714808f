-- A NaN goes through every operation, on either side, and no comparison with it holds.
use mathlib.Core.Path.{◌≡◌, refl}
use mathlib.Core.Bool.{false}
use lib.Ieee.{Float, nan, inf, fin, Format, neg, add, sub, mul, div, lt, le, eq}

module _ (f : Format) where
  pub nan_add : (y : Float) → add f nan y ≡ nan
  unfolding add
  nan_add y = refl

  pub nan_sub : (y : Float) → sub f nan y ≡ nan
  unfolding sub
  nan_sub y = nan_add (neg y)

  pub nan_mul : (y : Float) → mul f nan y ≡ nan
  unfolding mul
  nan_mul y = refl

  pub nan_div : (y : Float) → div f nan y ≡ nan
  unfolding div
  nan_div y = refl

  pub add_nan : (x : Float) → add f x nan ≡ nan
  unfolding add
  add_nan nan = refl
  add_nan (inf s) = refl
  add_nan (fin s m e) = refl

  pub sub_nan : (x : Float) → sub f x nan ≡ nan
  unfolding sub neg
  sub_nan x = add_nan x

  pub mul_nan : (x : Float) → mul f x nan ≡ nan
  unfolding mul
  mul_nan nan = refl
  mul_nan (inf s) = refl
  mul_nan (fin s m e) = refl

pub nan_at_most : (x : Float) → le nan x ≡ false
unfolding lt le eq
nan_at_most x = refl

pub at_most_nan : (x : Float) → le x nan ≡ false
unfolding lt le eq
at_most_nan nan = refl
at_most_nan (inf s) = refl
at_most_nan (fin s m e) = refl

pub nan_below : (x : Float) → lt nan x ≡ false
unfolding lt
nan_below x = refl

pub below_nan : (x : Float) → lt x nan ≡ false
unfolding lt
below_nan nan = refl
below_nan (inf s) = refl
below_nan (fin s m e) = refl
