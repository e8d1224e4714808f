-- The source lends its inverse arc all numbers from the eighth on, `&en[7..]`: of thirteen they are the six that our definition takes.
use mathlib.Core.Path.{◌≡◌, sym}
use mathlib.Core.List.{List}
use native.Mathlib.Omega.{arith}
use lib.ListN.{length, take, drop, length-drop}
use lib.Seq.{take_all}
use lib.Ieee.{Float}

pub rest_as_in_source : (en : List Float) → length en ≡ 13 → drop 7 en ≡ take 6 (drop 7 en)
rest_as_in_source en h = sym (take_all 6 (drop 7 en) (simp length-drop (omega arith)))
