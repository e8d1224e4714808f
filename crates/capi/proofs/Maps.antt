-- A column's places on the map, as a loop from its first place on shows them.
use Prim.Native.Nat.{ℕ, ◌+◌, ◌<◌, ◌≤◌}
use mathlib.Core.Path.{◌≡◌}
use mathlib.Core.List.{List}
use native.Mathlib.Numerals.{add-one}
use lib.ListN.{length, get_or, drop, drop_of_length-le}
use lib.Seq.{drop-cons}
use lib.Ieee.{Float}
use Rattle.projection.specs.Answer.{Answer}
use Rattle.projection.specs.declared.Frame.{Frame}
use Rattle.letters.specs.declared.Way.{Way}
use Rattle.kinds.specs.Kinds.{answer_in}
use Rattle.kinds.specs.OnTheMap.{PointOnTheMapIn}
use Rattle.kinds.specs.declared.Projection.{Projection}
use Rattle.capi.specs.OnTheMap.{ColumnOnTheMap}

-- if the places from i on are on the map, all are
abbrev pub Mapping : Frame → Way → Projection → List Float → List Float → ℕ → Type 0
Mapping frame way p us vs i = ColumnOnTheMap frame way p (drop i us) (drop i vs) → ColumnOnTheMap frame way p us vs

module _ (frame : Frame) (way : Way) (p : Projection) (us vs : List Float) (i : ℕ) (m : Mapping frame way p us vs i) where
  pub maps_on : (d : Float) → i < length us → i < length vs → (a : Answer) → a ≡ answer_in frame way p (get_or us i d) (get_or vs i d)
      → PointOnTheMapIn frame way p (get_or us i d) (get_or vs i d) a → Mapping frame way p us vs (i + 1)
  unfolding ColumnOnTheMap
  maps_on d h k a e on rest = m (rw (drop-cons us i d h, drop-cons vs i d k) (rw e at on, rw add-one at rest))

  pub maps_all : length us ≤ i → ColumnOnTheMap frame way p us vs
  unfolding ColumnOnTheMap
  maps_all h = m (rw (drop_of_length-le us h) tt)
