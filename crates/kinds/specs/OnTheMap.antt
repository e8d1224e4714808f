-- Demand 3 of a point either way: whatever an inverse answers lies on the map, and inside the area of use. Of a forward's answer nothing is said.
use Rattle.std.specs.Prelude.{◌≡◌, Float, Option, Some}
use Rattle.projection.specs.OnTheMap.{OnTheMap}
use Rattle.projection.specs.InArea.{InArea}
use Rattle.projection.specs.Answer.{Answer}
use Rattle.projection.specs.declared.Frame.{Frame}
use Rattle.projection.specs.declared.Frame.TheVariants as frame
use Rattle.letters.specs.declared.Way.{Way}
use Rattle.letters.specs.declared.Way.TheVariants.{Forward, Inverse}
use Rattle.kinds.specs.Kinds.{formula_in}
use Rattle.kinds.specs.declared.Projection.{Projection}

abbrev pub PointOnTheMapIn : Frame → Way → Projection → Float → Float → Answer → Type 0
PointOnTheMapIn frame Forward p u v answer = Unit
PointOnTheMapIn frame Inverse p u v answer = OnTheMap (formula_in frame p u v) answer × InArea p.area answer

abbrev pub PointOnTheMap : Way → Projection → Float → Float → Answer → Type 0
PointOnTheMap = PointOnTheMapIn frame.Held

-- the same of what a second inverse gives
pub record SecondOnTheMap (p : Projection) (x y : Float) (second : Option Answer) : Type 0 where
  pub given : (answer : Answer) → second ≡ Some answer → PointOnTheMapIn frame.Refused Inverse p x y answer
