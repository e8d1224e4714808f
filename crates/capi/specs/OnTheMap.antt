-- Demand 3 of what is handed out: whatever a place of an inverse column answers lies on the map, and inside the area of use.
use Rattle.std.specs.Prelude.{List, [], ◌∷◌, Float}
use Rattle.kinds.specs.Kinds as kinds
use Rattle.kinds.specs.OnTheMap.{PointOnTheMapIn}
use Rattle.kinds.specs.declared.Projection.{Projection}
use Rattle.letters.specs.declared.Way.{Way}
use Rattle.projection.specs.declared.Frame.{Frame}

-- place by place
unfoldable pub ColumnOnTheMap : Frame → Way → Projection → List Float → List Float → Type 0
ColumnOnTheMap frame way p [] vs = Unit
ColumnOnTheMap frame way p (u ∷ us) [] = Unit
ColumnOnTheMap frame way p (u ∷ us) (v ∷ vs) = PointOnTheMapIn frame way p u v (kinds.answer_in frame way p u v) × ColumnOnTheMap frame way p us vs
