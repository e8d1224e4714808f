-- The straight distance of two points on a map, by the differences of their coordinates.
use Rattle.std.specs.Prelude.{Float}
use Rattle.float.specs.Operators.{◌⊕◌, ◌⊗◌}
use Rattle.root.specs.Root.{root}

unfoldable pub distance : Float → Float → Float
unfolding root
distance dx dy = root (dx ⊗ dx ⊕ dy ⊗ dy)
