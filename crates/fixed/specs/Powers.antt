-- `powf(1.5)` (document 01, Fixed functions).
use Rattle.std.specs.Prelude.{Float}
use Rattle.float.specs.Operators.{◌⊗◌}
use Rattle.root.specs.Root.{root}

unfoldable pub powf_3_2 : Float → Float
powf_3_2 d = d ⊗ root d
