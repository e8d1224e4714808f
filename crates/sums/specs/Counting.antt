-- Tests, counted.
use Rattle.std.specs.Prelude.{Bool, cond, ℕ}

-- 1 where b holds, else 0
abbrev pub bit : Bool → ℕ
bit b = cond b 1 0
