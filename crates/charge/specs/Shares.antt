-- A charge divided among children: 60 shares in coins (document 02, Q-7).
use Rattle.std.specs.Prelude.{ℕ, ◌+◌, ◌-◌, ◌/◌, ◌%◌, List, ◌++◌, replicate}

-- the first (charge mod children) shares are one coin larger, and those past the last child are 0
unfoldable pub shares : ℕ → ℕ → List ℕ
shares charge children =
    let share = charge / children in
    let rest = charge % children in
    replicate rest (share + 1) ++ (replicate (children - rest) share ++ replicate (60 - children) 0)
