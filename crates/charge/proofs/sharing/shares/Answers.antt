-- The larger shares first, then the others, and the zeros that stood after them.
use Rattle.std.proofs.Common.{◌≡◌, ℕ, ◌+◌, ◌-◌, ◌/◌, ◌%◌, ◌<◌, ◌≤◌, ◌++◌, replicate, refl, ◌∙◌, mod-lt, arith}
use Rattle.charge.specs.Shares.{shares}
use Rattle.charge.proofs.Filling.{zeros, two_runs}
use Rattle.charge.proofs.sharing.shares.Goals as goal

-- how many shares there are
abbrev last_of : ℕ → ℕ
last_of children = children

pub returns : goal.returns
unfolding shares
returns c = let larger : ℕ = c.args.charge % c.args.children in
    let last : ℕ = last_of c.args.children in
    let fewer : c.args.charge % c.args.children < c.args.children = mod-lt c.args.charge c.requires.0 in
    let larger_few : larger ≤ last = omega (arith, fewer, c.requires.0, c.requires.1) in
    let last_few : last ≤ 60 = omega (arith, c.requires.1) in
    let runs : (let s = c.args in replicate larger (s.charge / s.children + 1) ++ (replicate (last - larger) (s.charge / s.children) ++ zeros (60 - last)) ≡ shares s.charge s.children) = refl in
    two_runs 60 larger last _ _ larger_few last_few (c.fill.ensures.after (λ y is. is)) _ _ (c.fill-2.ensures.after (λ y is. is)) ∙ runs
