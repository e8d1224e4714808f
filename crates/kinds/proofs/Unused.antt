-- A setting that a kind does not use never affects its answer: settings that agree in what the kind uses have the same answers.
use mathlib.Core.Path.{◌≡◌, refl, ap}
use lib.Ieee.{Float}
use Rattle.ellipsoid.specs.Ellipsoid.{from_a_f}
use Rattle.std.specs.Prelude.{Result, Ok, Err}
use Rattle.refusals.specs.declared.Refusal.{Refusal}
use Rattle.ellipsoid.specs.declared.Ellipsoid.{Ellipsoid}
use Rattle.letters.specs.Uses.{used}
use Rattle.letters.specs.declared.Kind.{Kind}
use Rattle.letters.specs.declared.Way.{Way}
use Rattle.projection.specs.declared.Settings.{Settings}
use Rattle.kinds.specs.Kinds.{made, new, on_ellipsoid, build, answer, project}
use Rattle.kinds.specs.declared.Projection.{Projection}

pub unused : (way : Way) (kind : Kind) (a f : Float) (s t : Settings) (u v : Float) → used kind s ≡ used kind t
    → project way kind a f s u v ≡ project way kind a f t u v
unfolding project build new
unused way kind a f s t u v h = ap (λ (p : Projection). answer way p u v) (go (from_a_f a f))
  where
    go : (b : Result Ellipsoid Refusal) → on_ellipsoid kind s b ≡ on_ellipsoid kind t b
    go (Ok e) = ap (made kind e) h
    go (Err r) = refl
