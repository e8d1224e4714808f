-- How far normalising moves a number, whole turns aside: the three roundings err by half a unit each.
use mathlib.Core.Path.{◌≡◌, refl}
use mathlib.Core.Bool.{Bool, true, false, cond}
use Prim.Native.Nat.{ℕ, suc, ◌+◌, ◌-◌, ◌*◌, ◌/◌, ◌%◌, ◌^◌, ◌≤◌, ◌<◌}
use native.Mathlib.Nat.{div-add-mod', mod-lt}
use native.Mathlib.Omega.{arith}
use lib.Ieee.{Format, Float, prec}
use Rattle.float.proofs.Near.{Near}
use Rattle.float.proofs.Rounded.{rounded_whole}
use Rattle.float.proofs.HalfUnit.{whole_half_unit}
use Rattle.projection.proofs.Normalising.{Lon, east, mid, west, Wrap, stay, turned, none, Shift, lower, upper, Final, kept, swap}
use Rattle.projection.proofs.Normalised.{Run}

abbrev pub plus : Bool → ℕ → ℕ
plus s a = cond s 0 a

abbrev pub minus : Bool → ℕ → ℕ
minus s a = cond s a 0

on : (s : Bool) (a : ℕ) → s ≡ true → (plus s a ≡ 0) × (minus s a ≡ a)
on s a e = rw e (refl, refl)

off : (s : Bool) (a : ℕ) → s ≡ false → (plus s a ≡ a) × (minus s a ≡ 0)
off s a e = rw e (refl, refl)

-- twice the distance of a - b and c - d is at most e
abbrev Apart : ℕ → ℕ → ℕ → ℕ → ℕ → Type 0
Apart a b c d e = Near (2 * (a + d)) (2 * (c + b)) e

-- s M plus u - v turns is within E of ρ R
pub record Close (T E : ℕ) (s : Bool) (M : ℕ) (ρ : Bool) (R : ℕ) : Type 0 where
  pub u : ℕ
  pub v : ℕ
  pub near : Near (plus s M + u * T + minus ρ R) (minus s M + v * T + plus ρ R) E

module _ (p P : ℕ) where
  step1 : (k : ℕ) {s : Bool} {M : ℕ} {σ : Bool} {A : ℕ} → M + P < 2 ^ (p + k) → Lon p P s M σ A
      → Apart (plus σ A) (minus σ A) (plus s M + P) (minus s M) (2 ^ k)
  step1 k {s} {M} {σ} {A} l (east d g h) = go (plus s M) (minus s M) (plus σ A) (minus σ A) (2 ^ k) (rounded_whole p (M + P)) (off s M d)
      (off σ A g) h (whole_half_unit p k l)
    where
      go : (a b c d e r : ℕ) → (a ≡ M) × (b ≡ 0) → (c ≡ A) × (d ≡ 0) → A ≡ r → Near (2 * r) (2 * (M + P)) e → Apart c d (a + P) b e
      go a b c d e r u v h w = omega arith
  step1 k {s} {M} {σ} {A} l (mid d g m h) =
      let small : P - M < 2 ^ (p + k) = omega arith in
      go (plus s M) (minus s M) (plus σ A) (minus σ A) (2 ^ k) (rounded_whole p (P - M)) (on s M d)
      (off σ A g) h (whole_half_unit p k small)
    where
      go : (a b c d e r : ℕ) → (a ≡ 0) × (b ≡ M) → (c ≡ A) × (d ≡ 0) → A ≡ r → Near (2 * r) (2 * (P - M)) e → Apart c d (a + P) b e
      go a b c d e r u v h w = omega (arith, m)
  step1 k {s} {M} {σ} {A} l (west d g m h) =
      let small : M - P < 2 ^ (p + k) = omega arith in
      go (plus s M) (minus s M) (plus σ A) (minus σ A) (2 ^ k) (rounded_whole p (M - P)) (on s M d)
      (on σ A g) h (whole_half_unit p k small)
    where
      go : (a b c d e r : ℕ) → (a ≡ 0) × (b ≡ M) → (c ≡ 0) × (d ≡ A) → A ≡ r → Near (2 * r) (2 * (M - P)) e → Apart c d (a + P) b e
      go a b c d e r u v h w = omega (arith, m)

  step2 : (k : ℕ) {σ : Bool} {A z : ℕ} → 0 < 2 * P → 2 * P < 2 ^ (p + k) → Wrap p P σ A z
      → (u : ℕ) × (v : ℕ) × Apart z 0 (plus σ A + u * (2 * P)) (minus σ A + v * (2 * P)) (2 ^ k)
  step2 k {σ} {A} {z} t l (stay d h) = (
    0,
    A / (2 * P),
    go (plus σ A) (minus σ A) (A / (2 * P) * (2 * P)) (A % (2 * P)) (2 * P) (2 ^ k) (off σ A d) h (div-add-mod' A (2 * P)),
  )
    where
      go : (a b qt r t e : ℕ) → (a ≡ A) × (b ≡ 0) → z ≡ r → qt + r ≡ A → Apart z 0 (a + 0 * t) (b + qt) e
      go a b qt r t e u h d = omega arith
  step2 k {σ} {A} {z} t l (turned d m h) =
      let small : 2 * P - A % (2 * P) < 2 ^ (p + k) = omega arith in (
        suc (A / (2 * P)),
        0,
        go (plus σ A) (minus σ A) (A / (2 * P)) (A % (2 * P)) (2 * P) (2 ^ k) (rounded_whole p (2 * P - A % (2 * P)))
            (on σ A d) h (div-add-mod' A (2 * P)) (mod-lt A t) (whole_half_unit p k small),
      )
    where
      go : (a b q r t e y : ℕ) → (a ≡ 0) × (b ≡ A) → z ≡ y → q * t + r ≡ A → r < t → Near (2 * y) (2 * (t - r)) e
          → Apart z 0 (a + suc q * t) (b + 0 * t) e
      go a b q r t e y u h d m w = omega arith
  step2 k {σ} {A} {z} t l (none d m h) = (
    A / (2 * P),
    0,
    go (plus σ A) (minus σ A) (A / (2 * P) * (2 * P)) (A % (2 * P)) (2 * P) (2 ^ k) (on σ A d) h m (div-add-mod' A (2 * P)),
  )
    where
      go : (a b qt r t e : ℕ) → (a ≡ 0) × (b ≡ A) → z ≡ 0 → r ≡ 0 → qt + r ≡ A → Apart z 0 (a + qt) (b + 0 * t) e
      go a b qt r t e u h m d = omega arith

  step3 : (k : ℕ) {z : ℕ} {ν : Bool} {N : ℕ} → P < 2 ^ (p + k) → z ≤ 2 * P → Shift p P z ν N → Apart (plus ν N) (minus ν N) z P (2 ^ k)
  step3 k {z} {ν} {N} l m (lower d g h) =
      let small : P - z < 2 ^ (p + k) = omega arith in
      go (plus ν N) (minus ν N) (2 ^ k) (rounded_whole p (P - z)) (on ν N d) h (whole_half_unit p k small)
    where
      go : (a b e r : ℕ) → (a ≡ 0) × (b ≡ N) → N ≡ r → Near (2 * r) (2 * (P - z)) e → Apart a b z P e
      go a b e r u h w = omega (arith, g)
  step3 k {z} {ν} {N} l m (upper d g h) =
      let small : z - P < 2 ^ (p + k) = omega arith in
      go (plus ν N) (minus ν N) (2 ^ k) (rounded_whole p (z - P)) (off ν N d) h (whole_half_unit p k small)
    where
      go : (a b e r : ℕ) → (a ≡ N) × (b ≡ 0) → N ≡ r → Near (2 * r) (2 * (z - P)) e → Apart a b z P e
      go a b e r u h w = omega (arith, g)

  step4 : {s : Bool} {M : ℕ} {ν : Bool} {N : ℕ} {ρ : Bool} {R : ℕ} → Final P s M ν N ρ R
      → (j : ℕ) × Apart (plus ρ R) (minus ρ R) (plus ν N + j * (2 * P)) (minus ν N) 0
  step4 {ν = ν} {N} {ρ} {R} (kept a b c) = (0, rw (a, b) (go (plus ν N) (minus ν N)))
    where
      go : (a b : ℕ) → Apart a b (a + 0 * (2 * P)) b 0
      go a b = omega arith
  step4 {ν = ν} {N} {ρ} {R} (swap a b c d e) = (1, go (plus ρ R) (minus ρ R) (plus ν N) (minus ν N) (off ρ R a) (on ν N c))
    where
      go : (a b c d : ℕ) → (a ≡ R) × (b ≡ 0) → (c ≡ 0) × (d ≡ N) → Apart a b (c + 1 * (2 * P)) d 0
      go w x y z u v = omega (arith, b, d)

-- all of it: the three errors are at most a half of 2 ^ k₁, 2 ^ k₂ and 2 ^ k₃
total : (s+ s- a+ a- z n+ n- r+ r- u v j P e₁ e₂ e₃ E : ℕ) → Apart a+ a- (s+ + P) s- e₁
    → Apart z 0 (a+ + u * (2 * P)) (a- + v * (2 * P)) e₂ → Apart n+ n- z P e₃ → Apart r+ r- (n+ + j * (2 * P)) n- 0
    → e₁ + e₂ + e₃ ≤ 2 * E → Near (s+ + (u + j) * (2 * P) + r-) (s- + v * (2 * P) + r+) E
total s+ s- a+ a- z n+ n- r+ r- u v j P e₁ e₂ e₃ E w x y t h = omega arith

pub close : {f : Format} {P : ℕ} {s : Bool} {M : ℕ} {r : Float} (w : Run f P s M r) (E k₁ k₂ k₃ : ℕ) → 0 < 2 * P
    → M + P < 2 ^ (prec f + k₁) → 2 * P < 2 ^ (prec f + k₂) → P < 2 ^ (prec f + k₃) → 2 ^ k₁ + 2 ^ k₂ + 2 ^ k₃ ≤ 2 * E
    → Close (2 * P) E s M w.ρ w.R
close {f} {P} {s} {M} w E k₁ k₂ k₃ t l₁ l₂ l₃ h =
    let a₁ = step1 (prec f) P k₁ l₁ w.lon in
    let a₂ = step2 (prec f) P k₂ t l₂ w.wrap in
    let a₃ = step3 (prec f) P k₃ l₃ w.z_le w.shift in
    let a₄ = step4 (prec f) P w.final in
    record {
      u = a₂.0 + a₄.0;
      v = a₂.1;
      near = total (plus s M) (minus s M) (plus w.σ w.A) (minus w.σ w.A) w.z
          (plus w.ν w.N) (minus w.ν w.N) (plus w.ρ w.R) (minus w.ρ w.R)
          a₂.0 a₂.1 a₄.0 P (2 ^ k₁) (2 ^ k₂) (2 ^ k₃) E a₁ a₂.2 a₃ a₄.1 h;
    }
