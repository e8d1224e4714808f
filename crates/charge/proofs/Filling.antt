-- A list of zeros that is filled with one value in its first part, and with another in the next.
use Rattle.std.proofs.Common.{◌≡◌, ℕ, zero, suc, ◌-◌, ◌≤◌, List, ◌++◌, length, take, drop, replicate, refl, ap, ◌∙◌, arith, length-append, length-take-le, take_at, drop_at}
use lib.ListN.{length-replicate}
use borrow.Rule.Slice.PartMut.{put_mid}

abbrev pub zeros : ℕ → List ℕ
zeros n = replicate n 0

drop_zeros : (i n : ℕ) → drop i (zeros n) ≡ zeros (n - i)
drop_zeros zero n = let e : n - 0 ≡ n = omega arith in rw e refl
drop_zeros (suc i) zero = let e : 0 - suc i ≡ 0 = omega arith in rw e refl
drop_zeros (suc i) (suc n) = let e : suc n - suc i ≡ n - i = omega arith in rw e (drop_zeros i n)

-- a part is as long as its ends say
length_part : (k n : ℕ) → k ≤ n → length (take k (zeros n)) ≡ k
length_part k n h = length-take-le k (zeros n) (rw (length-replicate {A = ℕ} n 0) h)

-- the first r of n zeros are a, and then those up to l are b
module _ (n r l a : ℕ) (f : List ℕ) (low : r ≤ l) (high : l ≤ n) (first : f ≡ replicate (length (take r (zeros n))) a) where
  first_run : f ≡ replicate r a
  first_run = first ∙ ap (λ (k : ℕ). replicate k a) (length_part r n (omega arith))

  long : length f ≡ r
  long = rw first_run (length-replicate r a)

  after : drop r (f ++ drop r (zeros n)) ≡ zeros (n - r)
  after = drop_at f (drop r (zeros n)) r long ∙ drop_zeros r n

  still : l ≤ length (f ++ drop r (zeros n))
  still = rw (length-append f (drop r (zeros n)), long, drop_zeros r n, length-replicate {A = ℕ} (n - r) 0) (omega arith)

  pub two_runs : (b : ℕ) (g : List ℕ) → g ≡ replicate (length (take (l - r) (drop r (f ++ drop r (zeros n))))) b
      → put_mid r (l - r) (f ++ drop r (zeros n)) g ≡ replicate r a ++ (replicate (l - r) b ++ zeros (n - l))
  two_runs b g second =
      let size : length (take (l - r) (drop r (f ++ drop r (zeros n)))) ≡ l - r = rw after (length_part (l - r) (n - r) (omega arith)) in
      let left : n - r - (l - r) ≡ n - l = omega arith in
      rw (take_at f (drop r (zeros n)) r long, after, drop_zeros (l - r) (n - r), left, second, size, first_run)
