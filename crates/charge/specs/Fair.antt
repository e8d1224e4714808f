-- What document 02 says of the shares, sentence by sentence. `fair` and `only` of proofs/FairShares: the shares are such a list, and no other is. `bill_fair` of proofs/Charged: so are those of every bill.
use Rattle.std.specs.Prelude.{◌≡◌, ℕ, ◌+◌, ◌<◌, ◌≤◌, List, [], ◌∷◌, length, slice_index}

abbrev pub total : List ℕ → ℕ
total [] = 0
total (x ∷ l) = x + total l

pub record Fair (charge children : ℕ) (l : List ℕ) : Type 0 where
  pub sixty : length l ≡ 60
  -- they add up to the charge
  pub adds_up : total l ≡ charge
  -- those of any two children differ by at most one coin
  pub alike : (i j : ℕ) → i < children → j < children → slice_index l i ≤ slice_index l j + 1
  -- the larger first
  pub never_rise : (i j : ℕ) → i ≤ j → slice_index l j ≤ slice_index l i
  -- past the last child they are 0
  pub past : (i : ℕ) → children ≤ i → slice_index l i ≡ 0
