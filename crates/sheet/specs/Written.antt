-- What writing a text into a buffer means.
use Rattle.std.specs.Prelude.{ℕ, ◌+◌, ◌≤◌, ◌<◌, ◌≡◌, List, length}
use Rattle.std.proofs.lemmas.List.Edits.{sets}

-- the text t stands in l' from a place on, whole, every other byte is l's, and r is the place after the text
pub record Written (l : List ℕ) (at : ℕ) (t : List ℕ) (r : ℕ) (l' : List ℕ) : Type 0 where
  pub place : r ≡ at + length t
  pub within : r ≤ length l
  pub stored : l' ≡ sets l at t

-- a buffer with enough room takes the text at its start; a shorter one stays as it is, and r is the room that is always enough
pub record WrittenWithin (room : ℕ) (l t : List ℕ) (r : ℕ) (l' : List ℕ) : Type 0 where
  pub enough : room ≤ length l → Written l 0 t r l'
  pub short : length l < room → (r ≡ room) × (l' ≡ l)
