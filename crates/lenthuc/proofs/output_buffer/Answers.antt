-- As many zeros as its type says: a lemma over any number, since this one is too large to count out.
use Rattle.std.proofs.Common.{◌≡◌, ℕ, length, sym}
use Rattle.std.proofs.Math.ListN.{replicate}
use Rattle.std.proofs.lemmas.List.{length-replicate}
use Rattle.lenthuc.proofs.output_buffer.Goals as goal

filled : (n a : ℕ) → n ≡ length (replicate n a)
filled n a = sym (length-replicate n a)

pub returns : goal.returns
returns c = filled _ 0
