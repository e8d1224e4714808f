-- For every byte: try_from with Inverse, or G, for a letter that names none is way_of, and kind_of.
use Prim.Native.Nat.{ℕ}
use mathlib.Core.Path.{◌≡◌}
use Rattle.std.proofs.Common.{arith}
use Rattle.std.proofs.lemmas.Bool.Decides.{nat_tests}
use Rattle.std.specs.Result.{result_unwrap_or}
use Rattle.letters.specs.Ascii.{ascii}
use Rattle.letters.specs.Letters.{way_from, is_way, way_of, kind_from, is_kind, kind_of, one_of}
use Rattle.letters.specs.declared.Kind.TheVariants.{G}
use Rattle.letters.specs.declared.Way.TheVariants.{Inverse}

pub way_of-every_byte : (b : ℕ) → result_unwrap_or (way_from b) Inverse ≡ way_of b
unfolding way_from is_way way_of one_of ascii
way_of-every_byte b = grind (arith, nat_tests)

pub kind_of-every_byte : (b : ℕ) → result_unwrap_or (kind_from b) G ≡ kind_of b
unfolding kind_from is_kind kind_of one_of ascii
kind_of-every_byte b = grind (arith, nat_tests)
