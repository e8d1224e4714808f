-- A comma, and sixteen digits after it.
use native.Mathlib.Omega.{arith}
use lib.ListN.{length-set}
use Rattle.sheet.proofs.Stores.{field_stored}
use Rattle.sheet.proofs.answer_line.put_bit_field.Goals as goal

pub put_hex-requires : goal.put_hex-requires
put_hex-requires c = simp length-set (omega arith)

pub shape_of-out : goal.shape_of-out
shape_of-out c = simp length-set at c.put_hex.auto.out

pub returns : goal.returns
returns c = field_stored _ _ _ _ _ (omega arith) c.bits_of.ensures c.put_hex.ensures
