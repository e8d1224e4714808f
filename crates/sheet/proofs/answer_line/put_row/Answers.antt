-- Four texts, one after the other; what they take of the buffer is the row's length.
use native.Mathlib.Omega.{arith}
use lib.ListN.{length-set}
use Rattle.sheet.proofs.Stores.{row_long, row_stored, field_long}
use Rattle.sheet.proofs.answer_line.put_row.Goals as goal

pub put_decimal-after_number-requires : goal.put_decimal-after_number-requires
put_decimal-after_number-requires c = let a = c.args in omega (arith, row_long a.n a.p a.q)

pub put_bit_field-after_p-requires : goal.put_bit_field-after_p-requires
put_bit_field-after_p-requires c = let a = c.args in omega (arith, row_long a.n a.p a.q)

pub put_bit_field-after_q-requires : goal.put_bit_field-after_q-requires
put_bit_field-after_q-requires c = let a = c.args in omega (arith, row_long a.n a.p a.q, field_long a.p)

pub bounds-out-after_q : goal.bounds-out-after_q
bounds-out-after_q c = let a = c.args in omega (arith, row_long a.n a.p a.q, field_long a.p, field_long a.q)

pub overflow_add-result : goal.overflow_add-result
overflow_add-result c = let a = c.args in omega (arith, row_long a.n a.p a.q, field_long a.p, field_long a.q)

pub shape_of-out : goal.shape_of-out
shape_of-out c = simp length-set (omega arith)

pub returns : goal.returns
returns c =
    let a = c.args in
    row_stored _ _ _ _ _ _ _ _ _ _ _ c.put_decimal-after_number.ensures c.put_bit_field-after_p.ensures c.put_bit_field-after_q.ensures
    (omega (arith, row_long a.n a.p a.q, field_long a.p, field_long a.q))
