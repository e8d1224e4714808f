-- The whole metres, and one more where they are below the distance.
use Rattle.std.proofs.Common.{◌^◌, T, sym, subst, arith, le→leb}
use lib.Ieee.{in_float}
use Rattle.charge.proofs.WholePart.{Part, part}
use Rattle.charge.proofs.Started.{one_more, no_more}
use Rattle.charge.proofs.kilometres.started_metres.Goals as goal

pub truncating_f64_to_u64-whole-requires : goal.truncating_f64_to_u64-whole-requires
truncating_f64_to_u64-whole-requires c = let parted : Part c.args.d = part c.args.d (subst T (sym c.well_formed.0.1) tt) c.requires.0 c.requires.1 in
    record { lower_bound = parted.above; upper_bound = parted.below }

-- an f64 holds so few metres
pub int_to_float-metres : goal.int_to_float-metres
unfolding in_float
int_to_float-metres c = let parted : Part c.args.d = part c.args.d (subst T (sym c.well_formed.0.1) tt) c.requires.0 c.requires.1 in
    le→leb c.truncating_f64_to_u64-whole.result (2 ^ 53) (omega (arith, c.truncating_f64_to_u64-whole.ensures, parted.few))

pub overflow_add-result : goal.overflow_add-result
overflow_add-result c = let parted : Part c.args.d = part c.args.d (subst T (sym c.well_formed.0.1) tt) c.requires.0 c.requires.1 in
    record { fits = omega (arith, c.truncating_f64_to_u64-whole.ensures, parted.few) }

pub returns-then-metres-d : goal.returns-then-metres-d
returns-then-metres-d c = let parted : Part c.args.d = part c.args.d (subst T (sym c.well_formed.0.1) tt) c.requires.0 c.requires.1 in
    rw c.truncating_f64_to_u64-whole.ensures (one_more _ (parted) (rw c.truncating_f64_to_u64-whole.ensures at c.if-metres-d.true))

pub returns-else-metres-d : goal.returns-else-metres-d
returns-else-metres-d c = let parted : Part c.args.d = part c.args.d (subst T (sym c.well_formed.0.1) tt) c.requires.0 c.requires.1 in
    rw c.truncating_f64_to_u64-whole.ensures (no_more _ (parted) (rw c.truncating_f64_to_u64-whole.ensures at c.if-metres-d.false))
