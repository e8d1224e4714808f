-- Each part stands where it was put.
use borrow.Author.Rules.{rules}
use Rattle.packing.proofs.Places.{room_left, parts_put}
use Rattle.packing.proofs.pack.joined.Goals as goal

pub slice_bounds-all-end-3 : goal.slice_bounds-all-end-3
slice_bounds-all-end-3 c = let a = c.args in
    rw (c.copy_from_slice.ensures.after, c.copy_from_slice-2.ensures.after) (room_left a.own a.en a.area (search rules) (search rules))

pub returns : goal.returns
returns c = let a = c.args in
    rw (c.copy_from_slice.ensures.after, c.copy_from_slice-2.ensures.after, c.copy_from_slice-3.ensures.after) (parts_put a.own a.en a.area (search rules) (search rules))
