-- Started metres by the whole metres, and started kilometres by the started metres.
use Rattle.std.proofs.Common.{◌≡◌, ℕ, ◌+◌, ◌*◌, ◌<◌, ◌≤◌, true, false, pos, sym, ◌∙◌, le_trans, lt_of_lt_of_le, lt_of_le_of_lt, le_of_lt, mul-le-mul_right, lt_of_mul-lt-mul_right, mul-lt-mul_of_pos_right, le_of_mul-le-mul_right, add-one, arith, pow_pos, ltb-false, ltb-true, le-leb, leb-true}
use borrow.Author.Tests.{lt-leb}
use lib.Ieee.{Float, binary64, of_int, to_unsigned}
use Rattle.float.specs.Operators.{◌≺◌}
use Rattle.float.specs.Units.{unit_count}
use Rattle.charge.specs.Least.{Least}
use Rattle.charge.specs.Kilometres.{reaches, kilometres}
use Rattle.charge.proofs.CountingUp.{least_is}
use Rattle.charge.proofs.WholePart.{metre, Part}

module _ (d : Float) where
  -- ---- metres

  -- the whole metres are below the distance
  pub one_more : Part d → (of_int binary64 (pos (to_unsigned 64 d)) ≺ d) ≡ true → Least (reaches d) (to_unsigned 64 d + 1) × (to_unsigned 64 d + 1 ≤ 1000000)
  unfolding reaches
  one_more p h =
      let n = to_unsigned 64 d in
      let below : n * metre < unit_count binary64 d = ltb-true _ _ (sym p.started ∙ h) in
      let few : n < 1000000 = lt_of_mul-lt-mul_right metre (lt_of_lt_of_le below p.most) in (
        record {
          passes = rw add-one (le-leb _ _ (le_of_lt p.next));
          first = λ j l. lt-leb _ _ (lt_of_le_of_lt (mul-le-mul_right metre (omega arith)) below);
        },
        omega arith,
      )

  -- they are the distance
  pub no_more : Part d → (of_int binary64 (pos (to_unsigned 64 d)) ≺ d) ≡ false → Least (reaches d) (to_unsigned 64 d) × (to_unsigned 64 d ≤ 1000000)
  unfolding reaches
  no_more p h =
      let n = to_unsigned 64 d in
      let above : unit_count binary64 d ≤ n * metre = ltb-false _ _ (sym p.started ∙ h) in (
        record {
          passes = le-leb _ _ above;
          first = λ j l. lt-leb _ _ (lt_of_lt_of_le (mul-lt-mul_of_pos_right l (pow_pos 1074)) p.whole);
        },
        le_of_mul-le-mul_right (le_trans p.whole p.most) (pow_pos 1074),
      )

  -- ---- kilometres

  -- enough kilometres for the started metres, and not one too many
  pub kilometres_are : {r k : ℕ} → Least (reaches d) r → r ≤ 1000000 → r ≤ 1000 * k → 1000 * k < r + 1000 → (k ≡ kilometres d) × (k ≤ 1000)
  unfolding reaches kilometres
  kilometres_are {r} {k} m few enough spare =
      let is : Least (λ k. reaches d (1000 * k)) k = record {
        passes = le-leb _ _ (le_trans (leb-true _ _ m.passes) (mul-le-mul_right metre enough));
        first = λ j l. m.first (1000 * j) (omega arith);
      } in
      let most : k ≤ 1000 = omega arith in
      (least_is _ 1000 is most, most)
